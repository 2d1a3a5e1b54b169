-- A file's first header, read or not.
use Rattle.std.proofs.Common.{◌≡◌, ◌⊎◌, ◌<◌, ℕ, true, false, IsTrue, List, length, Some, inl, inr, sym, ap, subst, ◌∙◌, arith}
use Rattle.std.specs.List.{slice_get}
use Rattle.std.proofs.lemmas.Bool.{both_ways}
use Rattle.f11_dev.specs.Disk.{Disk, with_transfer}
use Rattle.f11_dev.specs.Image.{Image}
use Rattle.f11_dev.proofs.LookedLemmas.{looked_read}
use Rattle.f11_header.specs.Fields.{map_area}
use Rattle.f11_header.specs.MapFields.{segment}
use Rattle.f11_header.specs.Header.{IsHeader, IsDead}
use Rattle.f11_map.specs.HeaderBlock.{segment_number}
use Rattle.f11_index.specs.IndexFile.{Index, is_in_use, header_lbn}
use Rattle.f11_index.specs.Table.{Table, table_in, table_of}
use Rattle.f11_index.proofs.InUseLemmas.{header-within, in_use-some, in_use-slot}
use Rattle.f11_chain.specs.Calls.{table}
use Rattle.f11_chain.proofs.StepLemmas.{table-in_use, table-header}
use Rattle.f11_store.specs.declared.files.FileId.{FileId}
use Rattle.f11_volume.specs.Volume.{volume_of}
use Rattle.f11_files.specs.Finding.First.{IsFirstHeaderOf, IsFileOf, FindsFile}
use Rattle.f11_files.specs.Structure.{index_in, home_of, IsStructureFor}
use Rattle.f11_files.specs.declared.structure.Structure.{Structure}

-- the headers of the disk are those of its volume
pub table-of : (s : Structure) (disk : Disk) → IsStructureFor s disk → IsTrue disk.honest
    → table (index_in s) disk ≡ table_of disk.image (home_of s)
table-of s disk for honest = ap (table_in disk.image) (for.keeps honest).index_is

-- the place of a header in use is on the device, and on one that is as large
pub place-within : (s : Structure) (n place : ℕ) (old : Disk) (now : Image) → IsStructureFor s old → is_in_use (index_in s) n ≡ true
    → length now ≡ length old.image → place ≡ header_lbn (index_in s) n
    → place < length now
place-within s n place old now for used size at =
    let within = header-within (index_in s) n (length old.image) for.lies.index (in_use-some (index_in s) n used)
    (in_use-slot (index_in s) n used) in
    omega (arith, within, size, at)

-- each header in use is dead or valid
pub dead-or-valid : (s : Structure) (disk : Disk) (n : ℕ) → IsStructureFor s disk → IsTrue disk.honest → is_in_use (index_in s) n ≡ true
    → IsDead ((table (index_in s) disk).header n) ⊎ IsHeader ((table (index_in s) disk).header n) n
unfolding volume_of
dead-or-valid s disk n for honest in_use =
    let same : table (index_in s) disk ≡ table_of disk.image (home_of s) = table-of s disk for honest in
    subst (λ (t : Table). IsDead (t.header n) ⊎ IsHeader (t.header n) n) (sym same)
    ((for.sound honest).sound.headers n (ap (λ (t : Table). t.in_use n) (sym same) ∙ table-in_use (index_in s) disk n ∙ in_use))

-- no header of it is live
pub unused-none : (index : Index) (f : FileId) (disk : Disk) → is_in_use index f.number ≡ false → ¬ IsFileOf f index disk
unused-none index f disk none is = both_ways (is_in_use index f.number) none (sym (table-in_use index disk f.number) ∙ is.file.live.in_use)

module _ (index : Index) (f : FileId) (lbn : ℕ) (block : List ℕ) (old new : Disk) (in_use : is_in_use index f.number ≡ true)
    (at : lbn ≡ header_lbn index f.number)
    (counts : new ≡ with_transfer true old) (gives : IsTrue old.honest → slice_get old.image lbn ≡ Some block) where
  -- the header that was read
  pub read-is : IsTrue old.honest → block ≡ (table index old).header f.number
  read-is honest = table-header index old f.number lbn block at (gives honest)

  pub FindsFile-read : IsFirstHeaderOf f block → FindsFile index f block old new
  FindsFile-read is = record {
    holds = record { header = record { in_use = in_use; valid = is.valid; block_is = read-is }; is_first = is };
    looked = looked_read old new counts;
  }

  -- it is no such file's
  pub none-read : ¬ IsFirstHeaderOf f block → IsTrue old.honest → ¬ IsFileOf f index old
  none-read other honest is =
      other (subst (IsFirstHeaderOf f) (sym (read-is honest)) record {
        valid = is.file.live.valid;
        first = is.file.first;
        sequence = is.sequence;
      })

-- it was neither dead nor valid
pub never-bad : (s : Structure) (f : FileId) (lbn : ℕ) (block : List ℕ) (old new : Disk) → IsStructureFor s old
    → is_in_use (index_in s) f.number ≡ true → lbn ≡ header_lbn (index_in s) f.number
    → new ≡ with_transfer true old → (IsTrue old.honest → slice_get old.image lbn ≡ Some block) → ¬ IsDead block → ¬ IsHeader block f.number
    → ¬ IsTrue old.honest
never-bad s f lbn block old new for in_use at counts gives not_dead not_valid honest =
    let same = read-is (index_in s) f lbn block old new in_use at counts gives honest in
    elim (subst (λ (b : List ℕ). IsDead b ⊎ IsHeader b f.number) (sym same) (dead-or-valid s old f.number for honest in_use)) [
      | inl dead ↦ not_dead dead
      | inr valid ↦ not_valid valid
    ]

-- the segment number in its map area
pub first-segment : (f : FileId) (block : List ℕ) → IsFirstHeaderOf f block → segment (map_area block) ≡ 0
unfolding segment_number
first-segment f block is = is.first
