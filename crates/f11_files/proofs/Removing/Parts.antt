-- Which headers are written where a file is cut, or deleted.
use Rattle.std.proofs.Common.{◌≡◌, ◌⊎◌, ◌≤◌, ◌∙◌, ℕ, Bool, true, false, IsTrue, List, [], ap, drop}
use Rattle.f11_dev.specs.Disk.{Disk, with_transfer, with_block_at}
use Rattle.f11_dev.specs.Image.{IsImage}
use Rattle.f11_map.specs.HeaderBlock.{blocks_named}
use Rattle.f11_index.specs.Headers.{headers_of}
use Rattle.f11_index.specs.IndexFile.{header_lbn}
use Rattle.f11_index.specs.Table.{table_of}
use Rattle.f11_index.proofs.ChainLemmas.{file_of-header}
use Rattle.f11_store.specs.Changes.{is_in}
use Rattle.f11_store.specs.File.{File}
use Rattle.f11_store.specs.Store.{file_named}
use Rattle.f11_store.specs.declared.files.FileId.{FileId}
use Rattle.f11_image_store.specs.Confines.{no_header, only_header}
use Rattle.f11_files.specs.Removing.Truncate.{FindsLastKept, CutsOff}
use Rattle.f11_files.specs.Removing.Drops.{GivesBlocks, headers_behind}
use Rattle.f11_image_store.specs.FileLaws.{pointers_in}
use Rattle.f11_files.specs.Finding.First.{FindsFile}
use Rattle.f11_files.specs.Structure.{index_in, home_of, store_on, IsStructureFor, StandsAlike, WritesParts}
use Rattle.f11_files.specs.declared.structure.Structure.{Structure}
use Rattle.f11_files.proofs.Finding.Locate.{held-are}
use Rattle.f11_files.proofs.Finding.Named.{holds-headers}
use Rattle.f11_files.proofs.Removing.Cut.{behind-listed, cut-order, honest-now, listed, uncut-order}
use Rattle.f11_files.proofs.Removing.Gone.{first-listed}
use Rattle.f11_files.proofs.Confining.Parts.{header-failed, header-wrote, of-none, of-only, parts-behind, parts-then, stands-same, to-parts}

-- its first header was read, and then written
pub first-parts : (s : Structure) (f : FileId) (block : List ℕ) (old read : Disk) {now : Disk} → IsStructureFor s old
    → FindsFile (index_in s) f block old read → IsTrue old.honest → WritesParts s (only_header f.number) read now
    → WritesParts s (is_in (file_named (store_on s old) f).held) old now
first-parts s f block old read for found honest one =
    let held = (file_named (store_on s old) f).held in
    let first = ap (λ (ns : List ℕ). is_in ns f.number) (held-are s f block old for found.holds honest)
    ∙ first-listed s f block old for found.holds honest in
    parts-behind s (is_in held) found.looked
    (to-parts s (is_in held) (only_header f.number) [] (of-only (is_in held) f.number first) one)

-- the last header that stays was found
module _ (s : Structure) (f : FileId) (to n keep lbn : ℕ) (block cut : List ℕ) (old read : Disk) (for : IsStructureFor s old)
    (own : 4 ≤ f.number)
    (finds : FindsLastKept (home_of s) (index_in s) f to n keep block old read) (cuts : CutsOff keep block cut)
    (at : lbn ≡ header_lbn (index_in s) n) (old_image : IsImage old.image) (honest : IsTrue old.honest) where
  abbrev all : ℕ → Bool
  all = is_in (file_named (store_on s old) f).held

  held : (file_named (store_on s old) f).held ≡ headers_of (table_of old.image (home_of s)) f.number
  held =
      ap (λ (g : File). g.held) (finds.named honest)
      ∙ holds-headers old.image (home_of s) f.number (for.sound honest) (file_of-header (finds.of_file honest))

  one-of : all n ≡ true
  one-of = ap (λ (ns : List ℕ). is_in ns n) held ∙ listed s f to n keep lbn block cut old read for own finds cuts at old_image honest

  -- it wasn't written
  pub cut-failed : (new : Disk) → (new ≡ with_transfer false read) ⊎ (new ≡ with_transfer false (with_block_at lbn cut read))
      → WritesParts s all old new
  cut-failed new is =
      parts-behind s all finds.looked
      (header-failed s all n lbn cut read new one-of finds.header.in_use at is
      (uncut-order s f to n keep lbn block cut old read for own finds cuts at old_image new is))

  module _ (now : Disk) (wrote : now ≡ with_transfer true (with_block_at lbn cut read)) where
    -- it was, and then its other blocks marked free
    pub cut-given : {given : Disk} → WritesParts s no_header now given → WritesParts s all old given
    cut-given gives =
        let written = parts-behind s all finds.looked
        (header-wrote s all n lbn cut read now one-of finds.header.in_use at wrote
        (cut-order s f to n keep lbn block cut old read for own finds cuts at old_image now wrote)) in
        parts-then s s all (stands-same s) written (to-parts s all no_header [] (of-none all) gives)

    -- and then the headers behind it dropped
    pub cut-dropped : (c : Structure) (given new : Disk)
        → GivesBlocks (home_of s) (drop keep (blocks_named block)) (pointers_in block) now given → home_of c ≡ home_of s
        → IsImage given.image → StandsAlike s c → WritesParts s no_header now given
        → (IsTrue given.honest → WritesParts c (is_in (headers_behind (table_of given.image (home_of c)) block)) given new)
        → WritesParts s all old new
    cut-dropped c given new gives same is_image places one two =
        let some = behind-listed s f to n keep lbn block cut old read for own finds cuts at old_image now wrote c given gives same is_image
        honest in
        let sure = gives.writes.went.honest ∙ honest-now s f to n keep lbn block cut old read for own finds cuts at old_image now wrote
        ∙ honest in
        parts-then s c all places (cut-given one)
        (to-parts c all _ [] (λ m is. ap (λ (ns : List ℕ). is_in ns m) held ∙ some m is) (two sure))
