-- The header that names a block of a file, as it was reached.
use Rattle.std.proofs.Common.{◌≡◌, ℕ, ◌-◌, IsTrue, List, Option, Some, None, sym, ap, subst, ◌∙◌, arith}
use Rattle.f11_chain.specs.Calls.{table, IsHeaderAt}
use Rattle.f11_chain.specs.declared.blocks.HeaderAt.{HeaderAt}
use Rattle.f11_chain.specs.Windows.{ReadsIn}
use Rattle.f11_chain.specs.declared.blocks.Place.{Place}
use Rattle.f11_chain.specs.declared.windows.Window.{Window}
use Rattle.std.specs.Prelude.{Result, Ok, Err}
use Rattle.f11_dev.proofs.LookedLemmas.{looked_failed_read, looked_read}
use Rattle.f11_store.specs.declared.refusals.Refusal.{Refusal}
use Rattle.f11_dev.specs.Disk.{Disk}
use Rattle.f11_dev.specs.Image.{Image, IsImage}
use Rattle.f11_dev.specs.Looked.{Looked}
use Rattle.f11_home.specs.Home.{HomeFields}
use Rattle.f11_index.specs.Table.{Table, table_of, last_sequence, IsFile}
use Rattle.f11_index.proofs.HeadersLemmas.{header-placed, place-has}
use Rattle.f11_index.proofs.SegmentLemmas.{table-bytes}
use Rattle.f11_store.specs.declared.files.FileId.{FileId}
use Rattle.f11_image_store.proofs.StoreLemmas.{first-is-tested}
use Rattle.f11_volume.proofs.FileLemmas.{image-files}
use Rattle.f11_files.specs.Finding.First.{IsFileOf}
use Rattle.f11_files.specs.Finding.Reached.{IsBefore, IsSeen, LiesSeen, Reaches}
use Rattle.f11_files.specs.Structure.{home_of, index_in, IsStructureFor}
use Rattle.f11_files.specs.declared.find.reach.Seen.{Seen}
use Rattle.f11_files.specs.declared.structure.Structure.{Structure}
use Rattle.f11_files.proofs.Finding.First.{table-of}

-- a header that was reached is one of its file, behind so many blocks
module _ (s : Structure) (f : FileId) (vbn : ℕ) (at : HeaderAt) (disk : Disk) (for : IsStructureFor s disk)
    (before : IsBefore f vbn (record { sequence = f.sequence; at = at }))
    (seen : IsTrue disk.honest → IsSeen (table_of disk.image (home_of s)) (record { sequence = f.sequence; at = at })) where
  pub seen-file : IsTrue disk.honest → IsFileOf f (index_in s) disk
  seen-file honest =
      let t : Table = table_of disk.image (home_of s) in
      let file = (first-is-tested t at.file).0 (seen honest).0 in
      let same : t ≡ table (index_in s) disk = sym (table-of s disk for honest) in
      record {
        file = subst (λ (u : Table). IsFile u f.number) same (subst (IsFile t) before.file file);
        sequence = subst (λ (u : Table). last_sequence u f.number ≡ f.sequence) same
            (subst (λ (n : ℕ). last_sequence t n ≡ f.sequence) before.file (seen honest).1);
      }

  pub seen-at : IsTrue disk.honest → IsHeaderAt (table (index_in s) disk) at
  seen-at honest =
      let t : Table = table_of disk.image (home_of s) in
      let file = (first-is-tested t at.file).0 (seen honest).0 in
      let whole = ((image-files disk.image (home_of s) (for.sound honest)).each at.file file).whole in
      subst (λ (u : Table). IsHeaderAt u at) (sym (table-of s disk for honest))
      (record { of_file = (place-has t at.file at.number _ whole (seen honest).2).of; before_is = (seen honest).3 })

-- the one that was reached is kept
pub reached-seen : (s : Structure) (f : FileId) (vbn : ℕ) (place : Place) (block : List ℕ) (old new : Disk) → IsStructureFor s old
    → IsImage old.image → Reaches s f vbn place block old new → IsTrue old.honest
    → IsSeen (table_of old.image (home_of s))
    (record { sequence = f.sequence; at = record { file = f.number; number = place.number; before = vbn - 1 - place.left } })
reached-seen s f vbn place block old new for image reaches honest =
    let u : Table = table (index_in s) old in
    let seeks = reaches.seeks in
    let file = reaches.there honest in
    let at = seeks.at_is honest in
    subst (λ (t : Table). IsSeen t
    (record { sequence = f.sequence; at = record { file = f.number; number = place.number; before = vbn - 1 - place.left } }))
    (table-of s old for honest) (
      (first-is-tested u f.number).1 file.file,
      file.sequence,
      header-placed u f.number place.number (seeks.of_file honest) (table-bytes old.image (index_in s) image place.number),
      omega (arith, at),
    )

-- it is there still where the disk was only read, or its headers are as they were
pub seen-as : (seen : Option Seen) (home : HomeFields) (old new : Disk) → (IsTrue new.honest → IsTrue old.honest)
    → (IsTrue old.honest → table_of new.image home ≡ table_of old.image home) → LiesSeen seen home old → LiesSeen seen home new
seen-as None home old new honest same lies = tt
seen-as (Some s) home old new honest same lies =
    λ sure. subst (λ (t : Table). IsSeen t s) (sym (same (honest sure))) (lies (honest sure))

pub seen-looked : (seen : Option Seen) (home : HomeFields) (old new : Disk) {most faults : ℕ} → Looked old new most faults
    → LiesSeen seen home old → LiesSeen seen home new
seen-looked seen home old new looked =
    seen-as seen home old new (λ sure. sym looked.honest ∙ sure) (λ _. ap (λ (i : Image). table_of i home) looked.image)

-- so where a block was read by a window, or couldn't be
pub seen-read : (seen : Option Seen) (home : HomeFields) (w : Window) (vbn : ℕ) (block : List ℕ) (old new : Disk) (r : Result Unit Refusal)
    → ReadsIn w vbn r block old new → LiesSeen seen home old → LiesSeen seen home new
seen-read seen home w vbn block old new (Ok x) is = seen-looked seen home old new (looked_read old new is.reads.counts)
seen-read seen home w vbn block old new (Err e) is = seen-looked seen home old new (looked_failed_read old new is.reads.counts)
