-- What laying a file out does (profile: blocks of zeros in one run, the lowest place that has so many free ones; a pointer of 256 blocks
-- after another, and the rest in one more).
use Rattle.std.specs.Prelude.{◌≡◌, ◌≢◌, ℕ, ◌-◌, ◌==◌, if◌then◌else◌, Bool, true, false, IsTrue, List, None}
use Rattle.std.specs.List.{range_with_len}
use Rattle.f11_bits.specs.Run.{IsFirstRunOf, NoRunOf}
use Rattle.f11_chain.specs.FileHeaders.{file_blocks}
use Rattle.f11_chain.specs.declared.blocks.FileEnd.{FileEnd}
use Rattle.f11_dev.specs.Disk.{Disk}
use Rattle.f11_home.specs.Home.{HomeFields}
use Rattle.f11_store.specs.Causes.{first_of}
use Rattle.f11_store.specs.Changes.{LaysOut}
use Rattle.f11_store.specs.Cost.{contiguous_cost, header_count}
use Rattle.f11_store.specs.Lags.{contiguous_work, work_if}
use Rattle.f11_store.specs.Refusal.{refusal_number}
use Rattle.f11_store.specs.Store.{file_named}
use Rattle.f11_store.specs.declared.callers.Uic.{Uic}
use Rattle.f11_store.specs.declared.files.FileId.{FileId}
use Rattle.f11_store.specs.declared.refusals.Refusal.{Refusal}
use Rattle.f11_store.specs.declared.refusals.Refusal.TheVariants.{Damaged, NoRun}
use Rattle.f11_volume.specs.Volume.{Volume, volume_of}
use Rattle.f11_image_store.specs.Allocation.{ownership_in, NamesMore}
use Rattle.f11_files.specs.Answers.{is_fatal, faults_of, Does, IsRight, KeepsUnused, Meanwhile, ReadsAtMost, WritesAtMost}
use Rattle.f11_files.specs.Extending.Room.{HoldsEnd}
use Rattle.f11_files.specs.LayingOut.Take.{UsesRun}
use Rattle.f11_files.specs.Operations.{contiguous_causes}
use Rattle.f11_image_store.specs.StoreOf.{store_of}
use Rattle.f11_files.specs.Structure.{home_of, store_on}
use Rattle.f11_files.specs.declared.structure.Structure.{Structure}

-- File f, which had no block, has n in a row, from the lowest place on that had so many free: no others, and all others are free as they
-- were. The headers that it has more say this ownership alone.
pub record GainsRunAs (f : ℕ) (ownership : Uic × ℕ) (n : ℕ) (old new : Volume) : Type 0 where
  pub lbn : ℕ
  pub first : IsFirstRunOf old.free n lbn
  pub blocks : file_blocks new.table f ≡ range_with_len lbn n
  pub names : NamesMore f ownership (range_with_len lbn n) old.table new.table
  pub uses : UsesRun lbn n old new

-- and its first header says whose the added ones are
abbrev pub GainsRun : ℕ → ℕ → Volume → Volume → Type 0
GainsRun f n old new = GainsRunAs f (ownership_in (old.table.header f)) n old new

-- A file was laid out in one run of n blocks of zeros, and then marked contiguous: one transfer less than the cost, which counts a look at
-- its right.
abbrev pub LaysOutFile : HomeFields → FileId → ℕ → Disk → Disk → Type 0
LaysOutFile home f n old new =
    let s = store_of old.image home in
    Does (contiguous_causes s f n) (contiguous_work f.number (file_named s f).room n) (contiguous_cost s (file_named s f) n - 1)
    (LaysOut s f.number n) (KeepsUnused (GainsRun f.number n)) home old new

-- It was not, or not all of it: NoRun where no cause stands against it, and nowhere are so many free blocks in a row. Unless it failed the
-- volume, no block was written.
pub record FailsToLayOut (failed : Bool) (home : HomeFields) (f : FileId) (n : ℕ) (refusal : Refusal) (old new : Disk) : Type 0 where
  pub right : let s = store_of old.image home in refusal ≢ NoRun → IsRight failed old.honest (contiguous_causes s f n) refusal
  pub no_run : let s = store_of old.image home in
      refusal ≡ NoRun → (failed ≡ false)
      × (IsTrue old.honest → (first_of (contiguous_causes s f n) ≡ None) × NoRunOf (volume_of old.image home).free n)
  pub writes : let s = store_of old.image home in
      WritesAtMost
      (Meanwhile (work_if (first_of (contiguous_causes s f n)) (contiguous_work f.number (file_named s f).room n)) home old)
      (contiguous_cost s (file_named s f) n - 1) old new (faults_of refusal)
  pub unchanged : let s = store_of old.image home in is_fatal refusal ≡ false
      → ReadsAtMost (contiguous_cost s (file_named s f) n - 1) old new 0

-- A file's first header is in hand, and its last, and there is room for a run of n blocks.
pub record HoldsRunRoom (s : Structure) (f : FileId) (n : ℕ) (end : FileEnd) (first last : List ℕ) (disk : Disk) : Type 0 where
  pub no_cause : IsTrue disk.honest → first_of (contiguous_causes (store_on s disk) f n) ≡ None
  pub ends : HoldsEnd s f end first last disk

-- the same where they are in hand: what is left of the cost but for a look at the right, and at each header
abbrev pub LaysOutHeld : HomeFields → FileId → ℕ → Disk → Disk → Type 0
LaysOutHeld home f n old new =
    let s = store_of old.image home in
    Does (contiguous_causes s f n) (contiguous_work f.number (file_named s f).room n)
    (contiguous_cost s (file_named s f) n - 1 - header_count (file_named s f)) (LaysOut s f.number n) (KeepsUnused (GainsRun f.number n))
    home old new

-- It was not, or not all of it: no cause stands against it.
pub record FailsToLayOutHeld (s : Structure) (f : FileId) (n : ℕ) (refusal : Refusal) (old new : Disk) : Type 0 where
  pub right : refusal ≢ NoRun → is_fatal refusal ≡ true
  pub undamaged : IsTrue old.honest → refusal ≢ Damaged
  pub no_run : refusal ≡ NoRun → IsTrue old.honest → NoRunOf (volume_of old.image (home_of s)).free n
  pub writes : let st = store_on s old in
      WritesAtMost (Meanwhile (contiguous_work f.number (file_named st f).room n) (home_of s) old)
      (contiguous_cost st (file_named st f) n - 1 - header_count (file_named st f)) old new (faults_of refusal)
  pub unchanged : let st = store_on s old in
      is_fatal refusal ≡ false → ReadsAtMost (contiguous_cost st (file_named st f) n - 1 - header_count (file_named st f)) old new 0

-- what a refusal is for a file that was found before
abbrev pub lost : Refusal → Refusal
lost refusal = if refusal_number refusal == 6 then Damaged else refusal
