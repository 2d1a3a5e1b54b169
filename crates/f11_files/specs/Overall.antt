-- What a call that readies headers first does from its beginning to its end, in the words of the plain store (profile).
use Rattle.std.specs.Prelude.{◌≡◌, ℕ, ◌+◌, ◌-◌, ◌==◌, false, IsTrue, List}
use Rattle.f11_dev.specs.Disk.{Disk}
use Rattle.f11_home.specs.Home.{HomeFields}
use Rattle.f11_store.specs.Causes.{create_causes}
use Rattle.f11_store.specs.Changes.{with_slots_first, Lengthens, MakesFile}
use Rattle.f11_store.specs.Cost.{lengthen_cost, slots_cost}
use Rattle.f11_store.specs.Headroom.{slots_first}
use Rattle.f11_store.specs.Lags.{lengthen_work, make_work}
use Rattle.f11_store.specs.Step.{next_id}
use Rattle.f11_store.specs.Store.{file_named}
use Rattle.f11_store.specs.declared.callers.Uic.{Uic}
use Rattle.f11_store.specs.declared.files.FileId.{FileId}
use Rattle.f11_volume.specs.Volume.{Volume}
use Rattle.f11_image_store.specs.Allocation.{GainsBlocks, KeepsBlocks}
use Rattle.f11_image_store.specs.StoreOf.{store_of}
use Rattle.f11_files.specs.Answers.{Does, KeepsUnused}
use Rattle.f11_files.specs.Create.{Creates}
use Rattle.f11_files.specs.Extending.Runs.{headers_for, ExtendsFile}
use Rattle.f11_files.specs.GrowingIndex.Headroom.{AllotsSlots}
use Rattle.f11_files.specs.Operations.{extend_causes}

-- First the index file has n slots more, and then this.
pub record AllotsAfter (n : ℕ) (Rest : Volume → Volume → Type 0) (old new : Volume) : Type 0 where
  pub ready : Volume
  pub slots : AllotsSlots n old ready
  pub rest : Rest ready new

-- a file that was made
pub record CreatesOverall (home : HomeFields) (owner : Uic) (protection : ℕ) (ident attr : List ℕ) (f : FileId)
    (old new : Disk) : Type 0 where
  pub does : let s = store_of old.image home in
      Does (create_causes s) (make_work s owner protection ident attr) (slots_cost s 1 + 3) (MakesFile s owner protection ident attr)
      (KeepsUnused (AllotsAfter (slots_first s 1) KeepsBlocks)) home old new
  pub id : IsTrue old.honest → f ≡ next_id (with_slots_first (store_of old.image home) 1)

abbrev pub CreatesIs : Type 0
CreatesIs =
    (home : HomeFields) (owner : Uic) (protection : ℕ) (ident attr : List ℕ) (f : FileId) (old new : Disk) →
    Creates home owner protection ident attr f old new → CreatesOverall home owner protection ident attr f old new

-- a file that was extended: one transfer less than the cost, which counts a look at its right
abbrev pub ExtendsOverall : HomeFields → FileId → ℕ → Disk → Disk → Type 0
ExtendsOverall home f n old new =
    let s = store_of old.image home in
    Does (extend_causes s f n) (lengthen_work s f n) (lengthen_cost s (file_named s f) n - 1) (Lengthens s f n)
    (KeepsUnused (AllotsAfter (slots_first s (headers_for home f n old)) (GainsBlocks f.number n))) home old new

abbrev pub ExtendsIs : Type 0
ExtendsIs =
    (home : HomeFields) (f : FileId) (n : ℕ) (old new : Disk) → (f.number == 1) ≡ false → ExtendsFile home f n old new →
    ExtendsOverall home f n old new
