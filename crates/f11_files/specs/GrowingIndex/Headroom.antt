-- Headers that are to be taken: where too few are free, the index file gets slots first (profile).
use Rattle.std.specs.Prelude.{◌≡◌, ◌⊎◌, ℕ, zero, suc, ◌≤◌, Bool, IsTrue, []}
use Rattle.f11_dev.specs.Disk.{Disk}
use Rattle.f11_dev.specs.Image.{Image}
use Rattle.f11_home.specs.Home.{HomeFields}
use Rattle.f11_store.specs.Causes.{header_causes}
use Rattle.f11_store.specs.Changes.{GetsSlots}
use Rattle.f11_store.specs.Cost.{slots_cost}
use Rattle.f11_store.specs.Headroom.{slots_first}
use Rattle.f11_store.specs.Lags.{no_work, with_headers_first, Work}
use Rattle.f11_store.specs.Step.{gets_slots}
use Rattle.f11_store.specs.Store.{Store, free_headers}
use Rattle.f11_store.specs.declared.refusals.Refusal.{Refusal}
use Rattle.f11_volume.specs.Sound.{HasSoundVolume}
use Rattle.f11_volume.specs.Volume.{Volume, volume_of}
use Rattle.f11_image_store.specs.Allocation.{GainsSlots}
use Rattle.f11_image_store.specs.Confines.{no_header}
use Rattle.f11_image_store.specs.StoreOf.{store_of}
use Rattle.f11_files.specs.Answers.{Does, FailsOrWants, WritesMoreOf, WritesOnly}

-- the work before so many headers are taken
abbrev pub ready_work : Store → ℕ → Work
ready_work s headers = with_headers_first s headers no_work

-- the index file has n slots more, which are the lowest free blocks; where n is 0 nothing changed
abbrev pub AllotsSlots : ℕ → Volume → Volume → Type 0
AllotsSlots zero old new = new ≡ old
AllotsSlots (suc n) old new = GainsSlots (suc n) old new

-- So many headers are free, where n blocks are to be taken besides: the index file has got the slots that come first.
pub record ReadiesHeaders (home : HomeFields) (headers n : ℕ) (old new : Disk) : Type 0 where
  pub does : let s = store_of old.image home in
      Does (header_causes s headers n) (ready_work s headers) (slots_cost s headers) (GetsSlots (slots_first s headers) s)
      (AllotsSlots (slots_first s headers)) home old new
  pub enough : IsTrue old.honest → headers ≤ free_headers (store_of new.image home)
  pub sound : IsTrue old.honest → HasSoundVolume new.image home

-- They aren't; where memory was wanting, it was for slots.
abbrev pub FailsToReady : Bool → HomeFields → ℕ → ℕ → Refusal → Disk → Disk → Type 0
FailsToReady failed home headers n refusal old new =
    let s = store_of old.image home in
    FailsOrWants (gets_slots (slots_first s headers)) failed (header_causes s headers n) (slots_cost s headers) (ready_work s headers) home
    refusal old new

-- Where the index file gets n slots, no block is changed but its headers, new ones, the bitmaps, and blocks that were free.
abbrev pub ConfinesSlots : ℕ → HomeFields → Disk → Disk → Type 0
ConfinesSlots zero home old new = WritesOnly no_header [] home old new
ConfinesSlots (suc n) home old new = WritesMoreOf 1 home old new

abbrev pub WritesSlots : ℕ → HomeFields → Disk → Disk → Type 0
WritesSlots headers home old new = IsTrue old.honest → ConfinesSlots (slots_first (store_of old.image home) headers) home old new

-- The index file has got so many slots,
pub record HasGotSlots (n : ℕ) (home : HomeFields) (old ready : Image) : Type 0 where
  pub makes : GetsSlots n (store_of old home) (store_of ready home)
  pub allots : AllotsSlots n (volume_of old home) (volume_of ready home)

-- those that come first where so many headers are to be taken.
abbrev pub HasReadied : ℕ → HomeFields → Disk → Disk → Type 0
HasReadied headers home old ready =
    IsTrue old.honest → HasGotSlots (slots_first (store_of old.image home) headers) home old.image ready.image

-- First those, so that so many headers are free, and then what else a call writes: nothing where it hasn't got them.
pub record WritesAfterSlots (headers : ℕ) (Rest : Disk → Disk → Type 0) (home : HomeFields) (old new : Disk) : Type 0 where
  pub ready : Disk
  pub slots : WritesSlots headers home old ready
  pub readied : (new ≡ ready) ⊎ HasReadied headers home old ready
  pub rest : Rest ready new
