-- What the index file's growth makes of a store before headers are taken, and what stands meanwhile (profile).
use Rattle.std.specs.Prelude.{◌≡◌, ℕ, suc, ◌-◌, ◌<◌, ◌≤◌, ◌==◌, false, None}
use Rattle.f11_store.specs.Causes.{first_of, extend_causes, growth_causes}
use Rattle.f11_store.specs.Changes.{GetsSlots, with_slots_added}
use Rattle.f11_store.specs.File.{File, need}
use Rattle.f11_store.specs.Headroom.{lacks_headers, slots_first}
use Rattle.f11_store.specs.Lags.{SameLimits, Work, LagsBy, grow_work, with_headers_first}
use Rattle.f11_store.specs.Moments.{AreRespectful}
use Rattle.f11_store.specs.Store.{Store, free_headers, index_file}

-- A store whose index file has n slots more, in its last header: nothing else changed but the index file and the free blocks.
pub record IsReady (s : Store) (n : ℕ) (t : Store) : Type 0 where
  pub others : (m : ℕ) → (m == 1) ≡ false → t.file m ≡ s.file m
  pub free : t.free ≡ s.free - n
  pub slots : t.slots ≡ (with_slots_added n s).slots
  pub in_use : t.in_use ≡ s.in_use
  pub last : t.last ≡ (with_slots_added n s).last
  pub access : t.access ≡ s.access
  pub limits : SameLimits s t

-- the slots that come first are added in the last header
abbrev pub GainedIsReady : Type 0
GainedIsReady = (s t : Store) (headers : ℕ) → GetsSlots (slots_first s headers) s t → IsReady s (slots_first s headers) t

-- while they are added the whole is under way
abbrev pub GainingLags : Type 0
GainingLags =
    (s t : Store) (headers n : ℕ) (work : Work) → slots_first s headers ≡ suc n →
    LagsBy (grow_work (index_file s).room (suc n)) t s → LagsBy (with_headers_first s headers work) t s

-- and once they are, while the rest is done
abbrev pub ReadyLags : Type 0
ReadyLags =
    (s ready t : Store) (headers : ℕ) (work : Work) → GetsSlots (slots_first s headers) s ready → AreRespectful work.parts →
    LagsBy work t ready → LagsBy (with_headers_first s headers work) t s

-- The slots of the volume's own files are there, and none that isn't there is in use.
pub record HasNoOtherSlots (s : Store) : Type 0 where
  pub own : 5 ≤ s.slots
  pub none_behind : (n : ℕ) → s.slots < n → s.in_use n ≡ false

-- then so many headers are free, where they can be had
abbrev pub EnoughAreFree : Type 0
EnoughAreFree =
    (s t : Store) (headers : ℕ) → HasNoOtherSlots s → lacks_headers s headers ≡ false → GetsSlots (slots_first s headers) s t →
    headers ≤ free_headers t

-- once they are, a file may grow by as many blocks as may be asked for
abbrev pub ReadyMayExtend : Type 0
ReadyMayExtend =
    (s t : Store) (n : ℕ) (f : File) → GetsSlots (slots_first s (need f.room n)) s t → need f.room n ≤ free_headers t →
    first_of (extend_causes s f n) ≡ None → first_of (growth_causes t f n) ≡ None
