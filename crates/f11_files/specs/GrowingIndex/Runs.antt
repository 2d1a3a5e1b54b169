-- What growing the index file does (profile: blocks of zeros, the lowest free ones, a run of 256 at most after another).
use Rattle.std.specs.Prelude.{◌≡◌, ℕ, ◌+◌, ◌-◌, ◌≤◌, Bool, true, false, IsTrue, List, []}
use Rattle.f11_dev.specs.Disk.{Disk}
use Rattle.f11_home.specs.Home.{HomeFields}
use Rattle.f11_chain.specs.declared.blocks.FileEnd.{FileEnd}
use Rattle.f11_store.specs.Changes.{GrowsIndex}
use Rattle.f11_store.specs.Cost.{growth_cost, header_count}
use Rattle.f11_store.specs.Lags.{grow_work}
use Rattle.f11_store.specs.Store.{index_file}
use Rattle.f11_store.specs.declared.files.FileId.{FileId}
use Rattle.f11_store.specs.declared.refusals.Refusal.{Refusal}
use Rattle.f11_image_store.specs.Allocation.{GainsSlots}
use Rattle.f11_files.specs.Answers.{Does, FailsOrWants}
use Rattle.f11_files.specs.Operations.{grow_causes}
use Rattle.f11_files.specs.Extending.Room.{HoldsRoom}
use Rattle.f11_image_store.specs.StoreOf.{store_of}
use Rattle.f11_files.specs.Structure.{store_on}
use Rattle.f11_files.specs.declared.structure.Structure.{Structure}

-- the identification of the index file
abbrev pub index_id : FileId
index_id = record { number = 1; sequence = 1; volume = 0 }

-- The index file's first header is in hand, and its last, and there is room for n slots more of it.
pub record HoldsIndexRoom (s : Structure) (n : ℕ) (end : FileEnd) (first last : List ℕ) (disk : Disk) : Type 0 where
  pub within : IsTrue disk.honest → (store_on s disk).slots + n ≤ (store_on s disk).limit
  pub room : HoldsRoom s index_id n end first last disk

-- The index file has n slots more, none of which was given a sequence number: they are the lowest free blocks, and hold zeros. A
-- header that was added says the owner and the protection of the file's first one.
abbrev pub GrowsIndexFile : HomeFields → ℕ → Disk → Disk → Type 0
GrowsIndexFile home n old new =
    let s = store_of old.image home in
    Does (grow_causes s n) (grow_work (index_file s).room n) (growth_cost s (index_file s) n) (GrowsIndex s n)
    (GainsSlots n) home old new

-- the same where its headers are in hand: what is left of the cost but for a look at each of them
abbrev pub GrowsHeld : HomeFields → ℕ → Disk → Disk → Type 0
GrowsHeld home n old new =
    let s = store_of old.image home in
    Does (grow_causes s n) (grow_work (index_file s).room n) (growth_cost s (index_file s) n - header_count (index_file s)) (GrowsIndex s n)
    (GainsSlots n) home old new

-- It has not, or not all of them: no cause stands against it.
abbrev pub FailsToGrowHeld : HomeFields → ℕ → Refusal → Disk → Disk → Type 0
FailsToGrowHeld home n refusal old new =
    let s = store_of old.image home in
    FailsOrWants true false [] (growth_cost s (index_file s) n - header_count (index_file s)) (grow_work (index_file s).room n) home
    refusal old new

-- and so many there are then
abbrev pub IsSlotsAfter : HomeFields → ℕ → Disk → ℕ → Type 0
IsSlotsAfter home n old slots = IsTrue old.honest → slots ≡ (store_of old.image home).slots + n

-- It has not, or not all of them.
abbrev pub FailsToGrow : Bool → HomeFields → ℕ → Refusal → Disk → Disk → Type 0
FailsToGrow failed home n refusal old new =
    let s = store_of old.image home in
    FailsOrWants true failed (grow_causes s n) (growth_cost s (index_file s) n) (grow_work (index_file s).room n) home refusal old new
