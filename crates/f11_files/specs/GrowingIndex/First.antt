-- Slots that the index file gets in its last header, before headers are taken (profile).
use Rattle.std.specs.Prelude.{ℕ, ◌+◌, Bool, true, false, not, nat_lt, if◌then◌else◌, List, [], ◌∷◌}
use Rattle.f11_dev.specs.Disk.{Disk}
use Rattle.f11_home.specs.Home.{HomeFields}
use Rattle.f11_store.specs.Causes.{Cause, ◌⇐◌}
use Rattle.f11_store.specs.Changes.{GrowsIndex}
use Rattle.f11_store.specs.Cost.{growth_cost}
use Rattle.f11_store.specs.Headroom.{may_get_slots}
use Rattle.f11_store.specs.Lags.{grow_work}
use Rattle.f11_store.specs.Store.{Store, index_file}
use Rattle.f11_store.specs.declared.refusals.Refusal.{Refusal}
use Rattle.f11_store.specs.declared.refusals.Refusal.TheVariants.{DeviceFull, NoHeader}
use Rattle.f11_image_store.specs.Allocation.{GainsSlots}
use Rattle.f11_image_store.specs.StoreOf.{store_of}
use Rattle.f11_files.specs.Answers.{Does, FailsOrWants}

-- those of so many slots that are to be had: all where they fit, or else none
abbrev pub if_fit : Bool → ℕ → ℕ
if_fit fit slots = if fit then slots else 0

-- the causes against so many slots, where they fit or don't, so many blocks are free, and n are to be taken besides
abbrev pub fit_causes : Bool → ℕ → ℕ → ℕ → List Cause
fit_causes fit free slots n = (DeviceFull ⇐ nat_lt free (n + if_fit fit slots)) ∷ (NoHeader ⇐ not fit) ∷ []

-- the same of a store
abbrev pub slots_causes : Store → ℕ → ℕ → List Cause
slots_causes s slots n = fit_causes (may_get_slots s slots) s.free slots n

-- The index file has got them.
abbrev pub GetsSlotsFirst : HomeFields → ℕ → ℕ → Disk → Disk → Type 0
GetsSlotsFirst home slots n old new =
    let s = store_of old.image home in
    Does (slots_causes s slots n) (grow_work (index_file s).room slots) (growth_cost s (index_file s) slots) (GrowsIndex s slots)
    (GainsSlots slots) home old new

-- It has not, or not all of them.
abbrev pub FailsToGetSlots : HomeFields → ℕ → ℕ → Refusal → Disk → Disk → Type 0
FailsToGetSlots home slots n refusal old new =
    let s = store_of old.image home in
    FailsOrWants true false (slots_causes s slots n) (growth_cost s (index_file s) slots) (grow_work (index_file s).room slots) home refusal
    old new
