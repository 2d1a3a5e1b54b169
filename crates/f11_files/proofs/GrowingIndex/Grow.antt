-- More slots for the index file: its headers are read, and then it grows by them.
use Rattle.std.proofs.Common.{◌≡◌, ◌-◌, ◌+◌, ℕ, false, true, IsTrue, List, [], None, subst, arith}
use Rattle.f11_dev.specs.Disk.{Disk}
use Rattle.f11_home.specs.Home.{HomeFields}
use Rattle.f11_store.specs.Causes.{Cause, first_of}
use Rattle.f11_store.specs.Changes.{GrowsIndex}
use Rattle.f11_store.specs.Cost.{growth_cost, header_count}
use Rattle.f11_store.specs.Lags.{grow_work}
use Rattle.f11_store.specs.Store.{Store, index_file}
use Rattle.f11_store.specs.declared.refusals.Refusal.{Refusal}
use Rattle.f11_image_store.specs.Allocation.{GainsSlots}
use Rattle.f11_image_store.specs.StoreOf.{store_of}
use Rattle.f11_files.specs.Answers.{Does, FailsOrWants, ReadsAtMost}
use Rattle.f11_files.specs.GrowingIndex.Runs.{FailsToGrowHeld, GrowsHeld, GrowsIndexFile}
use Rattle.f11_files.specs.Operations.{grow_causes}
use Rattle.f11_files.proofs.Behind.{does-read, store-read, wants-for, wants-read}

-- what is left of the cost once its headers were read
abbrev left : Store → ℕ → ℕ
left s n = growth_cost s (index_file s) n - header_count (index_file s)

module _ (home : HomeFields) (n : ℕ) (old read : Disk)
    (reads : ReadsAtMost (header_count (index_file (store_of old.image home))) old read 0) where
  abbrev st : Store
  st = store_of old.image home

  whole : header_count (index_file st) + left st n ≡ growth_cost st (index_file st) n
  whole = omega arith

  -- it fails where there is no cause against it, or these causes
  pub fails-then : (causes : List Cause) → (IsTrue old.honest → first_of causes ≡ None) → (r : Refusal) (new : Disk)
      → FailsToGrowHeld home n r read new
      → FailsOrWants true false causes (growth_cost st (index_file st) n) (grow_work (index_file st).room n) home r old new
  fails-then causes none r new fails =
      subst (λ (k : ℕ). FailsOrWants true false causes k (grow_work (index_file st).room n) home r old new) whole
      (wants-for none (wants-read reads home
      (subst (λ (x : Store). FailsOrWants true false [] (left x n) (grow_work (index_file x).room n) home r read new)
      (store-read reads home) fails)))

  pub grows-then : (new : Disk) → GrowsHeld home n read new → GrowsIndexFile home n old new
  grows-then new grows =
      subst (λ (k : ℕ). Does (grow_causes st n) (grow_work (index_file st).room n) k (GrowsIndex st n) (GainsSlots n) home old new) whole
      (does-read reads home (subst
      (λ (x : Store). Does (grow_causes x n) (grow_work (index_file x).room n) (left x n) (GrowsIndex x n) (GainsSlots n) home read new)
      (store-read reads home) grows))
