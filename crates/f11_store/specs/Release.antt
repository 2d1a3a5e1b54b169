-- What stands while a task's accesses are given up one after another.
use Rattle.std.specs.Prelude.{◌≡◌, ℕ, ◌+◌, ◌<◌, ◌≤◌, List, fold}
use Rattle.std.specs.List.{range_with_len}
use Rattle.f11_store.specs.declared.callers.Uic.{Uic}
use Rattle.f11_store.specs.declared.requests.Request.TheVariants as request
use Rattle.f11_store.specs.Store.{Store}
use Rattle.f11_store.specs.Changes.{after_deaccess}
use Rattle.f11_store.specs.Cost.{deaccess_cost, release_cost, cost}
use Rattle.f11_store.specs.Lags.{deaccess_work, release_work, LagsBy, Lags}
use Rattle.f11_store.specs.Moments.{Did}

-- the store after the first so many luns
abbrev pub released : Store → ℕ → ℕ → Store
released s task k = fold (λ t lun. after_deaccess t task lun) s (range_with_len 0 k)

-- Deaccess does its work
abbrev pub DeaccessDid : Type 0
DeaccessDid = (s : Store) (task lun : ℕ) → Did (deaccess_work s task lun) (after_deaccess s task lun) s

-- so do several, one after another
abbrev pub ReleasedDid : Type 0
ReleasedDid = (s : Store) (task : ℕ) (luns : List ℕ) → Did (release_work s task luns) (fold (λ t lun. after_deaccess t task lun) s luns) s

-- what lags the store so far by the Deaccess of lun k lags the store before by Release
abbrev pub ReleaseLags : Type 0
ReleaseLags =
    (t s : Store) (task : ℕ) (caller : Uic) (block : List ℕ) (k : ℕ) → k < 4 →
    LagsBy (deaccess_work (released s task k) task k) t (released s task k) →
    Lags t s task caller request.Release block

-- one lun more
abbrev pub ReleaseGoesOn : Type 0
ReleaseGoesOn = (s : Store) (task k : ℕ) → released s task (k + 1) ≡ after_deaccess (released s task k) task k

-- the cost of the first so many luns
abbrev pub released_cost : Store → ℕ → ℕ → ℕ
released_cost s task k = release_cost s task (range_with_len 0 k)

abbrev pub ReleaseCostGoesOn : Type 0
ReleaseCostGoesOn =
    (s : Store) (task k : ℕ) → released_cost s task (k + 1) ≡ released_cost s task k + deaccess_cost (released s task k) task k

abbrev pub ReleaseFits : Type 0
ReleaseFits = (s : Store) (task k : ℕ) → k ≤ 4 → released_cost s task k ≤ cost s task request.Release
