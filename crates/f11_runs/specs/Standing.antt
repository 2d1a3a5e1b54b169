-- Stores whose accesses and slots are right, and stay so whatever tasks ask (profile).
use Rattle.std.specs.Prelude.{◌≡◌, ◌≢◌, ℕ, ◌<◌, Bool, true, false, List, [], ◌∷◌, take, Option, Some, None}
use Rattle.f11_store.specs.declared.requests.Request.{Request}
use Rattle.f11_store.specs.declared.requests.Request.TheVariants as request
use Rattle.f11_store.specs.Accesses.{FreeIsEmpty}
use Rattle.f11_store.specs.Causes.{is_missing}
use Rattle.f11_store.specs.Changes.{is_in}
use Rattle.f11_store.specs.File.{File}
use Rattle.f11_store.specs.Run.{Call, Answer}
use Rattle.f11_store.specs.Store.{Store, Access}
use Rattle.f11_runs.specs.Each.{Each, Steps, Within}

-- what is held is an access to a file that is missing
abbrev pub is_lost : Store → Option Access → Bool
is_lost s None = false
is_lost s (Some a) = is_missing s a.file

-- Each access of a task is to a file that is there.
abbrev pub AccessesStand : Store → Type 0
AccessesStand s = (task lun : ℕ) → task < 8 → lun < 4 → is_lost s (s.access task lun) ≡ false

-- no number stands in the list twice
abbrev pub AreDistinct : List ℕ → Type 0
AreDistinct [] = Unit {0}
AreDistinct (x ∷ xs) = (is_in xs x ≡ false) × AreDistinct xs

-- A file holds its own slot first, each slot that it holds is in use, and none is held twice (file header).
pub record HoldsItsOwn (s : Store) (n : ℕ) (f : File) : Type 0 where
  pub first : take 1 f.held ≡ n ∷ []
  pub used : (m : ℕ) → is_in f.held m ≡ true → s.in_use m ≡ true
  pub once : AreDistinct f.held

-- So does each file, and no two files hold one slot (file header).
pub record HoldApart (s : Store) : Type 0 where
  pub each : (n : ℕ) (f : File) → s.file n ≡ Some f → HoldsItsOwn s n f
  pub apart : (n m k : ℕ) (f g : File) → n ≢ m → s.file n ≡ Some f → s.file m ≡ Some g → is_in f.held k ≡ true → is_in g.held k ≡ false

-- A store stands: each access is to a file that is there, and files hold their slots apart.
pub record IsStanding (s : Store) : Type 0 where
  pub accesses : AccessesStand s
  pub slots : HoldApart s

-- Calls were answered by steps, at each store of which no file is in a slot that isn't in use.
abbrev pub TidyRun : Store → List Call → List Answer → Store → Type 0
TidyRun s calls answers s' = Each (Within FreeIsEmpty Steps) s calls answers s'

-- the lun of a request, where it has one
abbrev pub lun_of : Request → ℕ
lun_of (request.Extend lun n) = lun
lun_of (request.Contiguous lun n) = lun
lun_of (request.Truncate lun to) = lun
lun_of (request.Access id m lun) = lun
lun_of (request.Deaccess lun) = lun
lun_of (request.ReadBlock lun vbn) = lun
lun_of (request.WriteBlock lun vbn) = lun
lun_of _ = 0

-- The call is one of a task and a lun that there are: tasks are 0 to 7, luns 0 to 3.
pub record IsTasks (c : Call) : Type 0 where
  pub task : c.task < 8
  pub lun : lun_of c.request < 4
