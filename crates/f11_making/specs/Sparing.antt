-- Which files of the plain store a plan leaves as they are (profile).
use Rattle.std.specs.Prelude.{◌≡◌, ◌⊎◌, ◌==◌, ℕ, Bool, true, false, List, Result}
use Rattle.f11_store.specs.Store.{Store}
use Rattle.f11_store.specs.declared.files.FileId.{FileId}
use Rattle.f11_store.specs.declared.refusals.Refusal.{Refusal}
use Rattle.f11_store.specs.declared.requests.Reply.TheVariants as reply
use Rattle.f11_store.specs.declared.requests.Request.{Request}
use Rattle.f11_store.specs.declared.requests.Request.TheVariants as request
use Rattle.f11_making.specs.Actions.{plan_of}
use Rattle.f11_making.specs.Asking.{Grants, Who, plain, told}
use Rattle.f11_making.specs.FilesPlan.{Carried, Question, counts, describes, done, names, names_for, reads, writes}
use Rattle.f11_making.specs.declared.action.Action.{Action}
use Rattle.f11_making.specs.declared.action.Action.TheVariants as action

-- A request that needs no access may change this file, but for the index file, from which any may take slots: to find one or to ask for
-- attributes changes none, what is done to a directory changes that, and what is done to a file that.
abbrev pub may_change : Request → ℕ → Bool
may_change (request.Find dir name) n = false
may_change (request.ReadAttr id) n = false
may_change (request.Enter dir name id) n = n == dir.number
may_change (request.Remove dir name) n = n == dir.number
may_change (request.Delete id) n = n == id.number
may_change (request.WriteAttr id change) n = n == id.number
may_change _ n = true

-- a question asks for nothing that may change the file
abbrev pub Spares : ℕ → Question → Type 0
Spares n (done r) = may_change r n ≡ false
Spares n (names r) = may_change r n ≡ false
Spares n (names_for user r) = may_change r n ≡ false
Spares n (describes id) = Unit {0}
Spares n (counts lun) = Unit {0}
Spares n (reads lun vbn) = ⊥
Spares n (writes lun vbn block) = ⊥

-- who asks finds this file under a name of a directory
abbrev pub Finds : Who → FileId → List ℕ → Store → FileId → Type 0
Finds who dir name s id = Grants plain who (told (request.Find dir name) (reply.Found id)) s s

-- file n isn't the one of a name
abbrev pub IsNot : ℕ → Who → FileId → List ℕ → Store → Type 0
IsNot n who dir name s = (id : FileId) → Finds who dir name s id → (n == id.number) ≡ false

-- nor one that a directory of a name has under another
abbrev pub IsNotWithin : ℕ → Who → FileId → List ℕ → List ℕ → Store → Type 0
IsNotWithin n who master directory name s = (dir : FileId) → Finds who master directory s dir → IsNot n who dir name s

-- it is the one of a name
abbrev pub Is : ℕ → Who → FileId → List ℕ → Store → Type 0
Is n who dir name s = (id : FileId) → Finds who dir name s id → (n == id.number) ≡ true

-- file n isn't one that a directory has under a name, or it is the one that it has under another, which is kept
abbrev pub IsNotBut : ℕ → Who → FileId → List ℕ → List ℕ → List ℕ → Store → Type 0
IsNotBut n who master directory name highest s =
    (dir : FileId) → Finds who master directory s dir → (IsNot n who dir name s) ⊎ (Is n who dir highest s)

-- File n is none that an action names: not a directory in which it enters or removes a name, nor the file that it deletes, renames,
-- protects or truncates, or purges, unless it is that of the highest version; and its slot is in use, where a file is made.
abbrev pub IsUnnamed : ℕ → Who → FileId → Action → Store → Type 0
IsUnnamed n who master (action.Delete directory name) s =
    IsNot n who master directory s × IsNotWithin n who master directory name s
IsUnnamed n who master (action.Purge directory name highest) s =
    IsNot n who master directory s × IsNotBut n who master directory name highest s
IsUnnamed n who master (action.Rename directory name to new) s =
    IsNot n who master directory s × IsNot n who master to s × IsNotWithin n who master directory name s
IsUnnamed n who master (action.Protect directory name protection) s = IsNotWithin n who master directory name s
IsUnnamed n who master (action.Truncate directory name) s = IsNotWithin n who master directory name s
IsUnnamed n who master (action.MakeDirectory name owner protection) s = ((n == master.number) ≡ false) × (s.in_use n ≡ true)

-- an action that was carried out, or refused, leaves each file that it doesn't name as it was, but for the index file
abbrev pub ActionsSpareOthers : Type 0
ActionsSpareOthers =
    (who : Who) (lun : ℕ) (master : FileId) (a : Action) (result : Result (Unit {0}) Refusal) (s t : Store) (n : ℕ) →
    Carried plain who (plan_of lun master a) result s t → (n == 1) ≡ false → IsUnnamed n who master a s → t.file n ≡ s.file n
