-- What is asked of a volume, one thing after another, whatever it is that answers (profile).
use Rattle.std.specs.Prelude.{◌≡◌, ◌⊎◌, ℕ, suc, Bool, true, false, List, [], ◌∷◌, Result, Ok, Err}
use Rattle.f11_runs.specs.Each.{Steps, answer_with, call_with}
use Rattle.f11_store.specs.Causes.{holds_none}
use Rattle.f11_store.specs.File.{length_of}
use Rattle.f11_store.specs.Run.{Answer, Call}
use Rattle.f11_store.specs.Store.{Store, file_held}
use Rattle.f11_store.specs.declared.callers.Uic.{Uic}
use Rattle.f11_store.specs.declared.refusals.Refusal.{Refusal}
use Rattle.f11_store.specs.declared.refusals.Refusal.TheVariants.{Damaged, NoSuchAccess}
use Rattle.f11_store.specs.declared.requests.Reply.{Reply}
use Rattle.f11_store.specs.declared.requests.Request.{Request}
use Rattle.f11_store.specs.declared.requests.Request.TheVariants as request

-- who asks: a task, for a user
pub record Who : Type 0 where
  pub task : ℕ
  pub caller : Uic

abbrev pub who_asks : ℕ → Uic → Who
who_asks task caller = record { task = task; caller = caller }

-- What is asked: a request, whatever its reply is; one that has this reply; the block at a VBN of the file accessed by a lun,
-- which is given, or written; how many blocks that file has.
pub data Asking : Type 0 where
  asks : Request → Asking
  told : Request → Reply → Asking
  reads : ℕ → ℕ → List ℕ → Asking
  writes : ℕ → ℕ → List ℕ → Asking
  counts : ℕ → ℕ → Asking

-- What answers: how it may answer a call, and to a task how many blocks the file has that is accessed by a lun; and what there is then.
pub record FilesService (V : Type 0) : Type 1 where
  pub serves : V → Call → Answer → V → Type 0
  pub measures : ℕ → ℕ → Result ℕ Refusal → V → V → Type 0

-- the request was answered so, with this block lent, and this one in its place then
abbrev pub Answers : {V : Type 0} → FilesService V → Who → Request → List ℕ → Result Reply Refusal → List ℕ → V → V → Type 0
Answers S who r lent result given old new = S.serves old (call_with who.task who.caller r lent) (answer_with result given) new

-- it was granted,
abbrev pub Grants : {V : Type 0} → FilesService V → Who → Asking → V → V → Type 0
Grants S who (asks r) old new = (lent : List ℕ) × (reply : Reply) × (given : List ℕ) × Answers S who r lent (Ok reply) given old new
Grants S who (told r reply) old new = (lent : List ℕ) × (given : List ℕ) × Answers S who r lent (Ok reply) given old new
Grants S who (reads lun vbn block) old new =
    (lent : List ℕ) × (reply : Reply) × Answers S who (request.ReadBlock lun vbn) lent (Ok reply) block old new
Grants S who (writes lun vbn block) old new =
    (reply : Reply) × (given : List ℕ) × Answers S who (request.WriteBlock lun vbn) block (Ok reply) given old new
Grants S who (counts lun blocks) old new = S.measures who.task lun (Ok blocks) old new

-- or refused
abbrev pub Denies : {V : Type 0} → FilesService V → Who → Asking → Refusal → V → V → Type 0
Denies S who (asks r) e old new = (lent : List ℕ) × (given : List ℕ) × Answers S who r lent (Err e) given old new
Denies S who (told r reply) e old new = (lent : List ℕ) × (given : List ℕ) × Answers S who r lent (Err e) given old new
Denies S who (reads lun vbn block) e old new =
    (lent : List ℕ) × (given : List ℕ) × Answers S who (request.ReadBlock lun vbn) lent (Err e) given old new
Denies S who (writes lun vbn block) e old new = (given : List ℕ) × Answers S who (request.WriteBlock lun vbn) block (Err e) given old new
Denies S who (counts lun blocks) e old new = S.measures who.task lun (Err e) old new

-- it was refused, or had a reply of another kind, as no honest device gives: that is Damaged
abbrev pub Fails : {V : Type 0} → FilesService V → Who → (Reply → Bool) → Request → Refusal → V → V → Type 0
Fails S who is_right r e old new =
    (Denies S who (asks r) e old new) ⊎ ((reply : Reply) × (is_right reply ≡ false) × (e ≡ Damaged) × (Grants S who (told r reply) old new))

-- all of these were granted, one after another
abbrev pub Granted : {V : Type 0} → FilesService V → Who → List Asking → V → V → Type 0
Granted S who [] old new = new ≡ old
Granted {V} S who (x ∷ xs) old new = (between : V) × (Grants S who x old between) × (Granted S who xs between new)

-- those before one were granted, and that one was refused
abbrev pub BreaksOffAsking : {V : Type 0} → FilesService V → Who → List Asking → Refusal → V → V → Type 0
BreaksOffAsking S who [] e old new = ⊥
BreaksOffAsking {V} S who (x ∷ xs) e old new =
    (Denies S who x e old new) ⊎ ((between : V) × (Grants S who x old between) × (BreaksOffAsking S who xs e between new))

-- each was asked, one after another, and was granted or refused
abbrev pub Tried : {V : Type 0} → FilesService V → Who → List Asking → V → V → Type 0
Tried S who [] old new = new ≡ old
Tried {V} S who (x ∷ xs) old new =
    (between : V) × ((Grants S who x old between) ⊎ ((e : Refusal) × Denies S who x e old between)) × (Tried S who xs between new)

-- what the plain store answers to who asks for a length
abbrev pub IsMeasured : ℕ → ℕ → Result ℕ Refusal → Store → Store → Type 0
IsMeasured task lun (Ok blocks) s s' = (holds_none s task lun ≡ false) × (blocks ≡ length_of (file_held s task lun)) × (s' ≡ s)
IsMeasured task lun (Err e) s s' = (holds_none s task lun ≡ true) × (e ≡ NoSuchAccess) × (s' ≡ s)

-- the plain store
abbrev pub plain : FilesService Store
plain = record { serves = Steps; measures = IsMeasured }

-- blocks of the file accessed by a lun, one after another behind so many: each is given, or written
abbrev pub reads_of : ℕ → ℕ → List (List ℕ) → List Asking
reads_of lun before [] = []
reads_of lun before (block ∷ more) = reads lun (suc before) block ∷ reads_of lun (suc before) more

abbrev pub writes_of : ℕ → ℕ → List (List ℕ) → List Asking
writes_of lun before [] = []
writes_of lun before (block ∷ more) = writes lun (suc before) block ∷ writes_of lun (suc before) more
