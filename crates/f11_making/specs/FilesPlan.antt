-- What a command asks of a volume, each thing by what was answered before, whatever it is that answers (profile).
use Rattle.std.specs.Prelude.{◌≡◌, ℕ, Bool, true, false, if◌then◌else◌, List, Result, Ok, Err, Option, Some, None, is_some}
use Rattle.f11_store.specs.declared.callers.Uic.{Uic}
use Rattle.f11_store.specs.declared.files.Attr.{Attr}
use Rattle.f11_store.specs.declared.files.FileId.{FileId}
use Rattle.f11_store.specs.declared.refusals.Refusal.{Refusal}
use Rattle.f11_store.specs.declared.requests.Reply.{Reply}
use Rattle.f11_store.specs.declared.requests.Reply.TheVariants as reply
use Rattle.f11_store.specs.declared.requests.Request.{Request}
use Rattle.f11_store.specs.declared.requests.Request.TheVariants as request
use Rattle.f11_fcp.specs.files.Answers.{is_fatal}
use Rattle.f11_making.specs.Asking.{Denies, Fails, Grants, FilesService, Who, asks, told, who_asks}
use Rattle.f11_making.specs.Asking.{counts as counts_blocks, reads as reads_block, writes as writes_block}
use Rattle.f11_making.specs.Plan.{Goes, Plan, and_then, asking, gives}

-- What is asked: that a request is done, whatever its reply is; which file its reply names, of the one who asks, or for another user;
-- what attributes a file has; how many blocks the file has that is accessed by a lun; the block at a VBN of it; that this block is written
-- there.
pub data Question : Type 0 where
  done : Request → Question
  names : Request → Question
  names_for : Uic → Request → Question
  describes : FileId → Question
  counts : ℕ → Question
  reads : ℕ → ℕ → Question
  writes : ℕ → ℕ → List ℕ → Question

abbrev pub AnswerOf : Question → Type 0
AnswerOf (done r) = Unit {0}
AnswerOf (names r) = FileId
AnswerOf (names_for user r) = FileId
AnswerOf (describes id) = Attr
AnswerOf (counts lun) = ℕ
AnswerOf (reads lun vbn) = List ℕ
AnswerOf (writes lun vbn block) = Unit {0}

-- the file that the reply to a request names: the one created, or found
abbrev pub file_in : Request → Reply → Option FileId
file_in (request.Create protection ident attr) (reply.Created id) = Some id
file_in (request.Find dir name) (reply.Found id) = Some id
file_in _ _ = None

abbrev pub names_file : Request → Reply → Bool
names_file r a = is_some (file_in r a)

-- so it was asked, and answered
abbrev pub AsksFile : {V : Type 0} → FilesService V → Who → Request → Result FileId Refusal → V → V → Type 0
AsksFile S who r (Ok id) old new = (a : Reply) × (file_in r a ≡ Some id) × Grants S who (told r a) old new
AsksFile S who r (Err e) old new = Fails S who (names_file r) r e old new

-- the attributes that a reply tells
abbrev pub attributes_in : Reply → Option Attr
attributes_in (reply.Attr x) = Some x
attributes_in _ = None

abbrev pub tells_attributes : Reply → Bool
tells_attributes a = is_some (attributes_in a)

-- the same task, for another user
abbrev pub for_user : Uic → Who → Who
for_user user who = who_asks who.task user

-- it was asked, and so answered
abbrev pub Asks : {V : Type 0} → FilesService V → Who → (q : Question) → Result (AnswerOf q) Refusal → V → V → Type 0
Asks S who (done r) (Ok x) old new = Grants S who (asks r) old new
Asks S who (done r) (Err e) old new = Denies S who (asks r) e old new
Asks S who (names r) answer old new = AsksFile S who r answer old new
Asks S who (names_for user r) answer old new = AsksFile S (for_user user who) r answer old new
Asks S who (describes id) (Ok x) old new =
    (a : Reply) × (attributes_in a ≡ Some x) × Grants S who (told (request.ReadAttr id) a) old new
Asks S who (describes id) (Err e) old new = Fails S who tells_attributes (request.ReadAttr id) e old new
Asks S who (counts lun) (Ok blocks) old new = Grants S who (counts_blocks lun blocks) old new
Asks S who (counts lun) (Err e) old new = Denies S who (counts_blocks lun 0) e old new
Asks S who (reads lun vbn) (Ok block) old new = Grants S who (reads_block lun vbn block) old new
Asks S who (reads lun vbn) (Err e) old new = (block : List ℕ) × Denies S who (reads_block lun vbn block) e old new
Asks S who (writes lun vbn block) (Ok x) old new = Grants S who (writes_block lun vbn block) old new
Asks S who (writes lun vbn block) (Err e) old new = Denies S who (writes_block lun vbn block) e old new

-- a plan of what is asked of a volume
abbrev pub FilesPlan : Type 0 → Type 0
FilesPlan T = Plan Question (λ q. Result (AnswerOf q) Refusal) T

-- it was carried out by who asks, and gave this
abbrev pub Carried : {V T : Type 0} → FilesService V → Who → FilesPlan T → T → V → V → Type 0
Carried S who p result old new = Goes (Asks S who) p result old new

-- one thing alone
abbrev pub one : (q : Question) → FilesPlan (Result (AnswerOf q) Refusal)
one q = asking q (λ a. gives a)

-- what follows where it is granted: the first refusal breaks it off
abbrev pub on_ok : {T U : Type 0} → (T → FilesPlan (Result U Refusal)) → Result T Refusal → FilesPlan (Result U Refusal)
on_ok on (Ok x) = on x
on_ok on (Err e) = gives (Err e)

abbrev pub if_granted : {T U : Type 0} → FilesPlan (Result T Refusal) → (T → FilesPlan (Result U Refusal)) → FilesPlan (Result U Refusal)
if_granted p on = and_then p (on_ok on)

-- What undoes something after a refusal: nothing after a device fault or Damaged; else it is asked, and the refusal stays what it was,
-- unless that meets a device fault or Damaged.
abbrev pub worse : {T : Type 0} → Refusal → Result T Refusal → Refusal
worse e (Ok x) = e
worse e (Err f) = if is_fatal f then f else e

abbrev pub undoing_if : {T : Type 0} → Bool → Request → Refusal → FilesPlan (Result T Refusal)
undoing_if true r e = gives (Err e)
undoing_if false r e = asking (done r) (λ a. gives (Err (worse e a)))

abbrev pub undoing : {T : Type 0} → Request → Refusal → FilesPlan (Result T Refusal)
undoing r e = undoing_if (is_fatal e) r e

abbrev pub on_err : {T : Type 0} → Request → Result T Refusal → FilesPlan (Result T Refusal)
on_err r (Ok x) = gives (Ok x)
on_err r (Err e) = undoing r e

abbrev pub or_undone : {T : Type 0} → Request → FilesPlan (Result T Refusal) → FilesPlan (Result T Refusal)
or_undone r p = and_then p (on_err r)
