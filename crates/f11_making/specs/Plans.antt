-- What is done to a file by its name, each as the plan of what it asks (profile).
use Rattle.std.specs.Prelude.{◌==◌, ◌&&◌, not, ◌+◌, ◌*◌, ◌/◌, ◌∷◌, ℕ, take, Bool, true, false, if◌then◌else◌, nat_lt, min, replicate}
use Rattle.std.specs.Prelude.{slice_index_or}
use Rattle.std.specs.Prelude.{List, Result, Ok, Err}
use Rattle.f11_bytes.specs.Part.{with_bytes}
use Rattle.f11_bytes.specs.Words.{long, long_bytes, word}
use Rattle.std.specs.Int.{bit_at}
use Rattle.f11_store.specs.File.{stated_end}
use Rattle.f11_store.specs.Ident.{ident_with}
use Rattle.f11_store.specs.declared.callers.Uic.{Uic}
use Rattle.f11_store.specs.declared.files.Attr.{Attr}
use Rattle.f11_store.specs.declared.files.Change.TheVariants as change
use Rattle.f11_store.specs.declared.files.FileId.{FileId}
use Rattle.f11_store.specs.declared.files.Mode.TheVariants as mode
use Rattle.f11_store.specs.declared.refusals.Refusal.{Refusal}
use Rattle.f11_store.specs.declared.refusals.Refusal.TheVariants as refusal
use Rattle.f11_store.specs.declared.requests.Request.{Request}
use Rattle.f11_store.specs.declared.requests.Request.TheVariants as request
use Rattle.f11_making.specs.FilesPlan.{FilesPlan, counts, describes, done, if_granted, names, names_for, one, or_undone, undoing}
use Rattle.f11_making.specs.Plan.{and_then, gives}

-- files 1 to 5 are the volume's own, and nothing is done to them by their names
abbrev pub is_own : FileId → Bool
is_own id = nat_lt id.number 6

-- nor to one of another volume of a set
abbrev pub judged_by : Bool → FileId → Result FileId Refusal
judged_by true id = Err refusal.SystemFile
judged_by false id = if id.volume == 0 then Ok id else Err refusal.BadArgument

abbrev pub not_own : Result FileId Refusal → Result FileId Refusal
not_own (Ok id) = judged_by (is_own id) id
not_own (Err e) = Err e

-- the file of a name is found, unless it is one of these
abbrev pub finds_other : FileId → List ℕ → FilesPlan (Result FileId Refusal)
finds_other dir name = and_then (one (names (request.Find dir name))) (λ found. gives (not_own found))

-- there is no such file
abbrev pub is_gone : Refusal → Bool
is_gone refusal.NoSuchFile = true
is_gone _ = false

-- where a file can't be deleted its name is entered again, but where there is no such file the name was all
abbrev pub unless_gone : Request → Result (Unit {0}) Refusal → FilesPlan (Result (Unit {0}) Refusal)
unless_gone r (Ok x) = gives (Ok x)
unless_gone r (Err e) = if is_gone e then gives (Ok tt) else undoing r e

-- a file is deleted under a name: that is removed, and then itself
abbrev pub removes : FileId → List ℕ → FileId → FilesPlan (Result (Unit {0}) Refusal)
removes dir name id =
    if_granted (one (done (request.Remove dir name))) (λ x.
    and_then (one (done (request.Delete id))) (unless_gone (request.Enter dir name id)))

abbrev pub deletes : FileId → List ℕ → FilesPlan (Result (Unit {0}) Refusal)
deletes dir name = if_granted (finds_other dir name) (λ id. removes dir name id)

-- a lower version of a name: the same name and type, four words, and a lower number, the fifth (Files-11 On-Disk Structure Level 1,
-- "Directories")
abbrev pub has_word : ℕ → List ℕ → List ℕ → Bool
has_word k name other = slice_index_or name k 0 == slice_index_or other k 0

abbrev pub is_lower : List ℕ → List ℕ → Bool
is_lower name highest =
    has_word 0 name highest
    && (has_word 1 name highest
    && (has_word 2 name highest && (has_word 3 name highest && nat_lt (slice_index_or name 4 0) (slice_index_or highest 4 0))))

-- a file for which others go: it isn't marked for delete (SC.MDL, bit 15 of the characteristics), and it was closed since it was written
-- (UC.DLK, bit 6) (Files-11 On-Disk Structure Level 1, H.UCHA, H.SCHA)
abbrev pub judged_kept : ℕ → ℕ → Result (Unit {0}) Refusal
judged_kept marked opened = if marked == 1 then Err refusal.Marked else if opened == 1 then Err refusal.BadArgument else Ok tt

abbrev pub judges_kept : Attr → Result (Unit {0}) Refusal
judges_kept of = judged_kept (bit_at of.characteristics 15) (bit_at of.characteristics 6)

-- a name that leads to the file which is kept is removed, and where it leads to another that is deleted with it
abbrev pub removes_but : Bool → FileId → List ℕ → FileId → FilesPlan (Result (Unit {0}) Refusal)
removes_but true dir name id = one (done (request.Remove dir name))
removes_but false dir name id = removes dir name id

-- so it is done where a file may be kept
abbrev pub purges_by : Result (Unit {0}) Refusal → FileId → FileId → List ℕ → FilesPlan (Result (Unit {0}) Refusal)
purges_by (Ok x) kept dir name = if_granted (finds_other dir name) (λ id. removes_but (id.number == kept.number) dir name id)
purges_by (Err e) kept dir name = gives (Err e)

-- the file of the highest version is kept: it is there, and then so
abbrev pub purges : FileId → List ℕ → List ℕ → FilesPlan (Result (Unit {0}) Refusal)
purges dir name highest =
    if_granted (one (names (request.Find dir highest))) (λ kept.
    if_granted (one (describes kept)) (λ of. purges_by (judges_kept of) kept dir name))

abbrev pub purges_if : Bool → FileId → List ℕ → List ℕ → FilesPlan (Result (Unit {0}) Refusal)
purges_if true dir name highest = purges dir name highest
purges_if false dir name highest = gives (Err refusal.BadArgument)

-- an ident area with another name, the first five of its words (Files-11 On-Disk Structure Level 1, "Ident Area")
abbrev pub with_name : List ℕ → List ℕ → List ℕ
with_name name ident = with_bytes ident 0 (take 10 (ident_with name))

-- the header of a file with this ident area gets another name, and then the old one is removed; the header has it again where that is
-- refused
abbrev pub retitles : FileId → List ℕ → List ℕ → FileId → List ℕ → FilesPlan (Result (Unit {0}) Refusal)
retitles dir old new id ident =
    if_granted (one (done (request.WriteAttr id (change.Ident (with_name new ident))))) (λ x.
    or_undone (request.WriteAttr id (change.Ident ident)) (one (done (request.Remove dir old))))

-- a name of a file becomes another: entered there, and then so; what was entered is taken back where that is refused
abbrev pub moves : FileId → List ℕ → FileId → List ℕ → FileId → List ℕ → FilesPlan (Result (Unit {0}) Refusal)
moves dir old to new id ident =
    if_granted (one (done (request.Enter to new id))) (λ x. or_undone (request.Remove to new) (retitles dir old new id ident))

-- a name is a directory's, and so is the name at the front of an ident area: its type, the fourth word, is `DIR` in Radix-50 (Files-11
-- On-Disk Structure Level 1, "Directories")
abbrev pub is_directory_name : List ℕ → Bool
is_directory_name words = slice_index_or words 3 0 == 6778

abbrev pub is_directory_ident : List ℕ → Bool
is_directory_ident ident = word ident 6 == 6778

-- a directory stays one, and no other file becomes one; and no directory is entered into itself
abbrev pub may_move : FileId → List ℕ → FileId → List ℕ → Bool
may_move to new id ident =
    not (id.number == to.number) && (if is_directory_name new then is_directory_ident ident else not (is_directory_ident ident))

abbrev pub moves_if : Bool → FileId → List ℕ → FileId → List ℕ → FileId → List ℕ → FilesPlan (Result (Unit {0}) Refusal)
moves_if true dir old to new id ident = moves dir old to new id ident
moves_if false dir old to new id ident = gives (Err refusal.BadArgument)

-- a file is renamed
abbrev pub renames : FileId → List ℕ → FileId → List ℕ → FilesPlan (Result (Unit {0}) Refusal)
renames dir old to new =
    if_granted (finds_other dir old) (λ id.
    if_granted (one (describes id)) (λ was. moves_if (may_move to new id was.ident) dir old to new id was.ident))

-- a file gets this protection
abbrev pub sets : FileId → ℕ → FilesPlan (Result (Unit {0}) Refusal)
sets id protection = one (done (request.WriteAttr id (change.Protect protection)))

abbrev pub protects : FileId → List ℕ → ℕ → FilesPlan (Result (Unit {0}) Refusal)
protects dir name protection = if_granted (finds_other dir name) (λ id. sets id protection)

-- the blocks up to the end that attributes state, rounded up, but no more than there are
abbrev pub blocks_to_end : List ℕ → ℕ → ℕ
blocks_to_end attr blocks = (min (stated_end attr) (512 * blocks) + 511) / 512

-- attributes that state so many blocks, F.HIBK (byte 4) (Files-11 On-Disk Structure Level 1, file attributes)
abbrev pub with_blocks : List ℕ → ℕ → List ℕ
with_blocks attr blocks = with_bytes attr 4 (long_bytes blocks)

-- a file that is accessed keeps so many blocks, and its attributes state them
abbrev pub keeps : ℕ → FileId → List ℕ → ℕ → FilesPlan (Result (Unit {0}) Refusal)
keeps lun id attr blocks =
    if_granted (one (done (request.Truncate lun blocks))) (λ x.
    one (done (request.WriteAttr id (change.Attr (with_blocks attr blocks)))))

-- those up to its end
abbrev pub shortens : ℕ → FileId → List ℕ → FilesPlan (Result (Unit {0}) Refusal)
shortens lun id attr = if_granted (one (counts lun)) (λ blocks. keeps lun id attr (blocks_to_end attr blocks))

-- and is given up, whether or not that is refused
abbrev pub cuts_held : ℕ → FileId → List ℕ → FilesPlan (Result (Unit {0}) Refusal)
cuts_held lun id attr = if_granted (or_undone (request.Deaccess lun) (shortens lun id attr)) (λ x. one (done (request.Deaccess lun)))

-- it is accessed, and then so
abbrev pub cuts : ℕ → FileId → List ℕ → FilesPlan (Result (Unit {0}) Refusal)
cuts lun id attr = if_granted (one (done (request.Access id mode.Write lun))) (λ x. cuts_held lun id attr)

-- a file states an end: its attributes name a type of records, and the block that the end is in (F.EFBK, byte 8), and it was closed since
-- it was written: UC.DLK, bit 6 of the characteristics, isn't set (Files-11 On-Disk Structure Level 1, file attributes, H.UCHA)
abbrev pub states_end : Attr → Bool
states_end of = nat_lt 0 (slice_index_or of.attr 0 0) && (nat_lt 0 (long of.attr 8) && (bit_at of.characteristics 6 == 0))

abbrev pub cuts_if : Bool → ℕ → FileId → List ℕ → FilesPlan (Result (Unit {0}) Refusal)
cuts_if true lun id attr = cuts lun id attr
cuts_if false lun id attr = gives (Err refusal.BadArgument)

-- a file loses the blocks behind its end, where it states one
abbrev pub truncates : ℕ → FileId → List ℕ → FilesPlan (Result (Unit {0}) Refusal)
truncates lun dir name =
    if_granted (finds_other dir name) (λ id.
    if_granted (one (describes id)) (λ of. cuts_if (states_end of) lun id of.attr))

-- an empty file is made for its owner: created, entered and protected, and deleted where that is refused
abbrev pub enters : FileId → List ℕ → ℕ → FileId → FilesPlan (Result (Unit {0}) Refusal)
enters dir name protection id =
    if_granted (one (done (request.Enter dir name id))) (λ x. sets id protection)

abbrev pub makes_empty : Uic → FileId → List ℕ → ℕ → List ℕ → FilesPlan (Result (Unit {0}) Refusal)
makes_empty owner dir name protection attr =
    if_granted (one (names_for owner (request.Create 0 (ident_with name) attr))) (λ id.
    or_undone (request.Delete id) (enters dir name protection id))

-- the attributes of a directory without records: those of 16 bytes (Files-11 On-Disk Structure Level 1, "Directories")
abbrev pub directory_attributes : List ℕ
directory_attributes = 1 ∷ 0 ∷ 16 ∷ replicate 29 0

-- there is no such name
abbrev pub is_absent : Refusal → Bool
is_absent refusal.NoSuchEntry = true
is_absent _ = false

-- where a name was looked for and isn't there something is done, and else that is a duplicate
abbrev pub on_absent : FilesPlan (Result (Unit {0}) Refusal) → Result FileId Refusal → FilesPlan (Result (Unit {0}) Refusal)
on_absent p (Ok id) = gives (Err refusal.DuplicateName)
on_absent p (Err e) = if is_absent e then p else gives (Err e)

-- a directory without records is made, whose name the master file directory hasn't yet
abbrev pub makes_directory : Uic → FileId → List ℕ → ℕ → FilesPlan (Result (Unit {0}) Refusal)
makes_directory owner master name protection =
    and_then (one (names (request.Find master name))) (on_absent (makes_empty owner master name protection directory_attributes))
