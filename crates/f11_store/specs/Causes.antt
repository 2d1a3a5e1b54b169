-- Which refusal a request meets: for each request its causes, in the order in which they are judged (profile).
use Rattle.std.specs.Prelude.{ℕ, ◌+◌, ◌==◌, ◌&&◌, ◌||◌, Bool, true, false, not, nat_lt, List, [], ◌∷◌}
use Rattle.std.specs.Prelude.{length, Option, Some, None, is_none, is_some, if◌then◌else◌}
use Rattle.f11_store.specs.declared.callers.Uic.{Uic}
use Rattle.f11_store.specs.declared.files.FileId.{FileId}
use Rattle.f11_store.specs.declared.files.Mode.{Mode}
use Rattle.f11_store.specs.declared.files.Mode.TheVariants as mode
use Rattle.f11_store.specs.declared.files.Change.{Change}
use Rattle.f11_store.specs.declared.files.Change.TheVariants as change
use Rattle.f11_store.specs.declared.protection.Class.TheVariants as class
use Rattle.f11_store.specs.declared.protection.Right.{Right}
use Rattle.f11_store.specs.declared.protection.Right.TheVariants as right
use Rattle.f11_store.specs.declared.refusals.Refusal.{Refusal}
use Rattle.f11_store.specs.declared.refusals.Refusal.TheVariants.{
  BadArgument,
  NoSuchAccess,
  LunInUse,
  SystemFile,
  NoSuchFile,
  Marked,
  NoPrivilege,
  Conflict,
  NotDirectory,
}
use Rattle.f11_store.specs.declared.refusals.Refusal.TheVariants.{
  EndOfFile,
  NoSuchEntry,
  DuplicateName,
  IndexLimit,
  TooManySegments,
  DeviceFull,
  NoHeader,
  NotEmpty,
}
use Rattle.f11_store.specs.declared.requests.Request.{Request}
use Rattle.f11_store.specs.declared.requests.Request.TheVariants as request
use Rattle.f11_store.specs.Rights.{may, is_of}
use Rattle.f11_store.specs.File.{File, length_of, is_marked, need, run_need}
use Rattle.f11_store.specs.Store.{Store, Access, file_of, file_named, file_held, index_file}
use Rattle.f11_store.specs.Store.{free_headers, is_held, is_accessed, bars, bars_writing}
use Rattle.f11_store.specs.Directory.{is_directory, is_entered, needs_block}
use Rattle.f11_store.specs.Headroom.{lacks_headers, slots_first}

-- a refusal, and whether its cause holds
pub record Cause : Type 0 where
  pub refusal : Refusal
  pub holds : Bool

abbrev pub ◌⇐◌ : Refusal → Bool → Cause
r ⇐ b = record { refusal = r; holds = b }

infixl 3 ◌⇐◌
-- the first refusal whose cause holds
abbrev pub first_of : List Cause → Option Refusal
first_of [] = None
first_of (c ∷ cs) = if c.holds then Some c.refusal else first_of cs

-- a file number of 0, or a relative volume other than 0
abbrev pub is_bad : FileId → Bool
is_bad id = (id.number == 0) || not (id.volume == 0)

-- the lun holds no access
abbrev pub holds_none : Store → ℕ → ℕ → Bool
holds_none s task lun = is_none (s.access task lun)

-- the mode isn't Write
abbrev pub is_no_write : Mode → Bool
is_no_write mode.Read = true
is_no_write mode.Locked = true
is_no_write mode.Write = false

-- what is held isn't an access to write
abbrev pub is_no_writer : Option Access → Bool
is_no_writer None = true
is_no_writer (Some a) = is_no_write a.mode

-- the lun holds no access to write
abbrev pub cannot_write : Store → ℕ → ℕ → Bool
cannot_write s task lun = is_no_writer (s.access task lun)

-- the caller hasn't the right to the file
abbrev pub lacks : Right → Uic → File → Bool
lacks r caller f = not (may caller f.owner f.protection r)

-- the caller hasn't the rights that the mode of access asks for: reading, to write also writing
abbrev pub lacks_for : Mode → Uic → File → Bool
lacks_for mode.Read caller f = lacks right.Read caller f
lacks_for mode.Locked caller f = lacks right.Read caller f
lacks_for mode.Write caller f = lacks right.Read caller f || lacks right.Write caller f

-- the caller may not make the change: the protection is for the system and the owner, all else for writers
abbrev pub lacks_change : Change → Uic → File → Bool
lacks_change (change.Attr _) caller f = lacks right.Write caller f
lacks_change (change.Ident _) caller f = lacks right.Write caller f
lacks_change (change.Protect _) caller f = not (is_of caller f.owner class.System || is_of caller f.owner class.Owner)

-- no file has that number and sequence number
abbrev pub is_missing : Store → FileId → Bool
is_missing s id = is_none (file_of s id)

-- the causes against n more slots of the index file, as a file f: over 256 headers, too few blocks, too few headers
abbrev pub growth_causes : Store → File → ℕ → List Cause
growth_causes s f n =
    (TooManySegments ⇐ nat_lt 256 (length f.held + need f.room n))
    ∷ (DeviceFull ⇐ nat_lt s.free n)
    ∷ (NoHeader ⇐ nat_lt (free_headers s) (need f.room n))
    ∷ []

-- the causes against taking so many headers, and n blocks: too few blocks for these and for the slots that come first, headers that
-- can't be had
abbrev pub header_causes : Store → ℕ → ℕ → List Cause
header_causes s headers n =
    (DeviceFull ⇐ nat_lt s.free (n + slots_first s headers))
    ∷ (NoHeader ⇐ lacks_headers s headers)
    ∷ []

-- the causes against n more blocks of a file: over 256 headers, and those
abbrev pub extend_causes : Store → File → ℕ → List Cause
extend_causes s f n = (TooManySegments ⇐ nat_lt 256 (length f.held + need f.room n)) ∷ header_causes s (need f.room n) n

-- the same, where they are asked for
abbrev pub extend_causes_if : Bool → Store → File → ℕ → List Cause
extend_causes_if true s f n = extend_causes s f n
extend_causes_if false s f n = []

-- the causes against n blocks in one run for a file: it has a block, over 256 headers, too few free blocks, too few free headers; the index
-- file gets no slots first
abbrev pub contiguous_causes : Store → File → ℕ → List Cause
contiguous_causes s f n =
    (NotEmpty ⇐ nat_lt 0 (length_of f))
    ∷ (TooManySegments ⇐ nat_lt 256 (length f.held + run_need f.room n))
    ∷ (DeviceFull ⇐ nat_lt s.free n)
    ∷ (NoHeader ⇐ nat_lt (free_headers s) (run_need f.room n))
    ∷ []

-- the causes against a new file, which takes one header and no block
abbrev pub create_causes : Store → List Cause
create_causes s = header_causes s 1 0

-- the causes of each request; a file number of 0 is refused before files 1 to 3 (or 5) are judged by number alone
abbrev pub causes_of : Store → ℕ → Uic → Request → List Cause
causes_of s task caller (request.Create _ _ _) = create_causes s
causes_of s task caller (request.Extend lun n) =
    (BadArgument ⇐ (n == 0))
    ∷ (NoSuchAccess ⇐ cannot_write s task lun)
    ∷ (NoPrivilege ⇐ lacks right.Extend caller (file_held s task lun))
    ∷ extend_causes s (file_held s task lun) n
causes_of s task caller (request.Contiguous lun n) =
    (BadArgument ⇐ (n == 0))
    ∷ (NoSuchAccess ⇐ cannot_write s task lun)
    ∷ (NoPrivilege ⇐ lacks right.Extend caller (file_held s task lun))
    ∷ contiguous_causes s (file_held s task lun) n
causes_of s task caller (request.Truncate lun to) =
    (NoSuchAccess ⇐ cannot_write s task lun)
    ∷ (EndOfFile ⇐ nat_lt (length_of (file_held s task lun)) to)
    ∷ []
causes_of s task caller (request.Delete id) =
    (BadArgument ⇐ is_bad id)
    ∷ (SystemFile ⇐ nat_lt id.number 6)
    ∷ (NoSuchFile ⇐ is_missing s id)
    ∷ (Marked ⇐ (is_marked (file_named s id) && is_accessed s id))
    ∷ (NoPrivilege ⇐ lacks right.Delete caller (file_named s id))
    ∷ []
causes_of s task caller (request.GrowIndex n) =
    (BadArgument ⇐ (n == 0))
    ∷ (NoPrivilege ⇐ not (is_of caller caller class.System))
    ∷ (IndexLimit ⇐ nat_lt s.limit (s.slots + n))
    ∷ growth_causes s (index_file s) n
causes_of s task caller (request.Access id m lun) =
    (BadArgument ⇐ is_bad id)
    ∷ (LunInUse ⇐ is_some (s.access task lun))
    ∷ (SystemFile ⇐ nat_lt id.number 4)
    ∷ (NoSuchFile ⇐ is_missing s id)
    ∷ (Marked ⇐ is_marked (file_named s id))
    ∷ (NoPrivilege ⇐ lacks_for m caller (file_named s id))
    ∷ (Conflict ⇐ is_held (bars m) s id)
    ∷ []
causes_of s task caller (request.Deaccess lun) =
    (NoSuchAccess ⇐ holds_none s task lun)
    ∷ []
causes_of s task caller request.Release = []
causes_of s task caller (request.ReadBlock lun vbn) =
    (BadArgument ⇐ (vbn == 0))
    ∷ (NoSuchAccess ⇐ holds_none s task lun)
    ∷ (EndOfFile ⇐ nat_lt (length_of (file_held s task lun)) vbn)
    ∷ []
causes_of s task caller (request.WriteBlock lun vbn) =
    (BadArgument ⇐ (vbn == 0))
    ∷ (NoSuchAccess ⇐ cannot_write s task lun)
    ∷ (EndOfFile ⇐ nat_lt (length_of (file_held s task lun)) vbn)
    ∷ []
causes_of s task caller (request.Find d name) =
    (BadArgument ⇐ is_bad d)
    ∷ (SystemFile ⇐ nat_lt d.number 4)
    ∷ (NoSuchFile ⇐ is_missing s d)
    ∷ (Marked ⇐ is_marked (file_named s d))
    ∷ (NoPrivilege ⇐ lacks right.Read caller (file_named s d))
    ∷ (NotDirectory ⇐ not (is_directory (file_named s d)))
    ∷ (NoSuchEntry ⇐ not (is_entered name (file_named s d)))
    ∷ []
causes_of s task caller (request.Enter d name id) =
    (BadArgument ⇐ (is_bad d || is_bad id))
    ∷ (SystemFile ⇐ nat_lt d.number 4)
    ∷ (NoSuchFile ⇐ is_missing s d)
    ∷ (Marked ⇐ is_marked (file_named s d))
    ∷ (NoPrivilege ⇐ lacks right.Write caller (file_named s d))
    ∷ (Conflict ⇐ is_held bars_writing s d)
    ∷ (NotDirectory ⇐ not (is_directory (file_named s d)))
    ∷ (DuplicateName ⇐ is_entered name (file_named s d))
    ∷ extend_causes_if (needs_block (file_named s d)) s (file_named s d) 1
causes_of s task caller (request.Remove d name) =
    (BadArgument ⇐ is_bad d)
    ∷ (SystemFile ⇐ nat_lt d.number 4)
    ∷ (NoSuchFile ⇐ is_missing s d)
    ∷ (Marked ⇐ is_marked (file_named s d))
    ∷ (NoPrivilege ⇐ lacks right.Write caller (file_named s d))
    ∷ (Conflict ⇐ is_held bars_writing s d)
    ∷ (NotDirectory ⇐ not (is_directory (file_named s d)))
    ∷ (NoSuchEntry ⇐ not (is_entered name (file_named s d)))
    ∷ []
causes_of s task caller (request.ReadAttr id) =
    (BadArgument ⇐ is_bad id)
    ∷ (NoSuchFile ⇐ is_missing s id)
    ∷ []
causes_of s task caller (request.WriteAttr id c) =
    (BadArgument ⇐ is_bad id)
    ∷ (SystemFile ⇐ nat_lt id.number 4)
    ∷ (NoSuchFile ⇐ is_missing s id)
    ∷ (Marked ⇐ is_marked (file_named s id))
    ∷ (NoPrivilege ⇐ lacks_change c caller (file_named s id))
    ∷ []
causes_of s task caller request.Space = []

-- the first refusal whose cause holds
abbrev pub first_refusal : Store → ℕ → Uic → Request → Option Refusal
first_refusal s task caller r = first_of (causes_of s task caller r)
