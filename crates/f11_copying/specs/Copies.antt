-- How a file is made of the blocks of a source (profile: the order; what a file is, Files-11 On-Disk Structure Level 1, "File Header").
use Rattle.std.specs.Prelude.{ℕ, zero, suc, ◌==◌, Bool, true, false, List, replicate, Option, Some, None, Result, Ok, Err}
use Rattle.f11_bytes.specs.Part.{with_bytes}
use Rattle.f11_store.specs.declared.files.Change.TheVariants as change
use Rattle.f11_store.specs.declared.files.FileId.{FileId}
use Rattle.f11_store.specs.declared.files.Mode.TheVariants as mode
use Rattle.f11_store.specs.declared.requests.Request.TheVariants as request
use Rattle.f11_making.specs.FilesPlan.{done, names_for, writes}
use Rattle.f11_making.specs.Plan.{asking, gives}
use Rattle.f11_copying.specs.Courses.{Course, ask, if_granted, next_block, or_else, or_undone}
use Rattle.f11_copying.specs.declared.fault.CopyFault.{CopyFault}
use Rattle.f11_copying.specs.declared.fault.CopyFault.TheVariants.{Unread}
use Rattle.f11_copying.specs.declared.file.FileToMake.{FileToMake}

-- so many blocks of the source are written to the file that is accessed, behind so many
abbrev pub on_block : ℕ → ℕ → Course (Result (Unit {0}) CopyFault) → Option (List ℕ) → Course (Result (Unit {0}) CopyFault)
on_block lun before more None = gives (Err Unread)
on_block lun before more (Some block) = if_granted (ask (writes lun (suc before) block)) (λ x. more)

abbrev pub pours : ℕ → ℕ → ℕ → Course (Result (Unit {0}) CopyFault)
pours lun before zero = gives (Ok tt)
pours lun before (suc n) = asking next_block (on_block lun before (pours lun (suc before) n))

-- it gets so many blocks, in one run where that is wanted and there is one
abbrev pub allocates : Bool → ℕ → ℕ → Course (Result (Unit {0}) CopyFault)
allocates true lun n = or_else (ask (done (request.Contiguous lun n))) (ask (done (request.Extend lun n)))
allocates false lun n = ask (done (request.Extend lun n))

-- they are those of the source, and the file is given up
abbrev pub fills : Bool → ℕ → ℕ → Course (Result (Unit {0}) CopyFault)
fills in_one_run lun n =
    if_granted (allocates in_one_run lun n) (λ x.
    if_granted (pours lun 0 n) (λ y. ask (done (request.Deaccess lun))))

-- the file is accessed, and filled, and given up where that breaks off
abbrev pub fills_file : Bool → ℕ → ℕ → FileId → Course (Result (Unit {0}) CopyFault)
fills_file in_one_run lun n id =
    if_granted (ask (done (request.Access id mode.Write lun))) (λ x. or_undone (request.Deaccess lun) (fills in_one_run lun n))

-- a file without blocks isn't accessed
abbrev pub fills_if : (empty : Bool) → Bool → ℕ → ℕ → FileId → Course (Result (Unit {0}) CopyFault)
fills_if true in_one_run lun n id = gives (Ok tt)
fills_if false in_one_run lun n id = fills_file in_one_run lun n id

-- it is entered under its name, and gets its protection; the name is removed where that is refused
abbrev pub enters : FileToMake → FileId → List ℕ → FileId → Course (Result (Unit {0}) CopyFault)
enters file dir name id =
    if_granted (ask (done (request.Enter dir name id))) (λ x.
    or_undone (request.Remove dir name) (ask (done (request.WriteAttr id (change.Protect file.protection)))))

-- it gets its attributes first
abbrev pub finishes : FileToMake → FileId → List ℕ → FileId → Course (Result (Unit {0}) CopyFault)
finishes file dir name id =
    if_granted (ask (done (request.WriteAttr id (change.Attr file.attr)))) (λ x. enters file dir name id)

abbrev pub fills_and_finishes : FileToMake → ℕ → FileId → List ℕ → FileId → Course (Result (Unit {0}) CopyFault)
fills_and_finishes file lun dir name id =
    if_granted (fills_if (file.blocks == 0) file.in_one_run lun file.blocks id) (λ x. finishes file dir name id)

-- attributes that state no end: F.EFBK and F.FFBY, six bytes from byte 8 on, are zeros (Files-11 On-Disk Structure Level 1, file
-- attributes)
abbrev pub without_end : List ℕ → List ℕ
without_end attr = with_bytes attr 8 (replicate 6 0)

-- A file is made: created for its owner, with nothing barred, its ident area, and no end; filled; and finished. It is deleted where that
-- breaks off.
abbrev pub copies : FileToMake → ℕ → FileId → List ℕ → Course (Result FileId CopyFault)
copies file lun dir name =
    if_granted (ask (names_for file.owner (request.Create 0 file.ident (without_end file.attr)))) (λ id.
    if_granted (or_undone (request.Delete id) (fills_and_finishes file lun dir name id)) (λ x. gives (Ok id)))
