-- The refusals of a request: their numbers, and their names (profile).
use Rattle.std.specs.Prelude.{ℕ, List, codes}
use Rattle.f11_store.specs.declared.refusals.Refusal.{Refusal}
use Rattle.f11_store.specs.declared.refusals.Refusal.TheVariants.{
  VolumeFailed,
  BadArgument,
  NoSuchAccess,
  LunInUse,
  SystemFile,
  NoSuchFile,
  Marked,
}
use Rattle.f11_store.specs.declared.refusals.Refusal.TheVariants.{
  NoPrivilege,
  Conflict,
  NotDirectory,
  EndOfFile,
  NoSuchEntry,
  DuplicateName,
  IndexLimit,
}
use Rattle.f11_store.specs.declared.refusals.Refusal.TheVariants.{
  TooManySegments,
  DeviceFull,
  NoHeader,
  NoMemory,
  DeviceFault,
  Damaged,
  NotEmpty,
  NoRun,
}

-- its number: the causes are judged in this order, but that of NotEmpty behind that of DuplicateName, and that of NoRun behind that of
-- NoHeader
abbrev pub refusal_number : Refusal → ℕ
refusal_number VolumeFailed = 1
refusal_number BadArgument = 2
refusal_number NoSuchAccess = 3
refusal_number LunInUse = 4
refusal_number SystemFile = 5
refusal_number NoSuchFile = 6
refusal_number Marked = 7
refusal_number NoPrivilege = 8
refusal_number Conflict = 9
refusal_number NotDirectory = 10
refusal_number EndOfFile = 11
refusal_number NoSuchEntry = 12
refusal_number DuplicateName = 13
refusal_number IndexLimit = 14
refusal_number TooManySegments = 15
refusal_number DeviceFull = 16
refusal_number NoHeader = 17
refusal_number NoMemory = 18
refusal_number DeviceFault = 19
refusal_number Damaged = 20
refusal_number NotEmpty = 21
refusal_number NoRun = 22

-- its name, as printed
abbrev pub refusal_name : Refusal → List ℕ
refusal_name VolumeFailed = codes "VolumeFailed"
refusal_name BadArgument = codes "BadArgument"
refusal_name NoSuchAccess = codes "NoSuchAccess"
refusal_name LunInUse = codes "LunInUse"
refusal_name SystemFile = codes "SystemFile"
refusal_name NoSuchFile = codes "NoSuchFile"
refusal_name Marked = codes "Marked"
refusal_name NoPrivilege = codes "NoPrivilege"
refusal_name Conflict = codes "Conflict"
refusal_name NotDirectory = codes "NotDirectory"
refusal_name EndOfFile = codes "EndOfFile"
refusal_name NoSuchEntry = codes "NoSuchEntry"
refusal_name DuplicateName = codes "DuplicateName"
refusal_name IndexLimit = codes "IndexLimit"
refusal_name TooManySegments = codes "TooManySegments"
refusal_name DeviceFull = codes "DeviceFull"
refusal_name NoHeader = codes "NoHeader"
refusal_name NoMemory = codes "NoMemory"
refusal_name DeviceFault = codes "DeviceFault"
refusal_name Damaged = codes "Damaged"
refusal_name NotEmpty = codes "NotEmpty"
refusal_name NoRun = codes "NoRun"
