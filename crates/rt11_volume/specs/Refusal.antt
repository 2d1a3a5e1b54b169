-- The names of refusals (profile).
use Rattle.std.specs.Prelude.{ℕ, List, codes}
use Rattle.rt11_volume.specs.declared.refusal.RtRefusal.{RtRefusal}
use Rattle.rt11_volume.specs.declared.refusal.RtRefusal.TheVariants.{
  Failed,
  NoSuchFile,
  EndOfFile,
  Protected,
  DuplicateName,
  NoSpace,
  DirectoryFull,
  NoMemory,
  DeviceFault,
}

-- the name of a refusal, as it is printed
abbrev pub refusal_name : RtRefusal → List ℕ
refusal_name Failed = codes "Failed"
refusal_name NoSuchFile = codes "NoSuchFile"
refusal_name EndOfFile = codes "EndOfFile"
refusal_name Protected = codes "Protected"
refusal_name DuplicateName = codes "DuplicateName"
refusal_name NoSpace = codes "NoSpace"
refusal_name DirectoryFull = codes "DirectoryFull"
refusal_name NoMemory = codes "NoMemory"
refusal_name DeviceFault = codes "DeviceFault"
