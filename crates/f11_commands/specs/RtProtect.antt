-- What `rt-prot` does: a file of an RT-11 volume is protected, or isn't any more (RT-11 System User's Guide, PROTECT and UNPROTECT).
use Rattle.std.specs.Prelude.{ℕ, Bool, List, Option, Result}
use Rattle.f11_dev.specs.Disk.{Disk}
use Rattle.rt11_volume.specs.Calls.{most_transfers}
use Rattle.rt11_volume.specs.Entry.{protected_entry}
use Rattle.rt11_volume.specs.Files.{FailsToFindFile, HasEntryChanged, ProtectsFile}
use Rattle.rt11_volume.specs.declared.refusal.RtRefusal.{RtRefusal}
use Rattle.f11_commands.specs.RtChange.{ChangesFile, EndsChange}
use Rattle.f11_commands.specs.declared.outcome.FileAnswer.{FileAnswer}
use Rattle.f11_commands.specs.declared.outcome.Failure.{Failure}

-- so many transfers are made at most: the directory is read, and one block of it is written
abbrev pub protect_transfers : ℕ
protect_transfers = 63

-- the file was protected, or is so no more, and its entry alone was written, or it was not
abbrev pub ProtectsNamed : Bool → List ℕ → Result Unit RtRefusal → Disk → Disk → Type 0
ProtectsNamed on name = ChangesFile (ProtectsFile on name) (HasEntryChanged (protected_entry on) name)
    (λ e. FailsToFindFile e name) most_transfers protect_transfers

-- how the command ends
abbrev pub EndsProtecting : {W : Type 0} → Bool → List ℕ → Result FileAnswer Failure → Disk → Disk → (W → Option (List ℕ)) →
    W → W → Type 0
EndsProtecting on name told old new contents before after = EndsChange (ProtectsNamed on name) told old new contents before after
