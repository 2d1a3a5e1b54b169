-- What `rt-ren` does: a file of an RT-11 volume gets another name (RT-11 System User's Guide, RENAME).
use Rattle.std.specs.Prelude.{ℕ, List, Option, Result}
use Rattle.f11_dev.specs.Disk.{Disk}
use Rattle.rt11_volume.specs.Entry.{renamed_entry}
use Rattle.rt11_volume.specs.Files.{FailsToRename, HasEntryChanged, RenamesFile}
use Rattle.rt11_volume.specs.declared.refusal.RtRefusal.{RtRefusal}
use Rattle.f11_commands.specs.RtChange.{ChangesFile, EndsChange}
use Rattle.f11_commands.specs.declared.outcome.FileAnswer.{FileAnswer}
use Rattle.f11_commands.specs.declared.outcome.Failure.{Failure}

-- so many blocks are read at most: the directory for either name
abbrev pub rename_reads : ℕ
rename_reads = 124

-- and so many transfers are made: two blocks of it are written
abbrev pub rename_transfers : ℕ
rename_transfers = 126

-- the file was renamed, and its entry alone was written, or it was not
abbrev pub RenamesNamed : List ℕ → List ℕ → Result Unit RtRefusal → Disk → Disk → Type 0
RenamesNamed name other = ChangesFile (RenamesFile name other) (HasEntryChanged (renamed_entry other) name)
    (λ e. FailsToRename e name other) rename_reads rename_transfers

-- how the command ends
abbrev pub EndsRenaming : {W : Type 0} → List ℕ → List ℕ → Result FileAnswer Failure → Disk → Disk → (W → Option (List ℕ)) →
    W → W → Type 0
EndsRenaming name other told old new contents before after = EndsChange (RenamesNamed name other) told old new contents before after
