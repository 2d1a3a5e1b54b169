-- What `rt-del` does: a file of an RT-11 volume is deleted (profile).
use Rattle.std.specs.Prelude.{ℕ, List, Option, Result}
use Rattle.f11_dev.specs.Disk.{Disk}
use Rattle.rt11_volume.specs.Calls.{most_transfers}
use Rattle.rt11_volume.specs.Files.{DeletesFile, FailsToDelete, KeepsFiles}
use Rattle.rt11_volume.specs.declared.refusal.RtRefusal.{RtRefusal}
use Rattle.f11_commands.specs.RtChange.{ChangesFile, EndsChange}
use Rattle.f11_commands.specs.declared.outcome.FileAnswer.{FileAnswer}
use Rattle.f11_commands.specs.declared.outcome.Failure.{Failure}

-- so many transfers are made at most: the directory is read, and two blocks of it are written
abbrev pub delete_transfers : ℕ
delete_transfers = 64

-- the file was deleted, so that its area is empty, or it was not
abbrev pub DeletesNamed : List ℕ → Result Unit RtRefusal → Disk → Disk → Type 0
DeletesNamed name = ChangesFile (DeletesFile name) KeepsFiles (λ e. FailsToDelete e name) most_transfers delete_transfers

-- how the command ends
abbrev pub EndsDeletion : {W : Type 0} → List ℕ → Result FileAnswer Failure → Disk → Disk → (W → Option (List ℕ)) → W → W → Type 0
EndsDeletion name told old new contents before after = EndsChange (DeletesNamed name) told old new contents before after
