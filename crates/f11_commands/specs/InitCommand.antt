-- What `init` says (profile).
use Rattle.std.specs.Prelude.{◌⊎◌, ℕ, List, [], ◌∷◌, ◌++◌, Option, codes}
use Rattle.std.specs.Io.KnownBytes.{Keeps}
use Rattle.f11_dev.specs.Disk.{Disk}
use Rattle.f11_commands.specs.Output.{WriterTakes}
use Rattle.f11_commands.specs.Syncing.{FailsToSync}
use Rattle.f11_commands.specs.declared.outcome.Failure.{Failure}
use Rattle.f11_commands.specs.declared.outcome.Failure.TheVariants.{DeviceFault, NoMemory, CannotWrite}
use Rattle.f11_volume.specs.layout.declared.params.InitParams.{InitParams}
use Rattle.f11_serving.specs.vfy.Init.{Inits, RefusesToInit, FailsToInit}

-- the line where a volume was made
abbrev pub done_line : List ℕ
done_line = codes "ok" ++ 10 ∷ []

-- the line where none can be
abbrev pub refusal_line : List ℕ
refusal_line = codes "no BadParameter" ++ 10 ∷ []

-- A fresh volume was made, and that was written.
pub record PrintsInit {W : Type 0} (p : InitParams) (old new : Disk) (contents : W → Option (List ℕ)) (before after : W) : Type 0 where
  pub inits : Inits p old new
  pub takes : WriterTakes contents before after done_line

-- None can be made, and that was written.
pub record PrintsRefusal {W : Type 0} (p : InitParams) (old new : Disk) (contents : W → Option (List ℕ)) (before after : W) : Type 0 where
  pub refuses : RefusesToInit p old new
  pub takes : WriterTakes contents before after refusal_line

-- The command couldn't be done: a transfer failed, or the sync when the volume was made, and nothing was written; or the writer takes no
-- more, and the device is as after the one or the other. Memory is never wanting.
abbrev pub FailsToPrintInit : {W : Type 0} → Failure → InitParams → Disk → Disk → (W → Option (List ℕ)) → W → W → Type 0
FailsToPrintInit DeviceFault p old new contents before after =
    (FailsToInit p old new × Keeps (contents before) (contents after)) ⊎ (FailsToSync (Inits p old) new contents before after)
FailsToPrintInit CannotWrite p old new contents before after = Inits p old new ⊎ RefusesToInit p old new
FailsToPrintInit NoMemory p old new contents before after = ⊥
