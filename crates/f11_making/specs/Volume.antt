-- What a volume answers that is asked (profile).
use Rattle.std.specs.Prelude.{ℕ, Result}
use Rattle.f11_dev.specs.declared.device.Device.{Ghosts}
use Rattle.f11_store.specs.declared.refusals.Refusal.{Refusal}
use Rattle.f11_fcp.specs.Lengths.{AnswersLength}
use Rattle.f11_fcp.specs.Lists.{ServesCall}
use Rattle.f11_fcp.specs.Serving.{StaysAccepted, state_in}
use Rattle.f11_fcp.specs.declared.volume.Volume.{Volume}
use Rattle.f11_making.specs.Asking.{FilesService}

-- the length was asked, and where the disk is honest its image has no fault then
abbrev pub IsAskedLength : {D : Type 0} {met : Ghosts D} → ℕ → ℕ → Result ℕ Refusal → Volume D met → Volume D met → Type 0
IsAskedLength task lun result old new = AnswersLength task lun result old new × StaysAccepted (state_in new)

-- what a volume answers
abbrev pub of_volume : {D : Type 0} {met : Ghosts D} → FilesService (Volume D met)
of_volume = record { serves = ServesCall; measures = IsAskedLength }
