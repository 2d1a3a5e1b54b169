-- How a volume answers the calls of a script, whether transfers fail or not (profile).
use Rattle.std.specs.Prelude.{◌≡◌, ◌||◌, ℕ, Bool, true, false, IsErrOf, IsTrue, List, Option, Result}
use Rattle.f11_dev.specs.declared.device.Device.{Ghosts}
use Rattle.f11_runs.specs.Each.{Steps}
use Rattle.f11_store.specs.Run.{Answer, Call}
use Rattle.f11_store.specs.Store.{Store}
use Rattle.f11_store.specs.declared.refusals.Refusal.TheVariants.{VolumeFailed}
use Rattle.f11_script.specs.declared.errors.ScriptError.{ScriptError}
use Rattle.f11_fcp.specs.Handles.{is_damage}
use Rattle.f11_fcp.specs.Lists.{store_of_volume}
use Rattle.f11_fcp.specs.Serving.{is_spent, state_in}
use Rattle.f11_fcp.specs.declared.volume.Volume.{Volume}
use Rattle.f11_fcp.specs.files.Answers.{is_fatal, is_refused}
use Rattle.f11_serving.specs.Serving.{RunsScript}

-- the store of a volume, and whether a call has failed it
pub record Answering : Type 0 where
  pub store : Store
  pub failed : Bool

-- A call was answered, of a volume on a disk that is honest or isn't. DeviceFault and Damaged fail the volume, and once it has failed each
-- call is refused as VolumeFailed. On an honest disk Damaged isn't answered, and each answer that leaves the volume unfailed is a step of
-- the plain store.
pub record StepsOrFails (honest : Bool) (old : Answering) (c : Call) (a : Answer) (new : Answering) : Type 0 where
  pub refused : old.failed ≡ true → IsErrOf a.result VolumeFailed
  pub next : new.failed ≡ (old.failed || is_refused is_fatal a.result)
  pub step : IsTrue honest → new.failed ≡ false → Steps old.store c a new.store
  pub undamaged : IsTrue honest → is_refused is_damage a.result ≡ false

-- that of a volume
abbrev pub answering : {D : Type 0} {met : Ghosts D} → Volume D met → Answering
answering v = record { store = store_of_volume v; failed = is_spent v }

-- the calls of a script were answered so, one after another
abbrev pub AnswersScript : {D : Type 0} {met : Ghosts D} → Volume D met → Volume D met → Option (List ℕ) → Option (List ℕ) →
    Option (List ℕ) → Result ℕ ScriptError → Type 0
AnswersScript old new remaining written written' result =
    RunsScript (StepsOrFails (state_in old).disk.honest) remaining (answering old) (answering new) written written' result
