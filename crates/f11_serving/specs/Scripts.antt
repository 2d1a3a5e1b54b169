-- What a volume's serving a script tells (profile).
use Rattle.std.specs.Prelude.{ℕ, ◌+◌, ◌≤◌, IsTrue, List, Option, Result}
use Rattle.f11_dev.specs.declared.device.Device.{Ghosts}
use Rattle.f11_runs.specs.Each.{AddsCost, Steps}
use Rattle.f11_script.specs.declared.errors.ScriptError.{ScriptError}
use Rattle.f11_fcp.specs.Lists.{ServesCall, WhileSound, cost_of, store_of_volume, transfers_of}
use Rattle.f11_fcp.specs.Serving.{state_in}
use Rattle.f11_fcp.specs.declared.volume.Volume.{Volume}
use Rattle.f11_serving.specs.Serving.{RunsScript}

-- where the volume is sound, and no transfer fails from the first line to the last, the script is served by steps of the plain store
abbrev pub ServesScriptRun : {D : Type 0} {met : Ghosts D} → Volume D met → Volume D met → Option (List ℕ) → Option (List ℕ) →
    Option (List ℕ) → Result ℕ ScriptError → Type 0
ServesScriptRun old new remaining written written' result =
    WhileSound old new (RunsScript Steps remaining (store_of_volume old) (store_of_volume new) written written' result)

-- On an honest disk the transfers of a script are no more than its requests may cost in all, each from the store before it.
pub record KeepsScriptCosts {D : Type 0} {met : Ghosts D} (old new : Volume D met) (remaining written written' : Option (List ℕ))
    (result : Result ℕ ScriptError) : Type 0 where
  pub most : ℕ
  pub costs : RunsScript (AddsCost ServesCall cost_of) remaining (record { value = old; sum = 0 })
      (record { value = new; sum = most }) written written' result
  pub few : IsTrue (state_in old).disk.honest → transfers_of new ≤ transfers_of old + most
