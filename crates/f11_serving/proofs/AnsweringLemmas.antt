-- Scripts whose calls a volume answers, whether transfers fail or not.
use Rattle.std.proofs.Common.{◌≡◌, ℕ, ◌||◌, Bool, true, false, IsErrOf, IsTrue, List, Option, Result, refl, sym, ◌∙◌, ap, arith}
use Rattle.f11_dev.specs.declared.device.Device.{Ghosts}
use Rattle.f11_store.specs.Run.{Answer, Call}
use Rattle.f11_store.specs.declared.refusals.Refusal.{Refusal}
use Rattle.f11_store.specs.declared.refusals.Refusal.TheVariants.{VolumeFailed}
use Rattle.f11_store.specs.declared.requests.Reply.{Reply}
use Rattle.f11_runs.specs.Each.{Steps}
use Rattle.f11_script.specs.declared.errors.ScriptError.{ScriptError}
use Rattle.f11_fcp.specs.Handles.{State, is_damage}
use Rattle.f11_fcp.specs.Lists.{ServesCall, store_of_volume}
use Rattle.f11_fcp.specs.Serving.{is_spent, state_in}
use Rattle.f11_fcp.specs.declared.volume.Volume.{Volume}
use Rattle.f11_fcp.specs.files.Answers.{is_fatal, is_refused}
use Rattle.f11_serving.specs.Answering.{AnswersScript, StepsOrFails, answering}
use Rattle.f11_serving.specs.Serving.{RunsScript}
use Rattle.f11_serving.proofs.VolumeLemmas.{script-seen}

-- a volume that has failed damages nothing
undamaged-refused : (result : Result Reply Refusal) → IsErrOf result VolumeFailed → is_refused is_damage result ≡ false
undamaged-refused result is = ap (λ (r : Result Reply Refusal). is_refused is_damage r) is

module _ {D : Type 0} {met : Ghosts D} where
  -- whether the disk is honest stays
  honest-stays : (v w : Volume D met) (c : Call) (a : Answer) → ServesCall v c a w → (state_in w).disk.honest ≡ (state_in v).disk.honest
  honest-stays v w c a served = by_spent (is_spent v) refl
    where
      by_spent : (b : Bool) → is_spent v ≡ b → (state_in w).disk.honest ≡ (state_in v).disk.honest
      by_spent true is = ap (λ (x : State). x.disk.honest) (served.serving.untouched is).0
      by_spent false is = (served.serving.handled is).writes.went.honest

  call-answers : (h : Bool) (v w : Volume D met) (c : Call) (a : Answer) → ServesCall v c a w
      → (IsTrue h → IsTrue (state_in v).disk.honest) → StepsOrFails h (answering v) c a (answering w)
  call-answers h v w c a served sure = record {
    refused = served.serving.refused;
    next = served.serving.next;
    step = λ honest alive. step-of (is_spent v) refl honest alive;
    undamaged = λ honest. undamaged-of (is_spent v) refl honest;
  }
    where
      next-of : (b : Bool) → is_spent v ≡ b → is_spent w ≡ (b || is_refused is_fatal a.result)
      next-of b is = served.serving.next ∙ ap (λ (x : Bool). x || is_refused is_fatal a.result) is

      step-of : (b : Bool) → is_spent v ≡ b → IsTrue h → is_spent w ≡ false → Steps (store_of_volume v) c a (store_of_volume w)
      step-of true is honest alive = absurd (let never : true ≡ false = sym (next-of true is) ∙ alive in cc)
      step-of false is honest alive = (served.serving.handled is).step (sure honest) (sym (next-of false is) ∙ alive)

      undamaged-of : (b : Bool) → is_spent v ≡ b → IsTrue h → is_refused is_damage a.result ≡ false
      undamaged-of true is honest = undamaged-refused a.result (served.serving.refused is)
      undamaged-of false is honest = (served.serving.handled is).undamaged (sure honest)

  -- so are the calls of a script, of a disk that is honest, or isn't
  module _ (old new : Volume D met) (bytes written written' : Option (List ℕ)) (result : Result ℕ ScriptError)
      (runs : RunsScript ServesCall bytes old new written written' result) where
    answers-as : (h : Bool) → (state_in old).disk.honest ≡ h
        → RunsScript (StepsOrFails h) bytes (answering old) (answering new) written written' result
    answers-as true is =
        script-seen ServesCall (StepsOrFails true) answering (λ _. 0) (λ v. (state_in v).disk.honest)
        (record {
          rises = λ v w c a h. omega arith;
          seen = λ v w c a h sound none. (call-answers true v w c a h (λ _. sound), honest-stays v w c a h ∙ sound);
        }) bytes written written' old new is refl result runs
    answers-as false is =
        script-seen ServesCall (StepsOrFails false) answering (λ _. 0) (λ _. true)
        (record {
          rises = λ v w c a h. omega arith;
          seen = λ v w c a h sound none. (call-answers false v w c a h (λ is. absurd (let never : false ≡ true = is in cc)), refl);
        }) bytes written written' old new refl refl result runs

    pub answers-script : AnswersScript old new bytes written written' result
    answers-script = answers-as (state_in old).disk.honest refl
