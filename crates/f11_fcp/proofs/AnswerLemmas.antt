-- What was shown of a request holds of the one that was made, since that is it.
use Rattle.std.proofs.Common.{◌≡◌, ℕ, List, [], true, None, Some, Result, sym, ap, subst, ◌∙◌}
use Rattle.std.specs.Prelude.{OnOk}
use Rattle.f11_store.specs.Accesses.{is_blockless}
use Rattle.f11_store.specs.declared.callers.Uic.{Uic}
use Rattle.f11_store.specs.declared.refusals.Refusal.{Refusal}
use Rattle.f11_store.specs.declared.requests.Reply.{Reply}
use Rattle.f11_store.specs.declared.requests.Request.{Request}
use Rattle.f11_fcp.specs.ByWindow.{WindowsAfter, block_of}
use Rattle.f11_fcp.specs.Handles.{Handles, State}
use Rattle.f11_fcp.specs.InOneRun.{InOneRun, run_of}
use Rattle.f11_fcp.proofs.InOneRunLemmas.{no-run}
use Rattle.f11_fcp.proofs.OpenLemmas.{handles-block}

-- what becomes of windows
pub made-windows : (task : ℕ) {made r : Request} (result : Result Reply Refusal) (old new : State) → made ≡ r
    → OnOk result (WindowsAfter task r old new) → OnOk result (WindowsAfter task made old new)
made-windows task result old new is after = subst (λ (x : Request). OnOk result (WindowsAfter task x old new)) (sym is) after

-- what holds of its block, or of none
pub made-once : {A : ℕ → ℕ → Type 0} {made r : Request} → made ≡ r → ((lun vbn : ℕ) → block_of r ≡ Some (lun, vbn) → A lun vbn)
    → (lun vbn : ℕ) → block_of made ≡ Some (lun, vbn) → A lun vbn
made-once is once lun vbn of = once lun vbn (sym (ap (λ (x : Request). block_of x) is) ∙ of)

pub made-of-none : (A : ℕ → ℕ → Type 0) {made r : Request} → made ≡ r → block_of r ≡ None → (lun vbn : ℕ)
    → block_of made ≡ Some (lun, vbn) → A lun vbn
made-of-none A is none = made-once is (λ lun vbn of. absurd (let no : None ≡ Some (lun, vbn) = sym none ∙ of in cc))

module _ {task : ℕ} {made r : Request} {result : Result Reply Refusal} {old new : State} (is : made ≡ r) where
  -- it was handled, without its block
  pub made-handled : {caller : Uic} {block : List ℕ} → is_blockless r ≡ true → Handles task caller r result old [] new []
      → Handles task caller made result old block new block
  made-handled {caller} {block} no_block h =
      subst (λ (x : Request). Handles task caller x result old block new block) (sym is)
      (handles-block task caller r result old new block no_block h)

  -- it lays a file out in one run, or lays none out
  pub made-run : {caller : Uic} → InOneRun task caller r result old new → InOneRun task caller made result old new
  made-run {caller} run = subst (λ (x : Request). InOneRun task caller x result old new) (sym is) run

  pub made-no-run : {caller : Uic} → run_of r ≡ None → InOneRun task caller made result old new
  made-no-run {caller} none = made-run (no-run task caller r result old new none)
