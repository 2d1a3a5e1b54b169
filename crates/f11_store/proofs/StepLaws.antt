-- Laws of single steps.
use Rattle.std.proofs.Common.{◌≡◌, ◌⊎◌, inl, inr, Bool, true, false, Option, Some, None, refl, sym, ◌∙◌}
use Rattle.f11_store.specs.declared.refusals.Refusal.{Refusal}
use Rattle.f11_store.specs.declared.refusals.Refusal.TheVariants.{NoMemory, NoRun}
use Rattle.f11_store.specs.declared.requests.Request.{Request}
use Rattle.f11_store.specs.declared.requests.Request.TheVariants as request
use Rattle.f11_store.specs.Step.{MayRefuse}
use Rattle.f11_store.specs.Laws.{RefusalChangesNothing, RefusalIsOne, ServedOrWanting, ReplyIsOne}

pub refusal_changes_nothing : RefusalChangesNothing
refusal_changes_nothing s task caller r block e s' block' h = (h.store_stays, h.block_stays)

-- two refusals that may answer one cause are the same
may_refuse_one : (o : Option Refusal) (wants run : Bool) (e f : Refusal) → MayRefuse o wants run e → MayRefuse o wants run f → e ≡ f
may_refuse_one (Some x) wants run e f h k = h ∙ sym k
may_refuse_one None true run e f h k = h ∙ sym k
may_refuse_one None false true e f h k = h ∙ sym k
may_refuse_one None false false e f h k = absurd h

pub refusal_is_one : RefusalIsOne
refusal_is_one s task caller r block e f s' t' block' other h k = may_refuse_one _ _ _ e f h.may_refuse k.may_refuse

-- where no cause holds the refusal is want of memory, or of a run
no_cause_refuses : (o : Option Refusal) (wants run : Bool) (e : Refusal) → o ≡ None → MayRefuse o wants run e
    → (e ≡ NoMemory) ⊎ ((run ≡ true) × (e ≡ NoRun))
no_cause_refuses (Some x) wants run e h k = absurd (cc)
no_cause_refuses None true run e h k = inl k
no_cause_refuses None false true e h k = inr (refl, k)
no_cause_refuses None false false e h k = absurd k

pub served_or_wanting : ServedOrWanting
served_or_wanting s task caller r block a e s' t' block' other h k = no_cause_refuses _ _ _ e h.no_cause k.may_refuse

pub reply_is_one : ReplyIsOne
reply_is_one s task caller r block a b s' t' block' other h k =
    (h.reply_is ∙ sym k.reply_is, h.block_is ∙ sym k.block_is)
