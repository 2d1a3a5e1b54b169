use Rattle.std.proofs.Common.{sym, ap, ◌∙◌}
use Rattle.f11_chain.proofs.StepLemmas.{FindsWrongLink-last}
use Rattle.f11_index.specs.store.declared.files.FileId.{FileId}
use Rattle.f11_chain.proofs.step.next.Goals as goal

pub returns-then-before-clause-damaged : goal.returns-then-before-clause-damaged
returns-then-before-clause-damaged g c = λ _.
    FindsWrongLink-last _ _ _ (g.met.D.Device.is_image c.args.device.now) (sym c.segment-before.ensures ∙ c.if-before.true)
    (λ none. c.if-link-eq0.false (ap (λ (id : FileId). id.number) c.link-link.ensures ∙ none))
