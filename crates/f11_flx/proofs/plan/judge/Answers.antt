use Rattle.std.proofs.Common.{◌≡◌, subst, sym, ap, ◌∙◌}
use Rattle.f11_making.specs.Asking.{who_asks}
use Rattle.f11_flx.specs.Planning.{FailsToPlan, Plans}
use Rattle.f11_flx.specs.Spelled.{image_attributes}
use Rattle.f11_flx.proofs.FromRt.PlanLemmas.{image-plan, text-plan, text-unplanned}
use Rattle.f11_flx.proofs.plan.judge.Goals as goal

pub returns-in-Image-clause-plans : goal.returns-in-Image-clause-plans
returns-in-Image-clause-plans g c =
    let attr : c.image_attributes.result ≡ image_attributes c.in-Ok.source = c.image_attributes.ensures
    ∙ ap image_attributes c.from-in-Image.ensures in
    let h = image-plan g.E.Device.disk c.args.name.now c.in-Ok.source c.image_attributes.result c.args.rt.now c.find.new.rt attr
    c.in-Ok.ensures.found in
    subst (λ m. Plans g.E.Device.disk m c.args.name.now c.in-Ok.source c.from.result c.image_attributes.result c.args.rt.now c.find.new.rt)
    (sym c.in-Image.is)
    (subst (λ n. Plans g.E.Device.disk _ c.args.name.now c.in-Ok.source n c.image_attributes.result c.args.rt.now c.find.new.rt)
    (sym c.from.ensures) h)

pub returns-in-Ok-copy_lines-clause-plans : goal.returns-in-Ok-copy_lines-clause-plans
returns-in-Ok-copy_lines-clause-plans g c =
    let h = text-plan g.E.Device.disk c.args.name.now (who_asks c.args.by.now.task c.args.by.now.uic) c.args.by.now.lun c.in-Ok.source _ _ _
    c.args.rt.now c.find.new.rt c.copy_lines.new.rt _ _ c.text_attributes.ensures
    c.in-Ok.ensures.found c.in-Ok-copy_lines.ensures.copied in
    subst (λ m. Plans g.E.Device.disk m c.args.name.now c.in-Ok.source c.in-Ok-copy_lines.extent.blocks c.text_attributes.result
    c.args.rt.now c.copy_lines.new.rt) (sym c.in-Text.is) h

pub returns-in-Err-copy_lines-clause-fails : goal.returns-in-Err-copy_lines-clause-fails
returns-in-Err-copy_lines-clause-fails g c =
    let h = text-unplanned g.E.Device.disk c.args.name.now _ (who_asks c.args.by.now.task c.args.by.now.uic) c.args.by.now.lun
    c.in-Ok.source c.args.rt.now c.find.new.rt c.copy_lines.new.rt _ _
    c.in-Ok.ensures.found c.in-Err-copy_lines.ensures.fails in
    subst (λ m. FailsToPlan g.E.Device.disk m c.args.name.now c.in-Err-copy_lines.refusal c.args.rt.now c.copy_lines.new.rt)
    (sym c.in-Text.is) h
