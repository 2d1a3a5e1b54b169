use Rattle.std.proofs.Common.{inr}
use Rattle.std.proofs.lemmas.Result.{IfErr-weaker, IfOk-weaker}
use Rattle.f11_flx.specs.Source.{StartsText}
use Rattle.f11_flx.proofs.source.copy_lines.Goals as goal

pub returns-in-Ok-clause-copied : goal.returns-in-Ok-clause-copied
returns-in-Ok-clause-copied g c =
    let starts : StartsText c.args.source.now.attr c.args.source.now.blocks c.in-Ok.text =
    record { starts = c.in-Ok.ensures.starts; rest_is = c.in-Ok.ensures.rest } in
    IfOk-weaker c.copy_text.result _ _ (λ blocks copied. (c.in-Ok.text, starts, copied))
    (rw c.image_blocks-count.ensures.count at c.copy_text.ensures.copied)

pub returns-in-Ok-clause-fails : goal.returns-in-Ok-clause-fails
returns-in-Ok-clause-fails g c =
    let starts : StartsText c.args.source.now.attr c.args.source.now.blocks c.in-Ok.text =
    record { starts = c.in-Ok.ensures.starts; rest_is = c.in-Ok.ensures.rest } in
    IfErr-weaker c.copy_text.result _ _ (λ e fails. inr (c.in-Ok.text, starts, fails))
    (rw c.image_blocks-count.ensures.count at c.copy_text.ensures.fails)
