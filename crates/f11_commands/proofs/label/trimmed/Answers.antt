use Rattle.std.proofs.Common.{◌∙◌, sym}
use Rattle.f11_bytes.proofs.TrailingLemmas.{without_trailing-take, without_trailing_whole}
use Rattle.f11_commands.specs.Label.{is_filler}
use Rattle.f11_commands.proofs.label.trimmed.Goals as goal

pub loop-kept-preserved : goal.loop-kept-preserved
loop-kept-preserved c =
    without_trailing-take is_filler c.loop-kept.kept.now c.in-len1-up.len_at_least (sym c.is_filler.ensures ∙ c.if-is_filler.true)
    ∙ c.loop-kept.invariant

pub returns-else-is_filler : goal.returns-else-is_filler
returns-else-is_filler c =
    sym (without_trailing_whole is_filler c.loop-kept.kept.now c.in-len1-up.len_at_least (sym c.is_filler.ensures ∙ c.if-is_filler.false))
    ∙ c.loop-kept.invariant
