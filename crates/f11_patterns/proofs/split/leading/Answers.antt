use Rattle.std.proofs.Common.{◌∙◌}
use Rattle.f11_patterns.proofs.SplitLemmas.{leading-place}
use Rattle.f11_patterns.proofs.split.leading.Goals as goal

pub returns : goal.returns
returns c = c.unwrap_or.ensures ∙ leading-place c.stop.result c.args.text.now c.stop.ensures
