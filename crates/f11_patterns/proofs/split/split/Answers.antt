use Rattle.f11_patterns.proofs.SplitLemmas.{leading-le-length, split-leading}
use Rattle.f11_patterns.proofs.split.split.Goals as goal

pub split_at-requires : goal.split_at-requires
split_at-requires c = rw c.leading.ensures (leading-le-length c.args.text.now)

pub returns : goal.returns
returns c = rw (c.split_at.ensures.front, c.split_at.ensures.back, c.leading.ensures) (split-leading c.args.text.now)
