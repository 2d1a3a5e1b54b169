use Rattle.std.proofs.Common.{◌∙◌}
use Rattle.f11_dev.proofs.DiskLemmas.{replicate-push}
use Rattle.f11_index.proofs.used.one_blocks.Goals as goal

pub loop-preserved : goal.loop-preserved
loop-preserved c = c.in_ok-push.ensures.items ∙ replicate-push _ _ _ _ c.loop.invariant c.ones.ensures
