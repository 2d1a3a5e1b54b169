use Rattle.std.proofs.Common.{refl}
use Rattle.std.proofs.lemmas.Bool.{false≢true}
use Rattle.f11_commands.proofs.CountingLemmas.{counted-more}
use Rattle.f11_pip.proofs.tree.put_files.Goals as goal

pub loop-at-preserved : goal.loop-at-preserved
loop-at-preserved g c =
    counted-more _ _ _ _ _ (λ is. absurd (false≢true is)) c.loop-at.invariant c.in_ok-put_named.ensures.counts refl
