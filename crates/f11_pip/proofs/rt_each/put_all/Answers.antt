use Rattle.std.proofs.Common.{ap, sym, ◌∙◌}
use Rattle.f11_commands.proofs.CountingLemmas.{counted-more, counted-stopped}
use Rattle.f11_commands.specs.declared.put_counts.PutCounts.{PutCounts}
use Rattle.f11_pip.proofs.rt_each.put_all.Goals as goal

pub returns-then-is_ended : goal.returns-then-is_ended
returns-then-is_ended g c = record {
  counts = counted-stopped _ _ _ _ _ _ (λ is. ap (λ (x : PutCounts). x.refused) c.requires.none) c.loop-at.invariant
      c.in_ok-put_named.ensures.counts (sym c.is_ended.ensures ∙ c.if-is_ended.true) c.loop-at-test.true;
}

pub loop-at-preserved : goal.loop-at-preserved
loop-at-preserved g c =
    counted-more _ _ _ _ _ (λ is. ap (λ (x : PutCounts). x.refused) c.requires.none) c.loop-at.invariant c.in_ok-put_named.ensures.counts
    (sym c.is_ended.ensures ∙ c.if-is_ended.false)
