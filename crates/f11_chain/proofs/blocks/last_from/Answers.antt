use Rattle.std.proofs.Common.{[], ◌∷◌, ◌++◌, refl, arith}
use Rattle.f11_chain.proofs.AlongLemmas.{Along-in-hand, Along-next, break-next, failed-next, handed-on, counted-more, reads-last}
use Rattle.f11_chain.proofs.blocks.last_from.Goals as goal

pub loop-earlier-init : goal.loop-earlier-init
loop-earlier-init g c = record {
  behind = [];
  along = Along-in-hand _ _ _ _ c.requires.first;
  few = omega arith;
  blocks_are = λ honest. refl;
}

pub overflow_add-blocks : goal.overflow_add-blocks
overflow_add-blocks g c = omega (arith, c.loop-earlier.invariant.few, c.len_blocks-blocks.ensures.few, c.loop-earlier-test.true)

pub returns-in_err-m-clause-damaged : goal.returns-in_err-m-clause-damaged
returns-in_err-m-clause-damaged g c = λ is.
    break-next _ _ _ _ _ _ _ _ c.loop-earlier.invariant.along _ (c.in_err-m.ensures.damaged (handed-on _ _ _ c.from_residual.ensures.1 is))

pub returns-in_err-m-clause-failed : goal.returns-in_err-m-clause-failed
returns-in_err-m-clause-failed g c = λ is.
    failed-next _ _ _ _ _ _ _ _ c.loop-earlier.invariant.along _ (c.in_err-m.ensures.failed (handed-on _ _ _ c.from_residual.ensures.1 is))

pub returns-in_default-clause-reads : goal.returns-in_default-clause-reads
returns-in_default-clause-reads g c =
    reads-last _ _ _ _ _ _ _ _ c.loop-earlier.invariant.along _ _ _ _ c.loop-earlier.invariant.blocks_are c.len_blocks-blocks.ensures.count
    c.loop-earlier.invariant.few c.len_blocks-blocks.ensures.few (rw c.in_default.is at c.in_ok-m.ensures.last)

pub loop-earlier-preserved : goal.loop-earlier-preserved
loop-earlier-preserved g c = record {
  behind = c.loop-earlier.invariant.behind ++ c.loop-earlier.number ∷ [];
  along = Along-next _ _ _ _ _ _ _ _ c.loop-earlier.invariant.along _ _ _ (rw c.in-Some.is at c.in_ok-m.ensures.reads);
  few = omega (arith, c.loop-earlier.invariant.few, c.len_blocks-blocks.ensures.few);
  blocks_are = counted-more _ _ _ _ _ _ _ _ c.loop-earlier.invariant.along _ _ c.loop-earlier.invariant.blocks_are
      c.len_blocks-blocks.ensures.count;
}

pub returns-clause-damaged : goal.returns-clause-damaged
returns-clause-damaged g c = λ _. let few = c.loop-earlier.invariant.along.few in absurd (omega (arith, few, c.loop-earlier-test.false))
