use Rattle.std.proofs.Common.{arith}
use Rattle.f11_chain.proofs.AlongLemmas.{handed-on}
use Rattle.f11_dev.proofs.LookedLemmas.{looked_more, looked_none, looked_within}
use Rattle.f11_vfy.proofs.Directory.Walk.{run-known, run-more, run-taken}
use Rattle.f11_vfy.proofs.directories.gathered.Gathered.take_pointer.Goals as goal

pub loop-k-preserved : goal.loop-k-preserved
loop-k-preserved g c = record {
  takes =
      run-more c.args.slots.now c.args.dir c.args.at c.args.run.0 c.args.run.1 (g.D.Device.disk c.args.device.now) c.args.self.now
      c.loop-k.k c.loop-k.self _ _ (omega (arith, c.loop-k-test.true, c.min-left.ensures, c.wanted.ensures)) c.loop-k.invariant.takes
      c.loop-k.invariant.looked c.in_ok-take_at.ensures.takes;
  looked = looked_more c.loop-k.invariant.looked c.in_ok-take_at.ensures.looked;
}

pub returns-in_err-take_at-clause-failed : goal.returns-in_err-take_at-clause-failed
returns-in_err-take_at-clause-failed g c = λ is.
    looked_within (looked_more c.loop-k.invariant.looked (c.in_err-take_at.ensures.failed (handed-on _ _ _ c.from_residual.ensures.1 is)))
    (omega (arith, c.loop-k-test.true, c.min-left.ensures, c.wanted.ensures))

pub returns-in_err-take_at-clause-no_memory : goal.returns-in_err-take_at-clause-no_memory
returns-in_err-take_at-clause-no_memory g c = λ is.
    looked_within (looked_more c.loop-k.invariant.looked
    (c.in_err-take_at.ensures.no_memory (handed-on _ _ _ c.from_residual.ensures.1 is)))
    (omega (arith, c.loop-k-test.true, c.min-left.ensures, c.wanted.ensures))

pub returns-then-are_in-clause-takes : goal.returns-then-are_in-clause-takes
returns-then-are_in-clause-takes g c =
    run-taken c.args.slots.now c.args.dir c.args.at c.args.run.0 c.args.run.1 (g.D.Device.disk c.args.device.now) c.args.self.now
    c.min-left.result c.args.self.now _
    (omega (arith, c.min-left.ensures, c.wanted.ensures, c.saturating_sub-there.ensures, c.blocks-2.ensures.count))
    (run-known c.args.slots.now c.args.dir c.args.at c.args.run.0 c.args.run.1 (g.D.Device.disk c.args.device.now) c.args.self.now
    c.min-left.result (omega (arith, c.min-left.ensures, c.wanted.ensures)) (c.are_in.ensures c.if-are_in.true))
    (looked_within (looked_none _) (omega arith))

pub returns-clause-takes : goal.returns-clause-takes
returns-clause-takes g c =
    run-taken c.args.slots.now c.args.dir c.args.at c.args.run.0 c.args.run.1 (g.D.Device.disk c.args.device.now) c.args.self.now c.loop-k.k
    c.loop-k.self _
    (omega (
      arith,
      c.loop-k-test.false,
      c.loop-k.auto.k-end,
      c.min-left.ensures,
      c.wanted.ensures,
      c.saturating_sub-there.ensures,
      c.blocks-2.ensures.count,
    )) c.loop-k.invariant.takes c.loop-k.invariant.looked
