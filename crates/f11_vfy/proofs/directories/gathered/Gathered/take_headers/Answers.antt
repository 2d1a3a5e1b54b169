use Rattle.std.proofs.Common.{◌-◌, ap, arith, get_or}
use Rattle.f11_chain.proofs.AlongLemmas.{handed-on}
use Rattle.f11_index.specs.Kept.{index_kept}
use Rattle.f11_vfy.proofs.Directory.Course.{courses-begin, courses-more, courses-fail, courses-none, courses-last, courses-past}
use Rattle.f11_vfy.proofs.Directory.Course.{courses-done}
use Rattle.f11_vfy.proofs.directories.gathered.Gathered.take_headers.Goals as goal
use Rattle.f11_vfy.proofs.directories.gathered.Gathered.take_headers.Goals.{then-from-nexts-via-then-from-nexts}
use Rattle.f11_vfy.proofs.directories.gathered.Gathered.take_headers.Goals.{then-from-nexts-via-else-from-nexts+then-wanted-eq0}

pub loop-init : goal.loop-init
loop-init g c =
    courses-begin (index_kept c.args.index.now) c.args.slots.now c.args.nexts.now c.args.dir c.args.at c.args.second c.args.self.now _
    c.requires.few

pub returns-then-n-eq0-clause-takes : goal.returns-then-n-eq0-clause-takes
returns-then-n-eq0-clause-takes g c =
    courses-none (index_kept c.args.index.now) c.args.slots.now c.args.nexts.now c.args.dir c.args.at c.args.second c.args.self.now _
    c.loop.counter c.loop.behind c.loop.n _ _ c.loop.invariant
    (omega (arith, c.loop.auto.counter)) (omega (arith, c.loop.auto.counter-end)) c.if-n-eq0.true

pub returns-then-from-nexts-clause-takes : goal.returns-then-from-nexts-clause-takes
returns-then-from-nexts-clause-takes g c = elim c.then-from-nexts.branch [
  | then-from-nexts-via-then-from-nexts w ↦
      courses-past (index_kept c.args.index.now) c.args.slots.now c.args.nexts.now c.args.dir c.args.at c.args.second c.args.self.now _
      c.loop.counter c.loop.behind c.loop.n _ _ c.loop.invariant
      (omega (arith, c.loop.auto.counter)) (omega (arith, c.loop.auto.counter-end)) (omega (arith, c.if-n-eq0.false))
      (omega (arith, w.if-from-nexts.true, c.from.ensures))
  | then-from-nexts-via-else-from-nexts+then-wanted-eq0 w ↦
      courses-done (index_kept c.args.index.now) c.args.slots.now c.args.nexts.now c.args.dir c.args.at c.args.second c.args.self.now _
      c.loop.counter c.loop.behind c.loop.n _ _ c.loop.invariant
      (omega (arith, c.loop.auto.counter)) (omega (arith, c.loop.auto.counter-end)) (omega (arith, w.if-wanted-eq0.true, w.wanted.ensures))
]

pub returns-in_err-behind-clause-failed : goal.returns-in_err-behind-clause-failed
returns-in_err-behind-clause-failed g c = λ is.
    courses-fail (index_kept c.args.index.now) c.args.slots.now c.args.nexts.now c.args.dir c.args.at c.args.second c.args.self.now _
    c.loop.counter c.loop.behind c.loop.n _ _ c.loop.invariant
    (omega (arith, c.loop.auto.counter)) (omega (arith, c.loop.auto.counter-end)) _ 1 c.loop-test.true (omega (arith, c.if-n-eq0.false))
    (c.in_err-behind.ensures.failed (handed-on _ _ _ c.from_residual.ensures.1 is))

pub returns-in_err-behind-clause-no_memory : goal.returns-in_err-behind-clause-no_memory
returns-in_err-behind-clause-no_memory g c = λ is.
    courses-fail (index_kept c.args.index.now) c.args.slots.now c.args.nexts.now c.args.dir c.args.at c.args.second c.args.self.now _
    c.loop.counter c.loop.behind c.loop.n _ _ c.loop.invariant
    (omega (arith, c.loop.auto.counter)) (omega (arith, c.loop.auto.counter-end)) _ 0 c.loop-test.true (omega (arith, c.if-n-eq0.false))
    (c.in_err-behind.ensures.no_memory (handed-on _ _ _ c.from_residual.ensures.1 is))

pub loop-preserved : goal.loop-preserved
loop-preserved g c =
    courses-more (index_kept c.args.index.now) c.args.slots.now c.args.nexts.now c.args.dir c.args.at c.args.second c.args.self.now _
    c.loop.counter c.loop.behind c.loop.n _ _ c.loop.invariant
    (omega (arith, c.loop.auto.counter)) (omega (arith, c.loop.auto.counter-end)) _ c.in_ok-behind.field-0 _ _ c.loop-test.true
    (omega (arith, c.if-n-eq0.false))
    (ap (λ k. get_or c.args.nexts.now (k - 1) 0) c.from-in-loop.ensures) c.in_ok-behind.ensures.takes

pub returns-clause-takes : goal.returns-clause-takes
returns-clause-takes g c =
    courses-last (index_kept c.args.index.now) c.args.slots.now c.args.nexts.now c.args.dir c.args.at c.args.second c.args.self.now _
    c.loop.counter c.loop.behind c.loop.n _ _ c.loop.invariant
    (omega (arith, c.loop.auto.counter)) (omega (arith, c.loop.auto.counter-end)) c.loop-test.false
