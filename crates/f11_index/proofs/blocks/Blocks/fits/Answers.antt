use Rattle.std.proofs.Common.{arith}
use Rattle.std.proofs.lemmas.Bool.{leb-true}
use Rattle.f11_index.proofs.BlockLemmas.{FitFrom-run, run-due, run-within}
use Rattle.f11_index.proofs.blocks.Blocks.fits.Goals as goal

pub returns-then-lbn-count : goal.returns-then-lbn-count
returns-then-lbn-count c = (
  λ due. FitFrom-run c.args.home.now c.args.end c.args.self.now.places c.args.lbn c.args.count c.if-lbn-count.true
      (c.are_due.ensures.0 due),
  λ fit. c.are_due.ensures.1 (run-due c.args.home.now c.args.end c.args.self.now.places c.args.lbn c.args.count fit),
)

pub returns-else-lbn-count : goal.returns-else-lbn-count
returns-else-lbn-count c = (
  λ true_is. absurd (omega (arith, leb-true _ _ true_is, c.if-lbn-count.false)),
  λ fit. absurd (omega (
    arith,
    c.if-lbn-count.false,
    run-within c.args.home.now c.args.end c.args.self.now.places c.args.lbn c.args.count
        c.requires.some fit,
  )),
)
