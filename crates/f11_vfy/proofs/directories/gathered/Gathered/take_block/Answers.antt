use Rattle.std.proofs.Common.{refl, arith}
use Rattle.f11_vfy.proofs.Directory.Taking.{block-more, takes-same}
use Rattle.f11_vfy.proofs.directories.gathered.Gathered.take_block.Goals as goal

pub loop-k-preserved : goal.loop-k-preserved
loop-k-preserved c =
    let below = c.loop-k-test.true in
    block-more c.args.slots.now c.args.dir c.args.at c.loop-k.k c.args.block.now c.record_at-record.result c.args.self.now c.loop-k.self
    c.take_record.new.self
    (omega (arith, below, c.min-k-end.ensures, c.saturating_sub.ensures, c.from.ensures)) (omega (arith, below, c.min-k-end.ensures))
    c.loop-k.invariant c.record_at-record.ensures c.in_ok-take_record.ensures

pub returns : goal.returns
returns c =
    takes-same c.args.slots.now c.args.dir.d _ _ _ _ _ _ c.args.self.now c.loop-k.self c.loop-k.invariant refl
    (omega (arith, c.loop-k.auto.k-end, c.loop-k-test.false, c.min-k-end.ensures, c.saturating_sub.ensures, c.from.ensures))
    (λ _ blocks is. is)
