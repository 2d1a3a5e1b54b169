use Rattle.std.proofs.Common.{◌<◌, ◌≤◌, length, refl, arith}
use Rattle.std.specs.Prelude.{slice_index_or}
use Rattle.f11_chain.specs.Windows.{runs_held}
use Rattle.f11_index.proofs.map.MapLemmas.{length-blocks_in-more}
use Rattle.f11_chain.proofs.WindowLemmas.{run-held, held-at}
use Rattle.f11_chain.proofs.windows.Window.lbn_of.Goals as goal

pub returns-then-left-run : goal.returns-then-left-run
returns-then-left-run c =
    let below : c.loop-i.i < c.args.self.now.used = omega (arith, c.loop-i-test.true, c.from-i-end.ensures) in
    let within : c.args.self.now.used ≤ length c.args.self.now.runs = omega (arith, c.requires.on.few, c.fits-self) in
    held-at c.args.self.now c.args.vbn c.loop-i.i c.loop-i.left (slice_index_or c.args.self.now.runs c.loop-i.i (0, 0))
    (run-held c.args.self.now c.loop-i.i below within)
    (omega (arith, c.if-left-run.true)) (omega (arith, c.if-vbn-self.false)) c.loop-i.invariant

pub loop-i-preserved : goal.loop-i-preserved
loop-i-preserved c =
    let below : c.loop-i.i < c.args.self.now.used = omega (arith, c.loop-i-test.true, c.from-i-end.ensures) in
    let within : c.args.self.now.used ≤ length c.args.self.now.runs = omega (arith, c.requires.on.few, c.fits-self) in
    let more = length-blocks_in-more (runs_held c.args.self.now) c.loop-i.i _ (slice_index_or c.args.self.now.runs c.loop-i.i (0, 0))
    (run-held c.args.self.now c.loop-i.i below within) refl in
    omega (arith, more, c.loop-i.invariant, c.if-left-run.false)
