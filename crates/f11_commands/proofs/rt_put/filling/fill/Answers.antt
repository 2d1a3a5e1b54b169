use Rattle.std.proofs.Common.{◌≡◌, ◌<◌, Ok, Err, [], subst, arith}
use Rattle.f11_flx.proofs.RtFiles.TargetLemmas.{fails-putting, puts}
use Rattle.f11_host.specs.Pieces.{blocks_for}
use Rattle.f11_flx.proofs.RtFiles.TargetLemmas.{transfers}
use Rattle.f11_commands.proofs.HandedLemmas.{error-is}
use Rattle.f11_commands.proofs.RtFillLemmas.{filled-more, filled-none, fills, lacks-bytes, stops-filling}
use Rattle.f11_commands.proofs.rt_put.filling.fill.Goals as goal

pub loop-place-init : goal.loop-place-init
loop-place-init g c = record { taken = []; pieces = []; filled = filled-none g.D.Device.disk _ _ _ _ }

pub returns-in_err-read_piece-clause-failed : goal.returns-in_err-read_piece-clause-failed
returns-in_err-read_piece-clause-failed g c =
    error-is _ _ _ c.from_residual.ensures.1
    (lacks-bytes g.D.Device.disk _ _ _ _ _ _ _ _ _ _ c.loop-place.invariant.filled _ c.loop-place-test.true)

pub returns-in-Err-clause-failed : goal.returns-in-Err-clause-failed
returns-in-Err-clause-failed g c =
    let l = c.loop-place in
    let e = c.in-Err.ensures in
    stops-filling g.D.Device.disk c.args.name.now c.args.bytes _ c.args.volume.now l.place l.left l.invariant.taken l.invariant.pieces _
    l.volume l.invariant.filled c.args.blocks c.in-Err.refusal c.write.new.self
    c.requires.fresh c.requires.file c.loop-place-test.true
    (fails-putting g.D.Device.disk l.volume c.write.new.self c.args.name.now l.place _ _ _ (Err c.in-Err.refusal) e.answers e.went
    e.refused e.kept)
    (transfers _ e.went)

pub loop-place-preserved : goal.loop-place-preserved
loop-place-preserved g c =
    let l = c.loop-place in
    let e = c.in-Ok.ensures in
    let inside : l.place < blocks_for c.args.bytes = subst (λ n. l.place < n) c.requires.count c.loop-place-test.true in
    record {
      taken = _;
      pieces = _;
      filled = filled-more g.D.Device.disk c.args.name.now c.args.bytes _ c.args.volume.now l.place l.left l.invariant.taken
          l.invariant.pieces _ l.volume l.invariant.filled c.min-count.result c.read_piece.new.block _
          c.write.new.self inside c.min-count.ensures c.in_ok-read_piece.ensures.read
          (puts g.D.Device.disk l.volume c.write.new.self c.args.name.now l.place c.read_piece.new.block _ (Ok tt) e.answers e.went
          e.written)
          (transfers _ e.went);
    }

pub returns-clause-filled : goal.returns-clause-filled
returns-clause-filled g c =
    let l = c.loop-place in
    let all : l.place ≡ c.args.blocks = omega (arith, c.loop-place-test.false, l.auto.place-end) in
    fills g.D.Device.disk c.args.name.now c.args.bytes _ c.args.volume.now l.place l.left l.invariant.taken l.invariant.pieces _ l.volume
    l.invariant.filled c.args.blocks all c.requires.count
