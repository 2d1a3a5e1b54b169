use Rattle.std.proofs.Common.{arith}
use Rattle.f11_dev.proofs.ZerosLemmas.{zeros-failed, zeros-piece, zeros-stop-later}
use Rattle.f11_dev.proofs.file_image.FileImageDevice.write_zeros.Goals as goal

pub loop-done-preserved : goal.loop-done-preserved
loop-done-preserved g c = (
  zeros-piece c.args.lbn c.loop-done.done c.min-piece.result _ _ _ c.loop-done.invariant.0 c.count_zeros.ensures,
  omega (arith, c.min-piece.ensures, c.loop-done.invariant.1),
)

pub returns-in-Err : goal.returns-in-Err
returns-in-Err g c = record {
  zeros = zeros-failed _ c.args.lbn c.args.count _ _ c.fail_among_zeros.ensures.err
      (zeros-stop-later c.args.lbn c.loop-done.done c.min-piece.result c.args.count _ _ _ c.loop-done.invariant.0
      (omega (arith, c.min-piece.ensures, c.loop-done.invariant.1)) c.fail_among_zeros.ensures.stops);
}
