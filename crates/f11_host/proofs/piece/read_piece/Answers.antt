use Rattle.std.proofs.Common.{refl, arith}
use Rattle.f11_host.proofs.PieceLemmas.{reads-piece}
use Rattle.f11_host.proofs.piece.read_piece.Goals as goal

pub returns : goal.returns
returns g c = record {
  read = reads-piece c.args.count _ _ _ _ c.read_exact.result c.requires.few (omega (arith, c.bytes_mut.ensures.bytes.1)) refl
      c.read_exact.ensures.bytes;
}
