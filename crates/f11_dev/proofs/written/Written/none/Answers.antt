use Rattle.std.proofs.Common.{subst, sym, arith}
use Rattle.std.proofs.lemmas.List.{length-replicate}
use Rattle.f11_bytes.specs.Block.{zero_block}
use Rattle.f11_dev.specs.Image.{IsImageOf}
use Rattle.f11_dev.specs.Written.{written_image}
use Rattle.f11_dev.proofs.DiskLemmas.{IsImage-zero_image}
use Rattle.f11_dev.proofs.written.Written.none.Goals as goal

pub returns-clause-image : goal.returns-clause-image
returns-clause-image c = subst (λ w. IsImageOf (written_image c.args.blocks w) c.args.blocks) (sym c.of.ensures)
    record { is_image = IsImage-zero_image c.args.blocks (omega arith); size = length-replicate c.args.blocks zero_block }
