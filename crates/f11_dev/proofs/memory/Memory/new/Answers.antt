use Rattle.std.proofs.Common.{refl, sym, subst, arith}
use Rattle.f11_dev.specs.Image.{IsImage}
use Rattle.f11_dev.proofs.DiskLemmas.{IsImage-zero_image}
use Rattle.f11_dev.proofs.memory.Memory.new.Goals as goal

pub invariant_of-result : goal.invariant_of-result
invariant_of-result c = record {
  is_image = subst IsImage (sym c.in_ok-zero_blocks.ensures) (IsImage-zero_image c.args.blocks (omega arith));
  counts = refl;
}
