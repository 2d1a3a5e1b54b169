use Rattle.std.proofs.Common.{◌∙◌, sym}
use Rattle.f11_bits.proofs.BlockLaneLemmas.{filled-ones, filled-zeros}
use Rattle.f11_bits.proofs.bits.fill.Goals as goal
use Rattle.f11_bits.proofs.bits.fill.Goals.{then-free, else-free}

pub returns : goal.returns
returns c = λ k below. elim c.if-free.branch [
  | then-free w ↦ filled-ones c.if-free.byte k w.byte-is below ∙ sym w.if-free.true
  | else-free w ↦ filled-zeros c.if-free.byte k w.byte-is below ∙ sym w.if-free.false
]
