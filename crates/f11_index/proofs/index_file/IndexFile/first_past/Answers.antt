use Rattle.std.proofs.Common.{false, refl, sym, ◌*◌, length, ◌∙◌, inl, inr, arith}
use Rattle.std.proofs.lemmas.Bool.{both_ways, cases_lt}
use Rattle.f11_index.proofs.BitLemmas.{bit_of_slot-beyond}
use Rattle.f11_index.proofs.index_file.IndexFile.first_past.Goals as goal

pub returns : goal.returns
returns c = λ n is. elim (cases_lt (4096 * length c.args.self.now.bitmap.items) n) [
  | inl beyond ↦ both_ways false refl (sym (bit_of_slot-beyond c.args.self.now.bitmap.items n beyond) ∙ is.bit)
  | inr within ↦ both_ways false refl (sym (c.loop-n.invariant n is.past (omega arith)) ∙ is.bit)
]
