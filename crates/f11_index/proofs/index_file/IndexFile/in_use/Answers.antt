use Rattle.std.proofs.Common.{List, ℕ, sym, ap, ◌∙◌, inl, inr, arith}
use Rattle.f11_index.specs.IndexFile.{bit_of_slot}
use Rattle.f11_index.specs.Kept.{index_kept}
use Rattle.f11_index.proofs.BitLemmas.{is_in_use-within, is_in_use-none}
use Rattle.f11_index.proofs.index_file.IndexFile.in_use.Goals as goal
use Rattle.f11_index.proofs.index_file.IndexFile.in_use.Goals.{then-n-eq0-via-then-n-eq0, then-n-eq0-via-else-n-eq0+then-n-slots}

pub returns-then-n-eq0 : goal.returns-then-n-eq0
returns-then-n-eq0 c = elim c.then-n-eq0.branch [
  | then-n-eq0-via-then-n-eq0 w ↦ is_in_use-none _ _ (inl (omega arith))
  | then-n-eq0-via-else-n-eq0+then-n-slots w ↦ is_in_use-none _ _ (inr (omega arith))
]

pub returns : goal.returns
returns c =
    let items = c.args.self.now.bitmap.items in
    c.is_slot_set.ensures ∙ ap (λ (b : List (List ℕ)). bit_of_slot b c.from-n.result) c.deref.ensures.value
    ∙ ap (bit_of_slot items) c.from-n.ensures
    ∙ sym (is_in_use-within (index_kept c.args.self.now) c.args.n (omega arith) (omega arith))
