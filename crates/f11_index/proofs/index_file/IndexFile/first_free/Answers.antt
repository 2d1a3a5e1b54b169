use Rattle.std.proofs.Common.{◌≡◌, List, ℕ, sym, ap, ◌∙◌, arith}
use Rattle.f11_index.specs.IndexFile.{bit_of_slot}
use Rattle.f11_index.specs.Kept.{index_kept}
use Rattle.f11_index.proofs.FreeLemmas.{between-used, between-first}
use Rattle.f11_index.proofs.index_file.IndexFile.first_free.Goals as goal

pub returns-then-not-is_slot_set : goal.returns-then-not-is_slot_set
returns-then-not-is_slot_set c =
    let index = index_kept c.args.self.now in
    let bit : bit_of_slot index.bitmap c.loop-n.n ≡ c.is_slot_set.result =
    sym (c.is_slot_set.ensures ∙ ap (λ (b : List (List ℕ)). bit_of_slot b c.loop-n.n) c.deref.ensures.value) in
    sym (between-first index c.args.start c.loop-n.n c.args.end (omega arith) (omega arith) (omega arith) (omega arith) c.loop-n.invariant
    (bit ∙ c.if-not-is_slot_set.true))

pub loop-n-preserved : goal.loop-n-preserved
loop-n-preserved c =
    let index = index_kept c.args.self.now in
    let bit : bit_of_slot index.bitmap c.loop-n.n ≡ c.is_slot_set.result =
    sym (c.is_slot_set.ensures ∙ ap (λ (b : List (List ℕ)). bit_of_slot b c.loop-n.n) c.deref.ensures.value) in
    between-used index c.args.start c.loop-n.n (omega arith) (omega arith) (omega arith) (bit ∙ c.if-not-is_slot_set.false)
    ∙ c.loop-n.invariant
