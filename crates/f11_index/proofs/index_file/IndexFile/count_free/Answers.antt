use Rattle.std.proofs.Common.{◌≡◌, ◌∷◌, [], List, ℕ, length, sym, ap, ◌∙◌, arith}
use Rattle.std.proofs.lemmas.List.{length-append}
use Rattle.f11_index.specs.IndexFile.{bit_of_slot}
use Rattle.f11_index.specs.Kept.{index_kept}
use Rattle.f11_index.specs.Slots.{free_between}
use Rattle.f11_index.proofs.FreeLemmas.{between-used, between-free}
use Rattle.f11_index.proofs.index_file.IndexFile.count_free.Goals as goal
use Rattle.f11_index.proofs.index_file.IndexFile.count_free.Goals.{then-not-is_slot_set, else-not-is_slot_set}

pub loop-n-preserved : goal.loop-n-preserved
loop-n-preserved c =
    let index = index_kept c.args.self.now in
    let bit : bit_of_slot index.bitmap c.loop-n.n ≡ c.is_slot_set.result =
    sym (c.is_slot_set.ensures ∙ ap (λ (b : List (List ℕ)). bit_of_slot b c.loop-n.n) c.deref.ensures.value) in
    elim c.if-not-is_slot_set.branch [
      | then-not-is_slot_set w ↦
          let more = between-free index c.args.start c.loop-n.n (omega arith) (omega arith) (omega arith) (bit ∙ w.if-not-is_slot_set.true)
          in
          record {
            so_far = omega (arith, ap length more, length-append (free_between index c.args.start c.loop-n.n) (c.loop-n.n ∷ []));
            few = omega arith;
          }
      | else-not-is_slot_set w ↦
          let more = between-used index c.args.start c.loop-n.n (omega arith) (omega arith) (omega arith) (bit ∙ w.if-not-is_slot_set.false)
          in
          record { so_far = omega (arith, ap length more); few = omega arith }
    ]
