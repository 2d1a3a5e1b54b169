use Rattle.std.proofs.Common.{ℕ, List, ◌∷◌, [], ◌+◌, ◌++◌, length, ap, ◌∙◌, sym, append_assoc, arith}
use Rattle.std.specs.List.{range_with_len}
use Rattle.std.proofs.lemmas.List.{length-append}
use Rattle.std.proofs.lemmas.List.FromFn.{length-range_with_len}
use Rattle.f11_index.proofs.PlaceLemmas.{range_with_len-more}
use Rattle.f11_index.proofs.blocks.push_run.Goals as goal

pub push_reserved-requires : goal.push_reserved-requires
push_reserved-requires c =
    omega (
      arith,
      c.loop-i.headers.ok.0,
      ap length c.loop-i.invariant.pushed,
      length-append c.args.headers.now.items (range_with_len c.args.lbn c.loop-i.i),
      length-range_with_len c.args.lbn c.loop-i.i,
    )

pub loop-i-preserved : goal.loop-i-preserved
loop-i-preserved c = record {
  pushed =
      c.push_reserved.ensures.items ∙ ap (λ (xs : List ℕ). xs ++ (c.args.lbn + c.loop-i.i) ∷ []) c.loop-i.invariant.pushed
      ∙ append_assoc c.args.headers.now.items (range_with_len c.args.lbn c.loop-i.i) ((c.args.lbn + c.loop-i.i) ∷ [])
      ∙ ap (λ (xs : List ℕ). c.args.headers.now.items ++ xs) (sym (range_with_len-more c.args.lbn c.loop-i.i));
  capacity = c.push_reserved.ensures.capacity ∙ c.loop-i.invariant.capacity;
}
