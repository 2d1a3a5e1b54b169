use Rattle.std.proofs.Common.{ℕ, List, ◌∷◌, [], ◌+◌, ◌-◌, ◌++◌, ◌≡◌, length, min, ap, ◌∙◌, sym, append_assoc, arith}
use Rattle.std.specs.List.{range_with_len}
use Rattle.std.proofs.lemmas.List.{length-append}
use Rattle.std.proofs.lemmas.List.FromFn.{length-range_with_len}
use Rattle.f11_index.proofs.PlaceLemmas.{range_with_len-more, take-append-back, take-range}
use Rattle.f11_vfy.proofs.frame.bitmap_file.keep_run.Goals as goal

pub push_reserved-requires : goal.push_reserved-requires
push_reserved-requires c =
    omega (
      arith,
      c.loop-i.kept.ok.0,
      c.loop-i-test.true,
      c.requires.room,
      c.requires.few,
      c.loop-i.invariant.capacity,
      ap length c.loop-i.invariant.pushed,
      length-append c.args.kept.now.items (range_with_len c.args.lbn c.loop-i.i),
      length-range_with_len c.args.lbn c.loop-i.i,
      c.args.kept.now.ok.0,
      c.len.ensures,
      c.min-more.ensures,
    )

pub loop-i-preserved : goal.loop-i-preserved
loop-i-preserved c = record {
  pushed =
      c.push_reserved.ensures.items ∙ ap (λ (xs : List ℕ). xs ++ (c.args.lbn + c.loop-i.i) ∷ []) c.loop-i.invariant.pushed
      ∙ append_assoc c.args.kept.now.items (range_with_len c.args.lbn c.loop-i.i) ((c.args.lbn + c.loop-i.i) ∷ [])
      ∙ ap (λ (xs : List ℕ). c.args.kept.now.items ++ xs) (sym (range_with_len-more c.args.lbn c.loop-i.i));
  capacity = c.push_reserved.ensures.capacity ∙ c.loop-i.invariant.capacity;
}

pub returns-clause-keeps : goal.returns-clause-keeps
returns-clause-keeps c =
    let old : List ℕ = c.args.kept.now.items in
    let count : c.loop-i.i ≡ min (127 - length old) c.args.count =
    omega (arith, c.loop-i-test.false, c.loop-i.auto.i-end, c.args.kept.now.ok.0, c.len.ensures, c.min-more.ensures) in
    c.loop-i.invariant.pushed
    ∙ ap (λ (n : ℕ). old ++ range_with_len c.args.lbn n) count
    ∙ sym (take-append-back 127 old (range_with_len c.args.lbn c.args.count) c.requires.few
    ∙ ap (λ (xs : List ℕ). old ++ xs) (take-range c.args.lbn c.args.count (127 - length old)))
