use Rattle.std.proofs.Common.{◌+◌, ◌∙◌, inl, inr, ap, sym, subst, arith}
use Rattle.std.proofs.lemmas.Bool.{cases_lt, both_ways}
use Rattle.f11_index.specs.Table.{IsFile}
use Rattle.f11_vfy.specs.Surveying.Bits.{has, limit_of}
use Rattle.f11_vfy.specs.Chain.{IsClosed}
use Rattle.f11_vfy.specs.Surveying.Slot.{unused_slot}
use Rattle.f11_vfy.proofs.ChainLemmas.{held_marked, first_is, is_first}
use Rattle.f11_vfy.proofs.chains.mark_files.Goals as goal
use Rattle.f11_vfy.proofs.chains.mark_files.Goals.{then-is_file, else-is_file}

pub loop-k-preserved : goal.loop-k-preserved
loop-k-preserved c = record {
  limit = elim c.if-is_file.branch [
    | then-is_file w ↦ ap limit_of w.marked-is ∙ w.walk.ensures.limit ∙ c.loop-k.invariant.limit
    | else-is_file w ↦ ap limit_of w.marked-is ∙ c.loop-k.invariant.limit
  ];
  closed = λ v l is. elim c.if-is_file.branch [
    | then-is_file w ↦ subst (IsClosed v) (sym w.marked-is) (w.walk.ensures.closed v l.fit is
        (first_is v c.args.slots.now l c.loop-k.k (omega (arith, c.loop-k-test.true, c.requires.count)) unused_slot
        (c.is_file.ensures.0 w.if-is_file.true)) (c.loop-k.invariant.closed v l is))
    | else-is_file w ↦ subst (IsClosed v) (sym w.marked-is) (c.loop-k.invariant.closed v l is)
  ];
  firsts = λ v l f low high x. elim c.if-is_file.branch [
    | then-is_file w ↦ ap (λ m. has m f) w.marked-is ∙ elim (cases_lt f (c.loop-k.k + 1)) [
      | inl before ↦ w.walk.ensures.kept f (c.loop-k.invariant.firsts v l f low (omega arith) x)
      | inr here ↦ ap (has w.walk.new.marked) (omega arith) ∙ w.walk.ensures.marked (omega arith)
    ]
    | else-is_file w ↦ ap (λ m. has m f) w.marked-is ∙ elim (cases_lt f (c.loop-k.k + 1)) [
      | inl before ↦ c.loop-k.invariant.firsts v l f low (omega arith) x
      | inr here ↦ absurd (both_ways c.is_file.result w.if-is_file.false
          (c.is_file.ensures.1 (is_first v c.args.slots.now l c.loop-k.k (omega (arith, c.loop-k-test.true, c.requires.count)) unused_slot
          (subst (IsFile v) (omega arith) x))))
    ]
  ];
}

pub returns-clause-marked : goal.returns-clause-marked
returns-clause-marked c = λ v l is n. (
  (c.loop-k.invariant.closed v l is).sound n,
  λ h. held_marked v c.loop-k.marked (c.loop-k.invariant.closed v l is)
      (λ f x. c.loop-k.invariant.firsts v l f (l.fit.low f x.live.in_use)
      (omega (arith, l.fit.high f x.live.in_use, l.keeps.count, c.loop-k-test.false, c.loop-k.auto.k-end, c.requires.count)) x) h.file n
      h.of,
)
