use Rattle.std.proofs.Common.{◌∙◌, refl, arith, below_more}
use Rattle.std.proofs.lemmas.Bool.{both_ways}
use Rattle.f11_dir.proofs.RecordTests.{is_empty_is}
use Rattle.f11_store.specs.Directory.{record_in}
use Rattle.f11_vfy.proofs.directories.blank.holds_no_record.Goals as goal

pub loop-k-preserved : goal.loop-k-preserved
loop-k-preserved c =
    below_more _ _ c.loop-k.invariant (is_empty_is (record_in c.args.block.now c.loop-k.k) _ _ c.record_at.ensures c.is_empty.ensures
    ∙ c.if-not-is_empty.false)

pub returns-then-not-is_empty : goal.returns-then-not-is_empty
returns-then-not-is_empty c = (
  λ is. absurd cc,
  λ none. absurd (both_ways _ (is_empty_is (record_in c.args.block.now c.loop-k.k) _ _ c.record_at.ensures c.is_empty.ensures
      ∙ c.if-not-is_empty.true) (none c.loop-k.k (omega (arith, c.loop-k-test.true)))),
)

pub returns : goal.returns
returns c = (λ is k low. c.loop-k.invariant k (omega (arith, low, c.loop-k-test.false)), λ none. refl)
