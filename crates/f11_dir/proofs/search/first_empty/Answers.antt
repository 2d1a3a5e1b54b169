use Rattle.std.proofs.Common.{◌∙◌, sym, arith, below_more}
use Rattle.f11_store.specs.Directory.{record_in, is_empty}
use Rattle.f11_dir.proofs.RecordPlaces.{position-records_in, none-records_in}
use Rattle.f11_dir.proofs.RecordTests.{is_empty_is}
use Rattle.f11_dir.proofs.search.first_empty.Goals as goal

pub returns-then-is_empty-clause-first : goal.returns-then-is_empty-clause-first
returns-then-is_empty-clause-first c =
    sym (position-records_in c.args.block.now c.args.upto c.loop-i.i is_empty (omega arith)
    (is_empty_is (record_in c.args.block.now c.loop-i.i) _ _ c.record_at.ensures c.is_empty.ensures ∙ c.if-is_empty.true)
    c.loop-i.invariant)

pub loop-i-preserved : goal.loop-i-preserved
loop-i-preserved c =
    below_more _ _ c.loop-i.invariant (is_empty_is (record_in c.args.block.now c.loop-i.i) _ _ c.record_at.ensures c.is_empty.ensures
    ∙ c.if-is_empty.false)

pub returns-clause-first : goal.returns-clause-first
returns-clause-first c =
    sym (none-records_in c.args.block.now c.args.upto is_empty (λ k h. c.loop-i.invariant k (omega (arith, h))))
