use Rattle.std.proofs.Common.{◌∙◌, sym, arith, below_more}
use Rattle.f11_store.specs.Directory.{has_name}
use Rattle.f11_dir.proofs.RecordPlaces.{position-records_in, none-records_in}
use Rattle.f11_dir.proofs.RecordTests.{has_name_is}
use Rattle.f11_dir.proofs.search.find.Goals as goal

pub returns-then-has_name-clause-first : goal.returns-then-has_name-clause-first
returns-then-has_name-clause-first c =
    sym (position-records_in c.args.block.now c.args.upto c.loop-place.place (has_name c.args.name.now) (omega arith)
    (has_name_is _ _ _ _ c.record_at-record.ensures c.has_name.ensures ∙ c.if-has_name.true) c.loop-place.invariant)

pub loop-place-preserved : goal.loop-place-preserved
loop-place-preserved c =
    below_more _ _ c.loop-place.invariant (has_name_is _ _ _ _ c.record_at-record.ensures c.has_name.ensures ∙ c.if-has_name.false)

pub returns-clause-first : goal.returns-clause-first
returns-clause-first c =
    sym (none-records_in c.args.block.now c.args.upto (has_name c.args.name.now) (λ k h. c.loop-place.invariant k (omega (arith, h))))
