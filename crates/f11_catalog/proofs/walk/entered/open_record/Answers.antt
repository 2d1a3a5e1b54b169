use Rattle.std.proofs.Common.{ap}
use Rattle.f11_index.specs.Kept.{index_kept}
use Rattle.f11_catalog.specs.declared.directory_name.DirectoryName.{DirectoryName}
use Rattle.f11_catalog.specs.declared.walk.place.Place.TheVariants.{Entered}
use Rattle.f11_catalog.proofs.WalkLemmas.{empty-entered, record-entered}
use Rattle.f11_catalog.proofs.walk.entered.open_record.Goals as goal

pub returns-then-is_empty-clause-none : goal.returns-then-is_empty-clause-none
returns-then-is_empty-clause-none g c =
    λ bytes is. empty-entered bytes _ is _ _ (index_kept c.args.wide.now) _ _ c.is_empty.ensures c.if-is_empty.true

pub returns-clause-enters : goal.returns-clause-enters
returns-clause-enters g c = λ bytes is.
    record-entered bytes _ is _ _ _ _ _ _ c.is_empty.ensures c.if-is_empty.false c.name.ensures
    (ap (λ (d : DirectoryName). Entered d c.name.result c.args.record.now.id) c.copy.ensures) _ _
    c.in_ok-content.ensures.holds
