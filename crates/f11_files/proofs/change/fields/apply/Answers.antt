use Rattle.f11_image_store.proofs.FieldLemmas.{contiguous-set, delete-marked}
use Rattle.f11_files.proofs.change.fields.apply.Goals as goal

pub returns-in-Mark : goal.returns-in-Mark
returns-in-Mark c =
    rw c.in-Mark.is (delete-marked _ _ c.requires.valid.holds (rw c.marked-characteristics.ensures at c.set_characteristics.ensures.says)
    c.set_characteristics.ensures.sum)

pub returns-in-MarkContiguous : goal.returns-in-MarkContiguous
returns-in-MarkContiguous c =
    let set = c.set_characteristics-in-MarkContiguous.ensures in
    rw c.in-MarkContiguous.is (contiguous-set _ _ c.requires.valid.holds (rw c.contiguous-characteristics.ensures at set.says) set.sum)
