use Rattle.f11_image_store.proofs.FieldLemmas.{contiguous-cleared}
use Rattle.f11_files.proofs.change.fields.clear_contiguous.Goals as goal

pub returns-clause-cleared : goal.returns-clause-cleared
returns-clause-cleared c =
    λ _. contiguous-cleared _ _ c.requires.valid.holds (rw c.not_contiguous-characteristics.ensures at c.set_characteristics.ensures.says)
    c.set_characteristics.ensures.sum
