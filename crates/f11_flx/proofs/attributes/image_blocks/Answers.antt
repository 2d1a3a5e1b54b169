use Rattle.std.proofs.Common.{ℕ, ◌+◌, ◌/◌, List, ap, arith}
use Rattle.std.proofs.lemmas.List.{length-take}
use Rattle.f11_store.specs.File.{end_of, stated_end}
use Rattle.f11_flx.proofs.attributes.image_blocks.Goals as goal

pub returns-clause-image : goal.returns-clause-image
returns-clause-image c = λ file attr allocation.
    let stated = ap stated_end attr in
    omega (arith, c.blocks_to_end.ensures, stated, allocation, length-take {A = List ℕ} ((end_of file + 511) / 512) file.blocks)
