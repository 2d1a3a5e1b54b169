use Rattle.f11_flx.proofs.Made.CopyLemmas.{copy_has_lines, image_ends_with_blocks}
use Rattle.f11_flx.proofs.Texts.SizeLemmas.{records_are_few}
use Rattle.f11_flx.proofs.laws.copies.Goals as goal

pub returns : goal.returns
returns c = record { text = copy_has_lines; few = records_are_few; image = image_ends_with_blocks }
