use Rattle.f11_flx.proofs.BackLemmas.{image_comes_back, text_comes_back}
use Rattle.f11_flx.proofs.laws.copies_back.Goals as goal

pub returns : goal.returns
returns c = record { image = image_comes_back; text = text_comes_back }
