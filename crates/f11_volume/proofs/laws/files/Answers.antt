use Rattle.f11_volume.proofs.FileLemmas.{volume-files, image-files, index-apart, bitmap-is}
use Rattle.f11_volume.proofs.laws.files.Goals as goal

pub returns : goal.returns
returns c = record { volume = volume-files; image = image-files; index = index-apart; bitmap = bitmap-is }
