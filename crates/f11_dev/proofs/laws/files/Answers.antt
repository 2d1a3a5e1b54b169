use Rattle.std.proofs.Common.{refl}
use Rattle.f11_dev.proofs.FileLemmas.{any_image_written}
use Rattle.f11_dev.proofs.laws.files.Goals as goal

pub returns : goal.returns
returns c = record {
  opened = λ honest image few. record { untouched = refl; few = few };
  written = any_image_written;
}
