use Rattle.std.proofs.Common.{refl}
use Rattle.f11_words.proofs.worked.examples.Goals as goal

pub returns : goal.returns
returns c = record {
  get_text = refl;
  get_image = refl;
  get_blocks = refl;
  get_all = refl;
  put_each = refl;
  init_max = refl;
  init = refl;
  to_rt = refl;
  from_rt = refl;
  rt_get_all = refl;
  rt_init = refl;
  quiet_run = refl;
  update = refl;
}
