use Rattle.std.proofs.Common.{refl}
use Rattle.f11_files.proofs.Removing.Kept.{cuts-off}
use Rattle.f11_files.proofs.remove.truncate.cut_off.Goals as goal

pub returns : goal.returns
returns c = cuts-off _ _ _ _ _ refl c.requires c.cut.ensures.cuts c.set_link.ensures.sets
