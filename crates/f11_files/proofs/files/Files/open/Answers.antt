use Rattle.std.proofs.Common.{false}
use Rattle.f11_files.proofs.Opening.Kept.{for-opened}
use Rattle.f11_files.proofs.files.Files.open.Goals as goal

pub invariant_of-result : goal.invariant_of-result
invariant_of-result g c =
    let is = for-opened c.in-Ok.structure false _ (g.met.D.Device.is_image c.read.new.device) c.in-Ok.ensures.reads.is_for in
    record { lies = is.lies; accepted = is.accepted; home = is.home; keeps = is.keeps; lies_seen = λ _. tt }
