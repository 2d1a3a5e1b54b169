use Rattle.f11_files.proofs.volume.AcceptedLemmas.{accepted-from}
use Rattle.f11_fcp.proofs.laws.stops.Goals as goal

pub returns : goal.returns
returns c = λ task caller r block old image stands. accepted-from image (record { home = old.home; volume = stands.sound })
