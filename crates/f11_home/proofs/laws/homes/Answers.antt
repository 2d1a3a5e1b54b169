use Rattle.f11_home.proofs.HomeLemmas.{home-unique, home-some}
use Rattle.f11_home.proofs.laws.homes.Goals as goal

pub returns : goal.returns
returns c = record { one = home-unique; some = home-some }
