use Rattle.f11_floppies.proofs.CoverLemmas.{each-place}
use Rattle.f11_floppies.proofs.PlaceLemmas.{places-apart, places-behind, places-within}
use Rattle.f11_floppies.proofs.laws.places.Goals as goal

pub returns : goal.returns
returns c = record { apart = places-apart; within = places-within; behind = places-behind; all = each-place }
