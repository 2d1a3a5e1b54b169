use Rattle.f11_copying.proofs.MadeLemmas.{made-is-made-of}
use Rattle.f11_copying.proofs.laws.made.Goals as goal

pub returns : goal.returns
returns g c = record { made = made-is-made-of g.B.Blocks.gives }
