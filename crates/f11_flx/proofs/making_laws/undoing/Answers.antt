use Rattle.f11_flx.proofs.Made.LeavesLemmas.{refused-copy-leaves, refused-making-leaves}
use Rattle.f11_flx.proofs.making_laws.undoing.Goals as goal

pub returns : goal.returns
returns c = record { making = refused-making-leaves; copy = refused-copy-leaves }
