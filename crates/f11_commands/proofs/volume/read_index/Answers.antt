use Rattle.f11_commands.proofs.VolumeLemmas.{FindsVolume-read}
use Rattle.f11_commands.proofs.volume.read_index.Goals as goal

pub returns-in-Ok-read-clause-found : goal.returns-in-Ok-read-clause-found
returns-in-Ok-read-clause-found g c = FindsVolume-read _ _ _ _ _ c.in-Ok.ensures.found c.in-Ok-read.ensures.reads
