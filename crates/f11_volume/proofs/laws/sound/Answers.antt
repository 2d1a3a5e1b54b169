use Rattle.f11_volume.proofs.AcceptedLemmas.{accepted-sound, accepted-volume}
use Rattle.f11_volume.proofs.SoundLemmas.{no-fault-sound}
use Rattle.f11_volume.proofs.laws.sound.Goals as goal

pub returns-clause-volume : goal.returns-clause-volume
returns-clause-volume c = no-fault-sound

pub returns-clause-image : goal.returns-clause-image
returns-clause-image c = accepted-sound

pub returns-clause-home : goal.returns-clause-home
returns-clause-home c = accepted-volume
