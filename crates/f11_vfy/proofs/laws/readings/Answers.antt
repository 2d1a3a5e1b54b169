use Rattle.f11_vfy.proofs.Scanning.Reading.{directory-said, volume-read}
use Rattle.f11_vfy.proofs.laws.readings.Goals as goal

pub returns-clause-directory : goal.returns-clause-directory
returns-clause-directory c = directory-said

pub returns-clause-volume : goal.returns-clause-volume
returns-clause-volume c = volume-read
