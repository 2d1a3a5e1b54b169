use Rattle.f11_flx.proofs.ToRt.ReadingLemmas.{access_alone_is_refused, reading_is_of_file, refused_source_stays, source_stays}
use Rattle.f11_flx.proofs.copy_laws.reading.Goals as goal

pub returns-clause-file : goal.returns-clause-file
returns-clause-file c = reading_is_of_file

pub returns-clause-access : goal.returns-clause-access
returns-clause-access c = access_alone_is_refused

pub returns-clause-copied : goal.returns-clause-copied
returns-clause-copied c = source_stays

pub returns-clause-refused : goal.returns-clause-refused
returns-clause-refused c = refused_source_stays
