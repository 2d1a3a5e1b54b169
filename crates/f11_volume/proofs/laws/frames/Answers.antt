use Rattle.f11_volume.proofs.FrameLemmas.{frame-none, frame-only, frame-first}
use Rattle.f11_volume.proofs.laws.frames.Goals as goal

pub returns-clause-none : goal.returns-clause-none
returns-clause-none c = frame-none

pub returns-clause-only : goal.returns-clause-only
returns-clause-only c = frame-only

pub returns-clause-first : goal.returns-clause-first
returns-clause-first c = frame-first
