use Rattle.std.proofs.Common.{Err, ap}
use Rattle.f11_vfy.proofs.Frames.Read.{no-home, misplaced, frames-on}
use Rattle.f11_vfy.proofs.frame.read.read_frame.Goals as goal

pub returns-in-Err-NoHome-clause-frames : goal.returns-in-Err-NoHome-clause-frames
returns-in-Err-NoHome-clause-frames g c = no-home _ _ (c.in-Err-NoHome.ensures.none (ap Err c.in-Err-NoHome.field-0-is))

pub returns-in-Err-Misplaced-clause-frames : goal.returns-in-Err-Misplaced-clause-frames
returns-in-Err-Misplaced-clause-frames g c =
    misplaced _ _ _ c.in-Ok.ensures.found _ (c.in-Err-Misplaced.ensures.misplaced (ap Err c.in-Err-Misplaced.field-0-is))

pub returns-clause-frames : goal.returns-clause-frames
returns-clause-frames g c =
    frames-on _ _ _ c.in-Ok.ensures.found _ _ c.in-Ok-read.ensures.reads _ c.read_files.result c.read_files.ensures.frames
