use Rattle.std.proofs.Common.{Ok, ap}
use Rattle.f11_commands.proofs.SizeLemmas.{control-lacks, control-read}
use Rattle.f11_commands.proofs.size.read_control.Goals as goal

pub returns-clause-reads : goal.returns-clause-reads
returns-clause-reads g c =
    control-read _ _ _ _ _ _ (c.in_ok-read.ensures.reads (ap Ok c.if-not-branch.false)) _ c.size_in.ensures

pub returns-then-not-branch-clause-reads : goal.returns-then-not-branch-clause-reads
returns-then-not-branch-clause-reads g c =
    control-lacks _ _ _ _ _ (c.in_ok-read.ensures.ended (ap Ok c.if-not-branch.true))
