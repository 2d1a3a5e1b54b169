use Rattle.f11_commands.specs.RtAll.{entries_left}
use Rattle.f11_pip.proofs.rt_folder.blocks_wanted.Given as goal

-- each turn goes one entry on
abbrev pub decreases-loop-found : goal.decreases-loop-found
decreases-loop-found l = entries_left l.all
