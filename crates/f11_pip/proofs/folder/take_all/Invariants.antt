use Rattle.f11_commands.specs.AllCommand.{files_left}
use Rattle.f11_pip.proofs.folder.take_all.Given as goal

-- each turn takes a file of those that are still to come
abbrev pub decreases-loop-found : goal.decreases-loop-found
decreases-loop-found g l = files_left l.all
