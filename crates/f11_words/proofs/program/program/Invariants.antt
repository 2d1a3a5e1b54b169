use Rattle.std.proofs.Common.{◌≡◌, codes, fold, take}
use Rattle.clap.specs.Words.{app_of, new_app}
use Rattle.f11_words.specs.Told.{with_command}
use Rattle.f11_words.proofs.program.program.Given as goal

-- the commands so far
abbrev pub invariant-loop-command : goal.invariant-loop-command
invariant-loop-command l = app_of l.program ≡ fold with_command (new_app (codes "f11_pip")) (take l.command-index l.command-items)
