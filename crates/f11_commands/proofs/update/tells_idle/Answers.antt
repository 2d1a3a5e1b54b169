use Rattle.std.proofs.Common.{sym, ◌∙◌}
use Rattle.f11_commands.proofs.UpdateLemmas.{told-first, told-none}
use Rattle.f11_commands.proofs.update.tells_idle.Goals as goal

pub returns-in-Some : goal.returns-in-Some
returns-in-Some c = told-first _ _ (sym c.get.ensures ∙ c.in-Some.is)

pub returns-in-None : goal.returns-in-None
returns-in-None c = told-none _ (sym c.get.ensures ∙ c.in-None.is)
