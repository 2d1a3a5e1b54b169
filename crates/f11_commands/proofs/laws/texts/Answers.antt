use Rattle.f11_commands.proofs.AllLemmas.{texts-whole}
use Rattle.f11_commands.proofs.laws.texts.Goals as goal

pub returns : goal.returns
returns c = record { whole = texts-whole }
