use Rattle.f11_script.proofs.AskingLemmas.{line_asks_alone, block_is_passed_on}
use Rattle.f11_script.proofs.laws.asking.Goals as goal

pub returns : goal.returns
returns c = record { alone = line_asks_alone; block = block_is_passed_on }
