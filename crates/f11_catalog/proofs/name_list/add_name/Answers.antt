use Rattle.f11_catalog.proofs.NamesLemmas.{adds-none, adds-one}
use Rattle.f11_catalog.proofs.name_list.add_name.Goals as goal

pub returns-in_ok-push : goal.returns-in_ok-push
returns-in_ok-push c = λ bytes is. adds-one bytes _ is _ c.in-Some.name _ c.in-Some.ensures c.in_ok-push.ensures.items

pub returns-in_default : goal.returns-in_default
returns-in_default c = λ bytes is. adds-none bytes _ is _ c.in_default.ensures
