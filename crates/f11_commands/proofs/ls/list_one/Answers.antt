use Rattle.std.proofs.lemmas.Result.{IfErr-weaker}
use Rattle.f11_catalog.proofs.LineLemmas.{breaks-behind}
use Rattle.f11_commands.proofs.HandedLemmas.{found-then, refused-then}
use Rattle.f11_commands.proofs.LsLemmas.{one-lists, one-refused}
use Rattle.f11_commands.proofs.ls.list_one.Goals as goal

pub returns-in-Ok-Ok-clause-lists : goal.returns-in-Ok-Ok-clause-lists
returns-in-Ok-Ok-clause-lists g c =
    let found = rw c.in-Ok-Ok.field-0-is at c.in-Ok-Ok.ensures.found in
    found-then c.list_directory.result (λ _ lists. one-lists _ _ _ _ _ _ _ _ found _ _ _ lists) c.list_directory.ensures.lists

pub returns-in-Ok-Ok-clause-refused : goal.returns-in-Ok-Ok-clause-refused
returns-in-Ok-Ok-clause-refused g c =
    let found = rw c.in-Ok-Ok.field-0-is at c.in-Ok-Ok.ensures.found in
    refused-then c.list_directory.result
    (λ _ refused. (refused.0, one-refused _ _ _ g.W.Write.contents _ _ _ _ found _ _ refused.1))
    c.list_directory.ensures.refused

pub returns-in-Ok-Ok-clause-failed : goal.returns-in-Ok-Ok-clause-failed
returns-in-Ok-Ok-clause-failed g c =
    let found = rw c.in-Ok-Ok.field-0-is at c.in-Ok-Ok.ensures.found in
    IfErr-weaker c.list_directory.result _ _ (λ _ breaks. breaks-behind _ _ _ _ found.reads breaks)
    c.list_directory.ensures.failed
