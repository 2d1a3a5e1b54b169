use Rattle.std.proofs.lemmas.Result.{on_ok_weaker}
use Rattle.f11_catalog.proofs.DirectoryLemmas.{named-lines, no-name}
use Rattle.f11_catalog.proofs.list.write_named.Goals as goal

pub returns-in_default-clause-writes : goal.returns-in_default-clause-writes
returns-in_default-clause-writes g c = λ bytes is. no-name bytes _ is _ _ _ _ _ _ (rw c.in_default.is at c.name.ensures)

pub returns-clause-writes : goal.returns-clause-writes
returns-clause-writes g c =
    on_ok_weaker c.write_directory.result (λ writes bytes is.
    named-lines bytes _ is _ _ _ _ c.in-Some.name (rw c.in-Some.is at c.name.ensures) _ _ _ _ (rw c.of-name.ensures at writes))
    c.write_directory.ensures.writes
