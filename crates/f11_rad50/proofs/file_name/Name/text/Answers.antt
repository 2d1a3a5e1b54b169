use Rattle.f11_rad50.proofs.Texts.{Spells-name_text}
use Rattle.f11_rad50.proofs.file_name.Name.text.Goals as goal

pub returns-clause-reads_back : goal.returns-clause-reads_back
returns-clause-reads_back c = rw c.in_ok-format.ensures.ok (Spells-name_text c.args.self.now (rw c.self.view_is at c.self.invariant))
