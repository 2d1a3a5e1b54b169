use Rattle.rt11_volume.proofs.TextLemmas.{RtSpells-text}
use Rattle.rt11_volume.proofs.name.RtName.text.Goals as goal

pub returns-clause-reads_back : goal.returns-clause-reads_back
returns-clause-reads_back c = rw c.in_ok-format.ensures.ok (RtSpells-text c.args.self.now (rw c.self.view_is at c.self.invariant))
