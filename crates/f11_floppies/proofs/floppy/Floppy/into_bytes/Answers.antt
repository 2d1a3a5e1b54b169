use Rattle.f11_floppies.proofs.FloppyLemmas.{order-told}
use Rattle.f11_floppies.proofs.floppy.Floppy.into_bytes.Goals as goal

pub returns-clause-order : goal.returns-clause-order
returns-clause-order c = order-told c.args.self.order c.args.self.bytes.items
