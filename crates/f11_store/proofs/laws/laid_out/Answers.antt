use Rattle.f11_store.proofs.ContiguousLaws.{laid-out-has, marked-is-laid-out}
use Rattle.f11_store.proofs.laws.laid_out.Goals as goal

pub returns : goal.returns
returns c = record { marked = marked-is-laid-out; has = laid-out-has }
