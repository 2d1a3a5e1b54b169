use Rattle.f11_flx.proofs.FromRt.MadeLemmas.{copied-holds, granted-is-made}
use Rattle.f11_flx.proofs.making_laws.making.Goals as goal

pub returns : goal.returns
returns c = record { granted = granted-is-made; copied = copied-holds }
