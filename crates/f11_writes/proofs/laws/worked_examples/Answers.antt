use Rattle.f11_writes.proofs.AddedLemmas.{adds-block}
use Rattle.f11_writes.proofs.DeletedLemmas.{deletes-file}
use Rattle.f11_writes.proofs.LinkedLemmas.{links-header}
use Rattle.f11_writes.proofs.MadeLemmas.{makes-file}
use Rattle.f11_writes.proofs.laws.worked_examples.Goals as goal

pub returns : goal.returns
returns c = record {
  added = adds-block;
  made = λ old home n header after is new starts bit. makes-file old home n header after is new bit starts;
  linked = links-header;
  deleted = deletes-file;
}
