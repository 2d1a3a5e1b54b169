use Rattle.f11_writes.proofs.OtherLemmas.{unread-keeps, unnamed-keeps, file-keeps}
use Rattle.f11_writes.proofs.laws.unread_writes.Goals as goal

pub returns : goal.returns
returns c = record {
  any = λ image home lbn block is. unread-keeps image home is lbn block;
  file = λ image home f vbn lbn block is. file-keeps image home is lbn block f vbn;
  unnamed = λ image home lbn block is. unnamed-keeps image home is lbn block;
}
