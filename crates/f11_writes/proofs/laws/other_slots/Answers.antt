use Rattle.f11_writes.proofs.OtherSlotLemmas.{file-kept, stay-before, stay-up-to, header-was, entered-unlinked}
use Rattle.f11_writes.proofs.laws.other_slots.Goals as goal

pub returns : goal.returns
returns c = record {
  files = file-kept;
  before = stay-before;
  up_to = stay-up-to;
  were = λ old new n f m others. header-was old new n others f;
  entered = entered-unlinked;
}
