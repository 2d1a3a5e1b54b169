use Rattle.f11_store.proofs.FileLaws.{new_slot_was_free, new_file_is_next, accessed_keeps_blocks}
use Rattle.f11_store.proofs.laws.identifications.Goals as goal

pub returns : goal.returns
returns c = record {
  free = new_slot_was_free;
  next = new_file_is_next;
  kept = accessed_keeps_blocks;
}
