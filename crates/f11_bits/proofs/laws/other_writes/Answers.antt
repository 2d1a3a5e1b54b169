use Rattle.f11_bits.proofs.LawLemmas.{KeepsBitmap-write, is_free-kept, free_blocks-kept, Keeps-kept, IsFor-write}
use Rattle.f11_bits.proofs.laws.other_writes.Goals as goal

pub returns : goal.returns
returns c = record {
  bitmap = KeepsBitmap-write;
  free = is_free-kept;
  count = free_blocks-kept;
  kept = Keeps-kept;
  stays = IsFor-write;
}
