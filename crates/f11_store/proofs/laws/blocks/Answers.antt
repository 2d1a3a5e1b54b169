use Rattle.f11_store.proofs.BlockLaws.{written_is_read, other_blocks_stay, other_files_stay}
use Rattle.f11_store.proofs.laws.blocks.Goals as goal

pub returns : goal.returns
returns c = record {
  read = written_is_read;
  other_blocks = other_blocks_stay;
  other_files = other_files_stay;
}
