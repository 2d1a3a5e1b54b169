use Rattle.f11_store.proofs.WorkedLemmas.{entered_and_removed, entered_in_new_block, entered_behind_slot, end_moves}
use Rattle.f11_store.proofs.worked.directories.Goals as goal

pub returns : goal.returns
returns c =
    record {
      entered_and_removed = entered_and_removed;
      entered_in_new_block = entered_in_new_block;
      entered_behind_slot =
          entered_behind_slot;
      end_moves = end_moves;
    }
