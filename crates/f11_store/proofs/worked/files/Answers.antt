use Rattle.f11_store.proofs.WorkedLemmas.{sequence_numbers, full_volume, deferred_delete, truncated_under_a_reader, conflicts}
use Rattle.f11_store.proofs.WorkedLemmas.{other_volumes}
use Rattle.f11_store.proofs.worked.files.Goals as goal

pub returns : goal.returns
returns c =
    record {
      sequence_numbers = sequence_numbers;
      full_volume = full_volume;
      deferred_delete = deferred_delete;
      truncated_under_a_reader =
          truncated_under_a_reader;
      conflicts = conflicts;
      other_volumes = other_volumes;
    }
