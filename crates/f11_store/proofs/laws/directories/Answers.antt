use Rattle.f11_store.proofs.DirectoryLaws.{entered_is_found, standing_is_duplicate, removed_is_empty}
use Rattle.f11_store.proofs.RemovalLaws.{removed_then_found}
use Rattle.f11_store.proofs.laws.directories.Goals as goal

pub returns : goal.returns
returns c = record {
  found = entered_is_found;
  duplicate = standing_is_duplicate;
  removed = removed_is_empty;
  elsewhere = removed_then_found;
}
