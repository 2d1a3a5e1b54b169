use Rattle.f11_store.proofs.WorkedLemmas.{bounds, bounds_behind_slots}
use Rattle.f11_store.proofs.WorkedCostLemmas.{giving-up-bounds, long-file-bounds, no-file-bounds, several-header-bounds, small-bounds}
use Rattle.f11_store.proofs.WorkedCostLemmas.{wide-directories, wide-index-bounds, wide-lengths}
use Rattle.f11_store.proofs.worked.transfers.Goals as goal

pub returns : goal.returns
returns c = record {
  bounds = bounds;
  bounds_behind_slots = bounds_behind_slots;
  lengths = wide-lengths;
  directories = wide-directories;
  small = small-bounds;
  no_file = no-file-bounds;
  long = long-file-bounds;
  several_headers = several-header-bounds;
  wide_index = wide-index-bounds;
  giving_up = giving-up-bounds;
}
