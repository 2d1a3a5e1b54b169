use Rattle.f11_store.proofs.WorkedLagLemmas.{create_takes_one_header, extend_takes_what_it_asks, grow_index_clears_first}
use Rattle.f11_store.proofs.WorkedLagLemmas.{delete_leaves_others, release_frees_once}
use Rattle.f11_store.proofs.worked.no_lags.Goals as goal

pub returns : goal.returns
returns c = record {
  create = create_takes_one_header;
  extend = extend_takes_what_it_asks;
  grow_index = grow_index_clears_first;
  delete = delete_leaves_others;
  release = release_frees_once;
}
