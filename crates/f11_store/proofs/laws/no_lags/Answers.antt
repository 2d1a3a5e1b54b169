use Rattle.f11_store.proofs.NoLags.{others_are_equal, no_parts_no_change, refused_is_still, end_comes_last}
use Rattle.f11_store.proofs.laws.no_lags.Goals as goal

pub returns : goal.returns
returns c = record {
  others = others_are_equal;
  no_parts = no_parts_no_change;
  refused = refused_is_still;
  end_last = end_comes_last;
}
