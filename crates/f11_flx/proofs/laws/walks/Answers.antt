use Rattle.f11_flx.proofs.Texts.WalkLemmas.{start_has_all, taken_is_first, refused_is_bad, end_has_none}
use Rattle.f11_flx.proofs.laws.walks.Goals as goal

pub returns : goal.returns
returns c = record {
  start = start_has_all;
  taken = taken_is_first;
  refused = refused_is_bad;
  end = end_has_none;
}
