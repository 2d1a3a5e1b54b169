use Rattle.f11_entries.proofs.CostLemmas.{find_fits, remove_fits, enter_fits, append_fits, grown_fits, grown_headers}
use Rattle.f11_entries.proofs.laws.costs.Goals as goal

pub returns : goal.returns
returns c = record {
  find = find_fits;
  remove = remove_fits;
  enter = enter_fits;
  append = append_fits;
  grown = grown_fits;
  headers = grown_headers;
}
