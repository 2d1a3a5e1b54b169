use Rattle.f11_entries.proofs.EnteringLemmas.{entering_in_place, entering_at_end, entering_in_new_block, enter_lags, entry_is_block}
use Rattle.f11_entries.proofs.EnteringLemmas.{end_is_attr}
use Rattle.f11_entries.proofs.laws.entering.Goals as goal

pub returns : goal.returns
returns c = record {
  in_place = entering_in_place;
  at_end = entering_at_end;
  in_new_block = entering_in_new_block;
  request = enter_lags;
  entry = entry_is_block;
  end = end_is_attr;
}
