use Rattle.f11_entries.proofs.SeenLemmas.{looking_begins, looking_goes_on, name_is_found, looking_ends, entry_is_put, block_is_there}
use Rattle.f11_entries.proofs.SeenLemmas.{new_block_is_zeros, named_is_there}
use Rattle.f11_entries.proofs.laws.looking.Goals as goal

pub returns : goal.returns
returns c = record {
  begins = looking_begins;
  on = looking_goes_on;
  found = name_is_found;
  ends = looking_ends;
  put = entry_is_put;
  block = block_is_there;
  new_block = new_block_is_zeros;
  there = named_is_there;
}
