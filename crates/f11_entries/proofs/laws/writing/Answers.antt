use Rattle.f11_entries.proofs.WritingLemmas.{entering_by_writes, room_is_asked, entering_in_place_by_write, removing_is_one_write}
use Rattle.f11_entries.proofs.WritingLemmas.{refused_lags_too}
use Rattle.f11_entries.proofs.FateLemmas.{enter_keeps_marks}
use Rattle.f11_entries.proofs.laws.writing.Goals as goal

pub returns : goal.returns
returns c = record {
  writes = entering_by_writes;
  room = room_is_asked;
  in_place = entering_in_place_by_write;
  removing = removing_is_one_write;
  refused = refused_lags_too;
  marks = enter_keeps_marks;
}
