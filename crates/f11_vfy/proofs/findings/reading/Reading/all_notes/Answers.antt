use Rattle.f11_vfy.proofs.Scanning.Verdict.{volume-notes}
use Rattle.f11_vfy.proofs.findings.reading.Reading.all_notes.Goals as goal

pub returns-clause-notes : goal.returns-clause-notes
returns-clause-notes g c = record {
  exact = λ honest bitmap shows.
      volume-notes _ _ _ _ _ (c.in_ok-notes.ensures.exact _ _ shows) (c.in_ok-add_directory_notes.ensures.adds.finds honest bitmap shows)
      (c.in_ok-add_last_notes.ensures _ _ shows);
  looked = c.in_ok-add_directory_notes.ensures.adds.looked;
}
