use Rattle.std.proofs.Common.{rules}
use Rattle.std.proofs.lemmas.Bool.{both_ways}
use Rattle.f11_vfy.proofs.Surveying.Over.{notes-stay, over-blocks, over-directories}
use Rattle.f11_vfy.proofs.verifier.examine_volume.Goals as goal

pub returns-then-not-are_wanted-clause-judges : goal.returns-then-not-are_wanted-clause-judges
returns-then-not-are_wanted-clause-judges g c =
    let read = rw c.places.ensures at c.in_ok-reading.ensures.reads in
    record {
      faults_are = λ honest. c.in_ok-faults.ensures.exact _ (read.shows honest);
      notes_are = λ wanted. absurd (both_ways _ c.if-not-are_wanted.true (c.are_wanted.ensures.1 wanted));
      looked = over-blocks _ _ _ _ _ read;
      spared = λ unwanted. read.looked.transfers;
    }

pub returns-in_err-notes-clause-failed : goal.returns-in_err-notes-clause-failed
returns-in_err-notes-clause-failed g c is =
    over-directories _ _ _ _ _ (rw c.places.ensures at c.in_ok-reading.ensures.reads) _ _ (c.in_err-notes.ensures.failed (search rules))

pub returns-in_err-notes-clause-no_memory : goal.returns-in_err-notes-clause-no_memory
returns-in_err-notes-clause-no_memory g c is =
    over-directories _ _ _ _ _ (rw c.places.ensures at c.in_ok-reading.ensures.reads) _ _
    (c.in_err-notes.ensures.no_memory (search rules))

pub returns-clause-judges : goal.returns-clause-judges
returns-clause-judges g c =
    let read = rw c.places.ensures at c.in_ok-reading.ensures.reads in
    record {
      faults_are = λ honest. c.in_ok-faults.ensures.exact _ (read.shows honest);
      notes_are = λ wanted honest. notes-stay _ _ _ _ _ read _ _ c.in_ok-notes.ensures.notes honest;
      looked = over-directories _ _ _ _ _ read _ _ c.in_ok-notes.ensures.notes.looked;
      spared = λ unwanted. absurd (unwanted (c.are_wanted.ensures.0 c.if-not-are_wanted.false));
    }
