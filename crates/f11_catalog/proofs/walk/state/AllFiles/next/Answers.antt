use Rattle.std.proofs.Common.{ap, Bool, ◌||◌, ◌&&◌, ◌==◌, ◌∙◌}
use Rattle.std.proofs.lemmas.Result.{on_err_weaker}
use Rattle.f11_store.specs.declared.files.FileId.{FileId}
use Rattle.f11_catalog.specs.Contents.{is_file}
use Rattle.f11_catalog.specs.Steps.{is_met}
use Rattle.f11_catalog.proofs.FilesLemmas.{gives-entered, gives-other, no-file}
use Rattle.f11_catalog.proofs.HandedLemmas.{found-then, none-then}
use Rattle.f11_catalog.proofs.ListingLemmas.{reads-then}
use Rattle.f11_catalog.proofs.NumbersLemmas.{met-same}
use Rattle.f11_catalog.proofs.walk.state.AllFiles.next.Goals as goal

pub returns-in-Some-clause-gives : goal.returns-in-Some-clause-gives
returns-in-Some-clause-gives g c =
    gives-entered _ _ _ _ _ _ _ (rw c.in-Some.is at c.in_ok-found.ensures.enters)
    (λ n. c.meet.ensures.adds n
    ∙ ap (λ (b : Bool). is_met c.args.self.now.others n || (b && (c.id-id.result.number == n))) c.is_file.ensures
    ∙ ap (λ (id : FileId). is_met c.args.self.now.others n || (is_file c.in-Some.found.content && (id.number == n))) c.id-id.ensures)
    c.meet.ensures.next

pub returns-clause-gives : goal.returns-clause-gives
returns-clause-gives g c =
    found-then c.next_lost.result (λ found finds.
    gives-other _ _ _ _ _ _ _ (rw c.in_default.is at c.in_ok-found.ensures.ended) _ found finds
    (met-same c.next_lost.new.self c.args.self.now.others c.next_lost.ensures.met)) c.next_lost.ensures.finds

pub returns-clause-ended : goal.returns-clause-ended
returns-clause-ended g c =
    none-then c.next_lost.result (λ none.
    no-file _ _ _ _ _ _ _ (rw c.in_default.is at c.in_ok-found.ensures.ended) _ none
    (met-same c.next_lost.new.self c.args.self.now.others c.next_lost.ensures.met)) c.next_lost.ensures.none

pub returns-clause-failed : goal.returns-clause-failed
returns-clause-failed g c =
    let ended = rw c.in_default.is at c.in_ok-found.ensures.ended in
    on_err_weaker c.next_lost.result (reads-then ended.reads) c.next_lost.ensures.failed
