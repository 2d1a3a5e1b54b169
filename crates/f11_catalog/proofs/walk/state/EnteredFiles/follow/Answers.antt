use Rattle.std.proofs.Common.{◌||◌, ◌&&◌, ◌==◌, Bool, ap, ◌∙◌}
use Rattle.f11_bytes.proofs.ResultLemmas.{OnErr-given}
use Rattle.f11_store.specs.declared.files.FileId.{FileId}
use Rattle.f11_catalog.specs.Contents.{is_unused_directory}
use Rattle.f11_catalog.specs.Steps.{is_met}
use Rattle.f11_catalog.proofs.FollowingLemmas.{followed-all, followed-on, followed-part}
use Rattle.f11_catalog.proofs.walk.state.EnteredFiles.follow.Goals as goal

pub loop-found-preserved : goal.loop-found-preserved
loop-found-preserved g c =
    followed-on _ _ _ _ _ _ _ _ c.loop-found.invariant _ _ _ (rw c.in-Some.is at c.in_ok-found.ensures.enters)
    c.in_ok-found.ensures.walking _ (λ n. c.meet.ensures.adds n
    ∙ ap (λ (b : Bool). is_met c.loop-found.seen n || (b && (c.id-id.result.number == n))) c.is_unused_directory.ensures
    ∙ ap (λ (id : FileId). is_met c.loop-found.seen n || (is_unused_directory c.in-Some.found.content && (id.number == n)))
    c.id-id.ensures)

pub returns-clause-follows : goal.returns-clause-follows
returns-clause-follows g c =
    followed-all _ _ _ _ _ _ _ _ c.loop-found.invariant _ _ (rw c.in_default.is at c.in_ok-found.ensures.ended)

pub returns-in_err-found-clause-failed : goal.returns-in_err-found-clause-failed
returns-in_err-found-clause-failed g c =
    OnErr-given _ (followed-part _ _ _ _ _ _ _ _ c.loop-found.invariant _ c.in_err-found.ensures.failed)
