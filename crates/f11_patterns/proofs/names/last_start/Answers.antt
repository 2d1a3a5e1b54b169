use Rattle.std.proofs.Common.{◌+◌, sym, subst}
use Rattle.f11_patterns.proofs.NamingLemmas.{IsLastSoFar, other-more, slash-more}
use Rattle.f11_patterns.proofs.names.last_start.Goals.{then-character-eq47, else-character-eq47}
use Rattle.f11_patterns.proofs.names.last_start.Goals as goal

pub loop-at-preserved : goal.loop-at-preserved
loop-at-preserved c =
    let path = c.args.path.now in
    let l = c.loop-at in
    let So = IsLastSoFar path (l.at + 1) in
    elim c.if-character-eq47.branch [
      | then-character-eq47 w ↦ subst So (sym w.start-is)
          (slash-more path l.at l.start c.loop-at-test.true l.invariant w.if-character-eq47.true)
      | else-character-eq47 w ↦ subst So (sym w.start-is)
          (other-more path l.at l.start c.loop-at-test.true l.invariant w.if-character-eq47.false)
    ]
