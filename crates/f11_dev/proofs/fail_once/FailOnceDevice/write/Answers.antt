use Rattle.f11_dev.proofs.fail_once.FailOnceDevice.write.Goals as goal
use Rattle.f11_dev.proofs.fail_once.FailOnceDevice.write.Goals.{then-self-eq1, else-self-eq1}

pub returns-clause-fails : goal.returns-clause-fails
returns-clause-fails g c = λ now. elim c.if-self-eq1.branch [
  | then-self-eq1 w ↦
      let fails = w.fail_to_write-done.ensures.writes in
      record {
        lands = λ landing. let landed = fails.lands landing in (landed.0, rw w.self-is landed.1);
        stays = λ staying. rw w.self-is (fails.stays staying);
      }
  | else-self-eq1 w ↦ absurd (w.if-self-eq1.false now)
]
