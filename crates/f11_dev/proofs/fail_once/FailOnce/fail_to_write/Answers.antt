use Rattle.f11_dev.proofs.fail_once.FailOnce.fail_to_write.Goals as goal

pub returns-then-self-clause-writes : goal.returns-then-self-clause-writes
returns-then-self-clause-writes g c = record {
  lands = λ landing. (c.write.result, c.write.ensures.writes);
  stays = λ staying. absurd (cc);
}
