use Rattle.rt11_volume.proofs.verifier.verdict.verify.Goals as goal

pub invariant_of-volume-clause-lies : goal.invariant_of-volume-clause-lies
invariant_of-volume-clause-lies g c = λ honest alive. tt
