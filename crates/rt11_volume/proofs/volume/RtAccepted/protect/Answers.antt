use Rattle.rt11_volume.proofs.volume.RtAccepted.protect.Goals as goal

pub invariant_of-self-clause-lies : goal.invariant_of-self-clause-lies
invariant_of-self-clause-lies g c = λ honest alive. tt
