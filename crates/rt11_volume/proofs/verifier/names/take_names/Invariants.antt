use Rattle.rt11_volume.specs.Verifying.Names.{TakesNames}
use Rattle.rt11_volume.proofs.verifier.names.take_names.Given as goal

-- the names of the entries so far are taken
abbrev pub invariant-loop-i : goal.invariant-loop-i
invariant-loop-i l = TakesNames l.visited l.j 0 l.j l.i l.fn.names l.names
