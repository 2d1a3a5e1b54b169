use Rattle.std.proofs.Common.{arith}
use Rattle.f11_dev.proofs.LookedLemmas.{looked_none}
use Rattle.f11_vfy.proofs.frame.own_files.first_no_file.Goals as goal

pub loop-n-init : goal.loop-n-init
loop-n-init g c = record { low = omega arith; own = λ honest m low below. absurd (omega (arith, low, below)); looked = looked_none _ }
