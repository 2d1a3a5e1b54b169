use Rattle.std.proofs.Common.{◌≡◌, ◌*◌}
use Rattle.f11_vfy.specs.Surveying.Bits.{limit_of}
use Rattle.f11_vfy.proofs.Surveying.Common.{CommonTo}
use Rattle.f11_vfy.proofs.survey.bits.Bits.common.Given as goal

-- the numbers of the words so far
abbrev pub invariant-loop-i : goal.invariant-loop-i
invariant-loop-i l = record { limit : limit_of l.both ≡ limit_of l.other; common : CommonTo l.self l.other l.both (64 * l.i) }
