use Rattle.std.proofs.Common.{◌∙◌, w8, arith, sym, subst, map, count_ones}
use Rattle.std.proofs.Common.{Fits}
use Rattle.std.specs.Simd.Lanes.{Each1}
use mir.Syntax.{w16}
use Rattle.f11_bits.proofs.LaneLemmas.{counts-fit, cast-stays, ones-summed}
use Rattle.f11_bits.proofs.lanes.ones.Goals as goal

pub overflow_cast-lanes : goal.overflow_cast-lanes
overflow_cast-lanes c = counts-fit w8 (omega arith) c.args.lanes c.fits-lanes.1

pub overflow_cast-lanes-2 : goal.overflow_cast-lanes-2
overflow_cast-lanes-2 c = subst (Each1 (Fits w16)) (sym (cast-stays (map count_ones c.args.lanes)))
    (counts-fit w16 (omega arith) c.args.lanes c.fits-lanes.1)

pub returns : goal.returns
returns c = c.from.ensures ∙ ones-summed c.args.lanes c.fits-lanes.0 c.fits-lanes.1
