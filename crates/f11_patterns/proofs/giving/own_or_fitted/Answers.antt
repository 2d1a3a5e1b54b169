use Rattle.std.proofs.Common.{◌∙◌}
use Rattle.f11_patterns.proofs.GivingLemmas.{all-own-or-fitted, more-own-or-fitted}
use Rattle.f11_patterns.proofs.giving.own_or_fitted.Goals as goal

pub loop-at-preserved : goal.loop-at-preserved
loop-at-preserved g c =
    let l = c.loop-at in
    more-own-or-fitted c.args.owns.now c.args.fits.now l.at c.index-owns-at.result c.index-fits-at.result c.or.result l.names.items
    c.give.new.names.items (rw c.min-at-end.ensures at c.loop-at-test.true) c.index-owns-at.is c.index-fits-at.is c.or.ensures
    c.in_ok-give.ensures l.invariant

pub returns : goal.returns
returns g c =
    c.loop-at.invariant ∙ all-own-or-fitted c.args.owns.now c.args.fits.now c.loop-at.at (rw c.min-at-end.ensures at c.loop-at-test.false)
