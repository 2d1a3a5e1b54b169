use Rattle.std.proofs.Common.{◌-◌, ap, sym, ◌∙◌, Some, subst, arith}
use Rattle.f11_flx.specs.Place.{is_ending, wanted_at, ReadsByte}
use Rattle.f11_flx.specs.declared.place.Place.{Place}
use Rattle.f11_flx.specs.declared.place.Place.TheVariants as place
use Rattle.f11_flx.proofs.Texts.TextLemmas.{reads-within}
use Rattle.f11_flx.proofs.to_text.next.Goals as goal

pub returns-in-Within-clause-reads : goal.returns-in-Within-clause-reads
returns-in-Within-clause-reads c =
    let left = c.in-Within.left in
    let pad = c.in-Within.pad in
    subst (λ (p : Place). ReadsByte c.args.layout p (place.Within (left - 1) pad) c.args.byte c.args.rest (Some c.args.byte))
    (sym c.in-Within.is)
    (reads-within c.args.layout left pad c.args.byte c.args.rest (sym (ap is_ending c.in-Within.is) ∙ c.requires.reads)
    (omega (arith, c.requires.wanted, ap wanted_at c.in-Within.is)))
