use Rattle.std.proofs.Common.{◌<◌, ◌-◌, ap, sym, subst, arith, Some, None, false}
use Rattle.f11_flx.specs.Place.{ReadsByte, RefusesByte}
use Rattle.f11_flx.specs.Records.{some_of}
use Rattle.f11_flx.specs.declared.layout.Layout.{Layout}
use Rattle.f11_flx.specs.declared.place.Place.TheVariants as place
use Rattle.f11_flx.proofs.Texts.TextLemmas.{reads-fixed, reads-low, refuses-fixed, refuses-low}
use Rattle.f11_flx.proofs.to_text.first.Goals as goal

pub returns-then-from-rest-clause-bad : goal.returns-then-from-rest-clause-bad
returns-then-from-rest-clause-bad c =
    let some : 0 < c.in-Fixed.size = omega (arith, c.requires, ap some_of c.in-Fixed.is) in
    subst (λ (l : Layout). RefusesByte l place.Record c.args.byte c.args.rest) (sym c.in-Fixed.is)
    (refuses-fixed c.in-Fixed.size c.args.byte c.args.rest some (omega (arith, c.from.ensures)))

pub returns-else-from-rest-clause-reads : goal.returns-else-from-rest-clause-reads
returns-else-from-rest-clause-reads c =
    let some : 0 < c.in-Fixed.size = omega (arith, c.requires, ap some_of c.in-Fixed.is) in
    subst (λ (l : Layout). ReadsByte l place.Record (place.Within (c.in-Fixed.size - 1) false) c.args.byte c.args.rest (Some c.args.byte))
    (sym c.in-Fixed.is)
    (reads-fixed c.in-Fixed.size c.args.byte c.args.rest some (omega (arith, c.from.ensures)))

pub returns-then-rest-eq0-clause-bad : goal.returns-then-rest-eq0-clause-bad
returns-then-rest-eq0-clause-bad c =
    subst (λ (l : Layout). RefusesByte l place.Record c.args.byte c.args.rest) (sym c.in-Variable.is)
    (refuses-low c.args.byte c.args.rest c.if-rest-eq0.true)

pub returns-else-rest-eq0-clause-reads : goal.returns-else-rest-eq0-clause-reads
returns-else-rest-eq0-clause-reads c =
    subst (λ (l : Layout). ReadsByte l place.Record (place.High c.args.byte) c.args.byte c.args.rest None) (sym c.in-Variable.is)
    (reads-low c.args.byte c.args.rest (omega arith))
