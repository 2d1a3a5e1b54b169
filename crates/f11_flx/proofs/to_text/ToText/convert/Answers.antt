use Rattle.f11_flx.proofs.Texts.ConvertLemmas.{none-behind}
use Rattle.f11_flx.proofs.to_text.ToText.convert.Goals as goal

pub returns-then-bad-clause-bad : goal.returns-then-bad-clause-bad
returns-then-bad-clause-bad c =
    let e = c.convert_good-used.ensures in
    none-behind c.args.self.now c.convert_good-used.new.self c.args.source.now _ _ c.args.from _ e.converts (e.bad c.if-bad.true)

pub returns-clause-stops : goal.returns-clause-stops
returns-clause-stops c = c.convert_good-used.ensures.stops c.if-bad.false
