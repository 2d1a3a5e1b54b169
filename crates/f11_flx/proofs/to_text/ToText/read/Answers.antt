use Rattle.f11_bytes.proofs.ResultLemmas.{OnErr-given}
use Rattle.f11_flx.proofs.Texts.TextLemmas.{refuses-on}
use Rattle.f11_flx.proofs.to_text.ToText.read.Goals as goal

pub returns-in_err-place-clause-bad : goal.returns-in_err-place-clause-bad
returns-in_err-place-clause-bad c =
    let self = c.args.self.now in
    OnErr-given _ (refuses-on self.layout self.place c.args.byte self.rest c.requires.some c.in_err-place.ensures.bad self.ends)
