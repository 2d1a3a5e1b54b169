use Rattle.std.proofs.Common.{◌∙◌, ap, sym}
use Rattle.rt11_text.proofs.TextLemmas.{end-gives, held}
use Rattle.rt11_text.proofs.to_host.ToHost.end.Goals as goal

pub returns-then-self : goal.returns-then-self
returns-then-self c = sym (end-gives c.args.self.cr c.args.self.ended ∙ ap held c.if-self.true)

pub returns-else-self : goal.returns-else-self
returns-else-self c = sym (end-gives c.args.self.cr c.args.self.ended ∙ ap held c.if-self.false)
