use Rattle.std.proofs.Common.{arith}
use Rattle.f11_flx.proofs.Texts.TextLemmas.{reads-high, refuses-high}
use Rattle.f11_flx.proofs.to_text.sized.Goals as goal

pub returns-then-from-rest-clause-bad : goal.returns-then-from-rest-clause-bad
returns-then-from-rest-clause-bad c = refuses-high c.args.low c.args.byte c.from-3.result c.args.rest (omega arith) (omega arith)

pub returns-else-from-rest-clause-reads : goal.returns-else-from-rest-clause-reads
returns-else-from-rest-clause-reads c = reads-high c.args.low c.args.byte _ c.args.rest (omega arith) (omega arith)
