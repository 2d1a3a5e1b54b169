use Rattle.std.proofs.Common.{sym, arith}
use Rattle.std.proofs.lemmas.List.{get_or_past}
use Rattle.f11_bytes.specs.Block.{zero_block}
use Rattle.f11_dev.proofs.LookedLemmas.{looked_none, looked_within}
use Rattle.f11_commands.proofs.rt_area.read_at.Goals as goal

pub returns-clause-reads : goal.returns-clause-reads
unfolding zero_block
returns-clause-reads g c = record {
  block = λ _. sym (get_or_past _ c.args.lbn zero_block (omega (arith, c.if-lbn-from.false, c.from.ensures, c.blocks-2.ensures.count)));
  looked = looked_within (looked_none _) (omega arith);
}
