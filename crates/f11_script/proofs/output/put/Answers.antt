use Rattle.f11_script.proofs.OutputLemmas.{length_behind, more_written}
use Rattle.f11_script.proofs.output.put.Goals as goal

pub loop-at-preserved : goal.loop-at-preserved
loop-at-preserved g c = record {
  within = length_behind c.args.bytes.now c.loop-at.at c.in_ok-at.field-0 c.loop-at.invariant.within c.in_ok-at.ensures.written.1;
  written = more_written _ _ _ c.args.bytes.now c.loop-at.at c.in_ok-at.field-0 c.loop-at.invariant.written c.in_ok-at.ensures.written.2;
}
