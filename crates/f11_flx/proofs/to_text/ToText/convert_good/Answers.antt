use Rattle.std.proofs.Common.{arith}
use Rattle.f11_flx.proofs.Texts.ConvertLemmas.{Converts-more}
use Rattle.f11_flx.proofs.Texts.PutLemmas.{PutsAt-more, slice_range-more}
use Rattle.f11_flx.proofs.to_text.ToText.convert_good.Goals as goal

pub loop-to-preserved : goal.loop-to-preserved
loop-to-preserved c =
    let held = c.loop-to.invariant in
    let step = rw c.in-Ok-Some.field-0-is at c.in-Ok-Some.ensures.steps in
    let put = c.put-to.ensures in
    record {
      converts =
          Converts-more c.args.self.now c.loop-to.self c.step.new.self c.args.source.now c.loop-to.used _ c.loop-to.target
          c.put-to.new.block c.args.from c.loop-to.to c.put-to.result _ held.converts step
          (slice_range-more c.args.from held.converts.order (omega (arith, put.place)) put.puts put.put) put.place;
      puts = PutsAt-more held.converts.order (omega (arith, put.place)) held.puts put.puts;
      room = put.within;
    }
