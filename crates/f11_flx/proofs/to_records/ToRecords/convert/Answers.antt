use Rattle.std.proofs.Common.{arith}
use Rattle.f11_flx.proofs.Texts.PutLemmas.{PutsAt-more, slice_range-more}
use Rattle.f11_flx.proofs.Texts.ReadLemmas.{ConvertsText-more}
use Rattle.f11_flx.proofs.to_records.ToRecords.convert.Goals as goal

pub loop-to-preserved : goal.loop-to-preserved
loop-to-preserved c =
    let held = c.loop-to.invariant in
    let step = rw c.in-Some.is at c.in_ok-next.ensures.steps in
    let put = c.put-to.ensures in
    record {
      converts =
          ConvertsText-more c.args.self.now c.loop-to.self c.step.new.self c.args.source.now c.loop-to.used _ c.loop-to.target
          c.put-to.new.block c.args.from c.loop-to.to c.put-to.result _ held.converts step
          (slice_range-more c.args.from held.converts.order (omega (arith, put.place)) put.puts put.put) (omega (arith, put.place));
      puts = PutsAt-more held.converts.order (omega (arith, put.place)) held.puts put.puts;
      room = put.within;
    }
