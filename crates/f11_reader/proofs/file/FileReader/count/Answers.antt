use Rattle.std.proofs.Common.{Ok, ap, arith}
use Rattle.f11_reader.proofs.ReadLemmas.{gone-none, gone-more, gone-blocks, count-first, count-more}
use Rattle.f11_reader.proofs.file.FileReader.count.Goals as goal

pub loop-init : goal.loop-init
loop-init g c = record {
  gone = gone-none _ _ _ c.requires.reading;
  count = λ honest. count-first _ _;
  few = omega (arith, c.args.self.now.few);
}

pub loop-preserved : goal.loop-preserved
loop-preserved g c =
    let steps = c.in_ok-next_header.ensures.steps (ap Ok c.if-not-branch.false) in
    record {
      gone = gone-more _ _ _ _ _ _ c.loop.invariant.gone _ _ steps c.in_ok-next_header.ensures.reading;
      count = λ honest.
          count-more _ _ c.loop.reader _ _ steps.first_block (c.loop.invariant.count honest)
          (gone-blocks _ _ _ _ _ _ c.loop.invariant.gone _ _ steps honest);
      few = omega (arith, c.loop.invariant.few, c.next_header.new.self.few);
    }
