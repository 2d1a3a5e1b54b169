use Rattle.std.proofs.Common.{arith}
use Rattle.f11_layout.proofs.DirectoryLemmas.{PutsRecords-none, PutsRecords-more}
use Rattle.f11_layout.proofs.layout.Layout.fill_directory.Goals as goal

pub loop-i-init : goal.loop-i-init
loop-i-init c = rw c.zeros.ensures (PutsRecords-none _)

pub loop-i-preserved : goal.loop-i-preserved
loop-i-preserved c =
    PutsRecords-more _ _ _ _ _ _ _ c.put_words.array_long c.loop-i.invariant c.from.ensures c.own_file-file.ensures.file
    c.record_words.ensures c.put_words.ensures.record c.put_words.ensures.others

pub returns : goal.returns
returns c = record {
  size = c.loop-i.invariant.size;
  files = λ i below. c.loop-i.invariant.front i (omega (arith, below, c.loop-i-test.false));
  others = λ i from within. c.loop-i.invariant.rest i (omega (arith, from, c.loop-i-test.false)) within;
}
