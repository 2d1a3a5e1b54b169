use Rattle.std.proofs.Common.{◌∙◌}
use Rattle.f11_dev.proofs.LookedLemmas.{looked_read, looked_more}
use Rattle.rt11_volume.proofs.Rewriting.Words.{segment_words-read}
use Rattle.rt11_volume.proofs.segment.Segment.read.Goals as goal

pub returns-clause-reads : goal.returns-clause-reads
returns-clause-reads g c =
    let one = looked_read _ _ c.in_ok-read.ensures.reads.counts in
    let two = looked_read _ _ c.in_ok-read-2.ensures.reads.counts in
    record {
      words_are = λ honest.
          segment_words-read _ _ c.args.k c.from.result c.read.new.into c.read-2.new.into c.from.ensures one.image
          (c.in_ok-read.ensures.reads.gives honest)
          (c.in_ok-read-2.ensures.reads.gives (one.honest ∙ honest));
      looked = looked_more one two;
    }
