use Rattle.std.proofs.Common.{◌∙◌, ap, sym}
use Rattle.f11_dev.proofs.ImageLemmas.{image_block-read}
use Rattle.f11_dev.proofs.LookedLemmas.{looked_read}
use Rattle.f11_salvage.specs.RtPack.{has_some}
use Rattle.f11_salvage.proofs.HeadLemmas.{count-read}
use Rattle.f11_salvage.proofs.rt_pack.read_head.Goals as goal

pub returns-clause-is : goal.returns-clause-is
returns-clause-is g c = λ honest within.
    let one = looked_read _ _ c.in_ok-read.ensures.reads.counts in
    record {
      segments_are = c.read_word.ensures ∙ sym (count-read _ _ c.read-2.new.into one.image
          (c.in_ok-read-2.ensures.reads.gives (one.honest ∙ honest)) c.read-2.array_long);
      boots_is = c.has_some.ensures ∙ ap has_some (sym (image_block-read _ 0 c.read.new.into (c.in_ok-read.ensures.reads.gives honest)));
    }
