use Rattle.rt11_volume.proofs.NameLemmas.{IsRtName-from_parts, rt_words-eq}
use Rattle.std.proofs.Common.{sym}
use Rattle.rt11_volume.proofs.name.RtName.of_parts.Goals as goal

pub invariant_of-result : goal.invariant_of-result
invariant_of-result c =
    IsRtName-from_parts _ c.args.name.now c.args.kind.now (c.is_proper.ensures.0 c.if-not-is_proper.false)
    (sym (rt_words-eq c.args.name.now c.args.kind.now _ _ _ c.in_ok-first.ensures.word c.in_ok-second.ensures.word
    c.in_ok-third.ensures.word))

pub returns : goal.returns
returns c = (
  c.is_proper.ensures.0 c.if-not-is_proper.false,
  rt_words-eq c.args.name.now c.args.kind.now _ _ _ c.in_ok-first.ensures.word c.in_ok-second.ensures.word c.in_ok-third.ensures.word,
)
