use Rattle.std.proofs.Common.{arith}
use Rattle.f11_chain.proofs.ChangeLemmas.{has-more, has-header}
use Rattle.f11_chain.proofs.laws.growth.Goals as goal

pub returns : goal.returns
returns c = record {
  names = λ old new f n more last few stay none names. has-more old new f n last.of few stay last.no_link more none names;
  links = λ old new f n m last few stay some to names none. has-header old new f n last.of (omega (arith, few)) stay last.no_link m few some
      to names none;
}
