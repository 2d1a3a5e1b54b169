use Rattle.f11_index.proofs.HeadersLemmas.{place-has, listed-are, headers-apart, headers-few, links-end}
use Rattle.f11_index.proofs.laws.whole_lists.Goals as goal

pub returns : goal.returns
returns c = record { place = place-has; alone = listed-are; apart = headers-apart; few = headers-few; end = links-end }
