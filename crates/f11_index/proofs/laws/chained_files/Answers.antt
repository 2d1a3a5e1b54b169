use Rattle.f11_index.proofs.HeadersLemmas.{chained-whole, chained-apart, chained-before}
use Rattle.f11_index.proofs.laws.chained_files.Goals as goal

pub returns : goal.returns
returns c =
    record {
      whole = chained-whole;
      apart = λ t f g n chained of from. chained-apart chained of from;
      before = λ t f n chained of some.
          chained-before chained of some;
    }
