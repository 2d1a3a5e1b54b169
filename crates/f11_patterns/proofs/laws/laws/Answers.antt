use Rattle.f11_patterns.proofs.FreeLemmas.{fitted-is-there}
use Rattle.f11_patterns.proofs.PatternLemmas.{IsPattern-one, no-dot}
use Rattle.f11_patterns.proofs.PlainLemmas.{star-like, plain-like, one-means-one, exactly-means-one}
use Rattle.f11_patterns.proofs.laws.laws.Goals as goal

pub returns : goal.returns
returns c =
    record {
      star = star-like;
      plain = plain-like;
      pattern = IsPattern-one;
      dot = no-dot;
      one = one-means-one;
      exactly = exactly-means-one;
      fitted = fitted-is-there;
    }
