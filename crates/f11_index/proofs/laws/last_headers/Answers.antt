use Rattle.f11_index.proofs.HeadersLemmas.{whole-last, last-one, last-ends, last-whole}
use Rattle.f11_index.proofs.laws.last_headers.Goals as goal

pub returns : goal.returns
returns c = record { some = whole-last; one = last-one; ends = last-ends; whole = last-whole }
