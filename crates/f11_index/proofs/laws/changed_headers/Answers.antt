use Rattle.f11_index.proofs.StayLemmas.{whole-stays}
use Rattle.f11_index.proofs.UpLemmas.{header-up, header-last, next-last}
use Rattle.f11_index.proofs.laws.changed_headers.Goals as goal

pub returns : goal.returns
returns c = record { whole = whole-stays; stays = λ old new f n of stay. header-up old new f of stay; last = header-last; next = next-last }
