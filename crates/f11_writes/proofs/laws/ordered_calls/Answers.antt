use Rattle.f11_writes.proofs.InOrderLemmas.{each-fixed, each-orderly, order-failed, order-looked, order-then, order-write}
use Rattle.f11_writes.proofs.MomentLemmas.{order-accepted}
use Rattle.f11_writes.proofs.laws.ordered_calls.Goals as goal

pub returns : goal.returns
returns c = record {
  looked = order-looked;
  wrote = λ old new home lbn block sound orderly. order-write old home sound lbn block orderly new;
  failed = λ old new home lbn block sound orderly. order-failed old home sound lbn block orderly new;
  kept = order-then;
  sound = each-orderly;
  fixed = each-fixed;
  accepted = order-accepted;
}
