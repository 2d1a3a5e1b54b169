use Rattle.f11_store.proofs.StepLaws.{refusal_changes_nothing, refusal_is_one, served_or_wanting, reply_is_one}
use Rattle.f11_store.proofs.laws.refusals.Goals as goal

pub returns : goal.returns
returns c = record {
  unchanged = refusal_changes_nothing;
  one = refusal_is_one;
  wanting = served_or_wanting;
  reply = reply_is_one;
}
