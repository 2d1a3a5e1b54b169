use Rattle.f11_store.proofs.WorkedLagLemmas.{limits_stay, sequences_stay, truncate_adds_no_pointer}
use Rattle.f11_store.proofs.worked.still_counts.Goals as goal

pub returns : goal.returns
returns c = record { limits = limits_stay; sequences = sequences_stay; pointers = truncate_adds_no_pointer }
