use Rattle.f11_volume.proofs.NoteLemmas.{runs-apart, runs-have, orphans-are, others-are, contiguous-are}
use Rattle.f11_volume.proofs.laws.notes.Goals as goal

pub returns : goal.returns
returns c = record { apart = runs-apart; lost = runs-have; orphans = orphans-are; entered = others-are; contiguous = contiguous-are }
