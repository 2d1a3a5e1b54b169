use Rattle.f11_store.proofs.GrowsLemmas.{fewer-may-grow, grows-twice, grows-within, none-grow, others-may}
use Rattle.f11_store.proofs.laws.pieces.Goals as goal

pub returns : goal.returns
returns c = record { none = none-grow; twice = grows-twice; within = grows-within; fewer = fewer-may-grow; others = others-may }
