use Rattle.f11_fcp.proofs.laws.damage.Goals as goal

pub returns : goal.returns
returns c = record { undamaged = λ task caller r result old new block block' h. h.undamaged }
