use Rattle.std.proofs.Common.{⊎_elim, inl, inr, arith}
use Rattle.std.proofs.lemmas.Option.{slice_get-get_or}
use Rattle.rt11_volume.proofs.FreshLemmas.{fresh_accepted, unsized-kept}
use Rattle.rt11_volume.proofs.fresh_laws.stopped.Goals as goal

pub returns : goal.returns
returns c = λ segments old image is room unsized may.
    let whole = (is.each 6 _ (slice_get-get_or old 6 _ (omega (arith, room.room)))).size in
    ⊎_elim (λ same. inl (unsized-kept old image whole may.size same unsized)) (λ made. inr
    (fresh_accepted segments old image room made)) may.first
