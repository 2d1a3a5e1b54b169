use Rattle.std.proofs.Common.{refl}
use Rattle.f11_flx.proofs.target.RtAcceptedTakes.take.Goals as goal

pub returns-in-Err-clause-refused : goal.returns-in-Err-clause-refused
returns-in-Err-clause-refused g c =
    let f = c.in-Err.ensures.refused in
    record {
      refusal = c.in-Err.refusal;
      is = refl;
      refused = f.refused;
      past = λ s alive none blocks few has.
          f.past s alive none blocks has;
    }
