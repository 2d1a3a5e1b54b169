use Rattle.std.proofs.Common.{Some, None, subst, sym, refl}
use Rattle.f11_patterns.specs.Turns.{GetsIn}
use Rattle.f11_patterns.proofs.giving.name_in.Goals as goal

pub returns-in-Own : goal.returns-in-Own
returns-in-Own g c =
    record {
      gets = subst (λ turn. GetsIn turn g.K.HostNaming.naming c.args.there.now c.args.path.now c.own_name-own.result) (sym c.in-Own.is)
          (record {
            part = c.last_part-part.result.now;
            last = rw c.as_bytes.ensures.value at c.last_part-part.ensures.last;
            is = c.own_name-own.ensures.own;
          });
    }

pub returns-in-Some : goal.returns-in-Some
returns-in-Some g c =
    record {
      gets = subst (λ turn. GetsIn turn g.K.HostNaming.naming c.args.there.now c.args.path.now None) (sym c.in-Fitted.is)
          (record {
            part = c.last_part-part.result.now;
            last = rw c.as_bytes.ensures.value at c.last_part-part.ensures.last;
            own = Some c.in-Some.field-0;
            is = c.in-Some.ensures.own;
            fitted = refl;
          });
    }

pub returns-in-None : goal.returns-in-None
returns-in-None g c =
    record {
      gets = subst (λ turn. GetsIn turn g.K.HostNaming.naming c.args.there.now c.args.path.now c.fitted_among.result) (sym c.in-Fitted.is)
          (record {
            part = c.last_part-part.result.now;
            last = rw c.as_bytes.ensures.value at c.last_part-part.ensures.last;
            own = None;
            is = c.in-None.ensures.own;
            fitted = c.fitted_among.ensures;
          });
    }
