use Rattle.std.proofs.Common.{inr}
use Rattle.std.proofs.lemmas.Result.{err_from_is_err_and}
use Rattle.f11_flx.proofs.transfer.copy_from.Goals as goal

pub returns-in_err-make-clause-fails : goal.returns-in_err-make-clause-fails
returns-in_err-make-clause-fails g c =
    let p = err_from_is_err_and c.from_residual-in_err-make.result c.from_residual-in_err-make.ensures.1 in rw (p.1, p.2)
    (inr (record {
      many = c.in_ok-plan.plan.source;
      blocks = c.in_ok-plan.plan.blocks;
      attr = c.in_ok-plan.plan.attr;
      between = c.judge.new.rt;
      plans = c.in_ok-plan.ensures.plans;
      fails = c.in_err-make.ensures.fails;
    }))
