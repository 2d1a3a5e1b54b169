use Rattle.std.proofs.Common.{subst, sym}
use Rattle.f11_making.specs.Asking.{Who, who_asks}
use Rattle.f11_flx.specs.declared.refusal.FlxRefusal.{FlxRefusal}
use Rattle.f11_host.specs.TextFilling.{FailsToCopyAgain}
use Rattle.f11_host.proofs.TextFillLemmas.{again-fails}
use Rattle.f11_host.proofs.text_making.copy_again.Goals as goal

pub returns-in-Err-clause-fails : goal.returns-in-Err-clause-fails
returns-in-Err-clause-fails g c =
    let who : Who = who_asks c.args.by.now.task c.args.by.now.uic in
    let k = c.in-Err.ensures.fails in (
      k.0,
      subst (λ (f : FlxRefusal). FailsToCopyAgain g.S.Asked.service who c.args.by.now.lun c.args.bytes c.args.plan.now f k.0
          (g.R.Read.remaining c.args.host.now) (g.R.Read.remaining c.copy_text.new.host)
          c.args.service.now c.copy_text.new.service) (sym c.unread.ensures)
          (again-fails g.S.Asked.service who c.args.by.now.lun c.args.bytes c.args.plan.now (g.R.Read.remaining c.args.host.now)
          (g.R.Read.remaining c.copy_text.new.host) c.args.service.now c.in-Err.refusal k.0
          c.copy_text.new.service k.1),
    )
