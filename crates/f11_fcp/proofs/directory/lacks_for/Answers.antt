use Rattle.std.proofs.Common.{◌≡◌, not, sym, ap, subst}
use Rattle.f11_fcp.specs.Directories.{lacks_for_purpose}
use Rattle.f11_fcp.specs.declared.purpose.Purpose.{Purpose}
use Rattle.f11_fcp.proofs.directory.lacks_for.Goals as goal

pub returns-in-Look : goal.returns-in-Look
returns-in-Look c =
    subst (λ (p : Purpose). not c.may.result ≡ lacks_for_purpose p c.args.caller c.args.attr.now.owner c.args.attr.now.protection)
    (sym c.in-Look.is) (ap not c.may.ensures)

pub returns-in-Change : goal.returns-in-Change
returns-in-Change c =
    subst (λ (p : Purpose). not c.may-in-Change.result ≡ lacks_for_purpose p c.args.caller c.args.attr.now.owner c.args.attr.now.protection)
    (sym c.in-Change.is) (ap not c.may-in-Change.ensures)
