use Rattle.std.proofs.Common.{[], ◌∙◌, ◌||◌, false, ap, refl}
use Rattle.f11_files.specs.Answers.{is_fatal}
use Rattle.f11_fcp.proofs.WindowLemmas.{windows-on}
use Rattle.f11_fcp.proofs.RowLemmas.{created-leaves}
use Rattle.f11_fcp.proofs.OpenLemmas.{stays-open}
use Rattle.f11_fcp.specs.Handles.{state_of}
use Rattle.f11_fcp.specs.Places.{access_table_of}
use Rattle.f11_fcp.proofs.RequestLemmas.{created, not-created}
use Rattle.f11_fcp.proofs.HandedLemmas.{handles-handed, open-handed}
use Rattle.f11_fcp.proofs.table.Accesses.create.Goals as goal

pub returns-clause-handles : goal.returns-clause-handles
returns-clause-handles g c =
    created c.args.task c.args.caller c.args.protection c.args.ident.now c.args.attr.now
    (state_of (access_table_of c.args.self.now) c.args.files.now) (state_of (access_table_of c.args.self.now) c.create.new.self) _
    c.in_ok-id.ensures.created c.in_ok-id.ensures.answers.home refl

pub returns-clause-open : goal.returns-clause-open
returns-clause-open g c =
    stays-open (access_table_of c.args.self.now) c.args.files.now c.create.new.self c.args.task c.args.caller _ _ [] [] c.requires.open
    (λ _. tt) (returns-clause-handles g c)
    (λ _. c.in_ok-id.ensures.answers.next ∙ ap (λ b. b || false) c.requires.open.alive)
    (windows-on (access_table_of c.args.self.now) c.args.files.now c.create.new.self c.requires.open
    (returns-clause-handles g c).writes (returns-clause-handles g c).home
    (created-leaves c.args.files.now c.create.new.self (g.met.D.Device.is_image c.args.files.now.device)
    (g.met.D.Device.is_image c.create.new.self.device) c.in_ok-id.ensures.answers.home _ c.args.protection c.args.ident.now c.args.attr.now
    _ c.in_ok-id.ensures.created))

pub returns-in_err-id-clause-handles : goal.returns-in_err-id-clause-handles
returns-in_err-id-clause-handles g c =
    handles-handed c.from_residual.result _ c.from_residual.ensures.1
    (not-created c.args.task c.args.caller c.args.protection c.args.ident.now c.args.attr.now _ c.requires.open.alive
    (state_of (access_table_of c.args.self.now) c.args.files.now) (state_of (access_table_of c.args.self.now) c.create.new.self)
    c.in_err-id.field-0.0 c.in_err-id.ensures.refused c.in_err-id.ensures.answers.home refl c.in_err-id.ensures.answers.counts)

pub returns-in_err-id-clause-open : goal.returns-in_err-id-clause-open
returns-in_err-id-clause-open g c =
    open-handed (access_table_of c.args.self.now) c.args.files.now c.create.new.self c.args.task c.args.caller _ c.from_residual.result _ []
    []
    c.from_residual.ensures.1 c.requires.open
    (returns-in_err-id-clause-handles g c)
    (λ clean. c.in_err-id.ensures.answers.next ∙ ap (λ b. b || is_fatal c.in_err-id.field-0.0) c.requires.open.alive ∙ clean)
