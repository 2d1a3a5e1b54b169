use Rattle.std.proofs.Common.{[], ◌∙◌, ◌||◌, false, arith, ap, sym, refl}
use Rattle.f11_files.specs.Answers.{is_fatal}
use Rattle.f11_files.proofs.writes.LostLemmas.{lost-then}
use Rattle.f11_fcp.specs.Handles.{state_of}
use Rattle.f11_fcp.specs.Places.{access_table_of}
use Rattle.f11_fcp.proofs.RowLemmas.{extended-leaves}
use Rattle.f11_fcp.proofs.OpenLemmas.{served-open, stays-open}
use Rattle.f11_store.specs.declared.requests.Request.TheVariants as request
use Rattle.f11_fcp.proofs.AccessedLemmas.{of-accessed-clean}
use Rattle.f11_fcp.proofs.LengthenLemmas.{extended, lengthen-refused, not-extended}
use Rattle.f11_fcp.proofs.HandedLemmas.{handles-handed, open-handed}
use Rattle.f11_fcp.proofs.table.Accesses.extend.Goals as goal

pub returns-in_err-file-clause-handles : goal.returns-in_err-file-clause-handles
returns-in_err-file-clause-handles g c =
    let t = access_table_of c.args.self.now in
    handles-handed c.from_residual.result _ c.from_residual.ensures.1
    (lengthen-refused c.args.task c.args.lun c.args.n c.args.caller (state_of t c.args.files.now) (request.Extend c.args.lun c.args.n) _ _
    (state_of t c.may_lengthen.new.files) c.in_err-file.field-0.0 refl refl (omega arith) c.in_err-file.ensures.refused
    c.may_lengthen.ensures.home refl
    c.may_lengthen.ensures.told)

pub returns-in_err-file-clause-open : goal.returns-in_err-file-clause-open
returns-in_err-file-clause-open g c =
    open-handed (access_table_of c.args.self.now) c.args.files.now c.may_lengthen.new.files c.args.task c.args.caller _
    c.from_residual.result _ [] []
    c.from_residual.ensures.1 c.requires.open
    (returns-in_err-file-clause-handles g c) c.in_err-file.ensures.alive

pub returns-in-Ok-clause-handles : goal.returns-in-Ok-clause-handles
returns-in-Ok-clause-handles g c =
    let t = access_table_of c.args.self.now in
    extended c.args.task c.args.lun c.args.n c.args.caller (state_of t c.args.files.now) c.in_ok-file.file
    (state_of t c.may_lengthen.new.files)
    (state_of t c.extend.new.self) c.in_ok-file.ensures.granted c.may_lengthen.ensures.home c.in-Ok.ensures.answers.home refl
    c.in-Ok.length c.in-Ok.ensures.extended.0 c.in-Ok.ensures.extended.1

pub returns-in-Ok-clause-open : goal.returns-in-Ok-clause-open
returns-in-Ok-clause-open g c =
    served-open (access_table_of c.args.self.now) c.args.files.now c.may_lengthen.new.files c.extend.new.self c.args.task c.args.caller _ _
    c.requires.open (λ _. tt) (returns-in-Ok-clause-handles g c) c.in_ok-file.ensures.granted.reads c.may_lengthen.ensures.home
    (c.in-Ok.ensures.answers.next ∙ ap (λ b. b || false) (c.in_ok-file.ensures.alive refl))
    (extended-leaves c.may_lengthen.new.files c.extend.new.self (g.met.D.Device.is_image c.may_lengthen.new.files.device)
    (g.met.D.Device.is_image c.extend.new.self.device) c.in-Ok.ensures.answers.home c.in_ok-file.file c.args.n
    c.in-Ok.ensures.extended.1)

pub returns-in-Err-clause-handles : goal.returns-in-Err-clause-handles
returns-in-Err-clause-handles g c =
    let t = access_table_of c.args.self.now in
    not-extended c.args.task c.args.lun c.args.n c.args.caller (state_of t c.args.files.now) c.in_ok-file.file
    (state_of t c.may_lengthen.new.files) (state_of t c.extend.new.self) c.in_ok-file.ensures.granted c.may_lengthen.ensures.home
    c.in-Err.ensures.answers.home refl c.in-Err.refusal c.of_accessed.result c.of_accessed.ensures
    c.may_lengthen.ensures.told c.in-Err.ensures.answers.counts (c.in_ok-file.ensures.alive refl) c.in-Err.ensures.refused

pub returns-in-Err-clause-open : goal.returns-in-Err-clause-open
returns-in-Err-clause-open g c =
    stays-open (access_table_of c.args.self.now) c.args.files.now c.extend.new.self c.args.task c.args.caller _ _ [] [] c.requires.open
    (λ _. tt) (returns-in-Err-clause-handles g c)
    (λ clean. c.in-Err.ensures.answers.next ∙ ap (λ b. b || is_fatal c.in-Err.refusal) (c.in_ok-file.ensures.alive refl)
    ∙ of-accessed-clean c.in-Err.refusal (ap is_fatal (sym c.of_accessed.ensures) ∙ clean)) tt

pub returns-in-Ok-clause-lost : goal.returns-in-Ok-clause-lost
returns-in-Ok-clause-lost g c = lost-then _ _ _ _ _ _ c.may_lengthen.ensures.lost c.extend.ensures.lost

pub returns-in-Err-clause-lost : goal.returns-in-Err-clause-lost
returns-in-Err-clause-lost g c = lost-then _ _ _ _ _ _ c.may_lengthen.ensures.lost c.extend.ensures.lost
