use Rattle.std.proofs.Common.{◌∙◌, ◌||◌, false, ap, sym, refl}
use Rattle.f11_files.specs.Answers.{is_fatal}
use Rattle.f11_fcp.specs.Handles.{state_of}
use Rattle.f11_fcp.specs.Places.{access_table_of, entry_of}
use Rattle.f11_fcp.proofs.KnownLemmas.{known-clean}
use Rattle.f11_fcp.proofs.LengthLemmas.{measure-none, measured, measured-open, not-measured}
use Rattle.f11_fcp.proofs.OpenLemmas.{there-open}
use Rattle.f11_fcp.proofs.table.Accesses.length.Goals as goal

pub returns-in-None-clause-measures : goal.returns-in-None-clause-measures
returns-in-None-clause-measures g c =
    measure-none c.args.task c.args.lun (state_of (access_table_of c.args.self.now) c.args.files.now) c.in-None.ensures.value

pub returns-in-Ok-clause-measures : goal.returns-in-Ok-clause-measures
returns-in-Ok-clause-measures g c =
    let t = access_table_of c.args.self.now in
    measured c.args.task c.args.lun (state_of t c.args.files.now) (entry_of c.in-Some.held) (sym c.in-Some.ensures.value)
    (there-open c.args.task c.args.lun (entry_of c.in-Some.held) c.requires.open c.in-Some.ensures.within (sym c.in-Some.ensures.value))
    c.in-Ok.blocks (state_of t c.length.new.self) c.in-Ok.ensures.counts c.in-Ok.ensures.answers.home refl c.in-Ok.ensures.told.counts

pub returns-in-Ok-clause-open : goal.returns-in-Ok-clause-open
returns-in-Ok-clause-open g c clean =
    measured-open (access_table_of c.args.self.now) c.args.files.now c.length.new.self c.requires.open c.in-Ok.ensures.counts.reads
    c.in-Ok.ensures.answers.home
    (c.in-Ok.ensures.answers.next ∙ ap (λ b. b || false) c.requires.open.alive)

pub returns-in-Err-clause-measures : goal.returns-in-Err-clause-measures
returns-in-Err-clause-measures g c =
    let t = access_table_of c.args.self.now in
    not-measured c.args.task c.args.lun (state_of t c.args.files.now) (entry_of c.in-Some.held) (sym c.in-Some.ensures.value)
    (there-open c.args.task c.args.lun (entry_of c.in-Some.held) c.requires.open c.in-Some.ensures.within (sym c.in-Some.ensures.value))
    c.in-Err.refusal c.of_known.result (state_of t c.length.new.self) c.requires.open.alive c.in-Err.ensures.refused
    c.in-Err.ensures.answers.home refl c.in-Err.ensures.told.counts c.of_known.ensures

pub returns-in-Err-clause-open : goal.returns-in-Err-clause-open
returns-in-Err-clause-open g c clean =
    measured-open (access_table_of c.args.self.now) c.args.files.now c.length.new.self c.requires.open c.in-Err.ensures.refused.reads
    c.in-Err.ensures.answers.home
    (c.in-Err.ensures.answers.next ∙ ap (λ b. b || is_fatal c.in-Err.refusal) c.requires.open.alive
    ∙ known-clean c.in-Err.refusal (ap is_fatal (sym c.of_known.ensures) ∙ clean))
