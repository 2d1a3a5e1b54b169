use Rattle.std.proofs.Common.{[], ◌∙◌, ◌||◌, false, ap, refl, sym}
use Rattle.std.proofs.lemmas.Bool.{ne_eqb}
use Rattle.f11_files.specs.Answers.{is_fatal}
use Rattle.f11_fcp.specs.Handles.{state_of}
use Rattle.f11_fcp.specs.Places.{access_table_of}
use Rattle.f11_fcp.proofs.WindowLemmas.{windows-on}
use Rattle.f11_fcp.proofs.RowLemmas.{grown-leaves}
use Rattle.f11_fcp.proofs.OpenLemmas.{stays-open}
use Rattle.f11_fcp.proofs.GrowIndexLemmas.{grow-zero, grow-unprivileged, grown, not-grown}
use Rattle.f11_fcp.proofs.HandedLemmas.{handles-handed, open-handed}
use Rattle.f11_fcp.proofs.table.Accesses.grow_index.Goals as goal

pub returns-then-n-eq0-clause-handles : goal.returns-then-n-eq0-clause-handles
returns-then-n-eq0-clause-handles g c = grow-zero c.args.task c.args.n c.args.caller _ c.if-n-eq0.true

pub returns-then-not-is_of-clause-handles : goal.returns-then-not-is_of-clause-handles
returns-then-not-is_of-clause-handles g c =
    grow-unprivileged c.args.task c.args.n c.args.caller _ (ne_eqb _ _ c.if-n-eq0.false) (sym c.is_of.ensures ∙ c.if-not-is_of.true)

pub returns-clause-handles : goal.returns-clause-handles
returns-clause-handles g c =
    let t = access_table_of c.args.self.now in
    grown c.args.task c.args.n c.args.caller (state_of t c.args.files.now) (ne_eqb _ _ c.if-n-eq0.false)
    (sym c.is_of.ensures ∙ c.if-not-is_of.false) c.in_ok-slots.slots (state_of t c.grow_index.new.self) c.in_ok-slots.ensures.grown.0
    c.in_ok-slots.ensures.grown.1 c.in_ok-slots.ensures.answers.home refl

pub returns-clause-open : goal.returns-clause-open
returns-clause-open g c =
    stays-open (access_table_of c.args.self.now) c.args.files.now c.grow_index.new.self c.args.task c.args.caller _ _ [] [] c.requires.open
    (λ _. tt) (returns-clause-handles g c)
    (λ _. c.in_ok-slots.ensures.answers.next ∙ ap (λ b. b || false) c.requires.open.alive)
    (windows-on (access_table_of c.args.self.now) c.args.files.now c.grow_index.new.self c.requires.open
    (returns-clause-handles g c).writes (returns-clause-handles g c).home
    (grown-leaves c.args.files.now c.grow_index.new.self (g.met.D.Device.is_image c.args.files.now.device)
    (g.met.D.Device.is_image c.grow_index.new.self.device) c.in_ok-slots.ensures.answers.home c.args.n c.in_ok-slots.ensures.grown.1))

pub returns-in_err-slots-clause-handles : goal.returns-in_err-slots-clause-handles
returns-in_err-slots-clause-handles g c =
    let t = access_table_of c.args.self.now in
    handles-handed c.from_residual.result _ c.from_residual.ensures.1
    (not-grown c.args.task c.args.n c.args.caller (state_of t c.args.files.now) (ne_eqb _ _ c.if-n-eq0.false)
    (sym c.is_of.ensures ∙ c.if-not-is_of.false) c.in_err-slots.field-0.0 (state_of t c.grow_index.new.self) c.requires.open.alive
    c.in_err-slots.ensures.refused c.in_err-slots.ensures.answers.home refl c.in_err-slots.ensures.answers.counts)

pub returns-in_err-slots-clause-open : goal.returns-in_err-slots-clause-open
returns-in_err-slots-clause-open g c =
    open-handed (access_table_of c.args.self.now) c.args.files.now c.grow_index.new.self c.args.task c.args.caller _ c.from_residual.result
    _ [] []
    c.from_residual.ensures.1 c.requires.open
    (returns-in_err-slots-clause-handles g c)
    (λ clean. c.in_err-slots.ensures.answers.next ∙ ap (λ b. b || is_fatal c.in_err-slots.field-0.0) c.requires.open.alive ∙ clean)
