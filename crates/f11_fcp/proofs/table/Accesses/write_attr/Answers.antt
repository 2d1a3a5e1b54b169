use Rattle.std.proofs.Common.{[], ◌∙◌, ◌||◌, false, ap, refl, sym}
use Rattle.f11_files.specs.Answers.{is_fatal}
use Rattle.f11_files.proofs.writes.LostLemmas.{lost-then}
use Rattle.f11_fcp.specs.Handles.{state_of}
use Rattle.f11_fcp.specs.Places.{access_table_of}
use Rattle.f11_fcp.proofs.RowLemmas.{replaced-leaves}
use Rattle.f11_fcp.proofs.OpenLemmas.{served-open, stays-open}
use Rattle.f11_fcp.proofs.AttributeLemmas.{change-bad, change-system, change-unread, change-marked, change-unprivileged, changed}
use Rattle.f11_fcp.proofs.AttributeLemmas.{not-changed}
use Rattle.f11_fcp.proofs.HandedLemmas.{handles-handed, open-handed}
use Rattle.f11_fcp.proofs.table.Accesses.write_attr.Goals as goal

pub returns-then-is_bad-clause-handles : goal.returns-then-is_bad-clause-handles
returns-then-is_bad-clause-handles g c =
    change-bad c.args.task c.args.caller c.args.file c.args.change.now (state_of (access_table_of c.args.self.now) c.args.files.now)
    (sym c.is_bad.ensures ∙ c.if-is_bad.true)

pub returns-then-file-lt4-clause-handles : goal.returns-then-file-lt4-clause-handles
returns-then-file-lt4-clause-handles g c =
    change-system c.args.task c.args.caller c.args.file c.args.change.now (state_of (access_table_of c.args.self.now) c.args.files.now)
    (sym c.is_bad.ensures ∙ c.if-is_bad.false) c.if-file-lt4.true

pub returns-in_err-attr-clause-handles : goal.returns-in_err-attr-clause-handles
returns-in_err-attr-clause-handles g c =
    handles-handed c.from_residual.result _ c.from_residual.ensures.1
    (change-unread c.args.task c.args.caller c.args.file c.args.change.now (state_of (access_table_of c.args.self.now) c.args.files.now)
    (sym c.is_bad.ensures ∙ c.if-is_bad.false) c.if-file-lt4.false c.in_err-attr.field-0.0
    (state_of (access_table_of c.args.self.now) c.read_attr.new.self) c.requires.open.alive c.in_err-attr.ensures.refused
    c.in_err-attr.ensures.answers.home refl c.in_err-attr.ensures.told.counts)

pub returns-in_err-attr-clause-open : goal.returns-in_err-attr-clause-open
returns-in_err-attr-clause-open g c =
    open-handed (access_table_of c.args.self.now) c.args.files.now c.read_attr.new.self c.args.task c.args.caller _ c.from_residual.result _
    [] []
    c.from_residual.ensures.1 c.requires.open
    (returns-in_err-attr-clause-handles g c)
    (λ clean. c.in_err-attr.ensures.answers.next ∙ ap (λ b. b || is_fatal c.in_err-attr.field-0.0) c.requires.open.alive ∙ clean)

pub returns-then-is_marked-clause-handles : goal.returns-then-is_marked-clause-handles
returns-then-is_marked-clause-handles g c =
    change-marked c.args.task c.args.caller c.args.file c.args.change.now (state_of (access_table_of c.args.self.now) c.args.files.now)
    (sym c.is_bad.ensures ∙ c.if-is_bad.false) c.if-file-lt4.false c.in_ok-attr.attr
    (state_of (access_table_of c.args.self.now) c.read_attr.new.self) c.in_ok-attr.ensures.read.reads c.in_ok-attr.ensures.read.no_cause
    c.in_ok-attr.ensures.read.attr_is c.in_ok-attr.ensures.answers.home c.in_ok-attr.ensures.told.counts refl
    (sym c.is_marked.ensures ∙ c.if-is_marked.true)

pub returns-then-is_marked-clause-open : goal.returns-then-is_marked-clause-open
returns-then-is_marked-clause-open g c =
    stays-open (access_table_of c.args.self.now) c.args.files.now c.read_attr.new.self c.args.task c.args.caller _ _ [] [] c.requires.open
    (λ _. tt) (returns-then-is_marked-clause-handles g c)
    (λ _. c.in_ok-attr.ensures.answers.next ∙ ap (λ b. b || false) c.requires.open.alive) tt

pub returns-then-lacks_change-clause-handles : goal.returns-then-lacks_change-clause-handles
returns-then-lacks_change-clause-handles g c =
    change-unprivileged c.args.task c.args.caller c.args.file c.args.change.now
    (state_of (access_table_of c.args.self.now) c.args.files.now) (sym c.is_bad.ensures ∙ c.if-is_bad.false) c.if-file-lt4.false
    c.in_ok-attr.attr (state_of (access_table_of c.args.self.now) c.read_attr.new.self) c.in_ok-attr.ensures.read.reads
    c.in_ok-attr.ensures.read.no_cause c.in_ok-attr.ensures.read.attr_is c.in_ok-attr.ensures.answers.home c.in_ok-attr.ensures.told.counts
    refl
    (sym c.is_marked.ensures ∙ c.if-is_marked.false) (sym c.lacks_change.ensures ∙ c.if-lacks_change.true)

pub returns-then-lacks_change-clause-open : goal.returns-then-lacks_change-clause-open
returns-then-lacks_change-clause-open g c =
    stays-open (access_table_of c.args.self.now) c.args.files.now c.read_attr.new.self c.args.task c.args.caller _ _ [] [] c.requires.open
    (λ _. tt) (returns-then-lacks_change-clause-handles g c)
    (λ _. c.in_ok-attr.ensures.answers.next ∙ ap (λ b. b || false) c.requires.open.alive) tt

pub returns-clause-handles : goal.returns-clause-handles
returns-clause-handles g c =
    changed c.args.task c.args.caller c.args.file c.args.change.now (state_of (access_table_of c.args.self.now) c.args.files.now)
    (sym c.is_bad.ensures ∙ c.if-is_bad.false) c.if-file-lt4.false c.in_ok-attr.attr
    (state_of (access_table_of c.args.self.now) c.read_attr.new.self) c.in_ok-attr.ensures.read.reads c.in_ok-attr.ensures.read.no_cause
    c.in_ok-attr.ensures.read.attr_is c.in_ok-attr.ensures.answers.home c.in_ok-attr.ensures.told.counts refl
    (sym c.is_marked.ensures ∙ c.if-is_marked.false)
    (sym c.lacks_change.ensures ∙ c.if-lacks_change.false) (state_of (access_table_of c.args.self.now) c.write_attr.new.self)
    c.in_ok-write_attr.ensures.answers.home refl c.in_ok-write_attr.ensures.altered

pub returns-clause-open : goal.returns-clause-open
returns-clause-open g c =
    served-open (access_table_of c.args.self.now) c.args.files.now c.read_attr.new.self c.write_attr.new.self c.args.task c.args.caller _ _
    c.requires.open (λ _. tt) (returns-clause-handles g c) c.in_ok-attr.ensures.read.reads c.in_ok-attr.ensures.answers.home
    (c.in_ok-write_attr.ensures.answers.next
    ∙ ap (λ b. b || false) (c.in_ok-attr.ensures.answers.next ∙ ap (λ b. b || false) c.requires.open.alive))
    (replaced-leaves c.read_attr.new.self c.write_attr.new.self (g.met.D.Device.is_image c.read_attr.new.self.device)
    (g.met.D.Device.is_image c.write_attr.new.self.device) c.in_ok-write_attr.ensures.answers.home c.args.file c.args.change.now
    c.in_ok-write_attr.ensures.altered)

pub returns-in_err-write_attr-clause-handles : goal.returns-in_err-write_attr-clause-handles
returns-in_err-write_attr-clause-handles g c =
    handles-handed c.from_residual-in_err-write_attr.result _ c.from_residual-in_err-write_attr.ensures.1
    (not-changed c.args.task c.args.caller c.args.file c.args.change.now (state_of (access_table_of c.args.self.now) c.args.files.now)
    (sym c.is_bad.ensures ∙ c.if-is_bad.false) c.if-file-lt4.false c.in_ok-attr.attr
    (state_of (access_table_of c.args.self.now) c.read_attr.new.self) c.in_ok-attr.ensures.read.reads c.in_ok-attr.ensures.read.no_cause
    c.in_ok-attr.ensures.read.attr_is c.in_ok-attr.ensures.answers.home c.in_ok-attr.ensures.told.counts refl
    (sym c.is_marked.ensures ∙ c.if-is_marked.false)
    (sym c.lacks_change.ensures ∙ c.if-lacks_change.false) (state_of (access_table_of c.args.self.now) c.write_attr.new.self)
    c.in_err-write_attr.ensures.answers.home refl c.in_err-write_attr.field-0.0
    (c.in_ok-attr.ensures.answers.next ∙ ap (λ b. b || false) c.requires.open.alive) c.in_err-write_attr.ensures.refused
    c.in_err-write_attr.ensures.answers.counts)

pub returns-in_err-write_attr-clause-open : goal.returns-in_err-write_attr-clause-open
returns-in_err-write_attr-clause-open g c =
    open-handed (access_table_of c.args.self.now) c.args.files.now c.write_attr.new.self c.args.task c.args.caller _
    c.from_residual-in_err-write_attr.result _ [] []
    c.from_residual-in_err-write_attr.ensures.1 c.requires.open
    (returns-in_err-write_attr-clause-handles g c)
    (λ clean. c.in_err-write_attr.ensures.answers.next ∙ ap (λ b. b || is_fatal c.in_err-write_attr.field-0.0)
    (c.in_ok-attr.ensures.answers.next ∙ ap (λ b. b || false) c.requires.open.alive) ∙ clean)

pub returns-clause-lost : goal.returns-clause-lost
returns-clause-lost g c =
    lost-then _ _ _ _ _ _ c.read_attr.ensures.lost c.write_attr.ensures.lost

pub returns-in_err-write_attr-clause-lost : goal.returns-in_err-write_attr-clause-lost
returns-in_err-write_attr-clause-lost g c =
    lost-then _ _ _ _ _ _ c.read_attr.ensures.lost c.write_attr.ensures.lost
