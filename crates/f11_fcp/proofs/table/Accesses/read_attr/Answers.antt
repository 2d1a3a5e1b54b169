use Rattle.std.proofs.Common.{[], ◌∙◌, ◌||◌, false, ap, refl, sym}
use Rattle.f11_files.specs.Answers.{is_fatal}
use Rattle.f11_fcp.specs.Handles.{state_of}
use Rattle.f11_fcp.specs.Places.{access_table_of}
use Rattle.f11_fcp.proofs.WindowLemmas.{windows-read}
use Rattle.f11_fcp.proofs.OpenLemmas.{stays-open}
use Rattle.f11_fcp.proofs.AttributeLemmas.{attr-bad, attr-unread, attr-told}
use Rattle.f11_fcp.proofs.HandleLemmas.{unwritten-looked, unwritten-none}
use Rattle.f11_fcp.proofs.HandedLemmas.{handles-handed, open-handed}
use Rattle.f11_fcp.proofs.table.Accesses.read_attr.Goals as goal

pub returns-then-is_bad-clause-handles : goal.returns-then-is_bad-clause-handles
returns-then-is_bad-clause-handles g c =
    attr-bad c.args.task c.args.caller c.args.file (state_of (access_table_of c.args.self.now) c.args.files.now)
    (sym c.is_bad.ensures ∙ c.if-is_bad.true)

pub returns-clause-handles : goal.returns-clause-handles
returns-clause-handles g c =
    let t = access_table_of c.args.self.now in
    attr-told c.args.task c.args.caller c.args.file (state_of t c.args.files.now) (sym c.is_bad.ensures ∙ c.if-is_bad.false)
    c.in_ok-attr.attr
    (state_of t c.read_attr.new.self) c.in_ok-attr.ensures.read.reads c.in_ok-attr.ensures.read.no_cause c.in_ok-attr.ensures.read.attr_is
    c.in_ok-attr.ensures.answers.home refl

pub returns-clause-open : goal.returns-clause-open
returns-clause-open g c =
    stays-open (access_table_of c.args.self.now) c.args.files.now c.read_attr.new.self c.args.task c.args.caller _ _ [] [] c.requires.open
    (λ _. tt) (returns-clause-handles g c)
    (λ _. c.in_ok-attr.ensures.answers.next ∙ ap (λ b. b || false) c.requires.open.alive)
    (windows-read (access_table_of c.args.self.now) c.args.files.now c.read_attr.new.self c.requires.open c.in_ok-attr.ensures.read.reads
    c.in_ok-attr.ensures.answers.home)

pub returns-in_err-attr-clause-handles : goal.returns-in_err-attr-clause-handles
returns-in_err-attr-clause-handles g c =
    let t = access_table_of c.args.self.now in
    handles-handed c.from_residual.result _ c.from_residual.ensures.1
    (attr-unread c.args.task c.args.caller c.args.file (state_of t c.args.files.now) (sym c.is_bad.ensures ∙ c.if-is_bad.false)
    c.in_err-attr.field-0.0 (state_of t c.read_attr.new.self) c.requires.open.alive c.in_err-attr.ensures.refused
    c.in_err-attr.ensures.answers.home refl
    c.in_err-attr.ensures.told.counts)

pub returns-in_err-attr-clause-open : goal.returns-in_err-attr-clause-open
returns-in_err-attr-clause-open g c =
    open-handed (access_table_of c.args.self.now) c.args.files.now c.read_attr.new.self c.args.task c.args.caller _ c.from_residual.result _
    [] []
    c.from_residual.ensures.1 c.requires.open
    (returns-in_err-attr-clause-handles g c)
    (λ clean. c.in_err-attr.ensures.answers.next ∙ ap (λ b. b || is_fatal c.in_err-attr.field-0.0) c.requires.open.alive ∙ clean)

pub returns-then-is_bad-clause-unwritten : goal.returns-then-is_bad-clause-unwritten
returns-then-is_bad-clause-unwritten g c = unwritten-none _

pub returns-clause-unwritten : goal.returns-clause-unwritten
returns-clause-unwritten g c = unwritten-looked c.in_ok-attr.ensures.read.reads.looked

pub returns-in_err-attr-clause-unwritten : goal.returns-in_err-attr-clause-unwritten
returns-in_err-attr-clause-unwritten g c = unwritten-looked c.in_err-attr.ensures.refused.reads.looked
