use Rattle.std.proofs.Common.{◌∙◌, ◌||◌, ap, refl, sym}
use Rattle.f11_files.specs.Answers.{is_fatal}
use Rattle.f11_files.specs.Open.{disk_in}
use Rattle.f11_fcp.specs.Handles.{state_of}
use Rattle.f11_fcp.specs.Places.{access_table_of, entry_of}
use Rattle.f11_fcp.proofs.KnownLemmas.{known-clean}
use Rattle.f11_fcp.proofs.LengthenLemmas.{lengthen-denied, lengthen-granted, lengthen-none, lengthen-unread, lengthen-zero}
use Rattle.f11_fcp.proofs.OpenLemmas.{there-open}
use Rattle.f11_fcp.proofs.table.Accesses.may_lengthen.Goals as goal

pub returns-then-n-eq0-clause-refused : goal.returns-then-n-eq0-clause-refused
returns-then-n-eq0-clause-refused g c =
    lengthen-zero c.args.task c.args.lun c.args.n c.args.caller (state_of (access_table_of c.args.self.now) c.args.files.now)
    c.if-n-eq0.true

pub returns-in-None-clause-refused : goal.returns-in-None-clause-refused
returns-in-None-clause-refused g c =
    lengthen-none c.args.task c.args.lun c.args.n c.args.caller (state_of (access_table_of c.args.self.now) c.args.files.now)
    c.if-n-eq0.false (c.in-None.ensures.none refl)

pub returns-in-Err-clause-refused : goal.returns-in-Err-clause-refused
returns-in-Err-clause-refused g c =
    let t = access_table_of c.args.self.now in
    lengthen-unread c.args.task c.args.lun c.args.n c.args.caller (state_of t c.args.files.now) c.if-n-eq0.false (entry_of c.in-Some.held)
    c.in-Some.ensures.some.0 c.in-Some.ensures.some.1
    (there-open c.args.task c.args.lun (entry_of c.in-Some.held) c.requires.open c.in-Some.ensures.within c.in-Some.ensures.some.0)
    c.in-Err.refusal c.of_known.result c.requires.open.alive c.in-Err.ensures.refused c.of_known.ensures

pub returns-in-Err-clause-alive : goal.returns-in-Err-clause-alive
returns-in-Err-clause-alive g c = λ clean.
    c.in-Err.ensures.answers.next ∙ ap (λ b. b || is_fatal c.in-Err.refusal) c.requires.open.alive
    ∙ known-clean c.in-Err.refusal (ap is_fatal (sym c.of_known.ensures) ∙ clean)

pub returns-then-not-may-clause-refused : goal.returns-then-not-may-clause-refused
returns-then-not-may-clause-refused g c =
    let t = access_table_of c.args.self.now in
    lengthen-denied c.args.task c.args.lun c.args.n c.args.caller (state_of t c.args.files.now) c.if-n-eq0.false (entry_of c.in-Some.held)
    c.in-Some.ensures.some.0 c.in-Some.ensures.some.1
    (there-open c.args.task c.args.lun (entry_of c.in-Some.held) c.requires.open c.in-Some.ensures.within c.in-Some.ensures.some.0)
    c.in-Ok.attr (disk_in c.read_attr.new.self) c.in-Ok.ensures.read (sym c.may.ensures ∙ c.if-not-may.true)

pub returns-clause-granted : goal.returns-clause-granted
returns-clause-granted g c =
    let t = access_table_of c.args.self.now in
    lengthen-granted c.args.task c.args.lun c.args.n c.args.caller (state_of t c.args.files.now) c.if-n-eq0.false (entry_of c.in-Some.held)
    c.in-Some.ensures.some.0 c.in-Some.ensures.some.1
    (there-open c.args.task c.args.lun (entry_of c.in-Some.held) c.requires.open c.in-Some.ensures.within c.in-Some.ensures.some.0)
    c.in-Ok.attr (disk_in c.read_attr.new.self) c.in-Ok.ensures.read (sym c.may.ensures ∙ c.if-not-may.false) c.in-Some.held.own
    c.in-Some.held.here
