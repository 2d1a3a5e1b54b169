use Rattle.std.proofs.Common.{[], refl, sym, ◌∙◌}
use Rattle.f11_fcp.specs.Handles.{state_of}
use Rattle.f11_fcp.specs.Places.{access_table_of}
use Rattle.f11_fcp.proofs.WindowLemmas.{windows-read}
use Rattle.f11_fcp.proofs.FindLemmas.{find-bad, find-refused, find-found, find-absent}
use Rattle.f11_fcp.proofs.OpenLemmas.{stays-open}
use Rattle.f11_fcp.proofs.HandleLemmas.{unwritten-looked, unwritten-none}
use Rattle.f11_fcp.proofs.HandedLemmas.{handles-handed, open-handed}
use Rattle.f11_fcp.proofs.table.Accesses.find.Goals as goal

pub returns-then-is_bad-clause-handles : goal.returns-then-is_bad-clause-handles
returns-then-is_bad-clause-handles g c =
    find-bad c.args.task c.args.caller c.args.directory c.args.name.now (state_of (access_table_of c.args.self.now) c.args.files.now)
    (sym c.is_bad.ensures ∙ c.if-is_bad.true)

pub returns-in_err-found-clause-handles : goal.returns-in_err-found-clause-handles
returns-in_err-found-clause-handles g c =
    let t = access_table_of c.args.self.now in
    handles-handed c.from_residual.result _ c.from_residual.ensures.1
    (find-refused c.args.task c.args.caller c.args.directory c.args.name.now (state_of t c.args.files.now)
    (sym c.is_bad.ensures ∙ c.if-is_bad.false) c.in_err-found.field-0.0 (state_of t c.search.new.files) c.in_err-found.ensures.refused
    c.search.ensures.home refl c.search.ensures.told)

pub returns-in_err-found-clause-open : goal.returns-in_err-found-clause-open
returns-in_err-found-clause-open g c =
    open-handed (access_table_of c.args.self.now) c.args.files.now c.search.new.files c.args.task c.args.caller _ c.from_residual.result _
    [] []
    c.from_residual.ensures.1 c.requires.open
    (returns-in_err-found-clause-handles g c) c.in_err-found.ensures.alive

pub returns-in-Found-clause-handles : goal.returns-in-Found-clause-handles
returns-in-Found-clause-handles g c =
    let t = access_table_of c.args.self.now in
    find-found c.args.task c.args.caller c.args.directory c.args.name.now (state_of t c.args.files.now)
    (sym c.is_bad.ensures ∙ c.if-is_bad.false) c.in_ok-found.found (state_of t c.search.new.files) c.in_ok-found.ensures.searched
    c.search.ensures.home refl _ c.in-Found.file c.in-Found.is

pub returns-in-Found-clause-open : goal.returns-in-Found-clause-open
returns-in-Found-clause-open g c =
    stays-open (access_table_of c.args.self.now) c.args.files.now c.search.new.files c.args.task c.args.caller _ _ [] [] c.requires.open
    (λ _. tt) (returns-in-Found-clause-handles g c) (λ _. c.in_ok-found.ensures.alive refl)
    (windows-read (access_table_of c.args.self.now) c.args.files.now c.search.new.files c.requires.open c.in_ok-found.ensures.searched.reads
    c.search.ensures.home)

pub returns-in-Absent-clause-handles : goal.returns-in-Absent-clause-handles
returns-in-Absent-clause-handles g c =
    let t = access_table_of c.args.self.now in
    find-absent c.args.task c.args.caller c.args.directory c.args.name.now (state_of t c.args.files.now)
    (sym c.is_bad.ensures ∙ c.if-is_bad.false) c.in_ok-found.found (state_of t c.search.new.files) c.in_ok-found.ensures.searched
    c.search.ensures.home refl _ c.in-Absent.is c.search.ensures.told

pub returns-in-Absent-clause-open : goal.returns-in-Absent-clause-open
returns-in-Absent-clause-open g c =
    stays-open (access_table_of c.args.self.now) c.args.files.now c.search.new.files c.args.task c.args.caller _ _ [] [] c.requires.open
    (λ _. tt) (returns-in-Absent-clause-handles g c) (λ _. c.in_ok-found.ensures.alive refl) tt

pub returns-then-is_bad-clause-unwritten : goal.returns-then-is_bad-clause-unwritten
returns-then-is_bad-clause-unwritten g c = unwritten-none _

pub returns-in_err-found-clause-unwritten : goal.returns-in_err-found-clause-unwritten
returns-in_err-found-clause-unwritten g c = unwritten-looked c.in_err-found.ensures.refused.reads.looked

pub returns-in-Found-clause-unwritten : goal.returns-in-Found-clause-unwritten
returns-in-Found-clause-unwritten g c = unwritten-looked c.in_ok-found.ensures.searched.reads.looked

pub returns-in-Absent-clause-unwritten : goal.returns-in-Absent-clause-unwritten
returns-in-Absent-clause-unwritten g c = unwritten-looked c.in_ok-found.ensures.searched.reads.looked
