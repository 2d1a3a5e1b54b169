use Rattle.std.proofs.Common.{[], refl, sym, ◌∙◌}
use Rattle.f11_files.proofs.writes.LostLemmas.{lost-then}
use Rattle.f11_fcp.specs.Handles.{state_of}
use Rattle.f11_fcp.specs.Places.{access_table_of}
use Rattle.f11_fcp.proofs.WindowLemmas.{windows-on}
use Rattle.f11_fcp.proofs.RowLemmas.{leaves-behind}
use Rattle.f11_fcp.proofs.EnterLemmas.{enter-bad, enter-bad-file, enter-refused, enter-found, enter-known, entered, not-entered}
use Rattle.f11_fcp.proofs.EnterLemmas.{stays-open-entered}
use Rattle.f11_fcp.proofs.HandedLemmas.{handles-handed, open-handed}
use Rattle.f11_fcp.proofs.table.Accesses.enter.Goals as goal

pub returns-then-is_bad-clause-handles : goal.returns-then-is_bad-clause-handles
returns-then-is_bad-clause-handles g c =
    enter-bad c.args.task c.args.caller c.args.directory c.args.name.now c.args.file
    (state_of (access_table_of c.args.self.now) c.args.files.now) (sym c.is_bad.ensures ∙ c.if-is_bad.true)

pub returns-then-is_bad-2-clause-handles : goal.returns-then-is_bad-2-clause-handles
returns-then-is_bad-2-clause-handles g c =
    enter-bad-file c.args.task c.args.caller c.args.directory c.args.name.now c.args.file
    (state_of (access_table_of c.args.self.now) c.args.files.now) (sym c.is_bad.ensures ∙ c.if-is_bad.false)
    (sym c.is_bad-2.ensures ∙ c.if-is_bad-2.true)

pub returns-in_err-found-clause-handles : goal.returns-in_err-found-clause-handles
returns-in_err-found-clause-handles g c =
    let t = access_table_of c.args.self.now in
    handles-handed c.from_residual.result _ c.from_residual.ensures.1
    (enter-refused c.args.task c.args.caller c.args.directory c.args.name.now c.args.file (state_of t c.args.files.now)
    (sym c.is_bad.ensures ∙ c.if-is_bad.false) (sym c.is_bad-2.ensures ∙ c.if-is_bad-2.false)
    c.in_err-found.field-0.0 (state_of t c.search.new.files) c.in_err-found.ensures.refused c.search.ensures.home refl
    c.search.ensures.told)

pub returns-in_err-found-clause-open : goal.returns-in_err-found-clause-open
returns-in_err-found-clause-open g c =
    open-handed (access_table_of c.args.self.now) c.args.files.now c.search.new.files c.args.task c.args.caller _ c.from_residual.result _
    [] []
    c.from_residual.ensures.1 c.requires.open
    (returns-in_err-found-clause-handles g c) c.in_err-found.ensures.alive

pub returns-in-Found-clause-handles : goal.returns-in-Found-clause-handles
returns-in-Found-clause-handles g c =
    let t = access_table_of c.args.self.now in
    enter-found c.args.task c.args.caller c.args.directory c.args.name.now c.args.file (state_of t c.args.files.now)
    (sym c.is_bad.ensures ∙ c.if-is_bad.false) (sym c.is_bad-2.ensures ∙ c.if-is_bad-2.false)
    c.in_ok-found.found (state_of t c.search.new.files) c.in_ok-found.ensures.searched c.search.ensures.home c.search.ensures.told _ _
    c.in-Found.is
    refl

pub returns-in-Found-clause-open : goal.returns-in-Found-clause-open
returns-in-Found-clause-open g c =
    stays-open-entered (access_table_of c.args.self.now) c.args.files.now c.search.new.files c.args.task c.args.caller c.args.directory
    c.args.name.now c.args.file _ c.requires.open (returns-in-Found-clause-handles g c) (λ _. c.in_ok-found.ensures.alive refl)
    tt

pub put_entry-requires-clause-known : goal.put_entry-requires-clause-known
put_entry-requires-clause-known g c =
    let t = access_table_of c.args.self.now in
    enter-known c.args.task c.args.caller c.args.directory c.args.name.now c.args.file (state_of t c.args.files.now)
    (sym c.is_bad.ensures ∙ c.if-is_bad.false) (sym c.is_bad-2.ensures ∙ c.if-is_bad-2.false)
    c.in_ok-found.found (state_of t c.search.new.files) c.in_ok-found.ensures.searched c.search.ensures.home c.search.ensures.told
    c.in-Absent.empty
    c.in-Absent.is

pub returns-in_ok-put_entry-in-Absent-clause-handles : goal.returns-in_ok-put_entry-in-Absent-clause-handles
returns-in_ok-put_entry-in-Absent-clause-handles g c =
    let t = access_table_of c.args.self.now in
    entered c.args.task c.args.caller c.args.directory c.args.name.now c.args.file (state_of t c.args.files.now)
    (sym c.is_bad.ensures ∙ c.if-is_bad.false) (sym c.is_bad-2.ensures ∙ c.if-is_bad-2.false)
    c.in_ok-found.found (state_of t c.search.new.files) c.in_ok-found.ensures.searched c.search.ensures.home c.search.ensures.told
    c.in-Absent.empty
    c.in-Absent.is (state_of t c.put_entry.new.files) c.put_entry.ensures.home refl c.in_ok-put_entry-in-Absent.ensures.put

pub returns-in_ok-put_entry-in-Absent-clause-open : goal.returns-in_ok-put_entry-in-Absent-clause-open
returns-in_ok-put_entry-in-Absent-clause-open g c =
    stays-open-entered (access_table_of c.args.self.now) c.args.files.now c.put_entry.new.files c.args.task c.args.caller c.args.directory
    c.args.name.now c.args.file _ c.requires.open (returns-in_ok-put_entry-in-Absent-clause-handles g c)
    (λ _. c.in_ok-put_entry-in-Absent.ensures.alive refl)
    (windows-on (access_table_of c.args.self.now) c.args.files.now c.put_entry.new.files c.requires.open
    (returns-in_ok-put_entry-in-Absent-clause-handles g c).writes (returns-in_ok-put_entry-in-Absent-clause-handles g c).home
    (leaves-behind c.args.files.now c.search.new.files c.put_entry.new.files c.search.ensures.home
    c.in_ok-found.ensures.searched.reads.looked.honest c.in_ok-found.ensures.searched.reads.looked.image
    c.in_ok-put_entry-in-Absent.ensures.rows))

pub returns-in_err-put_entry-in-Absent-clause-handles : goal.returns-in_err-put_entry-in-Absent-clause-handles
returns-in_err-put_entry-in-Absent-clause-handles g c =
    let t = access_table_of c.args.self.now in
    handles-handed c.from_residual-in_err-put_entry-in-Absent.result _ c.from_residual-in_err-put_entry-in-Absent.ensures.1
    (not-entered c.args.task c.args.caller c.args.directory c.args.name.now c.args.file (state_of t c.args.files.now)
    (sym c.is_bad.ensures ∙ c.if-is_bad.false) (sym c.is_bad-2.ensures ∙ c.if-is_bad-2.false)
    c.in_ok-found.found (state_of t c.search.new.files) c.in_ok-found.ensures.searched c.search.ensures.home c.search.ensures.told
    c.in-Absent.empty
    c.in-Absent.is (state_of t c.put_entry.new.files) c.put_entry.ensures.home refl
    c.in_err-put_entry-in-Absent.field-0.0 c.in_err-put_entry-in-Absent.ensures.refused c.in_err-put_entry-in-Absent.ensures.counts)

pub returns-in_err-put_entry-in-Absent-clause-open : goal.returns-in_err-put_entry-in-Absent-clause-open
returns-in_err-put_entry-in-Absent-clause-open g c =
    open-handed (access_table_of c.args.self.now) c.args.files.now c.put_entry.new.files c.args.task c.args.caller _
    c.from_residual-in_err-put_entry-in-Absent.result _ [] []
    c.from_residual-in_err-put_entry-in-Absent.ensures.1 c.requires.open
    (returns-in_err-put_entry-in-Absent-clause-handles g c) c.in_err-put_entry-in-Absent.ensures.alive

pub returns-in_ok-put_entry-in-Absent-clause-lost : goal.returns-in_ok-put_entry-in-Absent-clause-lost
returns-in_ok-put_entry-in-Absent-clause-lost g c = lost-then _ _ _ _ _ _ c.search.ensures.lost c.put_entry.ensures.lost

pub returns-in_err-put_entry-in-Absent-clause-lost : goal.returns-in_err-put_entry-in-Absent-clause-lost
returns-in_err-put_entry-in-Absent-clause-lost g c = lost-then _ _ _ _ _ _ c.search.ensures.lost c.put_entry.ensures.lost
