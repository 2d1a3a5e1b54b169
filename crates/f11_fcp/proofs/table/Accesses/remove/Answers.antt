use Rattle.std.proofs.Common.{[], refl, sym, ◌∙◌}
use Rattle.f11_files.proofs.writes.LostLemmas.{lost-then}
use Rattle.f11_fcp.specs.Handles.{state_of}
use Rattle.f11_fcp.specs.Places.{access_table_of}
use Rattle.f11_fcp.proofs.OpenLemmas.{served-open, stays-open}
use Rattle.f11_fcp.proofs.RemoveLemmas.{remove-bad, remove-refused, remove-absent, remove-holds, removed, not-removed}
use Rattle.f11_fcp.proofs.HandedLemmas.{handles-handed, open-handed}
use Rattle.f11_fcp.proofs.table.Accesses.remove.Goals as goal

pub returns-then-is_bad-clause-handles : goal.returns-then-is_bad-clause-handles
returns-then-is_bad-clause-handles g c =
    remove-bad c.args.task c.args.caller c.args.directory c.args.name.now (state_of (access_table_of c.args.self.now) c.args.files.now)
    (sym c.is_bad.ensures ∙ c.if-is_bad.true)

pub returns-in_err-found-clause-handles : goal.returns-in_err-found-clause-handles
returns-in_err-found-clause-handles g c =
    let t = access_table_of c.args.self.now in
    handles-handed c.from_residual.result _ c.from_residual.ensures.1
    (remove-refused c.args.task c.args.caller c.args.directory c.args.name.now (state_of t c.args.files.now)
    (sym c.is_bad.ensures ∙ c.if-is_bad.false) c.in_err-found.field-0.0 (state_of t c.search.new.files) c.in_err-found.ensures.refused
    c.search.ensures.home refl c.search.ensures.told)

pub returns-in_err-found-clause-open : goal.returns-in_err-found-clause-open
returns-in_err-found-clause-open g c =
    open-handed (access_table_of c.args.self.now) c.args.files.now c.search.new.files c.args.task c.args.caller _ c.from_residual.result _
    [] []
    c.from_residual.ensures.1 c.requires.open
    (returns-in_err-found-clause-handles g c) c.in_err-found.ensures.alive

pub returns-in-Absent-clause-handles : goal.returns-in-Absent-clause-handles
returns-in-Absent-clause-handles g c =
    let t = access_table_of c.args.self.now in
    remove-absent c.args.task c.args.caller c.args.directory c.args.name.now (state_of t c.args.files.now)
    (sym c.is_bad.ensures ∙ c.if-is_bad.false) c.in_ok-found.found (state_of t c.search.new.files) c.in_ok-found.ensures.searched
    c.search.ensures.home _ c.in-Absent.is refl c.search.ensures.told

pub returns-in-Absent-clause-open : goal.returns-in-Absent-clause-open
returns-in-Absent-clause-open g c =
    stays-open (access_table_of c.args.self.now) c.args.files.now c.search.new.files c.args.task c.args.caller _ _ [] [] c.requires.open
    (λ _. tt) (returns-in-Absent-clause-handles g c) (λ _. c.in_ok-found.ensures.alive refl) tt

pub clear_entry-requires-clause-there : goal.clear_entry-requires-clause-there
clear_entry-requires-clause-there g c =
    let t = access_table_of c.args.self.now in
    remove-holds c.args.task c.args.caller c.args.directory c.args.name.now (state_of t c.args.files.now)
    (sym c.is_bad.ensures ∙ c.if-is_bad.false) c.in_ok-found.found (state_of t c.search.new.files) c.in_ok-found.ensures.searched
    c.search.ensures.home c.in-Found.spot _ c.in-Found.is

pub returns-in-Ok-clause-handles : goal.returns-in-Ok-clause-handles
returns-in-Ok-clause-handles g c =
    let t = access_table_of c.args.self.now in
    removed c.args.task c.args.caller c.args.directory c.args.name.now (state_of t c.args.files.now)
    (sym c.is_bad.ensures ∙ c.if-is_bad.false) c.in_ok-found.found (state_of t c.search.new.files) c.in_ok-found.ensures.searched
    c.search.ensures.home c.in-Found.spot _ c.in-Found.is
    c.in-Found.spot.within (state_of t c.clear_entry.new.files) c.in-Ok.ensures.replaced c.clear_entry.ensures.home refl

pub returns-in-Ok-clause-open : goal.returns-in-Ok-clause-open
returns-in-Ok-clause-open g c =
    served-open (access_table_of c.args.self.now) c.args.files.now c.search.new.files c.clear_entry.new.files c.args.task c.args.caller _ _
    c.requires.open (λ _. tt) (returns-in-Ok-clause-handles g c) c.in_ok-found.ensures.searched.reads c.search.ensures.home
    c.in-Ok.ensures.alive c.in-Ok.ensures.rows

pub returns-in-Err-clause-handles : goal.returns-in-Err-clause-handles
returns-in-Err-clause-handles g c =
    let t = access_table_of c.args.self.now in
    not-removed c.args.task c.args.caller c.args.directory c.args.name.now (state_of t c.args.files.now)
    (sym c.is_bad.ensures ∙ c.if-is_bad.false) c.in_ok-found.found (state_of t c.search.new.files) c.in_ok-found.ensures.searched
    c.search.ensures.home c.in-Found.spot _ c.in-Found.is
    c.in-Found.spot.within c.in-Err.refusal (state_of t c.clear_entry.new.files) c.in-Err.ensures.refused
    c.clear_entry.ensures.home

pub returns-in-Err-clause-open : goal.returns-in-Err-clause-open
returns-in-Err-clause-open g c = λ clean. absurd (let fatal = c.in-Err.ensures.refused.fatal in cc)

pub returns-in-Ok-clause-lost : goal.returns-in-Ok-clause-lost
returns-in-Ok-clause-lost g c = lost-then _ _ _ _ _ _ c.search.ensures.lost c.clear_entry.ensures.lost

pub returns-in-Err-clause-lost : goal.returns-in-Err-clause-lost
returns-in-Err-clause-lost g c = lost-then _ _ _ _ _ _ c.search.ensures.lost c.clear_entry.ensures.lost
