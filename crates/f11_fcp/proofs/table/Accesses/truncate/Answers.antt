use Rattle.std.proofs.Common.{[], ◌∙◌, ◌||◌, false, ap, refl, sym, subst}
use Rattle.f11_files.specs.Answers.{is_fatal}
use Rattle.f11_files.specs.Open.{store_in}
use Rattle.f11_fcp.specs.Handles.{state_of}
use Rattle.f11_fcp.specs.Places.{access_table_of, entry_of}
use Rattle.f11_fcp.specs.Accesses.{HasAccessed, AccessTable, accesses}
use Rattle.f11_fcp.specs.Windows.{HasWindows}
use Rattle.f11_fcp.proofs.RowLemmas.{cut-leaves}
use Rattle.f11_fcp.proofs.WindowLemmas.{accesses-emptied, handled-on, kept-emptied, windows-cut}
use Rattle.f11_fcp.proofs.OpenLemmas.{there-open, stays-open, kept-after}
use Rattle.f11_fcp.proofs.AccessedLemmas.{of-accessed-clean}
use Rattle.f11_fcp.proofs.TruncateLemmas.{truncate-none, cut, not-cut}
use Rattle.f11_fcp.proofs.table.Accesses.truncate.Goals as goal

pub returns-in-None-clause-handles : goal.returns-in-None-clause-handles
returns-in-None-clause-handles g c = truncate-none c.args.task c.args.lun c.args.to c.args.caller _ (c.in-None.ensures.none refl)

pub returns-in-Ok-clause-handles : goal.returns-in-Ok-clause-handles
returns-in-Ok-clause-handles g c =
    let t = access_table_of c.args.self.now in
    handled-on (access_table_of c.empty_windows.new.self)
    (ap (λ (u : AccessTable). accesses u) c.empty_windows.ensures ∙ accesses-emptied c.in-Some.held.file t)
    (cut c.args.task c.args.lun c.args.caller (state_of t c.args.files.now) (entry_of c.in-Some.held) c.in-Some.ensures.some.0
    c.in-Some.ensures.some.1 c.args.to
    (there-open c.args.task c.args.lun (entry_of c.in-Some.held) c.requires.open c.in-Some.ensures.within c.in-Some.ensures.some.0)
    c.in-Ok.length (state_of t c.truncate.new.self) c.in-Ok.ensures.cut.0 c.in-Ok.ensures.cut.1 c.in-Ok.ensures.answers.home refl)

pub returns-in-Ok-clause-open : goal.returns-in-Ok-clause-open
returns-in-Ok-clause-open g c = λ clean.
    let t = access_table_of c.args.self.now in
    let H = handled-on t (sym (ap (λ (u : AccessTable). accesses u) c.empty_windows.ensures ∙ accesses-emptied c.in-Some.held.file t))
    (returns-in-Ok-clause-handles g c) in
    record {
      alive = c.in-Ok.ensures.answers.next ∙ ap (λ b. b || false) c.requires.open.alive;
      kept = λ honest.
          subst (λ (u : AccessTable). HasAccessed u (store_in c.truncate.new.self)) (sym c.empty_windows.ensures)
          (kept-emptied c.in-Some.held.file t (store_in c.truncate.new.self)
          (kept-after t c.args.files.now c.truncate.new.self c.args.task c.args.caller _ _ [] [] c.requires.open (λ _. tt) H refl
          honest));
      windows =
          subst (λ (u : AccessTable). HasWindows u c.truncate.new.self) (sym c.empty_windows.ensures)
          (windows-cut t c.args.files.now c.truncate.new.self c.in-Some.held.file H.writes.went.size
          (λ honest. sym H.writes.went.honest ∙ honest) H.home c.requires.open.kept
          (there-open c.args.task c.args.lun (entry_of c.in-Some.held) c.requires.open c.in-Some.ensures.within c.in-Some.ensures.some.0)
          (cut-leaves c.args.files.now c.truncate.new.self (g.met.D.Device.is_image c.args.files.now.device)
          (g.met.D.Device.is_image c.truncate.new.self.device) c.in-Ok.ensures.answers.home c.in-Some.held.file c.args.to
          c.in-Ok.ensures.cut.1) c.requires.open.windows);
    }

pub returns-in-Err-clause-handles : goal.returns-in-Err-clause-handles
returns-in-Err-clause-handles g c =
    let t = access_table_of c.args.self.now in
    not-cut c.args.task c.args.lun c.args.caller (state_of t c.args.files.now) (entry_of c.in-Some.held) c.in-Some.ensures.some.0
    c.in-Some.ensures.some.1 c.args.to
    (there-open c.args.task c.args.lun (entry_of c.in-Some.held) c.requires.open c.in-Some.ensures.within c.in-Some.ensures.some.0)
    (state_of t c.truncate.new.self) c.in-Err.refusal
    c.of_accessed.result c.requires.open.alive c.in-Err.ensures.refused c.in-Err.ensures.answers.home refl
    c.in-Err.ensures.answers.counts c.of_accessed.ensures

pub returns-in-Err-clause-open : goal.returns-in-Err-clause-open
returns-in-Err-clause-open g c =
    stays-open (access_table_of c.args.self.now) c.args.files.now c.truncate.new.self c.args.task c.args.caller _ _ [] [] c.requires.open
    (λ _. tt) (returns-in-Err-clause-handles g c)
    (λ clean. c.in-Err.ensures.answers.next ∙ ap (λ b. b || is_fatal c.in-Err.refusal) c.requires.open.alive
    ∙ of-accessed-clean c.in-Err.refusal (ap is_fatal (sym c.of_accessed.ensures) ∙ clean)) tt

pub returns-in-Ok-clause-windows : goal.returns-in-Ok-clause-windows
returns-in-Ok-clause-windows g c =
    record { entry = entry_of c.in-Some.held; held = c.in-Some.ensures.some.0; table_is = c.empty_windows.ensures }
