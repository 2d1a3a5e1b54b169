use Rattle.std.proofs.Common.{◌≡◌, ◌∙◌, ◌||◌, true, false, inl, inr, refl, sym, ap, subst, None}
use Rattle.std.proofs.lemmas.Bool.{not-true, not-false}
use Rattle.f11_home.specs.Home.{HomeFields}
use Rattle.f11_store.specs.declared.refusals.Refusal.{Refusal}
use Rattle.f11_files.specs.Answers.{is_fatal}
use Rattle.f11_files.specs.Open.{store_in, home_in, disk_in}
use Rattle.f11_files.specs.image_store.StoreOf.{store_of}
use Rattle.f11_fcp.specs.Accesses.{AccessTable, is_held_in, any_mode}
use Rattle.f11_fcp.specs.Handles.{state_of}
use Rattle.f11_fcp.specs.Places.{access_table_of, entry_of}
use Rattle.f11_fcp.proofs.ByWindowLemmas.{keeps-given}
use Rattle.f11_fcp.proofs.RowLemmas.{deleted-leaves}
use Rattle.f11_fcp.proofs.WindowLemmas.{windows-with, windows-without}
use Rattle.f11_fcp.proofs.AccessedLemmas.{mark-held}
use Rattle.f11_fcp.proofs.DeaccessLemmas.{deaccess-plain, deaccess-deletes, deaccess-fails, deleted-kept, deletion-fatal, given-kept}
use Rattle.f11_fcp.proofs.OpenLemmas.{there-open}
use Rattle.f11_fcp.proofs.table.Accesses.give_up.Goals as goal

pub returns-then-not-held-clause-handles : goal.returns-then-not-held-clause-handles
returns-then-not-held-clause-handles g c =
    deaccess-plain c.args.task c.args.lun c.args.caller (state_of (access_table_of c.args.self.now) c.args.files.now) (entry_of c.args.held)
    c.requires.held (λ honest. mark-held (access_table_of c.args.self.now) (store_in c.args.files.now) c.args.task c.args.lun
    (entry_of c.args.held) (c.requires.open.kept honest) c.set.ensures.within.0 c.set.ensures.within.1 c.requires.held)
    (state_of (access_table_of c.set.new.self) c.args.files.now) refl refl c.set.ensures.value (inl (not-true _ c.if-not-held.true))

pub returns-then-not-held-clause-open : goal.returns-then-not-held-clause-open
returns-then-not-held-clause-open g c = λ _. record {
  windows = windows-with (access_table_of c.args.self.now) (access_table_of c.set.new.self) c.args.files.now c.args.task c.args.lun None
      c.set.ensures.value (λ e none. absurd (cc)) c.requires.open.windows;
  alive = c.requires.open.alive;
  kept = λ honest. given-kept c.args.task c.args.lun c.args.caller (state_of (access_table_of c.args.self.now) c.args.files.now)
      (access_table_of c.set.new.self) (store_in c.args.files.now) refl c.set.ensures.value (c.requires.open.kept honest);
}

pub returns-then-is_accessed-clause-handles : goal.returns-then-is_accessed-clause-handles
returns-then-is_accessed-clause-handles g c =
    deaccess-plain c.args.task c.args.lun c.args.caller (state_of (access_table_of c.args.self.now) c.args.files.now) (entry_of c.args.held)
    c.requires.held (λ honest. mark-held (access_table_of c.args.self.now) (store_in c.args.files.now) c.args.task c.args.lun
    (entry_of c.args.held) (c.requires.open.kept honest) c.set.ensures.within.0 c.set.ensures.within.1 c.requires.held)
    (state_of (access_table_of c.set.new.self) c.args.files.now) refl refl c.set.ensures.value
    (inr (sym c.if-is_accessed.true ∙ c.is_accessed.ensures ∙ ap (λ (t : AccessTable). is_held_in any_mode t c.args.held.file)
    c.set.ensures.value))

pub returns-then-is_accessed-clause-open : goal.returns-then-is_accessed-clause-open
returns-then-is_accessed-clause-open g c = λ _. record {
  windows = windows-with (access_table_of c.args.self.now) (access_table_of c.set.new.self) c.args.files.now c.args.task c.args.lun None
      c.set.ensures.value (λ e none. absurd (cc)) c.requires.open.windows;
  alive = c.requires.open.alive;
  kept = λ honest. given-kept c.args.task c.args.lun c.args.caller (state_of (access_table_of c.args.self.now) c.args.files.now)
      (access_table_of c.set.new.self) (store_in c.args.files.now) refl c.set.ensures.value (c.requires.open.kept honest);
}

pub returns-in-Ok-clause-handles : goal.returns-in-Ok-clause-handles
returns-in-Ok-clause-handles g c =
    deaccess-deletes c.args.task c.args.lun c.args.caller (state_of (access_table_of c.args.self.now) c.args.files.now)
    (entry_of c.args.held) c.requires.held
    (λ honest. mark-held (access_table_of c.args.self.now) (store_in c.args.files.now) c.args.task c.args.lun (entry_of c.args.held)
    (c.requires.open.kept honest) c.set.ensures.within.0 c.set.ensures.within.1 c.requires.held) (not-false _ c.if-not-held.false)
    (sym c.if-is_accessed.false ∙ c.is_accessed.ensures ∙ ap (λ (t : AccessTable). is_held_in any_mode t c.args.held.file)
    c.set.ensures.value)
    (state_of (access_table_of c.set.new.self) c.delete.new.self) c.in-Ok.ensures.deleted c.in-Ok.ensures.answers.home c.set.ensures.value

pub returns-in-Ok-clause-open : goal.returns-in-Ok-clause-open
returns-in-Ok-clause-open g c = λ _. record {
  windows =
      let H = returns-in-Ok-clause-handles g c in
      let t = access_table_of c.args.self.now in
      windows-without (access_table_of c.set.new.self) c.args.files.now c.delete.new.self c.args.held.file H.writes.went.size
      (λ honest. sym H.writes.went.honest ∙ honest) H.home
      (λ honest. given-kept c.args.task c.args.lun c.args.caller (state_of t c.args.files.now) (access_table_of c.set.new.self)
      (store_in c.args.files.now) refl c.set.ensures.value (c.requires.open.kept honest))
      (there-open c.args.task c.args.lun (entry_of c.args.held) c.requires.open c.set.ensures.within c.requires.held)
      (deleted-leaves c.args.files.now c.delete.new.self (g.met.D.Device.is_image c.args.files.now.device)
      (g.met.D.Device.is_image c.delete.new.self.device) c.in-Ok.ensures.answers.home c.args.held.file c.in-Ok.ensures.deleted)
      (sym c.is_accessed.ensures ∙ c.if-is_accessed.false)
      (windows-with t (access_table_of c.set.new.self) c.args.files.now c.args.task c.args.lun None c.set.ensures.value
      (λ e none. absurd (cc)) c.requires.open.windows);
  alive = c.in-Ok.ensures.answers.next ∙ ap (λ b. b || false) c.requires.open.alive;
  kept = λ honest.
      let was = sym c.in-Ok.ensures.deleted.writes.went.honest ∙ honest in
      deleted-kept c.args.task c.args.lun c.args.caller (state_of (access_table_of c.args.self.now) c.args.files.now) (entry_of c.args.held)
      c.requires.held (λ honest. mark-held (access_table_of c.args.self.now) (store_in c.args.files.now) c.args.task c.args.lun
      (entry_of c.args.held) (c.requires.open.kept honest) c.set.ensures.within.0 c.set.ensures.within.1 c.requires.held)
      (not-false _ c.if-not-held.false)
      (sym c.if-is_accessed.false ∙ c.is_accessed.ensures ∙ ap (λ (t : AccessTable). is_held_in any_mode t c.args.held.file)
      c.set.ensures.value)
      (access_table_of c.set.new.self) (store_in c.delete.new.self)
      (ap (λ (h : HomeFields). store_of (disk_in c.delete.new.self).image h) c.in-Ok.ensures.answers.home
      ∙ c.in-Ok.ensures.deleted.makes was) c.set.ensures.value was (c.requires.open.kept was);
}

pub returns-in-Err-clause-handles : goal.returns-in-Err-clause-handles
returns-in-Err-clause-handles g c =
    deaccess-fails c.args.task c.args.lun c.args.caller (state_of (access_table_of c.args.self.now) c.args.files.now) (entry_of c.args.held)
    c.requires.held (λ honest. mark-held (access_table_of c.args.self.now) (store_in c.args.files.now) c.args.task c.args.lun
    (entry_of c.args.held) (c.requires.open.kept honest) c.set.ensures.within.0 c.set.ensures.within.1 c.requires.held)
    (not-false _ c.if-not-held.false)
    (sym c.if-is_accessed.false ∙ c.is_accessed.ensures ∙ ap (λ (t : AccessTable). is_held_in any_mode t c.args.held.file)
    c.set.ensures.value)
    (state_of (access_table_of c.set.new.self) c.delete.new.self) c.in-Err.refusal c.of_known.result c.requires.open.alive
    c.in-Err.ensures.refused c.in-Err.ensures.answers.home c.of_known.ensures

pub returns-in-Err-clause-fatal : goal.returns-in-Err-clause-fatal
returns-in-Err-clause-fatal g c =
    subst (λ (e : Refusal). is_fatal e ≡ true) (sym c.of_known.ensures)
    (deletion-fatal (home_in c.args.files.now) c.args.held.file (disk_in c.args.files.now) (disk_in c.delete.new.self) c.in-Err.refusal
    c.requires.open.alive c.in-Err.ensures.refused)

pub returns-then-not-held-clause-windows : goal.returns-then-not-held-clause-windows
returns-then-not-held-clause-windows g c =
    keeps-given (access_table_of c.args.self.now) (access_table_of c.set.new.self) c.args.task c.args.lun c.set.ensures.value

pub returns-then-is_accessed-clause-windows : goal.returns-then-is_accessed-clause-windows
returns-then-is_accessed-clause-windows g c =
    keeps-given (access_table_of c.args.self.now) (access_table_of c.set.new.self) c.args.task c.args.lun c.set.ensures.value

pub returns-in-Ok-clause-windows : goal.returns-in-Ok-clause-windows
returns-in-Ok-clause-windows g c =
    keeps-given (access_table_of c.args.self.now) (access_table_of c.set.new.self) c.args.task c.args.lun c.set.ensures.value
