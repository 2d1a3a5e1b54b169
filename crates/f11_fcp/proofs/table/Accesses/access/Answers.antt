use Rattle.std.proofs.Common.{◌∙◌, ◌||◌, false, refl, sym, ap, Some}
use Rattle.f11_dev.specs.Image.{Image}
use Rattle.f11_home.specs.Home.{HomeFields}
use Rattle.f11_files.specs.Open.{store_in, home_in, disk_in}
use Rattle.f11_files.specs.image_store.StoreOf.{store_of}
use Rattle.f11_fcp.specs.Handles.{state_of}
use Rattle.f11_fcp.specs.Places.{access_table_of}
use Rattle.std.proofs.lemmas.Option.{same_Some}
use Rattle.f11_fcp.specs.Accesses.{Entry, with_table_entry}
use Rattle.f11_files.specs.Answers.{is_fatal}
use Rattle.f11_chain.specs.declared.windows.Window.{Window}
use Rattle.f11_fcp.proofs.LengthLemmas.{measured-open}
use Rattle.f11_fcp.proofs.WindowLemmas.{empty-kept, windows-read, windows-with}
use Rattle.f11_fcp.proofs.AccessLemmas.{access-bad, access-in-use, access-system, access-unread, access-marked, access-unprivileged}
use Rattle.f11_fcp.proofs.AccessLemmas.{access-barred, access-taken, access-kept}
use Rattle.f11_fcp.proofs.HandedLemmas.{handles-handed, test-handed}
use Rattle.f11_fcp.proofs.table.Accesses.access.Goals as goal

pub returns-then-is_bad-clause-handles : goal.returns-then-is_bad-clause-handles
returns-then-is_bad-clause-handles g c =
    access-bad c.args.task c.args.lun c.args.caller c.args.file c.args.mode (state_of (access_table_of c.args.self.now) c.args.files.now)
    (sym c.is_bad.ensures ∙ c.if-is_bad.true)

pub returns-in-Some-clause-handles : goal.returns-in-Some-clause-handles
returns-in-Some-clause-handles g c =
    access-in-use c.args.task c.args.lun c.args.caller c.args.file c.args.mode (state_of (access_table_of c.args.self.now) c.args.files.now)
    (sym c.is_bad.ensures ∙ c.if-is_bad.false) _ (sym c.in-Some.ensures.value)

pub returns-then-file-lt4-clause-handles : goal.returns-then-file-lt4-clause-handles
returns-then-file-lt4-clause-handles g c =
    access-system c.args.task c.args.lun c.args.caller c.args.file c.args.mode (state_of (access_table_of c.args.self.now) c.args.files.now)
    (sym c.is_bad.ensures ∙ c.if-is_bad.false) (sym c.in-None.ensures.value) c.if-file-lt4.true

pub returns-in_err-attr-clause-handles : goal.returns-in_err-attr-clause-handles
returns-in_err-attr-clause-handles g c =
    handles-handed c.from_residual.result _ c.from_residual.ensures.1
    (access-unread c.args.task c.args.lun c.args.caller c.args.file c.args.mode
    (state_of (access_table_of c.args.self.now) c.args.files.now)
    (sym c.is_bad.ensures ∙ c.if-is_bad.false) (sym c.in-None.ensures.value) c.if-file-lt4.false c.in_err-attr.field-0.0
    (state_of (access_table_of c.args.self.now) c.read_attr.new.self) c.requires.open.alive c.in_err-attr.ensures.refused
    c.in_err-attr.ensures.answers.home refl c.in_err-attr.ensures.told.counts)

pub returns-then-is_marked-clause-handles : goal.returns-then-is_marked-clause-handles
returns-then-is_marked-clause-handles g c =
    access-marked c.args.task c.args.lun c.args.caller c.args.file c.args.mode (state_of (access_table_of c.args.self.now) c.args.files.now)
    (sym c.is_bad.ensures ∙ c.if-is_bad.false) (sym c.in-None.ensures.value) c.if-file-lt4.false c.in_ok-attr.attr
    (state_of (access_table_of c.args.self.now) c.read_attr.new.self) c.in_ok-attr.ensures.read.reads c.in_ok-attr.ensures.read.no_cause
    c.in_ok-attr.ensures.read.attr_is c.in_ok-attr.ensures.answers.home c.in_ok-attr.ensures.told.counts refl
    (sym c.is_marked.ensures ∙ c.if-is_marked.true)

pub returns-then-lacks_for-clause-handles : goal.returns-then-lacks_for-clause-handles
returns-then-lacks_for-clause-handles g c =
    access-unprivileged c.args.task c.args.lun c.args.caller c.args.file c.args.mode
    (state_of (access_table_of c.args.self.now) c.args.files.now) (sym c.is_bad.ensures ∙ c.if-is_bad.false)
    (sym c.in-None.ensures.value) c.if-file-lt4.false c.in_ok-attr.attr (state_of (access_table_of c.args.self.now) c.read_attr.new.self)
    c.in_ok-attr.ensures.read.reads c.in_ok-attr.ensures.read.no_cause c.in_ok-attr.ensures.read.attr_is c.in_ok-attr.ensures.answers.home
    c.in_ok-attr.ensures.told.counts (sym c.is_marked.ensures ∙ c.if-is_marked.false) refl (sym c.lacks_for.ensures ∙ c.if-lacks_for.true)

pub returns-then-is_barred-clause-handles : goal.returns-then-is_barred-clause-handles
returns-then-is_barred-clause-handles g c =
    access-barred c.args.task c.args.lun c.args.caller c.args.file c.args.mode (state_of (access_table_of c.args.self.now) c.args.files.now)
    (sym c.is_bad.ensures ∙ c.if-is_bad.false) (sym c.in-None.ensures.value) c.if-file-lt4.false c.in_ok-attr.attr
    (state_of (access_table_of c.args.self.now) c.read_attr.new.self) c.in_ok-attr.ensures.read.reads c.in_ok-attr.ensures.read.no_cause
    c.in_ok-attr.ensures.read.attr_is c.in_ok-attr.ensures.answers.home c.in_ok-attr.ensures.told.counts
    (sym c.is_marked.ensures ∙ c.if-is_marked.false)
    (sym c.lacks_for.ensures ∙ c.if-lacks_for.false) refl (sym c.if-is_barred.true ∙ c.is_barred.ensures)

pub returns-in_err-attr-clause-open : goal.returns-in_err-attr-clause-open
returns-in_err-attr-clause-open g c = λ clean.
    measured-open (access_table_of c.args.self.now) c.args.files.now c.read_attr.new.self c.requires.open
    c.in_err-attr.ensures.refused.reads
    c.in_err-attr.ensures.answers.home
    (c.in_err-attr.ensures.answers.next ∙ ap (λ b. b || is_fatal c.in_err-attr.field-0.0) c.requires.open.alive
    ∙ test-handed is_fatal c.from_residual.result _ c.from_residual.ensures.1 clean)

pub returns-then-is_marked-clause-open : goal.returns-then-is_marked-clause-open
returns-then-is_marked-clause-open g c = λ _.
    measured-open (access_table_of c.args.self.now) c.args.files.now c.read_attr.new.self c.requires.open c.in_ok-attr.ensures.read.reads
    c.in_ok-attr.ensures.answers.home
    (c.in_ok-attr.ensures.answers.next ∙ ap (λ b. b || false) c.requires.open.alive)

pub returns-then-lacks_for-clause-open : goal.returns-then-lacks_for-clause-open
returns-then-lacks_for-clause-open g c = λ _.
    measured-open (access_table_of c.args.self.now) c.args.files.now c.read_attr.new.self c.requires.open c.in_ok-attr.ensures.read.reads
    c.in_ok-attr.ensures.answers.home
    (c.in_ok-attr.ensures.answers.next ∙ ap (λ b. b || false) c.requires.open.alive)

pub returns-then-is_barred-clause-open : goal.returns-then-is_barred-clause-open
returns-then-is_barred-clause-open g c = λ _.
    measured-open (access_table_of c.args.self.now) c.args.files.now c.read_attr.new.self c.requires.open c.in_ok-attr.ensures.read.reads
    c.in_ok-attr.ensures.answers.home
    (c.in_ok-attr.ensures.answers.next ∙ ap (λ b. b || false) c.requires.open.alive)

pub returns-clause-handles : goal.returns-clause-handles
returns-clause-handles g c =
    access-taken c.args.task c.args.lun c.args.caller c.args.file c.args.mode (state_of (access_table_of c.args.self.now) c.args.files.now)
    (sym c.is_bad.ensures ∙ c.if-is_bad.false) (sym c.in-None.ensures.value) c.if-file-lt4.false c.in_ok-attr.attr
    (state_of (access_table_of c.set.new.self) c.read_attr.new.self) c.in_ok-attr.ensures.read.reads c.in_ok-attr.ensures.read.no_cause
    c.in_ok-attr.ensures.read.attr_is c.in_ok-attr.ensures.answers.home c.in_ok-attr.ensures.told.counts
    (sym c.is_marked.ensures ∙ c.if-is_marked.false)
    (sym c.lacks_for.ensures ∙ c.if-lacks_for.false) _ c.set.ensures.value (sym c.if-is_barred.false ∙ c.is_barred.ensures)

pub returns-clause-open : goal.returns-clause-open
returns-clause-open g c = λ _. record {
  windows =
      let t = access_table_of c.args.self.now in
      windows-with t (access_table_of c.set.new.self) c.read_attr.new.self c.args.task c.args.lun _ c.set.ensures.value
      (λ e is. empty-kept e c.read_attr.new.self (ap (λ (x : Entry). x.window) (sym (same_Some _ _ is)) ∙ c.empty.ensures.value))
      (windows-read t c.args.files.now c.read_attr.new.self c.requires.open c.in_ok-attr.ensures.read.reads
      c.in_ok-attr.ensures.answers.home);
  alive = c.in_ok-attr.ensures.answers.next ∙ ap (λ b. b || false) c.requires.open.alive;
  kept = λ honest.
      let looked = c.in_ok-attr.ensures.read.reads.looked in
      let was = sym looked.honest ∙ honest in
      access-kept c.args.task c.args.lun c.args.caller c.args.file c.args.mode (state_of (access_table_of c.args.self.now) c.args.files.now)
      (sym c.is_bad.ensures ∙ c.if-is_bad.false) (sym c.in-None.ensures.value) c.if-file-lt4.false c.in_ok-attr.attr
      (state_of (access_table_of c.set.new.self) c.read_attr.new.self) c.in_ok-attr.ensures.read.reads c.in_ok-attr.ensures.read.no_cause
      c.in_ok-attr.ensures.read.attr_is c.in_ok-attr.ensures.answers.home c.in_ok-attr.ensures.told.counts
      (sym c.is_marked.ensures ∙ c.if-is_marked.false)
      (sym c.lacks_for.ensures ∙ c.if-lacks_for.false) (access_table_of c.set.new.self) (store_in c.read_attr.new.self)
      (ap (λ (i : Image). store_of i (home_in c.read_attr.new.self)) looked.image
      ∙ ap (λ (h : HomeFields). store_of (disk_in c.args.files.now).image h) c.in_ok-attr.ensures.answers.home) _ c.set.ensures.value was
      (c.requires.open.kept was);
}

pub returns-clause-windows : goal.returns-clause-windows
returns-clause-windows g c =
    c.set.ensures.value
    ∙ ap (λ (w : Window). with_table_entry (access_table_of c.args.self.now) c.args.task c.args.lun
    (Some (record { file = c.args.file; mode = c.args.mode; marked = false; window = w }))) c.empty.ensures.value
