use Rattle.std.proofs.Common.{[], ◌∙◌, ◌||◌, false, ap, refl, sym, subst}
use Rattle.f11_dev.specs.Image.{Image}
use Rattle.f11_home.specs.Home.{HomeFields}
use Rattle.f11_store.specs.Changes.{with_marked_file}
use Rattle.f11_store.specs.Store.{Store}
use Rattle.f11_files.specs.Answers.{is_fatal}
use Rattle.f11_files.specs.Open.{store_in, disk_in, home_in}
use Rattle.f11_files.specs.image_store.StoreOf.{store_of}
use Rattle.f11_files.proofs.writes.LostLemmas.{lost-then}
use Rattle.f11_fcp.specs.Accesses.{AccessTable, HasAccessed, with_marks}
use Rattle.f11_fcp.specs.Handles.{state_of}
use Rattle.f11_fcp.specs.Places.{access_table_of}
use Rattle.f11_fcp.proofs.ByWindowLemmas.{keeps-marked, keeps-same}
use Rattle.f11_fcp.proofs.WindowLemmas.{windows-without, windows-marked, windows-on}
use Rattle.f11_fcp.proofs.RowLemmas.{cut-behind, deleted-leaves, marked-leaves, leaves-behind}
use Rattle.f11_fcp.proofs.OpenLemmas.{stays-open}
use Rattle.f11_fcp.proofs.MarkLemmas.{marks-kept}
use Rattle.f11_fcp.proofs.DeleteLemmas.{delete-bad, delete-system, delete-unread, delete-marked, delete-unprivileged, delete-there, deleted}
use Rattle.f11_fcp.proofs.DeleteLemmas.{not-deleted, unheld-still, marked, not-marked}
use Rattle.f11_fcp.proofs.HandedLemmas.{handles-handed, open-handed}
use Rattle.f11_fcp.proofs.table.Accesses.delete.Goals as goal

pub returns-then-is_bad-clause-handles : goal.returns-then-is_bad-clause-handles
returns-then-is_bad-clause-handles g c =
    delete-bad c.args.task c.args.caller c.args.file (state_of (access_table_of c.args.self.now) c.args.files.now)
    (sym c.is_bad.ensures ∙ c.if-is_bad.true)

pub returns-then-file-lt6-clause-handles : goal.returns-then-file-lt6-clause-handles
returns-then-file-lt6-clause-handles g c =
    delete-system c.args.task c.args.caller c.args.file (state_of (access_table_of c.args.self.now) c.args.files.now)
    (sym c.is_bad.ensures ∙ c.if-is_bad.false) c.if-file-lt6.true

pub returns-in_err-attr-clause-handles : goal.returns-in_err-attr-clause-handles
returns-in_err-attr-clause-handles g c =
    handles-handed c.from_residual.result _ c.from_residual.ensures.1
    (delete-unread c.args.task c.args.caller c.args.file (state_of (access_table_of c.args.self.now) c.args.files.now)
    (sym c.is_bad.ensures ∙ c.if-is_bad.false) c.if-file-lt6.false c.in_err-attr.field-0.0
    (state_of (access_table_of c.args.self.now) c.read_attr.new.self) c.requires.open.alive c.in_err-attr.ensures.refused
    c.in_err-attr.ensures.answers.home refl c.in_err-attr.ensures.told.counts)

pub returns-in_err-attr-clause-open : goal.returns-in_err-attr-clause-open
returns-in_err-attr-clause-open g c =
    open-handed (access_table_of c.args.self.now) c.args.files.now c.read_attr.new.self c.args.task c.args.caller _ c.from_residual.result _
    [] []
    c.from_residual.ensures.1 c.requires.open
    (returns-in_err-attr-clause-handles g c)
    (λ clean. c.in_err-attr.ensures.answers.next ∙ ap (λ b. b || is_fatal c.in_err-attr.field-0.0) c.requires.open.alive ∙ clean)

pub returns-then-is_going-clause-handles : goal.returns-then-is_going-clause-handles
returns-then-is_going-clause-handles g c =
    delete-marked c.args.task c.args.caller c.args.file (state_of (access_table_of c.args.self.now) c.args.files.now)
    (sym c.is_bad.ensures ∙ c.if-is_bad.false) c.if-file-lt6.false c.in_ok-attr.attr
    (state_of (access_table_of c.args.self.now) c.read_attr.new.self) c.in_ok-attr.ensures.read.reads c.in_ok-attr.ensures.read.no_cause
    c.in_ok-attr.ensures.read.attr_is c.in_ok-attr.ensures.answers.home c.in_ok-attr.ensures.told.counts refl c.is_accessed-accessed.result
    c.is_accessed-accessed.ensures (sym c.is_going.ensures ∙ c.if-is_going.true)

pub returns-then-is_going-clause-open : goal.returns-then-is_going-clause-open
returns-then-is_going-clause-open g c =
    stays-open (access_table_of c.args.self.now) c.args.files.now c.read_attr.new.self c.args.task c.args.caller _ _ [] [] c.requires.open
    (λ _. tt) (returns-then-is_going-clause-handles g c)
    (λ _. c.in_ok-attr.ensures.answers.next ∙ ap (λ b. b || false) c.requires.open.alive) tt

pub returns-then-not-may-clause-handles : goal.returns-then-not-may-clause-handles
returns-then-not-may-clause-handles g c =
    delete-unprivileged c.args.task c.args.caller c.args.file (state_of (access_table_of c.args.self.now) c.args.files.now)
    (sym c.is_bad.ensures ∙ c.if-is_bad.false) c.if-file-lt6.false c.in_ok-attr.attr
    (state_of (access_table_of c.args.self.now) c.read_attr.new.self) c.in_ok-attr.ensures.read.reads c.in_ok-attr.ensures.read.no_cause
    c.in_ok-attr.ensures.read.attr_is c.in_ok-attr.ensures.answers.home c.in_ok-attr.ensures.told.counts refl c.is_accessed-accessed.result
    c.is_accessed-accessed.ensures (sym c.is_going.ensures ∙ c.if-is_going.false) (sym c.may.ensures ∙ c.if-not-may.true)

pub returns-then-not-may-clause-open : goal.returns-then-not-may-clause-open
returns-then-not-may-clause-open g c =
    stays-open (access_table_of c.args.self.now) c.args.files.now c.read_attr.new.self c.args.task c.args.caller _ _ [] [] c.requires.open
    (λ _. tt) (returns-then-not-may-clause-handles g c)
    (λ _. c.in_ok-attr.ensures.answers.next ∙ ap (λ b. b || false) c.requires.open.alive) tt

pub returns-in-Ok-clause-handles : goal.returns-in-Ok-clause-handles
returns-in-Ok-clause-handles g c =
    deleted c.args.task c.args.caller c.args.file (state_of (access_table_of c.args.self.now) c.args.files.now)
    (sym c.is_bad.ensures ∙ c.if-is_bad.false) c.if-file-lt6.false c.in_ok-attr.attr
    (state_of (access_table_of c.args.self.now) c.read_attr.new.self) c.in_ok-attr.ensures.read.reads c.in_ok-attr.ensures.read.no_cause
    c.in_ok-attr.ensures.read.attr_is c.in_ok-attr.ensures.answers.home c.in_ok-attr.ensures.told.counts refl c.is_accessed-accessed.result
    c.is_accessed-accessed.ensures (sym c.is_going.ensures ∙ c.if-is_going.false) (sym c.may.ensures ∙ c.if-not-may.false)
    (state_of (access_table_of c.args.self.now) c.delete.new.self) c.in-Ok.ensures.answers.home c.if-not-accessed.true refl
    c.in-Ok.ensures.deleted

pub returns-in-Ok-clause-open : goal.returns-in-Ok-clause-open
returns-in-Ok-clause-open g c =
    stays-open (access_table_of c.args.self.now) c.args.files.now c.delete.new.self c.args.task c.args.caller _ _ [] [] c.requires.open
    (λ honest. (
      delete-there c.args.task c.args.caller c.args.file (state_of (access_table_of c.args.self.now) c.args.files.now)
          (sym c.is_bad.ensures ∙ c.if-is_bad.false) c.if-file-lt6.false c.in_ok-attr.attr
          (state_of (access_table_of c.args.self.now) c.read_attr.new.self) c.in_ok-attr.ensures.read.reads
          c.in_ok-attr.ensures.read.no_cause
          c.in_ok-attr.ensures.read.attr_is c.in_ok-attr.ensures.answers.home c.in_ok-attr.ensures.told.counts refl
          c.is_accessed-accessed.result
          c.is_accessed-accessed.ensures honest,
      unheld-still c.args.task c.args.caller c.args.file
          (state_of (access_table_of c.args.self.now) c.args.files.now) (sym c.is_bad.ensures ∙ c.if-is_bad.false) c.if-file-lt6.false
          c.in_ok-attr.attr (state_of (access_table_of c.args.self.now) c.read_attr.new.self) c.in_ok-attr.ensures.read.reads
          c.in_ok-attr.ensures.read.no_cause c.in_ok-attr.ensures.read.attr_is c.in_ok-attr.ensures.answers.home
          c.in_ok-attr.ensures.told.counts refl
          c.is_accessed-accessed.result c.is_accessed-accessed.ensures (sym c.is_going.ensures ∙ c.if-is_going.false)
          (sym c.may.ensures ∙ c.if-not-may.false) (state_of (access_table_of c.args.self.now) c.delete.new.self)
          c.in-Ok.ensures.answers.home c.if-not-accessed.true refl,
    )) (returns-in-Ok-clause-handles g c)
    (λ _. c.in-Ok.ensures.answers.next
    ∙ ap (λ b. b || false) (c.in_ok-attr.ensures.answers.next ∙ ap (λ b. b || false) c.requires.open.alive))
    (let H = returns-in-Ok-clause-handles g c in
    let looked = c.in_ok-attr.ensures.read.reads.looked in
    let t = access_table_of c.args.self.now in
    windows-without t c.args.files.now c.delete.new.self c.args.file H.writes.went.size (λ honest. sym H.writes.went.honest ∙ honest) H.home
    c.requires.open.kept
    (λ honest. delete-there c.args.task c.args.caller c.args.file (state_of (access_table_of c.args.self.now) c.args.files.now)
    (sym c.is_bad.ensures ∙ c.if-is_bad.false) c.if-file-lt6.false c.in_ok-attr.attr
    (state_of (access_table_of c.args.self.now) c.read_attr.new.self) c.in_ok-attr.ensures.read.reads c.in_ok-attr.ensures.read.no_cause
    c.in_ok-attr.ensures.read.attr_is c.in_ok-attr.ensures.answers.home c.in_ok-attr.ensures.told.counts refl c.is_accessed-accessed.result
    c.is_accessed-accessed.ensures honest)
    (cut-behind c.args.files.now c.read_attr.new.self c.delete.new.self c.args.file c.in_ok-attr.ensures.answers.home looked.honest
    looked.image
    (deleted-leaves c.read_attr.new.self c.delete.new.self (g.met.D.Device.is_image c.read_attr.new.self.device)
    (g.met.D.Device.is_image c.delete.new.self.device) c.in-Ok.ensures.answers.home c.args.file c.in-Ok.ensures.deleted))
    (sym c.is_accessed-accessed.ensures ∙ c.if-not-accessed.true) c.requires.open.windows)

pub returns-in-Err-clause-handles : goal.returns-in-Err-clause-handles
returns-in-Err-clause-handles g c =
    not-deleted c.args.task c.args.caller c.args.file (state_of (access_table_of c.args.self.now) c.args.files.now)
    (sym c.is_bad.ensures ∙ c.if-is_bad.false) c.if-file-lt6.false c.in_ok-attr.attr
    (state_of (access_table_of c.args.self.now) c.read_attr.new.self) c.in_ok-attr.ensures.read.reads c.in_ok-attr.ensures.read.no_cause
    c.in_ok-attr.ensures.read.attr_is c.in_ok-attr.ensures.answers.home c.in_ok-attr.ensures.told.counts refl c.is_accessed-accessed.result
    c.is_accessed-accessed.ensures (sym c.is_going.ensures ∙ c.if-is_going.false) (sym c.may.ensures ∙ c.if-not-may.false)
    (state_of (access_table_of c.args.self.now) c.delete.new.self) c.in-Err.ensures.answers.home c.if-not-accessed.true refl
    c.in-Err.refusal (c.in_ok-attr.ensures.answers.next ∙ ap (λ b. b || false) c.requires.open.alive) c.in-Err.ensures.refused
    c.in-Err.ensures.answers.counts

pub returns-in-Err-clause-open : goal.returns-in-Err-clause-open
returns-in-Err-clause-open g c =
    stays-open (access_table_of c.args.self.now) c.args.files.now c.delete.new.self c.args.task c.args.caller _ _ [] [] c.requires.open
    (λ _. tt) (returns-in-Err-clause-handles g c)
    (λ clean. c.in-Err.ensures.answers.next ∙ ap (λ b. b || is_fatal c.in-Err.refusal)
    (c.in_ok-attr.ensures.answers.next ∙ ap (λ b. b || false) c.requires.open.alive) ∙ clean) tt

pub returns-clause-handles : goal.returns-clause-handles
returns-clause-handles g c =
    marked c.args.task c.args.caller c.args.file (state_of (access_table_of c.args.self.now) c.args.files.now)
    (sym c.is_bad.ensures ∙ c.if-is_bad.false) c.if-file-lt6.false c.in_ok-attr.attr
    (state_of (access_table_of c.args.self.now) c.read_attr.new.self) c.in_ok-attr.ensures.read.reads c.in_ok-attr.ensures.read.no_cause
    c.in_ok-attr.ensures.read.attr_is c.in_ok-attr.ensures.answers.home c.in_ok-attr.ensures.told.counts refl c.is_accessed-accessed.result
    c.is_accessed-accessed.ensures (sym c.is_going.ensures ∙ c.if-is_going.false) (sym c.may.ensures ∙ c.if-not-may.false)
    (state_of (access_table_of c.set_marks.new.self) c.mark.new.self) c.in_ok-mark.ensures.answers.home c.if-not-accessed.false
    c.set_marks.ensures c.in_ok-mark.ensures.altered

pub returns-clause-open : goal.returns-clause-open
returns-clause-open g c = λ _. record {
  windows =
      let H = returns-clause-handles g c in
      let looked = c.in_ok-attr.ensures.read.reads.looked in
      let t = access_table_of c.args.self.now in
      windows-marked t (access_table_of c.set_marks.new.self) c.mark.new.self c.args.file c.set_marks.ensures
      (windows-on t c.args.files.now c.mark.new.self c.requires.open H.writes H.home
      (leaves-behind c.args.files.now c.read_attr.new.self c.mark.new.self c.in_ok-attr.ensures.answers.home looked.honest looked.image
      (marked-leaves c.read_attr.new.self c.mark.new.self (g.met.D.Device.is_image c.read_attr.new.self.device)
      (g.met.D.Device.is_image c.mark.new.self.device) c.in_ok-mark.ensures.answers.home c.args.file c.in_ok-mark.ensures.altered)));
  alive = c.in_ok-mark.ensures.answers.next
      ∙ ap (λ b. b || false) (c.in_ok-attr.ensures.answers.next ∙ ap (λ b. b || false) c.requires.open.alive);
  kept = λ honest.
      let reads = c.in_ok-attr.ensures.read.reads in
      let mid = sym c.in_ok-mark.ensures.altered.writes.went.honest ∙ honest in
      let was = sym reads.looked.honest ∙ mid in
      let s0 = store_in c.args.files.now in
      let same = ap (λ (i : Image). store_of i (home_in c.read_attr.new.self)) reads.looked.image
      ∙ ap (λ (h : HomeFields). store_of (disk_in c.args.files.now).image h) c.in_ok-attr.ensures.answers.home in
      subst (λ (t : AccessTable). HasAccessed t (store_in c.mark.new.self)) (sym c.set_marks.ensures)
      (subst (λ (s : Store). HasAccessed (with_marks c.args.file (access_table_of c.args.self.now)) s)
      (sym (ap (λ (h : HomeFields). store_of (disk_in c.mark.new.self).image h) c.in_ok-mark.ensures.answers.home
      ∙ c.in_ok-mark.ensures.altered.makes mid ∙ ap (λ (s : Store). with_marked_file s c.args.file.number) same))
      (marks-kept c.args.file (access_table_of c.args.self.now) s0
      (delete-there c.args.task c.args.caller c.args.file (state_of (access_table_of c.args.self.now) c.args.files.now)
      (sym c.is_bad.ensures ∙ c.if-is_bad.false) c.if-file-lt6.false c.in_ok-attr.attr
      (state_of (access_table_of c.args.self.now) c.read_attr.new.self) c.in_ok-attr.ensures.read.reads c.in_ok-attr.ensures.read.no_cause
      c.in_ok-attr.ensures.read.attr_is c.in_ok-attr.ensures.answers.home c.in_ok-attr.ensures.told.counts refl
      c.is_accessed-accessed.result
      c.is_accessed-accessed.ensures was) (c.requires.open.kept was)));
}

pub returns-in_err-mark-clause-handles : goal.returns-in_err-mark-clause-handles
returns-in_err-mark-clause-handles g c =
    handles-handed c.from_residual-in_err-mark.result _ c.from_residual-in_err-mark.ensures.1
    (not-marked c.args.task c.args.caller c.args.file (state_of (access_table_of c.args.self.now) c.args.files.now)
    (sym c.is_bad.ensures ∙ c.if-is_bad.false) c.if-file-lt6.false c.in_ok-attr.attr
    (state_of (access_table_of c.args.self.now) c.read_attr.new.self) c.in_ok-attr.ensures.read.reads c.in_ok-attr.ensures.read.no_cause
    c.in_ok-attr.ensures.read.attr_is c.in_ok-attr.ensures.answers.home c.in_ok-attr.ensures.told.counts refl c.is_accessed-accessed.result
    c.is_accessed-accessed.ensures (sym c.is_going.ensures ∙ c.if-is_going.false) (sym c.may.ensures ∙ c.if-not-may.false)
    (state_of (access_table_of c.args.self.now) c.mark.new.self) c.in_err-mark.ensures.answers.home c.if-not-accessed.false
    c.in_err-mark.field-0.0 (c.in_ok-attr.ensures.answers.next ∙ ap (λ b. b || false) c.requires.open.alive) c.in_err-mark.ensures.refused
    refl
    c.in_err-mark.ensures.answers.counts)

pub returns-in_err-mark-clause-open : goal.returns-in_err-mark-clause-open
returns-in_err-mark-clause-open g c =
    open-handed (access_table_of c.args.self.now) c.args.files.now c.mark.new.self c.args.task c.args.caller _
    c.from_residual-in_err-mark.result _ [] []
    c.from_residual-in_err-mark.ensures.1 c.requires.open
    (returns-in_err-mark-clause-handles g c)
    (λ clean. c.in_err-mark.ensures.answers.next ∙ ap (λ b. b || is_fatal c.in_err-mark.field-0.0)
    (c.in_ok-attr.ensures.answers.next ∙ ap (λ b. b || false) c.requires.open.alive) ∙ clean)

pub returns-in-Ok-clause-windows : goal.returns-in-Ok-clause-windows
returns-in-Ok-clause-windows g c = keeps-same (access_table_of c.args.self.now)

pub returns-clause-windows : goal.returns-clause-windows
returns-clause-windows g c =
    keeps-marked c.args.file (access_table_of c.args.self.now) (access_table_of c.set_marks.new.self) c.set_marks.ensures

pub returns-in-Ok-clause-lost : goal.returns-in-Ok-clause-lost
returns-in-Ok-clause-lost g c = lost-then _ _ _ _ _ _ c.read_attr.ensures.lost c.delete.ensures.lost

pub returns-in-Err-clause-lost : goal.returns-in-Err-clause-lost
returns-in-Err-clause-lost g c =
    lost-then _ _ _ _ _ _ c.read_attr.ensures.lost c.delete.ensures.lost

pub returns-clause-lost : goal.returns-clause-lost
returns-clause-lost g c = lost-then _ _ _ _ _ _ c.read_attr.ensures.lost c.mark.ensures.lost

pub returns-in_err-mark-clause-lost : goal.returns-in_err-mark-clause-lost
returns-in_err-mark-clause-lost g c = lost-then _ _ _ _ _ _ c.read_attr.ensures.lost c.mark.ensures.lost
