use Rattle.std.proofs.Common.{◌∙◌, ◌||◌, false, sym, ap, subst}
use Rattle.f11_home.specs.Home.{HomeFields}
use Rattle.f11_files.specs.Open.{disk_in, home_in, IsIdFrom}
use Rattle.f11_fcp.specs.Places.{entry_of}
use Rattle.f11_files.specs.Finding.Windows.{ReadsBy}
use Rattle.f11_dev.specs.Disk.{Disk}
use Rattle.f11_fcp.proofs.ReachedLemmas.{once-none, reached-keeps, read-through, unread-through}
use Rattle.f11_files.proofs.writes.LostLemmas.{lost-then}
use Rattle.f11_files.proofs.AnswerLemmas.{handed}
use Rattle.f11_fcp.proofs.windows.read_by.Goals as goal

pub returns-in_err-window-clause-once : goal.returns-in_err-window-clause-once
returns-in_err-window-clause-once g c =
    λ holds. once-none (disk_in c.args.files.now) (disk_in c.next_window.new.files) (c.in_err-window.ensures.none holds)

pub returns-clause-read : goal.returns-clause-read
returns-clause-read g c =
    let old = c.args.files.now in
    let mid = c.next_window.new.files in
    let new = c.read_in.new.self in
    let e = entry_of c.args.held.now in
    let id : IsIdFrom 4 c.args.held.now.file = record { number = c.args.held.now.own; volume = c.args.held.now.here } in
    let finds = c.in_ok-window.ensures.found in
    let home = c.in_ok-window.ensures.answers.home in
    read-through (home_in old) e c.args.vbn c.in_ok-window.window (disk_in old) (disk_in mid) id finds c.read_in.new.block (disk_in new)
    (subst (λ (h : HomeFields). ReadsBy h c.in_ok-window.window c.args.vbn c.read_in.new.block (disk_in mid) (disk_in new)) home
    c.in_ok-read_in.ensures.read)

pub returns-clause-next : goal.returns-clause-next
returns-clause-next g c =
    let old = c.args.files.now in
    let mid = c.next_window.new.files in
    let new = c.read_in.new.self in
    let e = entry_of c.args.held.now in
    let id : IsIdFrom 4 c.args.held.now.file = record { number = c.args.held.now.own; volume = c.args.held.now.here } in
    let finds = c.in_ok-window.ensures.found in
    let home = c.in_ok-window.ensures.answers.home in
    let once = c.in_ok-read_in.ensures.read.once in
    record {
      next = finds.next;
      keeps =
          reached-keeps e c.in_ok-window.window old new (ap (λ (d : Disk). d.image) once ∙ finds.reads.looked.image)
          (c.in_ok-read_in.ensures.answers.home ∙ home)
          (λ honest. sym finds.reads.looked.honest ∙ sym (ap (λ (d : Disk). d.honest) once) ∙ honest) finds.on finds.has;
    }

pub returns-in_err-read_in-clause-refused : goal.returns-in_err-read_in-clause-refused
returns-in_err-read_in-clause-refused g c =
    let old = c.args.files.now in
    let mid = c.next_window.new.files in
    let new = c.read_in.new.self in
    let e = entry_of c.args.held.now in
    let id : IsIdFrom 4 c.args.held.now.file = record { number = c.args.held.now.own; volume = c.args.held.now.here } in
    let finds = c.in_ok-window.ensures.found in
    let home = c.in_ok-window.ensures.answers.home in
    handed _ c.from_residual-in_err-read_in.result _ c.from_residual-in_err-read_in.ensures.1
    (unread-through (home_in old) e c.args.vbn c.in_ok-window.window (disk_in old) (disk_in mid) id finds c.in_err-read_in.field-0.0
    (disk_in new)
    c.requires.held.alive
    (c.in_ok-window.ensures.answers.next ∙ ap (λ b. b || false) c.requires.held.alive) c.in_err-read_in.ensures.refused)

pub returns-clause-lost : goal.returns-clause-lost
returns-clause-lost g c = lost-then _ _ _ _ _ _ c.next_window.ensures.lost c.read_in.ensures.lost

pub returns-in_err-read_in-clause-lost : goal.returns-in_err-read_in-clause-lost
returns-in_err-read_in-clause-lost g c = lost-then _ _ _ _ _ _ c.next_window.ensures.lost c.read_in.ensures.lost
