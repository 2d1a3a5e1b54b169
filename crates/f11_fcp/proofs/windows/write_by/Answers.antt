use Rattle.std.proofs.Common.{◌∙◌, ◌||◌, false, sym, ap, subst}
use Rattle.f11_home.specs.Home.{HomeFields}
use Rattle.f11_files.specs.Open.{disk_in, has_failed, home_in, IsIdFrom}
use Rattle.f11_fcp.specs.Places.{entry_of}
use Rattle.f11_files.proofs.writes.LostLemmas.{lost-then}
use Rattle.f11_files.specs.Finding.Blocks.{FailsToStore, StoresBlock}
use Rattle.f11_fcp.proofs.ReachedLemmas.{once-none, reached-keeps, on-here, one-written, store-through, unread-stored, unstored-through}
use Rattle.f11_fcp.proofs.ReachedLemmas.{written-keeps}
use Rattle.f11_fcp.proofs.RowLemmas.{stored-leaves}
use Rattle.f11_files.proofs.AnswerLemmas.{handed}
use Rattle.f11_fcp.proofs.windows.write_by.Goals as goal

pub returns-in_err-window-clause-once : goal.returns-in_err-window-clause-once
returns-in_err-window-clause-once g c =
    λ holds. once-none (disk_in c.args.files.now) (disk_in c.next_window.new.files) (c.in_err-window.ensures.none holds)

pub returns-in_err-window-clause-refused : goal.returns-in_err-window-clause-refused
returns-in_err-window-clause-refused g c =
    handed _ c.from_residual.result _ c.from_residual.ensures.1
    (unread-stored (home_in c.args.files.now) (entry_of c.args.held.now) c.args.vbn c.args.block.now (disk_in c.args.files.now)
    (disk_in c.next_window.new.files) c.in_err-window.field-0.0 c.requires.held.alive c.in_err-window.ensures.refused)

pub returns-clause-stored : goal.returns-clause-stored
returns-clause-stored g c =
    let old = c.args.files.now in
    let mid = c.next_window.new.files in
    let new = c.write_in.new.self in
    let e = entry_of c.args.held.now in
    let id : IsIdFrom 4 c.args.held.now.file = record { number = c.args.held.now.own; volume = c.args.held.now.here } in
    let finds = c.in_ok-window.ensures.found in
    let home = c.in_ok-window.ensures.answers.home in
    let by = c.in_ok-write_in.ensures.stored in
    let on = on-here (home_in old) e c.args.vbn c.in_ok-window.window (disk_in old) (disk_in mid) id finds (home_in mid) home in
    store-through (home_in old) e c.args.vbn c.in_ok-window.window (disk_in old) (disk_in mid) id finds c.args.block.now (disk_in new)
    (subst (λ (h : HomeFields). StoresBlock h e.file c.args.vbn c.args.block.now (disk_in mid) (disk_in new)) home (by.of_file e.file on))
    (one-written _ _ _ _ by.once)

pub returns-clause-next : goal.returns-clause-next
returns-clause-next g c =
    let old = c.args.files.now in
    let mid = c.next_window.new.files in
    let new = c.write_in.new.self in
    let e = entry_of c.args.held.now in
    let id : IsIdFrom 4 c.args.held.now.file = record { number = c.args.held.now.own; volume = c.args.held.now.here } in
    let finds = c.in_ok-window.ensures.found in
    let home = c.in_ok-window.ensures.answers.home in
    let by = c.in_ok-write_in.ensures.stored in
    let on = on-here (home_in old) e c.args.vbn c.in_ok-window.window (disk_in old) (disk_in mid) id finds (home_in mid) home in
    let stores = by.of_file e.file on in
    record {
      next = finds.next;
      keeps =
          written-keeps e c.in_ok-window.window mid new stores.writes.went.size c.in_ok-write_in.ensures.answers.home
          (λ honest. sym stores.writes.went.honest ∙ honest)
          (λ honest. (on.has honest).there)
          (stored-leaves mid new (g.met.D.Device.is_image mid.device) (g.met.D.Device.is_image new.device)
          c.in_ok-write_in.ensures.answers.home e.file c.args.vbn c.args.block.now stores)
          (reached-keeps e c.in_ok-window.window old mid finds.reads.looked.image home (λ honest. sym finds.reads.looked.honest ∙ honest)
          finds.on
          finds.has);
    }

pub returns-in_err-write_in-clause-refused : goal.returns-in_err-write_in-clause-refused
returns-in_err-write_in-clause-refused g c =
    let old = c.args.files.now in
    let mid = c.next_window.new.files in
    let new = c.write_in.new.self in
    let e = entry_of c.args.held.now in
    let id : IsIdFrom 4 c.args.held.now.file = record { number = c.args.held.now.own; volume = c.args.held.now.here } in
    let finds = c.in_ok-window.ensures.found in
    let home = c.in_ok-window.ensures.answers.home in
    let by = c.in_err-write_in.ensures.refused in
    let still = c.in_ok-window.ensures.answers.next ∙ ap (λ b. b || false) c.requires.held.alive in
    handed _ c.from_residual-in_err-write_in.result _ c.from_residual-in_err-write_in.ensures.1
    (unstored-through (home_in old) e c.args.vbn c.in_ok-window.window (disk_in old) (disk_in mid) id finds c.args.block.now (disk_in new)
    c.in_err-write_in.field-0.0 c.requires.held.alive still by.why by.few
    (subst (λ (h : HomeFields). FailsToStore (has_failed mid) h e.file c.args.vbn c.args.block.now c.in_err-write_in.field-0.0 (disk_in mid)
    (disk_in new)) home (by.of_file e.file
    (on-here (home_in old) e c.args.vbn c.in_ok-window.window (disk_in old) (disk_in mid) id finds (home_in mid) home))))

pub returns-clause-lost : goal.returns-clause-lost
returns-clause-lost g c = lost-then _ _ _ _ _ _ c.next_window.ensures.lost c.write_in.ensures.lost

pub returns-in_err-write_in-clause-lost : goal.returns-in_err-write_in-clause-lost
returns-in_err-write_in-clause-lost g c = lost-then _ _ _ _ _ _ c.next_window.ensures.lost c.write_in.ensures.lost
