use Rattle.std.proofs.Common.{◌∙◌, ◌||◌, ap, sym, subst}
use Rattle.std.proofs.lemmas.Result.{IfErr-weaker, on_ok_weaker}
use Rattle.f11_files.specs.Answers.{is_clean, is_fatal}
use Rattle.f11_files.specs.Open.{disk_in, home_in}
use Rattle.f11_files.specs.image_store.StoreOf.{store_of}
use Rattle.f11_home.specs.Home.{HomeFields}
use Rattle.f11_store.specs.Directory.{record_bytes}
use Rattle.f11_store.specs.declared.refusals.Refusal.{Refusal}
use Rattle.f11_files.proofs.writes.LostLemmas.{lost-then}
use Rattle.f11_fcp.specs.Entries.{FailsToPut, IsDirectoryTail}
use Rattle.f11_fcp.proofs.RowLemmas.{extended-honest, extended-leaves, leaves-then}
use Rattle.f11_fcp.proofs.AppendLemmas.{appends-at-home, breaks-at-home, new-appended, new-not-appended, new-tail, not-extended-by-one}
use Rattle.f11_fcp.proofs.AppendLemmas.{not-index}
use Rattle.f11_fcp.proofs.KnownLemmas.{known-clean, known-leaves}
use Rattle.f11_fcp.proofs.HandedLemmas.{breaks-fatal, fatal-alive, fatal-never}
use Rattle.f11_fcp.proofs.append.append_in_new_block.Goals as goal

pub returns-in-Err-clause-refused : goal.returns-in-Err-clause-refused
returns-in-Err-clause-refused g c =
    let r = record_bytes c.args.file c.args.name.now in
    subst (λ (e : Refusal). FailsToPut (home_in c.args.files.now) c.args.directory r e (disk_in c.args.files.now)
    (disk_in c.extend.new.self)) (sym c.of_known.ensures)
    (not-extended-by-one (home_in c.args.files.now) c.args.directory r (disk_in c.args.files.now) _ (disk_in c.extend.new.self)
    c.args.found.now c.in-Err.refusal c.requires.alive (not-index c.args.directory c.requires.id.number) c.requires.full
    c.in-Err.ensures.refused)

pub returns-in-Err-clause-counts : goal.returns-in-Err-clause-counts
returns-in-Err-clause-counts g c =
    λ clean. c.in-Err.ensures.answers.counts (known-leaves c.in-Err.refusal (ap is_clean (sym c.of_known.ensures) ∙ clean))

pub returns-in-Err-clause-alive : goal.returns-in-Err-clause-alive
returns-in-Err-clause-alive g c = λ clean.
    c.in-Err.ensures.answers.next ∙ ap (λ b. b || is_fatal c.in-Err.refusal) c.requires.alive
    ∙ known-clean c.in-Err.refusal (ap is_fatal (sym c.of_known.ensures) ∙ clean)

pub append_entry-requires-clause-there : goal.append_entry-requires-clause-there
append_entry-requires-clause-there g c =
    let t = c.tail_at-tail in
    λ sure. subst (λ (h : HomeFields). IsDirectoryTail t.result (store_of (disk_in c.extend.new.self).image h) c.args.directory)
    (sym c.in-Ok.ensures.answers.home)
    (new-tail (home_in c.args.files.now) c.args.directory (record_bytes c.args.file c.args.name.now) (disk_in c.args.files.now)
    (disk_in c.extend.new.self) c.args.found.now (not-index c.args.directory c.requires.id.number) c.requires.full
    c.in-Ok.ensures.extended.1
    t.result t.ensures.number t.ensures.place (t.ensures.block ∙ c.zeros.ensures) t.ensures.attr t.ensures.length sure)

pub returns-clause-put : goal.returns-clause-put
returns-clause-put g c =
    let t = c.tail_at-tail in
    on_ok_weaker c.append_entry.result
    (λ done. new-appended (home_in c.args.files.now) c.args.directory (record_bytes c.args.file c.args.name.now) (disk_in c.args.files.now)
    (disk_in c.extend.new.self) c.args.found.now (not-index c.args.directory c.requires.id.number) c.requires.full
    c.in-Ok.ensures.extended.1
    t.result t.ensures.number t.ensures.place (t.ensures.block ∙ c.zeros.ensures) t.ensures.attr t.ensures.length
    (appends-at-home c.in-Ok.ensures.answers.home done))
    c.append_entry.ensures.appended

pub returns-clause-refused : goal.returns-clause-refused
returns-clause-refused g c =
    let t = c.tail_at-tail in
    IfErr-weaker c.append_entry.result _ _
    (λ e breaks. new-not-appended (home_in c.args.files.now) c.args.directory (record_bytes c.args.file c.args.name.now)
    (disk_in c.args.files.now)
    (disk_in c.extend.new.self) c.args.found.now (not-index c.args.directory c.requires.id.number) c.requires.full
    c.in-Ok.ensures.extended.1
    t.result t.ensures.number t.ensures.place (t.ensures.block ∙ c.zeros.ensures) t.ensures.attr t.ensures.length
    (breaks-at-home c.args.directory t.result (record_bytes c.args.file c.args.name.now) (disk_in c.extend.new.self)
    c.in-Ok.ensures.answers.home breaks))
    c.append_entry.ensures.refused

pub returns-clause-counts : goal.returns-clause-counts
returns-clause-counts g c = fatal-never c.append_entry.result (breaks-fatal _ _ _ _ c.append_entry.result c.append_entry.ensures.refused)

pub returns-clause-alive : goal.returns-clause-alive
returns-clause-alive g c =
    fatal-alive c.append_entry.result c.append_entry.ensures.alive
    (breaks-fatal _ _ _ _ c.append_entry.result c.append_entry.ensures.refused)

pub returns-clause-rows : goal.returns-clause-rows
returns-clause-rows g c =
    on_ok_weaker c.append_entry.result
    (leaves-then c.args.files.now c.extend.new.self c.append_entry.new.files c.in-Ok.ensures.answers.home
    (extended-honest c.in-Ok.ensures.extended.1)
    (extended-leaves c.args.files.now c.extend.new.self (g.met.D.Device.is_image c.args.files.now.device)
    (g.met.D.Device.is_image c.extend.new.self.device) c.in-Ok.ensures.answers.home c.args.directory 1 c.in-Ok.ensures.extended.1))
    c.append_entry.ensures.rows

pub returns-clause-lost : goal.returns-clause-lost
returns-clause-lost g c = lost-then _ _ _ _ _ _ c.extend.ensures.lost c.append_entry.ensures.lost
