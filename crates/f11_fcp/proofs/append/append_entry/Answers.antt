use Rattle.std.proofs.Common.{sym, subst}
use Rattle.f11_entries.specs.Costs.{append_cost}
use Rattle.f11_files.specs.Answers.{Breaks}
use Rattle.f11_files.specs.Changing.Fields.{Alters, FailsToAlter}
use Rattle.f11_files.specs.Open.{disk_in, has_failed, home_in, store_in}
use Rattle.f11_files.specs.image_store.StoreOf.{store_of}
use Rattle.f11_home.specs.Home.{HomeFields}
use Rattle.f11_store.specs.Changes.{with_replacement}
use Rattle.f11_store.specs.Lags.{file_changes, one_part}
use Rattle.f11_store.specs.declared.files.Change.TheVariants as change
use Rattle.f11_files.specs.Operations.{file_causes}
use Rattle.f11_store.specs.Directory.{record_bytes}
use Rattle.f11_store.specs.Store.{file_named}
use Rattle.f11_store.specs.declared.refusals.Refusal.{Refusal}
use Rattle.f11_files.proofs.writes.LostLemmas.{lost-then}
use Rattle.f11_fcp.specs.Entries.{Appending}
use Rattle.f11_fcp.proofs.RowLemmas.{leaves-then, replaced-leaves}
use Rattle.f11_fcp.proofs.EntryLemmas.{append-there, appends, breaks-move, breaks-put}
use Rattle.f11_fcp.proofs.KnownLemmas.{known-breaks, known-file}
use Rattle.f11_files.proofs.AnswerLemmas.{handed}
use Rattle.f11_fcp.proofs.append.append_entry.Goals as goal

pub returns-in_err-replace_entry-clause-refused : goal.returns-in_err-replace_entry-clause-refused
returns-in_err-replace_entry-clause-refused g c =
    handed _ c.from_residual.result _ c.from_residual.ensures.1
    (breaks-put (home_in c.args.files.now) c.args.directory c.args.tail.now (record_bytes c.args.file c.args.name.now)
    (disk_in c.args.files.now) (disk_in c.replace_entry.new.files) c.requires.there c.in_err-replace_entry.ensures.refused)

pub returns-in-Ok-clause-appended : goal.returns-in-Ok-clause-appended
returns-in-Ok-clause-appended g c =
    let home = home_in c.args.files.now in
    let r = record_bytes c.args.file c.args.name.now in
    appends home c.args.directory c.args.tail.now r (disk_in c.args.files.now) (disk_in c.replace_entry.new.files) c.requires.there
    c.in_ok-replace_entry.ensures.replaced c.moved_end-attr.result c.moved_end-attr.ensures (disk_in c.write_attr.new.self)
    (subst (λ (h : HomeFields). Alters (with_replacement (change.Attr c.moved_end-attr.result)) h c.args.directory
    (disk_in c.replace_entry.new.files) (disk_in c.write_attr.new.self)) c.in_ok-replace_entry.ensures.home c.in-Ok.ensures.altered)

pub returns-in-Err-clause-refused : goal.returns-in-Err-clause-refused
returns-in-Err-clause-refused g c =
    let home = home_in c.args.files.now in
    let r = record_bytes c.args.file c.args.name.now in
    let mid = disk_in c.replace_entry.new.files in
    let new = disk_in c.write_attr.new.self in
    let e = c.in-Err.refusal in
    let work = one_part c.args.directory.number
    (file_changes c.args.directory.number (with_replacement (change.Attr c.moved_end-attr.result))) in
    subst (λ (x : Refusal). Breaks (Appending home c.args.directory c.args.tail.now r (disk_in c.args.files.now))
    (append_cost (file_named (store_in c.args.files.now) c.args.directory)) x (disk_in c.args.files.now) new) (sym c.of_known.ensures)
    (breaks-move home c.args.directory c.args.tail.now r (disk_in c.args.files.now) mid c.requires.there
    c.in_ok-replace_entry.ensures.replaced
    c.moved_end-attr.result c.moved_end-attr.ensures new
    (known-breaks (file_causes (store_of mid.image home) c.args.directory) e c.in_ok-replace_entry.ensures.alive
    (known-file (store_of mid.image home) c.args.directory e)
    (append-there home c.args.directory c.args.tail.now r (disk_in c.args.files.now) mid c.requires.there
    c.in_ok-replace_entry.ensures.replaced) work
    home
    (subst (λ (h : HomeFields). FailsToAlter (has_failed c.replace_entry.new.files) (with_replacement (change.Attr c.moved_end-attr.result))
    h c.args.directory e mid new) c.in_ok-replace_entry.ensures.home c.in-Err.ensures.refused)))

pub returns-in-Ok-clause-rows : goal.returns-in-Ok-clause-rows
returns-in-Ok-clause-rows g c =
    leaves-then c.args.files.now c.replace_entry.new.files c.write_attr.new.self c.replace_entry.ensures.home
    c.in_ok-replace_entry.ensures.replaced.writes.went.honest c.in_ok-replace_entry.ensures.rows
    (replaced-leaves c.replace_entry.new.files c.write_attr.new.self (g.met.D.Device.is_image c.replace_entry.new.files.device)
    (g.met.D.Device.is_image c.write_attr.new.self.device) c.in-Ok.ensures.answers.home c.args.directory
    (change.Attr c.moved_end-attr.result) c.in-Ok.ensures.altered)

pub returns-in-Ok-clause-lost : goal.returns-in-Ok-clause-lost
returns-in-Ok-clause-lost g c = lost-then _ _ _ _ _ _ c.replace_entry.ensures.lost c.write_attr.ensures.lost

pub returns-in-Err-clause-lost : goal.returns-in-Err-clause-lost
returns-in-Err-clause-lost g c = lost-then _ _ _ _ _ _ c.replace_entry.ensures.lost c.write_attr.ensures.lost
