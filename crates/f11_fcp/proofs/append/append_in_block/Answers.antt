use Rattle.std.proofs.Common.{sym, subst}
use Rattle.std.proofs.lemmas.Result.{IfErr-weaker, on_ok_weaker}
use Rattle.f11_files.specs.Open.{disk_in, home_in}
use Rattle.f11_files.specs.image_store.StoreOf.{store_of}
use Rattle.f11_home.specs.Home.{HomeFields}
use Rattle.f11_store.specs.Directory.{record_bytes}
use Rattle.f11_files.proofs.writes.LostLemmas.{lost-then}
use Rattle.f11_fcp.specs.Entries.{IsDirectoryTail}
use Rattle.f11_fcp.proofs.RowLemmas.{leaves-behind}
use Rattle.f11_fcp.proofs.AppendLemmas.{appends-at-home, breaks-at-home, end-appended, end-not-appended, end-tail, end-unread, fatal-alone}
use Rattle.f11_files.proofs.AnswerLemmas.{handed}
use Rattle.f11_fcp.proofs.HandedLemmas.{breaks-fatal}
use Rattle.f11_fcp.proofs.append.append_in_block.Goals as goal

pub returns-in_err-block-clause-refused : goal.returns-in_err-block-clause-refused
returns-in_err-block-clause-refused g c =
    handed _ c.from_residual.result _ c.from_residual.ensures.1
    (end-unread (home_in c.args.files.now) c.args.directory (record_bytes c.args.file c.args.name.now) (disk_in c.args.files.now)
    c.args.found.now c.requires.full c.in_err-block.ensures.refused)

pub append_entry-requires-clause-there : goal.append_entry-requires-clause-there
append_entry-requires-clause-there g c =
    let t = c.tail_at-tail in
    λ sure. subst (λ (h : HomeFields). IsDirectoryTail t.result (store_of (disk_in c.end_block.new.files).image h) c.args.directory)
    (sym c.in_ok-block.ensures.home)
    (end-tail (home_in c.args.files.now) c.args.directory (record_bytes c.args.file c.args.name.now) (disk_in c.args.files.now)
    c.args.found.now c.requires.full (disk_in c.end_block.new.files) c.in_ok-block.ensures.reads
    t.result c.in_ok-block.block t.ensures.number t.ensures.place t.ensures.block t.ensures.attr t.ensures.length
    c.in_ok-block.ensures.block sure)

pub returns-clause-put : goal.returns-clause-put
returns-clause-put g c =
    let t = c.tail_at-tail in
    on_ok_weaker c.append_entry.result
    (λ done. end-appended (home_in c.args.files.now) c.args.directory (record_bytes c.args.file c.args.name.now) (disk_in c.args.files.now)
    c.args.found.now c.requires.full (disk_in c.end_block.new.files) c.in_ok-block.ensures.reads
    t.result c.in_ok-block.block t.ensures.number t.ensures.place t.ensures.block t.ensures.attr t.ensures.length
    c.in_ok-block.ensures.block
    (appends-at-home c.in_ok-block.ensures.home done))
    c.append_entry.ensures.appended

pub returns-clause-refused : goal.returns-clause-refused
returns-clause-refused g c =
    let t = c.tail_at-tail in
    IfErr-weaker c.append_entry.result _ _
    (λ e breaks. end-not-appended (home_in c.args.files.now) c.args.directory (record_bytes c.args.file c.args.name.now)
    (disk_in c.args.files.now)
    c.args.found.now c.requires.full (disk_in c.end_block.new.files) c.in_ok-block.ensures.reads
    t.result c.in_ok-block.block t.ensures.number t.ensures.place t.ensures.block t.ensures.attr t.ensures.length
    c.in_ok-block.ensures.block
    (breaks-at-home c.args.directory t.result (record_bytes c.args.file c.args.name.now) (disk_in c.end_block.new.files)
    c.in_ok-block.ensures.home breaks))
    c.append_entry.ensures.refused

pub returns-in_err-block-clause-fatal : goal.returns-in_err-block-clause-fatal
returns-in_err-block-clause-fatal g c =
    handed _ c.from_residual.result _ c.from_residual.ensures.1 (fatal-alone c.in_err-block.field-0.0 c.in_err-block.ensures.refused.right)

pub returns-clause-fatal : goal.returns-clause-fatal
returns-clause-fatal g c = breaks-fatal _ _ _ _ c.append_entry.result c.append_entry.ensures.refused

pub returns-clause-rows : goal.returns-clause-rows
returns-clause-rows g c =
    on_ok_weaker c.append_entry.result
    (leaves-behind c.args.files.now c.end_block.new.files c.append_entry.new.files c.in_ok-block.ensures.home
    c.in_ok-block.ensures.reads.looked.honest c.in_ok-block.ensures.reads.looked.image)
    c.append_entry.ensures.rows

pub returns-clause-lost : goal.returns-clause-lost
returns-clause-lost g c = lost-then _ _ _ _ _ _ c.end_block.ensures.lost c.append_entry.ensures.lost
