use Rattle.std.proofs.Common.{[], false, ◌||◌, refl, sym, ◌∙◌, ap, subst}
use Rattle.f11_entries.specs.Costs.{look_cost, reading_cost}
use Rattle.f11_files.specs.Answers.{FailsToRead, is_fatal}
use Rattle.f11_files.specs.Finding.Length.{CountsBlocks}
use Rattle.f11_files.specs.Open.{disk_in, has_failed, home_in, store_in}
use Rattle.f11_files.specs.Operations.{file_causes}
use Rattle.f11_files.specs.image_store.StoreOf.{store_of}
use Rattle.f11_home.specs.Home.{HomeFields}
use Rattle.f11_store.specs.Cost.{header_count}
use Rattle.f11_store.specs.Store.{file_named}
use Rattle.f11_store.specs.declared.refusals.Refusal.{Refusal}
use Rattle.f11_files.proofs.writes.LostLemmas.{lost-then}
use Rattle.f11_fcp.specs.Directories.{IsDirectoryOf, LooksThroughDirectory, opening_causes}
use Rattle.f11_fcp.specs.Places.{access_table_of}
use Rattle.f11_fcp.proofs.AppendLemmas.{fatal-alone}
use Rattle.f11_fcp.proofs.DirectoryLemmas.{fails-within, first-read, search-directory, search-files, search-uncounted, search-unread}
use Rattle.f11_fcp.proofs.DirectoryLemmas.{searched}
use Rattle.f11_fcp.proofs.KnownLemmas.{known-fails, known-file, known-clean}
use Rattle.f11_files.proofs.AnswerLemmas.{handed}
use Rattle.f11_fcp.proofs.HandedLemmas.{test-handed}
use Rattle.f11_fcp.proofs.table.Accesses.search.Goals as goal

pub returns-in_err-attr-clause-refused : goal.returns-in_err-attr-clause-refused
returns-in_err-attr-clause-refused g c =
    handed _ c.from_residual.result _ c.from_residual.ensures.1
    (fails-within (first-read (file_named (store_in c.args.files.now) c.args.directory)) c.in_err-attr.ensures.refused)

pub returns-in-Err-clause-refused : goal.returns-in-Err-clause-refused
returns-in-Err-clause-refused g c =
    let t = access_table_of c.args.self.now in
    let home = home_in c.args.files.now in
    let s = store_in c.args.files.now in
    let d = c.args.directory in
    let old = disk_in c.args.files.now in
    let mid = disk_in c.open_directory.new.files in
    let next = disk_in c.length.new.self in
    let e = c.in-Err.refusal in
    let opens = c.in_ok-attr.ensures.opened in
    subst (λ (x : Refusal). FailsToRead false (opening_causes c.args.purpose t s c.args.caller d) (look_cost (file_named s d)) x old next)
    (sym c.of_known.ensures)
    (search-uncounted c.args.purpose t c.args.caller d c.args.name.now home c.in_ok-attr.attr opens
    (known-fails (file_causes (store_of mid.image home) d) e (c.in_ok-attr.ensures.alive refl) (known-file (store_of mid.image home) d e)
    (search-files c.args.purpose t c.args.caller d c.args.name.now home c.in_ok-attr.attr opens)
    (subst (λ (h : HomeFields). FailsToRead (has_failed c.open_directory.new.files) (file_causes (store_of mid.image h) d)
    (header_count (file_named (store_of mid.image h) d)) e mid next) c.in_ok-attr.ensures.home c.in-Err.ensures.refused)))

pub look_through-requires-clause-there : goal.look_through-requires-clause-there
look_through-requires-clause-there g c =
    let home = home_in c.args.files.now in
    let d = c.args.directory in
    let mid = disk_in c.open_directory.new.files in
    let after = disk_in c.length.new.self in
    λ sure.
    subst (λ (h : HomeFields). IsDirectoryOf c.entry_count-count.result (store_of after.image h) d)
    (sym (c.in-Ok.ensures.answers.home ∙ c.in_ok-attr.ensures.home))
    (search-directory c.args.purpose (access_table_of c.args.self.now) c.args.caller d c.args.name.now home c.in_ok-attr.attr
    c.in_ok-attr.ensures.opened c.in-Ok.length c.entry_count-count.result
    (subst (λ (h : HomeFields). CountsBlocks h d c.in-Ok.length mid after) c.in_ok-attr.ensures.home c.in-Ok.ensures.counts)
    c.entry_count-count.ensures.count sure)

pub returns-clause-searched : goal.returns-clause-searched
returns-clause-searched g c =
    let home = home_in c.args.files.now in
    let d = c.args.directory in
    let mid = disk_in c.open_directory.new.files in
    let after = disk_in c.length.new.self in
    searched c.args.purpose (access_table_of c.args.self.now) c.args.caller d c.args.name.now home c.in_ok-attr.attr
    c.in_ok-attr.ensures.opened
    c.in-Ok.length c.entry_count-count.result
    (subst (λ (h : HomeFields). CountsBlocks h d c.in-Ok.length mid after) c.in_ok-attr.ensures.home c.in-Ok.ensures.counts)
    c.entry_count-count.ensures.count _ refl refl refl
    (subst (λ (h : HomeFields). LooksThroughDirectory h d c.args.name.now c.in_ok-looked.looked c.look_through.new.block
    (reading_cost (file_named (store_of after.image h) d) c.entry_count-count.result) after (disk_in c.look_through.new.files))
    (c.in-Ok.ensures.answers.home ∙ c.in_ok-attr.ensures.home) c.in_ok-looked.ensures.looked)

pub returns-in_err-looked-clause-refused : goal.returns-in_err-looked-clause-refused
returns-in_err-looked-clause-refused g c =
    let home = home_in c.args.files.now in
    let d = c.args.directory in
    let mid = disk_in c.open_directory.new.files in
    let after = disk_in c.length.new.self in
    handed _ c.from_residual-in_err-looked.result _ c.from_residual-in_err-looked.ensures.1
    (search-unread c.args.purpose (access_table_of c.args.self.now) c.args.caller d c.args.name.now home c.in_ok-attr.attr
    c.in_ok-attr.ensures.opened
    c.in-Ok.length c.entry_count-count.result
    (subst (λ (h : HomeFields). CountsBlocks h d c.in-Ok.length mid after) c.in_ok-attr.ensures.home c.in-Ok.ensures.counts)
    c.entry_count-count.ensures.count
    (subst (λ (h : HomeFields). FailsToRead false [] (reading_cost (file_named (store_of after.image h) d) c.entry_count-count.result)
    c.in_err-looked.field-0.0 after (disk_in c.look_through.new.files))
    (c.in-Ok.ensures.answers.home ∙ c.in_ok-attr.ensures.home) c.in_err-looked.ensures.refused))

pub returns-in_err-attr-clause-alive : goal.returns-in_err-attr-clause-alive
returns-in_err-attr-clause-alive g c = λ clean.
    c.in_err-attr.ensures.alive (test-handed is_fatal c.from_residual.result _ c.from_residual.ensures.1 clean)

pub returns-in-Err-clause-alive : goal.returns-in-Err-clause-alive
returns-in-Err-clause-alive g c = λ clean.
    c.in-Err.ensures.answers.next ∙ ap (λ b. b || is_fatal c.in-Err.refusal) (c.in_ok-attr.ensures.alive refl)
    ∙ known-clean c.in-Err.refusal (ap is_fatal (sym c.of_known.ensures) ∙ clean)

pub returns-in_err-looked-clause-alive : goal.returns-in_err-looked-clause-alive
returns-in_err-looked-clause-alive g c =
    λ clean.
    let fatal = fatal-alone c.in_err-looked.field-0.0 c.in_err-looked.ensures.refused.right in
    let no = sym fatal ∙ test-handed is_fatal c.from_residual-in_err-looked.result _ c.from_residual-in_err-looked.ensures.1 clean in
    absurd cc

pub returns-in-Err-clause-lost : goal.returns-in-Err-clause-lost
returns-in-Err-clause-lost g c = lost-then _ _ _ _ _ _ c.open_directory.ensures.lost c.length.ensures.lost

pub returns-clause-lost : goal.returns-clause-lost
returns-clause-lost g c =
    lost-then _ _ _ _ _ _ (lost-then _ _ _ _ _ _ c.open_directory.ensures.lost c.length.ensures.lost) c.look_through.ensures.lost

pub returns-in_err-looked-clause-lost : goal.returns-in_err-looked-clause-lost
returns-in_err-looked-clause-lost g c =
    lost-then _ _ _ _ _ _ (lost-then _ _ _ _ _ _ c.open_directory.ensures.lost c.length.ensures.lost) c.look_through.ensures.lost
