use Rattle.std.proofs.Common.{◌||◌, sym, ◌∙◌, ap}
use Rattle.f11_files.specs.Answers.{is_fatal}
use Rattle.f11_files.specs.Open.{disk_in, home_in}
use Rattle.f11_fcp.specs.Places.{access_table_of}
use Rattle.f11_fcp.proofs.DirectoryLemmas.{open-system, open-unread, open-marked, open-unprivileged, open-barred, open-other, opened}
use Rattle.f11_files.proofs.AnswerLemmas.{handed}
use Rattle.f11_fcp.proofs.HandedLemmas.{test-handed}
use Rattle.f11_fcp.proofs.table.Accesses.open_directory.Goals as goal

pub returns-then-directory-lt4-clause-refused : goal.returns-then-directory-lt4-clause-refused
returns-then-directory-lt4-clause-refused g c =
    open-system c.args.purpose (access_table_of c.args.self.now) c.args.caller c.args.directory (home_in c.args.files.now)
    (disk_in c.args.files.now) c.if-directory-lt4.true

pub returns-in_err-attr-clause-refused : goal.returns-in_err-attr-clause-refused
returns-in_err-attr-clause-refused g c =
    handed _ c.from_residual.result _ c.from_residual.ensures.1
    (open-unread c.args.purpose (access_table_of c.args.self.now) c.args.caller c.args.directory (home_in c.args.files.now)
    (disk_in c.args.files.now) c.if-directory-lt4.false c.in_err-attr.field-0.0 c.requires.alive c.in_err-attr.ensures.refused)

pub returns-then-is_marked-clause-refused : goal.returns-then-is_marked-clause-refused
returns-then-is_marked-clause-refused g c =
    open-marked c.args.purpose (access_table_of c.args.self.now) c.args.caller c.args.directory (home_in c.args.files.now)
    (disk_in c.args.files.now) c.if-directory-lt4.false c.in_ok-attr.attr (disk_in c.read_attr.new.self) c.in_ok-attr.ensures.read
    (sym c.is_marked.ensures ∙ c.if-is_marked.true)

pub returns-then-lacks_for-clause-refused : goal.returns-then-lacks_for-clause-refused
returns-then-lacks_for-clause-refused g c =
    open-unprivileged c.args.purpose (access_table_of c.args.self.now) c.args.caller c.args.directory (home_in c.args.files.now)
    (disk_in c.args.files.now) c.if-directory-lt4.false c.in_ok-attr.attr (disk_in c.read_attr.new.self) c.in_ok-attr.ensures.read
    (sym c.is_marked.ensures ∙ c.if-is_marked.false) (sym c.lacks_for.ensures ∙ c.if-lacks_for.true)

pub returns-then-bars-clause-refused : goal.returns-then-bars-clause-refused
returns-then-bars-clause-refused g c =
    open-barred c.args.purpose (access_table_of c.args.self.now) c.args.caller c.args.directory (home_in c.args.files.now)
    (disk_in c.args.files.now) c.if-directory-lt4.false c.in_ok-attr.attr (disk_in c.read_attr.new.self) c.in_ok-attr.ensures.read
    (sym c.is_marked.ensures ∙ c.if-is_marked.false) (sym c.lacks_for.ensures ∙ c.if-lacks_for.false) (sym c.bars.ensures ∙ c.if-bars.true)

pub returns-then-not-is_directory-clause-refused : goal.returns-then-not-is_directory-clause-refused
returns-then-not-is_directory-clause-refused g c =
    open-other c.args.purpose (access_table_of c.args.self.now) c.args.caller c.args.directory (home_in c.args.files.now)
    (disk_in c.args.files.now) c.if-directory-lt4.false c.in_ok-attr.attr (disk_in c.read_attr.new.self) c.in_ok-attr.ensures.read
    (sym c.is_marked.ensures ∙ c.if-is_marked.false) (sym c.lacks_for.ensures ∙ c.if-lacks_for.false) (sym c.bars.ensures ∙ c.if-bars.false)
    c.is_directory.result c.if-not-is_directory.true c.is_directory.ensures

pub returns-clause-opened : goal.returns-clause-opened
returns-clause-opened g c =
    opened c.args.purpose (access_table_of c.args.self.now) c.args.caller c.args.directory (home_in c.args.files.now)
    (disk_in c.args.files.now) c.if-directory-lt4.false c.in_ok-attr.attr (disk_in c.read_attr.new.self) c.in_ok-attr.ensures.read
    (sym c.is_marked.ensures ∙ c.if-is_marked.false) (sym c.lacks_for.ensures ∙ c.if-lacks_for.false) (sym c.bars.ensures ∙ c.if-bars.false)
    c.is_directory.result c.if-not-is_directory.false c.is_directory.ensures

pub returns-in_err-attr-clause-alive : goal.returns-in_err-attr-clause-alive
returns-in_err-attr-clause-alive g c =
    λ clean. c.in_err-attr.ensures.answers.next ∙ ap (λ b. b || is_fatal c.in_err-attr.field-0.0) c.requires.alive
    ∙ test-handed is_fatal c.from_residual.result _ c.from_residual.ensures.1 clean
