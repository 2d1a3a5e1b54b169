use Rattle.std.proofs.Common.{sym, ◌∙◌}
use Rattle.f11_files.proofs.AnswerLemmas.{handed}
use Rattle.f11_files.proofs.Creating.Make.{fails-entering, fails-none, fails-readying, make-confined, unready-confined}
use Rattle.f11_files.proofs.structure.Structure.create.Goals as goal

pub returns-in_err-ready_headers-clause-refused : goal.returns-in_err-ready_headers-clause-refused
returns-in_err-ready_headers-clause-refused g c =
    handed _ c.from_residual.result _ c.from_residual.ensures.1
    (fails-readying _ c.args.owner c.args.protection c.args.ident.now c.args.attr.now _ _ _ c.in_err-ready_headers.ensures.refused)

pub returns-in_err-ready_headers-clause-confined : goal.returns-in_err-ready_headers-clause-confined
returns-in_err-ready_headers-clause-confined g c = unready-confined _ _ _ c.ready_headers.ensures.confined

pub returns-then-is_no_header-clause-refused : goal.returns-then-is_no_header-clause-refused
returns-then-is_no_header-clause-refused g c =
    fails-none _ c.args.owner c.args.protection c.args.ident.now c.args.attr.now _ _ c.in_ok-ready_headers.ensures.ready
    _ _ (sym c.is_no_header.ensures ∙ c.if-is_no_header.true) (rw c.in_ok-ready_headers.ensures.stays.home at c.in-Err.ensures.refused)

pub returns-else-is_no_header-clause-refused : goal.returns-else-is_no_header-clause-refused
returns-else-is_no_header-clause-refused g c =
    fails-entering _ c.args.owner c.args.protection c.args.ident.now c.args.attr.now _ _ c.in_ok-ready_headers.ensures.ready
    _ _ (sym c.is_no_header.ensures ∙ c.if-is_no_header.false) (rw c.in_ok-ready_headers.ensures.stays.home at c.in-Err.ensures.refused)

pub returns-else-is_no_header-clause-confined : goal.returns-else-is_no_header-clause-confined
returns-else-is_no_header-clause-confined g c =
    make-confined c.args.self.now c.ready_headers.new.self _ _ _ c.in_ok-ready_headers.ensures.stays c.ready_headers.ensures.confined
    c.in_ok-ready_headers.ensures.ready c.enter_file.ensures.confined
