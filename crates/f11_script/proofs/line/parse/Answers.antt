use Rattle.std.proofs.Common.{◌∙◌, sym, refl}
use Rattle.f11_script.proofs.LineLemmas.{too_long, comment, call, no_call}
use Rattle.f11_script.proofs.line.parse.Goals as goal

pub returns-then-line-gt-LONGEST-clause-exact : goal.returns-then-line-gt-LONGEST-clause-exact
returns-then-line-gt-LONGEST-clause-exact c = too_long c.args.line.now c.args.block.now c.if-line-gt-LONGEST.true

pub returns-then-is_comment-clause-exact : goal.returns-then-is_comment-clause-exact
returns-then-is_comment-clause-exact c =
    comment c.args.line.now c.args.block.now c.if-line-gt-LONGEST.false (sym c.is_comment.ensures ∙ c.if-is_comment.true)

pub returns-in-Some-clause-exact : goal.returns-in-Some-clause-exact
returns-in-Some-clause-exact c =
    call c.args.line.now c.args.block.now _ _ c.if-line-gt-LONGEST.false (sym c.is_comment.ensures ∙ c.if-is_comment.false) c.of.ensures
    c.in-Some.ensures.exact _ refl

pub returns-in-None-clause-exact : goal.returns-in-None-clause-exact
returns-in-None-clause-exact c =
    no_call c.args.line.now c.args.block.now _ c.if-line-gt-LONGEST.false (sym c.is_comment.ensures ∙ c.if-is_comment.false) c.of.ensures
    c.in-None.ensures.exact
