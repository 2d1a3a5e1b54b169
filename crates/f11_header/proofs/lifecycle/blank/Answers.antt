use Rattle.std.proofs.Common.{ap, ◌∙◌, subst, sym, rules}
use Rattle.f11_store.specs.bytes.Words.{with_word}
use Rattle.f11_header.specs.Writing.{with_format, owner_word}
use Rattle.f11_header.specs.Header.{holds_header, IsEmptyHeader}
use Rattle.f11_header.proofs.BlankLemmas.{holds-blank_header, IsEmptyHeader-blank_header}
use Rattle.f11_header.proofs.lifecycle.blank.Goals as goal

-- each write in its turn
pub returns-clause-block : goal.returns-clause-block
returns-clause-block c =
    let format = c.format.ensures ∙ ap with_format c.zeros.ensures in
    let number = c.write_word.ensures ∙ ap (λ b. with_word b 2 c.args.id.number) format in
    let sequence = c.write_word-2.ensures ∙ ap (λ b. with_word b 4 c.args.id.sequence) number in
    let owner = c.write_word-3.ensures ∙ ap (λ w. with_word c.write_word-2.new.bytes 8 w) c.owner_word.ensures
    ∙ ap (λ b. with_word b 8 (owner_word c.args.owner)) sequence in
    let protection = c.write_word-4.ensures ∙ ap (λ b. with_word b 10 c.args.protection) owner in
    c.write_word-5.ensures ∙ ap (λ w. with_word c.write_word-4.new.bytes 92 w) c.from.ensures
    ∙ ap (λ b. with_word b 92 c.args.segment) protection

pub returns-clause-holds : goal.returns-clause-holds
returns-clause-holds c =
    ap holds_header (returns-clause-block c) ∙ holds-blank_header c.args.id c.args.owner c.args.protection c.args.segment

pub returns-clause-empty : goal.returns-clause-empty
returns-clause-empty c =
    subst (λ b. IsEmptyHeader b c.args.id c.args.owner c.args.protection c.args.segment) (sym (returns-clause-block c))
    (IsEmptyHeader-blank_header c.args.id c.args.owner c.args.protection c.args.segment (search rules) (search rules) (search rules))
