use Rattle.std.proofs.Common.{◌≡◌, ap, sym, ◌∙◌, inl, inr}
use Rattle.f11_header.specs.Fields.{check_word, file_number}
use Rattle.f11_scan.proofs.UseLemmas.{killed-test, not-killed}
use Rattle.f11_scan.proofs.uses.is_killed.Goals as goal

pub returns-then-id-ne0 : goal.returns-then-id-ne0
returns-then-id-ne0 c =
    let number : c.id.result.number ≡ file_number c.args.block.now =
    (λ k. (c.id.ensures k).number) ∙ ap file_number c.new-header.ensures in
    sym (not-killed c.args.block.now (inl (λ none. c.if-id-ne0.true (number ∙ none))))

pub returns-then-check_word-ne0 : goal.returns-then-check_word-ne0
returns-then-check_word-ne0 c =
    let sum : c.check_word.result ≡ check_word c.args.block.now = c.check_word.ensures ∙ ap check_word c.new-header.ensures in
    sym (not-killed c.args.block.now (inr (λ none. c.if-check_word-ne0.true (sum ∙ none))))

pub returns : goal.returns
returns c =
    let number : c.id.result.number ≡ file_number c.args.block.now =
    (λ k. (c.id.ensures k).number) ∙ ap file_number c.new-header.ensures in
    let sum : c.check_word.result ≡ check_word c.args.block.now = c.check_word.ensures ∙ ap check_word c.new-header.ensures in
    c.would_be_live.ensures
    ∙ sym (killed-test c.args.block.now (sym number ∙ c.if-id-ne0.false) (sym sum ∙ c.if-check_word-ne0.false))
