use Rattle.std.proofs.Common.{◌≡◌, ◌∙◌, MatchOption, Some, subst}
use Rattle.f11_words.specs.Directory.{IsNoTarget, SpellsTarget}
use Rattle.f11_words.proofs.args.target_of.Goals as goal

pub returns : goal.returns
returns c text has =
    let met : Some c.in_ok-get_str.field-0.now ≡ Some text = c.in_ok-get_str.ensures ∙ has in
    let same : c.in_ok-get_str.field-0.now ≡ text = cc in
    subst (λ t. MatchOption c.read_target.result (IsNoTarget t) (λ p. SpellsTarget t p.0 p.1.now)) same c.read_target.ensures
