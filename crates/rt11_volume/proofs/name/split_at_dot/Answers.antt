use Rattle.std.proofs.Common.{◌≡◌, length, Some, None, ◌+◌, ◌∙◌, sym, ap, take, ◌++◌, ◌∷◌}
use Rattle.std.proofs.lemmas.List.{take_rest}
use Rattle.f11_rad50.proofs.Places.{position-front, parts_at, split_at_front}
use Rattle.rt11_volume.proofs.name.split_at_dot.Goals as goal

pub returns-in_err-at-clause-first : goal.returns-in_err-at-clause-first
returns-in_err-at-clause-first c = λ front back h e.
    let found : None ≡ Some (length front) = sym c.in_err-at.was ∙ c.position_of.ensures
    ∙ position-front 46 c.args.text.now front back h e in
    cc

pub returns-clause-parts : goal.returns-clause-parts
returns-clause-parts c =
    parts_at 46 c.args.text.now c.in_ok-at.at (sym c.position_of.ensures ∙ c.in_ok-at.was)
    ∙ ap (λ t. take c.in_ok-at.at c.args.text.now ++ (46 ∷ t)) (sym (take_rest c.args.text.now (c.in_ok-at.at + 1)))

pub returns-clause-first : goal.returns-clause-first
returns-clause-first c = λ front back h e.
    let found : Some c.in_ok-at.at ≡ Some (length front) = sym c.in_ok-at.was ∙ c.position_of.ensures
    ∙ position-front 46 c.args.text.now front back h e in
    let same : c.in_ok-at.at ≡ length front = cc in
    let parts = split_at_front 46 front back c.args.text.now c.in_ok-at.at e same in
    (parts.0, take_rest c.args.text.now (c.in_ok-at.at + 1) ∙ parts.1)
