use Rattle.std.proofs.Common.{◌≡◌, ◌++◌, ◌∷◌, ◌∙◌, ap}
use Rattle.std.specs.Str.Parse.{digits_value}
use Rattle.f11_rad50.specs.Name.{IsVersion}
use Rattle.f11_rad50.proofs.Words.{found_at, without, dot_out, semicolon_out}
use Rattle.f11_rad50.proofs.file_name.Name.read.Goals as goal

pub returns-in_err-name-clause-every : goal.returns-in_err-name-clause-every
returns-in_err-name-clause-every c = λ words s.
    absurd (c.in_err-name.ensures.first s.name (s.type ++ (59 ∷ s.digits)) (without 46 s.name dot_out s.proper.name_characters) s.is_text)

pub returns-in_err-kind-clause-every : goal.returns-in_err-kind-clause-every
returns-in_err-kind-clause-every c = λ words s.
    let dot = c.in_ok-name.ensures.first s.name (s.type ++ (59 ∷ s.digits)) (without 46 s.name dot_out s.proper.name_characters) s.is_text
    in
    absurd (c.in_err-kind.ensures.first s.type s.digits (without 59 s.type semicolon_out s.proper.type_characters) dot.1)

pub returns-in_err-read_version-clause-every : goal.returns-in_err-read_version-clause-every
returns-in_err-read_version-clause-every c = λ words s.
    let dot = c.in_ok-name.ensures.first s.name (s.type ++ (59 ∷ s.digits)) (without 46 s.name dot_out s.proper.name_characters) s.is_text
    in
    let semicolon = c.in_ok-kind.ensures.first s.type s.digits (without 59 s.type semicolon_out s.proper.type_characters) dot.1 in
    let digits : IsVersion c.in_ok-kind.digits.now = rw semicolon.1 s.version in
    absurd (c.in_err-read_version.ensures digits)

pub returns-clause-every : goal.returns-clause-every
returns-clause-every c = λ words s.
    let dot = c.in_ok-name.ensures.first s.name (s.type ++ (59 ∷ s.digits)) (without 46 s.name dot_out s.proper.name_characters) s.is_text
    in
    let semicolon = c.in_ok-kind.ensures.first s.type s.digits (without 59 s.type semicolon_out s.proper.type_characters) dot.1 in
    let name : c.in_ok-name.name.now ≡ s.name = dot.0 in
    let version : c.in_ok-read_version.field-0 ≡ digits_value 8 s.digits =
    c.in_ok-read_version.ensures.1 ∙ ap (digits_value 8) semicolon.1 in
    found_at c.of_parts.result _ _ words c.of_parts.ensures (rw (name, semicolon.0, version) s.proper)
    (rw (name, semicolon.0, version) s.same_words)
