use Rattle.std.proofs.Common.{◌≡◌, ◌∙◌, Some, inl}
use Rattle.f11_words.proofs.ReadingLemmas.{at-none}
use Rattle.f11_words.proofs.files.ren_of.Goals as goal

pub returns-in_err-directory : goal.returns-in_err-directory
returns-in_err-directory c image dir name new has =
    at-none _ c.from_residual-in_err-directory.result c.from_residual-in_err-directory.ensures
    (inl (c.in_err-directory.ensures dir has.1.0))

pub returns-in-Some : goal.returns-in-Some
returns-in-Some c image dir name new has =
    let from : Some c.in_ok-image.image.now ≡ Some image = c.in_ok-image.ensures ∙ has.0 in
    let file : Some c.in_ok-name.name.now ≡ Some name = c.in_ok-name.ensures ∙ has.1.1.0 in
    (cc, c.in_ok-directory.ensures dir has.1.0, cc, c.in-Some.ensures new has.1.1.1.0)
