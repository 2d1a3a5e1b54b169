use Rattle.std.proofs.Common.{◌≡◌, ◌∙◌, None, Some}
use Rattle.f11_words.proofs.ReadingLemmas.{at-none}
use Rattle.f11_words.proofs.volumes.ls_of.Goals as goal

pub returns-in_err-directory_of-in-Some : goal.returns-in_err-directory_of-in-Some
returns-in_err-directory_of-in-Some c = record {
  all = λ long image has. let none : Some c.in-Some.field-0.now ≡ None = c.in-Some.ensures ∙ has.1.1.0 in absurd cc;
  one = λ long image uic has.
      at-none _ c.from_residual-in_err-directory_of-in-Some.result c.from_residual-in_err-directory_of-in-Some.ensures
      (c.in_err-directory_of-in-Some.ensures uic has.1.1.0);
}
