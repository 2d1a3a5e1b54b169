use Rattle.std.proofs.Common.{None, Some, arith, refl, subst, sym}
use Rattle.std.proofs.lemmas.Str.Pattern.{split_once_first}
use Rattle.f11_words.specs.Directory.{SpellsDirectory, elsewhere, within}
use Rattle.f11_words.proofs.directory.read_target.Goals as goal

pub returns-in-Some-read_directory : goal.returns-in-Some-read_directory
returns-in-Some-read_directory c =
    let parts = split_once_first 47 c.args.text.now (Some (c.in-Some.directory, c.in-Some.name)) c.in-Some.ensures.cases (omega arith) in
    elsewhere c.in-Some-read_directory.to parts.0
    (subst (λ t. SpellsDirectory t c.in-Some-read_directory.to) parts.1 c.in-Some-read_directory.ensures.spelled) refl parts.2

pub returns-in-None-read_directory : goal.returns-in-None-read_directory
returns-in-None-read_directory c =
    let parts = split_once_first 47 c.args.text.now (Some (c.in-Some.directory, c.in-Some.name)) c.in-Some.ensures.cases (omega arith) in (
      parts.0,
      λ d s.
          let none = c.in-None-read_directory.ensures.every d (subst (λ t. SpellsDirectory t d) (sym parts.1) s) in absurd cc,
    )

pub returns-in-None : goal.returns-in-None
returns-in-None c = within (split_once_first 47 c.args.text.now None c.in-None.ensures.cases (omega arith)) refl refl
