use Rattle.std.proofs.Common.{◌≡◌, ◌∙◌, List, ℕ, Result, Ok, Err, refl, subst, sym}
use Rattle.f11_rad50.specs.Name.{Spells}
use Rattle.f11_rad50.specs.declared.errors.BadName.{BadName}
use Rattle.f11_commands.specs.Name.{words_line}
use Rattle.f11_commands.specs.Output.{WriterTakes}
use Rattle.f11_commands.proofs.name.print_name.Goals as goal

-- a text that isn't read as a name spells none
spells_none : (r : Result (List ℕ) BadName) (text words : List ℕ) (bad : BadName) → r ≡ Err bad
    → ((ws : List ℕ) → Spells text ws → r ≡ Ok ws)
    → Spells text words → ⊥
spells_none r text words bad is every spells = let same = every words spells in cc

-- the words that were read are the ones that the text spells
same_words : (r : Result (List ℕ) BadName) (text words name : List ℕ) → r ≡ Ok name → ((ws : List ℕ) → Spells text ws → r ≡ Ok ws)
    → Spells text words → name ≡ words
same_words r text words name is every spells = let same = every words spells in cc

pub returns-in_ok-write_words-in-Ok-clause-every : goal.returns-in_ok-write_words-in-Ok-clause-every
returns-in_ok-write_words-in-Ok-clause-every g c words spells =
    let here = subst (λ text. Spells text words) (sym c.as_bytes.ensures.value) spells in
    let same = c.words.ensures.value
    ∙ same_words c.parse.result c.as_bytes.result.now words c.in-Ok.name c.in-Ok.is c.parse.ensures.every here in
    record {
      done = refl;
      takes = subst (λ ws. WriterTakes g.W.Write.contents c.args.writer.now c.write_words.new.writer (words_line ws)) same
          c.in_ok-write_words-in-Ok.ensures;
    }

pub returns-in_ok-writeln-in-Err-clause-fault : goal.returns-in_ok-writeln-in-Err-clause-fault
returns-in_ok-writeln-in-Err-clause-fault g c answer = record {
  no_name = λ words spells. spells_none c.parse.result c.as_bytes.result.now words c.in-Err.field-0 c.in-Err.is c.parse.ensures.every
      (subst (λ text. Spells text words) (sym c.as_bytes.ensures.value) spells);
  takes = c.in_ok-writeln-in-Err.ensures.bytes;
}

pub returns-in_ok-writeln-in-Err-clause-every : goal.returns-in_ok-writeln-in-Err-clause-every
returns-in_ok-writeln-in-Err-clause-every g c words spells =
    absurd (spells_none c.parse.result c.as_bytes.result.now words c.in-Err.field-0 c.in-Err.is c.parse.ensures.every
    (subst (λ text. Spells text words) (sym c.as_bytes.ensures.value) spells))
