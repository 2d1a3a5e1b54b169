use Rattle.std.proofs.Common.{Some, None, arith, refl, sym, ◌∙◌}
use Rattle.std.proofs.lemmas.Bool.{false≢true}
use Rattle.f11_rad50.proofs.Padded.{is_name-by_words}
use Rattle.f11_rad50.proofs.Words.{IsName-from_parts}
use Rattle.f11_rad50.proofs.Spelled.{name_by_test}
use Rattle.f11_rad50.proofs.file_name.Name.from_words.Goals as goal

pub returns-then-is_name-clause-exact : goal.returns-then-is_name-clause-exact
returns-then-is_name-clause-exact c =
    name_by_test (Some c.args.words) c.args.words
    ((is_name-by_words c.args.words c.is_name.result (omega arith) c.is_name.ensures).0 c.if-is_name.true, refl)

pub returns-else-is_name-clause-every : goal.returns-else-is_name-clause-every
returns-else-is_name-clause-every c = λ name kind version p e.
    absurd (false≢true (sym c.if-is_name.false ∙ (is_name-by_words c.args.words c.is_name.result (omega arith) c.is_name.ensures).1
    (IsName-from_parts c.args.words name kind version p e)))

pub returns-else-is_name-clause-exact : goal.returns-else-is_name-clause-exact
returns-else-is_name-clause-exact c = name_by_test None c.args.words (λ name.
    absurd (false≢true (sym c.if-is_name.false ∙ (is_name-by_words c.args.words c.is_name.result (omega arith) c.is_name.ensures).1 name)))
