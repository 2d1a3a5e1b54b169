use Rattle.std.proofs.Common.{◌≡◌, ◌∙◌, Option, Some, None, List, ℕ, ok_or, refl, ap}
use Rattle.std.specs.Result.{result_ok}
use Rattle.f11_rad50.proofs.Spelled.{reads_spelled}
use Rattle.f11_rad50.proofs.file_name.Name.parse.Goals as goal

pub returns-clause-every : goal.returns-clause-every
returns-clause-every c = λ words s. c.ok_or.ensures.value ∙ rw (c.read.ensures.every words s) refl

-- a value from an option is that option
ok_of_option : {E : Type 0} (r : Option (List ℕ)) (e : E) → result_ok (ok_or r e) ≡ r
ok_of_option None e = refl
ok_of_option (Some x) e = refl

pub returns-clause-exact : goal.returns-clause-exact
returns-clause-exact c =
    ap result_ok c.ok_or.ensures.value ∙ ok_of_option c.read.result _
    ∙ reads_spelled c.read.result c.args.text.now c.read.ensures.spelled c.read.ensures.every
