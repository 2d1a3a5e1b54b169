use Rattle.std.proofs.Common.{◌≡◌, List, ℕ, Option, length, IfOk, IfSome, subst}
use Rattle.std.specs.Str.Lines.{lines}
use Rattle.f11_script.specs.Asking.{requests_in}
use Rattle.f11_commands_tests.proofs.ServedLemmas.{requests_counted}
use Rattle.f11_commands_tests.proofs.texts.serving.requests_of.Goals as goal

pub returns : goal.returns
returns g c =
    subst (λ (bytes : Option (List ℕ)). IfOk c.serve_lines.result (λ n. IfSome bytes (λ xs. n ≡ length (requests_in (lines xs)))))
    c.new-script.ensures.bytes (requests_counted _ _ _ _ _ _ _ _ c.serve_lines.ensures.serves)
