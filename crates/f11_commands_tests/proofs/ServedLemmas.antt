-- Requests of a script that was served.
use Rattle.std.proofs.Common.{◌≡◌, ℕ, List, length, Result, Ok, Err, IfOk, Option, Some, None, IfSome, sym, ◌∙◌, ap}
use Rattle.std.specs.Str.Lines.{lines}
use Rattle.f11_script.specs.Asking.{requests_in}
use Rattle.f11_script.specs.declared.errors.ScriptError.{ScriptError}
use Rattle.f11_commands.specs.serving.Served.{Service, zeros}
use Rattle.f11_commands.specs.serving.Serving.{Finishes, Place, ServesScript}
use Rattle.f11_commands.proofs.serving.ServedLemmas.{count-is-of-requests}

finished : {V : Type 0} (S : Service V) (bytes : Option (List ℕ)) (place : Place) (v w : V) (written written' : Option (List ℕ)) (n : ℕ) →
    Finishes S bytes place v w written written' n → IfSome bytes (λ xs. n ≡ length (requests_in (lines xs)))
finished S None place v w written written' n f = tt
finished S (Some xs) place v w written written' n f =
    count-is-of-requests S f.read v w zeros f.answers.block f.answers.text n f.answers.serves
    ∙ ap (λ ls. length (requests_in ls)) (sym f.all.0)

pub requests_counted : {V : Type 0} (S : Service V) (bytes : Option (List ℕ)) (place : Place) (v w : V) (written written' : Option (List ℕ))
    (r : Result ℕ ScriptError) →
    ServesScript S bytes place v w written written' r → IfOk r (λ n. IfSome bytes (λ xs. n ≡ length (requests_in (lines xs))))
requests_counted S bytes place v w written written' (Ok n) h = finished S bytes place v w written written' n h
requests_counted S bytes place v w written written' (Err e) h = tt
