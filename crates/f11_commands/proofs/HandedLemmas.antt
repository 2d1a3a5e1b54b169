-- What an answer tells that is handed on as it is, or whose error was made another.
use Rattle.std.proofs.Common.{◌≡◌, Result, Ok, Err, IfOk, refl, subst, sym}
use Rattle.std.proofs.lemmas.Result.{IfOk-at_ok}
use Rattle.std.specs.Prelude.{IfErr, IsErrAnd, MatchResult}

-- an error that is this one
pub error-is : {T E : Type 0} (r : Result T E) (e : E) (P : E → Type 0) → IsErrAnd r (λ x. x ≡ e) → P e → IfErr r P
error-is (Ok x) e P is given = tt
error-is (Err x) e P is given = subst P (sym is) given

-- of what was found
pub found-then : {T F E : Type 0} {P Q : T → Type 0} (r : Result (Result T F) E) → ((x : T) → P x → Q x)
    → IfOk r (λ answer. IfOk answer P) → IfOk r (λ answer. IfOk answer Q)
found-then (Ok (Ok x)) more is = more x is
found-then (Ok (Err f)) more is = tt
found-then (Err e) more is = tt

-- or of why nothing was
pub refused-then : {T F E : Type 0} {P Q : F → Type 0} (r : Result (Result T F) E) → ((f : F) → P f → Q f)
    → IfOk r (λ answer. IfErr answer P) → IfOk r (λ answer. IfErr answer Q)
refused-then (Ok (Ok x)) more is = tt
refused-then (Ok (Err f)) more is = more f is
refused-then (Err e) more is = tt

-- where it was none, it is as it was
pub mapped-ok : {T E : Type 0} (F : Type 0) (r : Result T E) (x : T) → MatchResult r (λ y. let m : Result T F = Ok x in m ≡ Ok y) (λ _. ⊥)
    → r ≡ Ok x
mapped-ok {T} {E} F (Ok y) x is = IfOk-at_ok (λ z. let m : Result T E = Ok z in m ≡ Ok x) is refl
mapped-ok F (Err e) x is = absurd is

-- and else it was this one
pub mapped-err : {T E F : Type 0} (f : E → F) (r : Result T E) (d : F)
    → MatchResult r (λ x. let m : Result T F = Err d in m ≡ Ok x) (λ e. d ≡ f e) → (e : E) × (r ≡ Err e) × (d ≡ f e)
mapped-err f (Ok y) d is = let never = is in absurd cc
mapped-err f (Err e) d is = (e, refl, is)
