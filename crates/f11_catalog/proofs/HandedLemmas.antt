-- What an answer tells that is handed on as it is.
use Rattle.std.proofs.Common.{Option, Some, None, IfSome, IfNone, Result, Ok, Err, IfOk}

-- of what was found
pub found-then : {T E : Type 0} {P Q : T → Type 0} (r : Result (Option T) E) → ((x : T) → P x → Q x)
    → IfOk r (λ answer. IfSome answer P) → IfOk r (λ answer. IfSome answer Q)
found-then (Ok (Some x)) more is = more x is
found-then (Ok None) more is = tt
found-then (Err e) more is = tt

-- or where nothing was
pub none-then : {T E P Q : Type 0} (r : Result (Option T) E) → (P → Q) → IfOk r (λ answer. IfNone answer P)
    → IfOk r (λ answer. IfNone answer Q)
none-then (Ok (Some x)) more is = tt
none-then (Ok None) more is = more is
none-then (Err e) more is = tt
