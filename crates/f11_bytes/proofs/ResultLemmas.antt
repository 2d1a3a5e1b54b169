-- What is said of an error.
use Rattle.std.proofs.Common.{Result, Ok, Err, OnErr}

-- what holds anyhow may be said of an error
pub OnErr-given : {T E P : Type 0} (result : Result T E) → P → OnErr result P
OnErr-given (Ok value) given = tt
OnErr-given (Err error) given = given
