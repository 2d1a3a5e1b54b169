use Rattle.std.proofs.Common.{Option, Some, None, ok_or}
use Rattle.std.specs.Option.{IsSomeAnd}
use Rattle.std.specs.Result.{IsOkAnd}
use Rattle.f11_patterns.proofs.pattern.Pattern.parse.Goals as goal

-- what holds of an option's value holds of a result's that is made of it
of_option : {T E : Type 0} (r : Option T) (e : E) (P : T → Type 0) → IsSomeAnd r P → IsOkAnd (ok_or r e) P
of_option None e P is = is
of_option (Some x) e P is = is

pub returns-clause-every : goal.returns-clause-every
returns-clause-every c = λ parts is. rw c.ok_or.ensures.value (of_option c.read.result _ _ (c.read.ensures.every parts is))
