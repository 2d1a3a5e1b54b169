-- What is read of words, or isn't.
use Rattle.std.proofs.Common.{◌≡◌, ◌∙◌, ◌⊎◌, Bool, true, false, codes, refl, Err, IfSome, IsErrAnd, List, MatchOption, MatchResult, None}
use Rattle.std.proofs.Common.{Ok, Option, Result, Some, ap, inl}
use Rattle.std.proofs.Common.{subst, sym, ℕ}
use Rattle.clap.specs.declared.error.kind.ErrorKind.{ErrorKind}
use Rattle.clap.specs.declared.error.kind.ErrorKind.TheVariants.{OutOfMemory}
use Rattle.f11_words.specs.Failing.{failure_of_kind}
use Rattle.f11_words.specs.Lines.{is_stopping, is_told, manner_from}
use Rattle.f11_words.specs.Reading.{as_found}
use Rattle.f11_words.specs.Usage.{is_there}
use Rattle.f11_words.specs.declared.words.Manner.{Manner}
use Rattle.f11_words.specs.declared.words.Manner.TheVariants.{GoesOn, Stops, Tells}
use Rattle.f11_words.specs.declared.reading.Failure.{Failure}
use Rattle.f11_words.specs.declared.reading.Failure.TheVariants.{NoMemory}

-- what a text spells, if it spells anything
pub spelled-or-none : {T : Type 0} (Spells : List ℕ → T → Type 0) (r : Option T) (now text : List ℕ) → now ≡ text → IfSome r (Spells now)
    → ((x : T) → Spells now x → r ≡ Some x) → MatchOption r ((x : T) → ¬ Spells text x) (Spells text)
spelled-or-none Spells None now text same spelled every =
    λ x spells. let is = every x (subst (λ t. Spells t x) (sym same) spells) in absurd cc
spelled-or-none Spells (Some x) now text same spelled every = subst (λ t. Spells t x) same spelled

pub at-none : {T Q : Type 0} (P : T → Type 0) (r : Option T) → r ≡ None → Q → MatchOption r Q P
at-none P None is holds = holds
at-none P (Some x) is holds = absurd cc

-- a flag is what it is given as
pub flag-is : (b given : Bool) (found : Option (List ℕ)) → (found ≡ Some (codes "true") → b ≡ true)
    → (found ≡ Some (codes "false") → b ≡ false) → found ≡ as_found (is_there given) → b ≡ given
flag-is b true found if_true if_false is = if_true is
flag-is b false found if_true if_false is = if_false is

pub manner-is : (manner : Manner) → manner_from (is_told manner) (is_stopping manner) ≡ manner
manner-is GoesOn = refl
manner-is Stops = refl
manner-is Tells = refl

-- where memory ran out that is the failure
pub out-of-memory : {T : Type 0} (P : T → Type 0) (Q : Failure → Type 0) (r : Result T Failure) (kind : ErrorKind)
    → IsErrAnd r (λ failure. failure ≡ failure_of_kind kind) → kind ≡ OutOfMemory
    → MatchResult r P (λ failure. (failure ≡ NoMemory) ⊎ Q failure)
out-of-memory P Q (Ok x) kind fails out = absurd fails
out-of-memory P Q (Err failure) kind fails out = inl (fails ∙ ap failure_of_kind out)
