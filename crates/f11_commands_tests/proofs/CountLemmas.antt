-- Lines that are counted.
use Rattle.std.proofs.Common.{◌≡◌, ℕ, ◌+◌, List, length, Option, Some, None, IfSome, sym, ap, subst, arith}
use Rattle.std.specs.Bool.{⊤}
use Rattle.std.specs.Str.Lines.{lines}
use Rattle.f11_script.specs.Input.{TakesLine, TakesNone}

-- so many lines were counted
abbrev pub Counted : Option (List ℕ) → Option (List ℕ) → ℕ → Type 0
Counted None left count = ⊤
Counted (Some xs) None count = ⊥
Counted (Some xs) (Some ys) count = length (lines xs) ≡ count + length (lines ys)

counted_self : (a : Option (List ℕ)) → Counted a a 0
counted_self None = tt
counted_self (Some xs) = omega arith

pub counted_none : (a b : Option (List ℕ)) → b ≡ a → Counted a b 0
counted_none a b e = subst (λ (x : Option (List ℕ)). Counted a x 0) (sym e) (counted_self a)

pub counted_more : (a b c : Option (List ℕ)) (n m k : ℕ) (given : List ℕ) → Counted a b n → TakesLine b c m k given → Counted a c (n + 1)
counted_more None b c n m k given h t = tt
counted_more (Some xs) None c n m k given h t = absurd h
counted_more (Some xs) (Some ys) None n m k given h t = absurd t.first
counted_more (Some xs) (Some ys) (Some zs) n m k given h t = omega (arith, h, ap length t.first)

pub counted_all : (a b c : Option (List ℕ)) (n m k : ℕ) (given : List ℕ) → Counted a b n → TakesNone b c m k given
    → IfSome a (λ xs. n ≡ length (lines xs))
counted_all None b c n m k given h t = tt
counted_all (Some xs) None c n m k given h t = absurd h
counted_all (Some xs) (Some ys) c n m k given h t = omega (arith, h, ap (λ ys. length (lines ys)) t.at_end)
