-- A list as what stands at its places.
use Rattle.std.proofs.Common.{◌≡◌, ℕ, zero, suc, List, [], ◌∷◌, length, get_or, refl, arith, ap, ◌∙◌, sym}

-- what stands at so many places from one on
abbrev pub listed : ℕ → ℕ → List ℕ → List ℕ
listed at zero l = []
listed at (suc n) l = get_or l at 0 ∷ listed (suc at) n l

listed-cons : (at n a : ℕ) (l : List ℕ) → listed (suc at) n (a ∷ l) ≡ listed at n l
listed-cons at zero a l = refl
listed-cons at (suc n) a l = ap (λ r. get_or l at 0 ∷ r) (listed-cons (suc at) n a l)

pub all_listed : (l : List ℕ) (n : ℕ) → length l ≡ n → l ≡ listed 0 n l
all_listed [] zero h = refl
all_listed [] (suc n) h = absurd (omega arith)
all_listed (a ∷ l) zero h = absurd (omega arith)
all_listed (a ∷ l) (suc n) h = ap (λ r. a ∷ r) (all_listed l n (omega arith) ∙ sym (listed-cons 0 n a l))
