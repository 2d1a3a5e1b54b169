-- Which files the records of a directory name, one record after another.
use Rattle.std.proofs.Common.{◌≡◌, ◌↔◌, ◌⊎◌, ◌<◌, ◌≤◌, ◌+◌, inl, inr, ℕ, List, subst, arith}
use Rattle.std.proofs.lemmas.Bool.{cases_lt}
use Rattle.f11_index.specs.Table.{Table}
use Rattle.f11_vfy.specs.Directory.Flaws.{NamesFileAt, EntersIn}

pub enters-more : (t : Table) (blocks : List (List ℕ)) (k n : ℕ) (A B C : Type 0) → B ↔ (A ⊎ EntersIn t blocks k n)
    → C ↔ (B ⊎ NamesFileAt t blocks k n) → C ↔ (A ⊎ EntersIn t blocks (k + 1) n)
enters-more t blocks k n A B C before here = (λ c. first (here.0 c), λ s. here.1 (back s))
  where
    more : A ⊎ EntersIn t blocks k n → A ⊎ EntersIn t blocks (k + 1) n
    more (inl a) = inl a
    more (inr e) = inr (record { place = e.place; below = omega (arith, e.below); enters = e.enters })

    first : B ⊎ NamesFileAt t blocks k n → A ⊎ EntersIn t blocks (k + 1) n
    first (inl b) = more (before.0 b)
    first (inr e) = inr (record { place = k; below = omega arith; enters = e })

    which : (e : EntersIn t blocks (k + 1) n) → (e.place < k) ⊎ (k ≤ e.place) → B ⊎ NamesFileAt t blocks k n
    which e (inl less) = inl (before.1 (inr (record { place = e.place; below = less; enters = e.enters })))
    which e (inr most) =
        let same : e.place ≡ k = omega (arith, e.below, most) in inr (subst (λ (p : ℕ). NamesFileAt t blocks p n) same e.enters)

    back : A ⊎ EntersIn t blocks (k + 1) n → B ⊎ NamesFileAt t blocks k n
    back (inl a) = inl (before.1 (inl a))
    back (inr e) = which e (cases_lt e.place k)
