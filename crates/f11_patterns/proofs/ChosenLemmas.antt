-- Names that are chosen, one after another.
use Rattle.std.proofs.Common.{◌≡◌, inl, inr, ℕ, suc, ◌+◌, ◌<◌, arith, List, [], ◌∷◌, ◌++◌, length, take, get_or, refl, sym, ap, subst, ◌∙◌}
use Rattle.std.proofs.Math.Seq.{take-suc}
use Rattle.std.proofs.lemmas.List.{append-nil, append_assoc}
use Rattle.f11_patterns.specs.Chosen.{AreThoseBehind, IsFirst}

module _ (P : List ℕ → Type 0) where
  -- one more name, which is one of those,
  those-with : (before names those : List (List ℕ)) (name : List ℕ) → AreThoseBehind P before names those
      → IsFirst P (before ++ names) name → AreThoseBehind P before (names ++ name ∷ []) (those ++ name ∷ [])
  those-with before [] those name are is =
      inl (
        subst (λ (xs : List (List ℕ)). IsFirst P xs name) (append-nil before) is,
        record { rest = []; first = ap (λ (xs : List (List ℕ)). xs ++ name ∷ []) are; others = refl },
      )
  those-with before (n ∷ names) those name (inl h) is =
      inl (
        h.0,
        record {
          rest = h.1.rest ++ name ∷ [];
          first = ap (λ (xs : List (List ℕ)). xs ++ name ∷ []) h.1.first;
          others =
              those-with (before ++ n ∷ []) names h.1.rest name h.1.others
              (subst (λ (xs : List (List ℕ)). IsFirst P xs name) (sym (append_assoc before (n ∷ []) names)) is);
        },
      )
  those-with before (n ∷ names) those name (inr h) is =
      inr (
        h.0,
        those-with (before ++ n ∷ []) names those name h.1
            (subst (λ (xs : List (List ℕ)). IsFirst P xs name) (sym (append_assoc before (n ∷ []) names)) is),
      )

  -- or isn't
  those-without : (before names those : List (List ℕ)) (name : List ℕ) → AreThoseBehind P before names those
      → ¬ IsFirst P (before ++ names) name → AreThoseBehind P before (names ++ name ∷ []) those
  those-without before [] those name are isnt =
      inr (
        λ is. isnt (subst (λ (xs : List (List ℕ)). IsFirst P xs name) (sym (append-nil before)) is),
        are,
      )
  those-without before (n ∷ names) those name (inl h) isnt =
      inl (
        h.0,
        record {
          rest = h.1.rest;
          first = h.1.first;
          others =
              those-without (before ++ n ∷ []) names h.1.rest name h.1.others
              (λ is. isnt (subst (λ (xs : List (List ℕ)). IsFirst P xs name) (append_assoc before (n ∷ []) names) is));
        },
      )
  those-without before (n ∷ names) those name (inr h) isnt =
      inr (
        h.0,
        those-without (before ++ n ∷ []) names those name h.1
            (λ is. isnt (subst (λ (xs : List (List ℕ)). IsFirst P xs name) (append_assoc before (n ∷ []) names) is)),
      )

module _ (P : List ℕ → Type 0) (names those : List (List ℕ)) (i : ℕ) (d : List ℕ) (some : i < length names)
    (are : AreThoseBehind P [] (take i names) those) where
  more : take (i + 1) names ≡ take i names ++ get_or names i d ∷ []
  more = let next : i + 1 ≡ suc i = omega arith in ap (λ (n : ℕ). take n names) next ∙ take-suc names i d some

  pub chosen-more : IsFirst P (take i names) (get_or names i d)
      → AreThoseBehind P [] (take (i + 1) names) (those ++ get_or names i d ∷ [])
  chosen-more is =
      subst (λ (xs : List (List ℕ)). AreThoseBehind P [] xs (those ++ get_or names i d ∷ [])) (sym more)
      (those-with P [] (take i names) those (get_or names i d) are is)

  pub left-out : ¬ IsFirst P (take i names) (get_or names i d)
      → AreThoseBehind P [] (take (i + 1) names) those
  left-out isnt =
      subst (λ (xs : List (List ℕ)). AreThoseBehind P [] xs those) (sym more)
      (those-without P [] (take i names) those (get_or names i d) are isnt)
