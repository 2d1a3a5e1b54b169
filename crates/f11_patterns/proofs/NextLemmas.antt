-- The highest version of a name, and the next one.
use Rattle.std.proofs.Common.{◌≡◌, ◌==◌, ◌&&◌, ◌⊎◌, inl, inr, ℕ, suc, ◌+◌, ◌<◌, ◌≤◌, nat_lt, Bool, true, false, List, [], ◌∷◌, ◌++◌}
use Rattle.std.proofs.Common.{length, take, get_or, refl, sym, ap, subst, ◌∙◌, arith, Contains, Option, Some, None, SomeIff, IfSome, IfNone}
use Rattle.std.proofs.Math.Seq.{take-suc}
use Rattle.std.proofs.lemmas.Bool.{cases_lt, eqb-true}
use Rattle.std.proofs.lemmas.Bool.Decides.{nat_tests}
use Rattle.std.proofs.lemmas.List.Elements.{Contains-append_left, Contains-push, Contains-push_cases}
use Rattle.f11_rad50.specs.Name.{IsName, version_of, words_of}
use Rattle.f11_rad50.proofs.Padded.{IsName-from_named, named-from_IsName}
use Rattle.f11_rad50.proofs.Spelled.{both}
use Rattle.f11_patterns.specs.Meant.{are_alike, word_at}
use Rattle.f11_patterns.specs.Next.{HasVersion, IsNext, IsTop, with_version}

-- a name is five words
pub five : (name : List ℕ) → IsName name → name ≡ with_version name (word_at name 4)
unfolding words_of
five name is = subst (λ (ws : List ℕ). ws ≡ with_version ws (word_at ws 4)) is.same_words refl

-- one with the name and the type of another is that with its version
pub alike-is : (one name : List ℕ) → IsName one → are_alike one name ≡ true → one ≡ with_version name (word_at one 4)
alike-is one name is alike =
    let p = both (word_at one 0 == word_at name 0) _ alike in
    let q = both (word_at one 1 == word_at name 1) _ p.1 in
    let r = both (word_at one 2 == word_at name 2) _ q.1 in
    let a = eqb-true (word_at one 0) (word_at name 0) p.0 in
    let b = eqb-true (word_at one 1) (word_at name 1) q.0 in
    let c = eqb-true (word_at one 2) (word_at name 2) r.0 in
    let d = eqb-true (word_at one 3) (word_at name 3) r.1 in
    five one is
    ∙ (λ i. a i ∷ b i ∷ c i ∷ d i ∷ word_at one 4 ∷ [])

same : (n : ℕ) → (n == n) ≡ true
same n = grind (arith, nat_tests)

pub alike-with : (name : List ℕ) (version : ℕ) → are_alike (with_version name version) name ≡ true
alike-with name version =
    rw (same (word_at name 0)) (rw (same (word_at name 1)) (rw (same (word_at name 2)) (rw (same (word_at name 3)) refl)))

module _ (names : List (List ℕ)) (name one : List ℕ) (top : ℕ) (is : IsTop names name top) (one_is : IsName one) where
  -- one more, which is above,
  above-top : (are_alike one name && nat_lt top (word_at one 4)) ≡ true → word_at one 4 < 32768
      → IsTop (names ++ one ∷ []) name (word_at one 4)
  above-top h few =
      let p = both (are_alike one name) _ h in
      let above : top < word_at one 4 = grind (arith, nat_tests, p.1) in
      record {
        few = few;
        above =
            λ v has.
            elim (Contains-push_cases names one (with_version name v) has) as (λ _. v ≤ word_at one 4) [
              | inl h ↦ let old = is.above v h in omega (arith, old, above)
              | inr e ↦ let w : word_at one 4 ≡ v = ap (λ (ws : List ℕ). word_at ws 4) e in omega (arith, w)
            ];
        there = inr (subst (λ (ws : List ℕ). Contains (names ++ one ∷ []) ws) (alike-is one name one_is p.0) (Contains-push names one));
      }

module _ (names : List (List ℕ)) (name one : List ℕ) (top : ℕ) (is : IsTop names name top) where
  -- or isn't
  not_above : (are_alike one name && nat_lt top (word_at one 4)) ≡ false → IsTop (names ++ one ∷ []) name top
  not_above h = record {
    few = is.few;
    above =
        λ v has.
        elim (Contains-push_cases names one (with_version name v) has) as (λ _. v ≤ top) [
          | inl old ↦ is.above v old
          | inr e ↦
              let alike : are_alike one name ≡ true = subst (λ (ws : List ℕ). are_alike ws name ≡ true) (sym e) (alike-with name v) in
              let w : word_at one 4 ≡ v = ap (λ (ws : List ℕ). word_at ws 4) e in
              let no : nat_lt top (word_at one 4) ≡ false = sym (ap (λ (b : Bool). b && nat_lt top (word_at one 4)) alike) ∙ h in
              grind (arith, nat_tests, no, w)
        ];
    there = there is.there;
  }
    where
      there : (top ≡ 0) ⊎ HasVersion names name top → (top ≡ 0) ⊎ HasVersion (names ++ one ∷ []) name top
      there (inl none) = inl none
      there (inr has) = inr (Contains-append_left names (one ∷ []) (with_version name top) has)

module _ (names : List (List ℕ)) (name one : List ℕ) (top i : ℕ) (some : i < length names) (one_is : one ≡ get_or names i one)
    (is : IsTop (take i names) name top) where
  one-more : take (i + 1) names ≡ take i names ++ one ∷ []
  one-more =
      let next : i + 1 ≡ suc i = omega arith in
      ap (λ (n : ℕ). take n names) next ∙ take-suc names i one some ∙ ap (λ (x : List ℕ). take i names ++ x ∷ []) (sym one_is)

  pub next-above : IsName one → (are_alike one name && nat_lt top (word_at one 4)) ≡ true
      → IsTop (take (i + 1) names) name (word_at one 4)
  next-above named h =
      subst (λ (xs : List (List ℕ)). IsTop xs name (word_at one 4)) (sym one-more)
      (above-top (take i names) name one top is named h named.proper.version_to)

  pub next-other : (are_alike one name && nat_lt top (word_at one 4)) ≡ false → IsTop (take (i + 1) names) name top
  next-other h = subst (λ (xs : List (List ℕ)). IsTop xs name top) (sym one-more) (not_above (take i names) name one top is h)

module _ (names : List (List ℕ)) (name : List ℕ) (top : ℕ) (is : IsTop names name top) where
  -- the next version is one above the highest,
  pub next-is : (next : List ℕ) → next ≡ with_version name (top + 1) → IsNext names name next
  next-is next same =
      let version : version_of next ≡ top + 1 = ap (λ (ws : List ℕ). version_of ws) same in
      record {
        alike = same ∙ ap (with_version name) (sym version);
        above = λ v has. let few = is.above v has in omega (arith, few, version);
        least =
            λ below one.
            let b : below ≡ top = omega (arith, one, version) in
            subst (λ (n : ℕ). (n ≡ 0) ⊎ HasVersion names name n) (sym b) is.there;
      }

  -- which is a name, unless the highest is the last
  pub next-none : IsName name → (IsName (with_version name (top + 1)) → ⊥) → HasVersion names name 32767
  next-none named none =
      let codes = (named-from_IsName (word_at name 0) (word_at name 1) (word_at name 2) (word_at name 3) (word_at name 4)
      (subst IsName (five name named) named)).0 in
      elim (cases_lt (top + 1) 32768) as (λ _. HasVersion names name 32767) [
        | inl lt ↦ absurd (none (IsName-from_named (word_at name 0) (word_at name 1) (word_at name 2) (word_at name 3) (top + 1) codes
            (omega arith) lt))
        | inr ge ↦
            let few = is.few in
            let last : top ≡ 32767 = omega (arith, ge, few) in
            elim is.there as (λ _. HasVersion names name 32767) [
              | inl none_there ↦ absurd (omega (arith, none_there, last))
              | inr has ↦ subst (λ (n : ℕ). HasVersion names name n) last has
            ]
      ]

  -- as it is made of its words
  pub next-made : (words : List ℕ) (made : Option (List ℕ)) → words ≡ name
      → SomeIff made (IsName (with_version words (top + 1))) (with_version words (top + 1)) → IfSome made (IsNext names name)
  next-made words None same h = tt
  next-made words (Some next) same h = next-is next (h.1 ∙ ap (λ (ws : List ℕ). with_version ws (top + 1)) same)

  pub none-made : (words : List ℕ) (made : Option (List ℕ)) → words ≡ name → IsName name
      → SomeIff made (IsName (with_version words (top + 1))) (with_version words (top + 1)) → IfNone made (HasVersion names name 32767)
  none-made words None same named h =
      next-none named (subst (λ (ws : List ℕ). IsName (with_version ws (top + 1)) → ⊥) same h)
  none-made words (Some next) same named h = tt
