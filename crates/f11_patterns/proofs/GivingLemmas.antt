-- Names that are given one behind another, in two turns, and fitted ones.
use Rattle.std.proofs.Common.{◌≡◌, ℕ, zero, suc, ◌+◌, ◌<◌, ◌≤◌, List, [], ◌∷◌, ◌++◌, length, take, drop, get_or, map, min, refl, sym, ap}
use Rattle.std.proofs.Common.{subst, ◌∙◌, arith, Option, Some, None, Bor, Bool, true, false, ◌-◌, find, not, option_map}
use Rattle.std.specs.List.{list_any, range_with_len}
use Rattle.std.specs.Option.{option_or}
use Rattle.std.proofs.Math.Seq.{drop-cons}
use Rattle.std.proofs.lemmas.Grind.{fold-append}
use Rattle.std.proofs.lemmas.List.{append-nil, append_assoc, drop_all, get_or-map, length-map}
use Rattle.f11_patterns.specs.Giving.{GetInTurn, Giving, Naming, first_candidate, first_free, is_free, own_or_fitted, with_name}
use Rattle.f11_patterns.specs.Giving.{with_names}

-- Names that were given go on behind one another: what the others get, they all get.
abbrev pub GoOn : {X : Type 0} → Giving X → List X → List (List ℕ) → ℕ → List X → List (Option X) → Type 0
GoOn {X} Gets there paths i all names =
    (rest : List (Option X)) → GetInTurn Gets all (drop i paths) rest → GetInTurn Gets there paths (names ++ rest)

module _ {X : Type 0} (Gets : Giving X) (there : List X) (paths : List (List ℕ)) (i : ℕ) (all : List X) (names : List (Option X)) where
  go-on : (name : Option X) → i < length paths → Gets all (get_or paths i []) name → GoOn Gets there paths i all names
      → GoOn Gets there paths (i + 1) (with_name all name) (names ++ name ∷ [])
  go-on name some gets old = λ rest is.
      let next : suc i ≡ i + 1 = omega arith in
      let cons : drop i paths ≡ get_or paths i [] ∷ drop (i + 1) paths =
      drop-cons paths i [] some ∙ ap (λ (n : ℕ). get_or paths i [] ∷ drop n paths) next in
      let here : GetInTurn Gets all (get_or paths i [] ∷ drop (i + 1) paths) (name ∷ rest) = (gets, is) in
      subst (GetInTurn Gets there paths) (sym (append_assoc names (name ∷ []) rest))
      (old (name ∷ rest) (subst (λ (xs : List (List ℕ)). GetInTurn Gets all xs (name ∷ rest)) (sym cons) here))

  all-given : length paths ≤ i → GoOn Gets there paths i all names → GetInTurn Gets there paths names
  all-given end old =
      subst (GetInTurn Gets there paths) (append-nil names)
      (old [] (subst (λ (xs : List (List ℕ)). GetInTurn Gets all xs []) (sym (drop_all i paths end)) tt))

-- the same of paths that are lent, with the names that are there then
abbrev pub texts_of : List (Bor (List ℕ)) → List (List ℕ)
texts_of paths = map (λ path. path.now) paths

pub record GivenSoFar {X : Type 0} (Gets : Giving X) (there : List X) (paths : List (List ℕ)) (i : ℕ) (all : List X)
    (names : List (Option X)) : Type 0 where
  pub goes_on : GoOn Gets there paths i all names
  pub all_are : all ≡ with_names there names

module _ {X : Type 0} (Gets : Giving X) (there : List X) (paths : List (Bor (List ℕ))) where
  pub none-given : GivenSoFar Gets there (texts_of paths) 0 there []
  none-given = record { goes_on = λ rest is. is; all_are = refl }

  module _ (i : ℕ) (all : List X) (names : List (Option X)) (so : GivenSoFar Gets there (texts_of paths) i all names) where
    pub one-given : (d : Bor (List ℕ)) (name : Option X) (all' : List X) (names' : List (Option X))
        → i < length paths → Gets all (get_or paths i d).now name → all' ≡ with_name all name → names' ≡ names ++ name ∷ []
        → GivenSoFar Gets there (texts_of paths) (i + 1) all' names'
    one-given d name all' names' some gets more_all more_names =
        let same : get_or (texts_of paths) i [] ≡ (get_or paths i d).now = get_or-map (λ path. path.now) paths i d [] some in
        let within : i < length (texts_of paths) = omega (arith, some, length-map paths (λ path. path.now)) in
        let next = go-on Gets there (texts_of paths) i all names name within
        (subst (λ (text : List ℕ). Gets all text name) (sym same) gets) so.goes_on in
        record {
          goes_on =
              subst (λ (xs : List (Option X)). GoOn Gets there (texts_of paths) (i + 1) all' xs) (sym more_names)
              (subst (λ (xs : List X). GoOn Gets there (texts_of paths) (i + 1) xs (names ++ name ∷ [])) (sym more_all) next);
          all_are =
              more_all ∙ ap (λ (xs : List X). with_name xs name) so.all_are ∙ sym (fold-append with_name there names (name ∷ []))
              ∙ ap (with_names there) (sym more_names);
        }

    pub each-given : length paths ≤ i → GetInTurn Gets there (texts_of paths) names
    each-given end =
        all-given Gets there (texts_of paths) i all names (omega (arith, end, length-map paths (λ path. path.now))) so.goes_on

-- each one's own name, and else the fitted one, so far
module _ {X : Type 0} where
  one-or-other : (owns fits : List (Option X)) (i : ℕ) (own fit : Option X) → i < length owns → i < length fits
      → own ≡ get_or owns i own → fit ≡ get_or fits i fit
      → own_or_fitted (take (suc i) owns) (take (suc i) fits) ≡ own_or_fitted (take i owns) (take i fits) ++ option_or own fit ∷ []
  one-or-other [] fits i own fit low high a b = absurd (omega arith)
  one-or-other (x ∷ owns) [] i own fit low high a b = absurd (omega arith)
  one-or-other (x ∷ owns) (y ∷ fits) zero own fit low high a b = λ k. option_or (sym a k) (sym b k) ∷ []
  one-or-other (x ∷ owns) (y ∷ fits) (suc i) own fit low high a b =
      ap (λ (xs : List (Option X)). option_or x y ∷ xs) (one-or-other owns fits i own fit (omega arith) (omega arith) a b)

  pub more-own-or-fitted : (owns fits : List (Option X)) (i : ℕ) (own fit name : Option X) (names names' : List (Option X))
      → i < min (length owns) (length fits) → own ≡ get_or owns i own → fit ≡ get_or fits i fit → name ≡ option_or own fit
      → names' ≡ names ++ name ∷ [] → names ≡ own_or_fitted (take i owns) (take i fits)
      → names' ≡ own_or_fitted (take (i + 1) owns) (take (i + 1) fits)
  more-own-or-fitted owns fits i own fit name names names' some a b is more so =
      let next : suc i ≡ i + 1 = omega arith in
      more ∙ ap (λ (x : Option X). names ++ x ∷ []) is ∙ ap (λ (xs : List (Option X)). xs ++ option_or own fit ∷ []) so
      ∙ sym (one-or-other owns fits i own fit (omega (arith, some)) (omega (arith, some)) a b)
      ∙ ap (λ (n : ℕ). own_or_fitted (take n owns) (take n fits)) next

  pub all-own-or-fitted : (owns fits : List (Option X)) (i : ℕ) → min (length owns) (length fits) ≤ i
      → own_or_fitted (take i owns) (take i fits) ≡ own_or_fitted owns fits
  all-own-or-fitted [] fits zero past = refl
  all-own-or-fitted [] fits (suc i) past = refl
  all-own-or-fitted (x ∷ owns) [] zero past = refl
  all-own-or-fitted (x ∷ owns) [] (suc i) past = refl
  all-own-or-fitted (x ∷ owns) (y ∷ fits) zero past = absurd (omega (arith, past))
  all-own-or-fitted (x ∷ owns) (y ∷ fits) (suc i) past =
      ap (λ (xs : List (Option X)). option_or x y ∷ xs) (all-own-or-fitted owns fits i (omega (arith, past)))

-- the first number that is free is behind those that were tried
module _ (test : ℕ → Bool) where
  unfoldable pub first_from : ℕ → Option ℕ
  first_from i = find test (range_with_len i (1000000 - i))

  abbrev pub IsBehind : ℕ → Type 0
  IsBehind i = first_free test ≡ first_from i

  pub behind-none : IsBehind 0
  unfolding first_free first_from
  behind-none = refl

  one-more : (end i : ℕ) → i < end → range_with_len i (end - i) ≡ i ∷ range_with_len (i + 1) (end - (i + 1))
  one-more end i some =
      let more : end - i ≡ suc (end - (i + 1)) = omega (arith, some) in
      ap (λ (n : ℕ). range_with_len i n) more

  behind-more : (i : ℕ) → i < 1000000 → test i ≡ false → IsBehind i → IsBehind (i + 1)
  unfolding first_from
  behind-more i some taken so = so ∙ ap (find test) (one-more 1000000 i some) ∙ rw taken refl

  behind-here : (i : ℕ) → i < 1000000 → test i ≡ true → IsBehind i → first_free test ≡ Some i
  unfolding first_from
  behind-here i some free so = so ∙ ap (find test) (one-more 1000000 i some) ∙ rw free refl

  behind-end : (i : ℕ) → 1000000 ≤ i → IsBehind i → first_free test ≡ None
  unfolding first_from
  behind-end i past so =
      let none : 1000000 - i ≡ 0 = omega (arith, past) in
      so ∙ ap (λ (n : ℕ). find test (range_with_len i n)) none

-- and it is the candidate that is given
module _ {X : Type 0} (naming : Naming X) (there : List X) (part : List ℕ) (i : ℕ) where
  module _ (name : X) (taken : Bool) (some : i < 1000000) (is : name ≡ naming.candidate part i)
      (told : taken ≡ list_any (naming.are_alike name) there) where
    tested : is_free naming there part i ≡ not taken
    tested = ap (λ (x : X). not (list_any (naming.are_alike x) there)) (sym is) ∙ ap not (sym told)

    pub candidate-here : taken ≡ false → IsBehind (is_free naming there part) i → Some name ≡ first_candidate naming there part
    candidate-here free so =
        ap (λ (x : X). Some x) is
        ∙ ap (option_map (naming.candidate part)) (sym (behind-here (is_free naming there part) i some (tested ∙ ap not free) so))

    pub candidate-later : taken ≡ true → IsBehind (is_free naming there part) i → IsBehind (is_free naming there part) (i + 1)
    candidate-later there_is so = behind-more (is_free naming there part) i some (tested ∙ ap not there_is) so

  pub candidate-nowhere : 1000000 ≤ i → IsBehind (is_free naming there part) i → None ≡ first_candidate naming there part
  candidate-nowhere past so = ap (option_map (naming.candidate part)) (sym (behind-end (is_free naming there part) i past so))
