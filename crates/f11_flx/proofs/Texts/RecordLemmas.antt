-- The records of bytes.
use Rattle.std.proofs.Common.{◌≡◌, inl, inr, ℕ, zero, suc, ◌+◌, ◌-◌, ◌%◌, ◌<◌, ◌≤◌, ltb, List, [], ◌∷◌, ◌++◌, length, take, drop, Option}
use Rattle.std.proofs.Common.{Some, None, refl, sym, ap, ◌∙◌, arith, append_assoc, length-append, length-drop, lt-ltb, le-ltb}
use Rattle.std.specs.Prelude.{slice_range, replicate, option_and_then, option_map, unwrap_or}
use Rattle.std.proofs.lemmas.Bool.{cases_lt, cond-true, cond-false}
use Rattle.std.proofs.lemmas.List.{length-replicate}
use Rattle.std.proofs.Math.Seq.{drop-append_seam, take-append_seam}
use Rattle.f11_flx.specs.Records.{some_of, head_of, size_of, pad_of, first_record, records_upto, records_in, good_upto, good_in}
use Rattle.f11_flx.specs.Spelled.{variable_record, variable_records}
use Rattle.f11_flx.specs.declared.layout.Layout.{Layout}
use Rattle.f11_flx.specs.declared.layout.Layout.TheVariants.{Fixed, Variable}

-- where it fits
pub first_record-fits : (layout : Layout) (bytes : List ℕ) → head_of layout + size_of layout bytes ≤ length bytes
    → first_record layout bytes ≡ Some (
      slice_range bytes (head_of layout) (head_of layout + size_of layout bytes),
      drop (head_of layout + size_of layout bytes + pad_of layout (size_of layout bytes)) bytes,
    )
unfolding first_record
first_record-fits layout bytes fits =
    cond-false (ltb (length bytes) (head_of layout + size_of layout bytes)) None _
    (le-ltb (length bytes) (head_of layout + size_of layout bytes) fits)

-- where it doesn't
pub first_record-past : (layout : Layout) (bytes : List ℕ) → length bytes < head_of layout + size_of layout bytes
    → first_record layout bytes ≡ None
unfolding first_record
first_record-past layout bytes past =
    cond-true (ltb (length bytes) (head_of layout + size_of layout bytes)) None _
    (lt-ltb (length bytes) (head_of layout + size_of layout bytes) past)

-- what it takes
some_of-le : (layout : Layout) (bytes : List ℕ) → some_of layout ≤ head_of layout + size_of layout bytes
some_of-le (Fixed size) bytes = omega arith
some_of-le Variable bytes = omega arith

-- the first record, and what makes the others of the bytes behind it
abbrev pub with_first : Option (List ℕ × List ℕ) → (List ℕ → Option (List (List ℕ))) → Option (List (List ℕ))
with_first first others = option_and_then (λ (f : List ℕ × List ℕ). option_map (λ (more : List (List ℕ)). f.0 ∷ more) (others f.1)) first

-- two ways to make them that agree on those bytes
with_first-same : (first : Option (List ℕ × List ℕ)) (f g : List ℕ → Option (List (List ℕ)))
    → ((record_bytes rest : List ℕ) → first ≡ Some (record_bytes, rest) → f rest ≡ g rest) → with_first first f ≡ with_first first g
with_first-same None f g agree = refl
with_first-same (Some first) f g agree = ap (option_map (λ (more : List (List ℕ)). first.0 ∷ more)) (agree first.0 first.1 refl)

-- what is behind a record is shorter
first_record-shorter : (layout : Layout) (bytes record_bytes rest : List ℕ) → 0 < some_of layout → 0 < length bytes
    → first_record layout bytes ≡ Some (record_bytes, rest) → length rest < length bytes
first_record-shorter layout bytes record_bytes rest some long is = elim (cases_lt (length bytes) (head_of layout + size_of layout bytes)) [
  | inl past ↦ absurd (none_is (sym (first_record-past layout bytes past) ∙ is))
  | inr fits ↦
      let both = sym (first_record-fits layout bytes fits) ∙ is in
      let end = head_of layout + size_of layout bytes + pad_of layout (size_of layout bytes) in
      let rest_is : drop end bytes ≡ rest = some_is both in
      omega (arith, ap length rest_is, length-drop {A = ℕ} end bytes, some_of-le layout bytes, long)
]
  where
    none_is : {X : Type 0} {x : X} → None ≡ Some x → ⊥
    none_is is = cc

    some_is : {p q : List ℕ × List ℕ} → Some p ≡ Some q → p.1 ≡ q.1
    some_is {p} {q} is = let same : p ≡ q = cc in ap (λ (first : List ℕ × List ℕ). first.1) same

-- any number that is no less than the bytes does
records_upto-enough : (n m : ℕ) (layout : Layout) (bytes : List ℕ) → 0 < some_of layout → length bytes ≤ n → length bytes ≤ m
    → records_upto n layout bytes ≡ records_upto m layout bytes
unfolding records_upto
records_upto-enough n m layout [] some few enough = refl
records_upto-enough zero m layout (byte ∷ bytes) some few enough = absurd (omega arith)
records_upto-enough (suc n) zero layout (byte ∷ bytes) some few enough = absurd (omega arith)
records_upto-enough (suc n) (suc m) layout (byte ∷ bytes) some few enough =
    with_first-same (first_record layout (byte ∷ bytes)) (records_upto n layout) (records_upto m layout)
    (λ record_bytes rest is.
    let shorter = first_record-shorter layout (byte ∷ bytes) record_bytes rest some (omega arith) is in
    records_upto-enough n m layout rest some (omega arith) (omega arith))

-- the first record and the others
pub records_in-first : (layout : Layout) (bytes : List ℕ) → 0 < some_of layout → 0 < length bytes
    → records_in layout bytes ≡ with_first (first_record layout bytes) (records_in layout)
unfolding records_upto
records_in-first layout [] some long = absurd (omega arith)
records_in-first layout (byte ∷ bytes) some long =
    with_first-same (first_record layout (byte ∷ bytes)) (records_upto (length bytes) layout) (records_in layout)
    (λ record_bytes rest is.
    let shorter = first_record-shorter layout (byte ∷ bytes) record_bytes rest some (omega arith) is in
    records_upto-enough (length bytes) (length rest) layout rest some (omega arith) (omega arith))

-- the first good record, and what makes the others of the bytes behind it
abbrev pub with_good : Option (List ℕ × List ℕ) → (List ℕ → List (List ℕ)) → List (List ℕ)
with_good first others = unwrap_or (option_map (λ (f : List ℕ × List ℕ). f.0 ∷ others f.1) first) []

-- two ways to make them that agree on those bytes
with_good-same : (first : Option (List ℕ × List ℕ)) (f g : List ℕ → List (List ℕ))
    → ((record_bytes rest : List ℕ) → first ≡ Some (record_bytes, rest) → f rest ≡ g rest) → with_good first f ≡ with_good first g
with_good-same None f g agree = refl
with_good-same (Some first) f g agree = ap (λ (more : List (List ℕ)). first.0 ∷ more) (agree first.0 first.1 refl)

-- any number that is no less than the bytes does for them, too
good_upto-enough : (n m : ℕ) (layout : Layout) (bytes : List ℕ) → 0 < some_of layout → length bytes ≤ n → length bytes ≤ m
    → good_upto n layout bytes ≡ good_upto m layout bytes
unfolding good_upto
good_upto-enough n m layout [] some few enough = refl
good_upto-enough zero m layout (byte ∷ bytes) some few enough = absurd (omega arith)
good_upto-enough (suc n) zero layout (byte ∷ bytes) some few enough = absurd (omega arith)
good_upto-enough (suc n) (suc m) layout (byte ∷ bytes) some few enough =
    with_good-same (first_record layout (byte ∷ bytes)) (good_upto n layout) (good_upto m layout)
    (λ record_bytes rest is.
    let shorter = first_record-shorter layout (byte ∷ bytes) record_bytes rest some (omega arith) is in
    good_upto-enough n m layout rest some (omega arith) (omega arith))

-- the first good record and the others
pub good_in-first : (layout : Layout) (bytes : List ℕ) → 0 < some_of layout → 0 < length bytes
    → good_in layout bytes ≡ with_good (first_record layout bytes) (good_in layout)
unfolding good_upto
good_in-first layout [] some long = absurd (omega arith)
good_in-first layout (byte ∷ bytes) some long =
    with_good-same (first_record layout (byte ∷ bytes)) (good_upto (length bytes) layout) (good_in layout)
    (λ record_bytes rest is.
    let shorter = first_record-shorter layout (byte ∷ bytes) record_bytes rest some (omega arith) is in
    good_upto-enough (length bytes) (length rest) layout rest some (omega arith) (omega arith))

-- where there is a first record and others, the good ones are these
with_good-all : (first : Option (List ℕ × List ℕ)) (f : List ℕ → Option (List (List ℕ))) (g : List ℕ → List (List ℕ))
    → ((rest : List ℕ) (others : List (List ℕ)) → f rest ≡ Some others → g rest ≡ others)
    → (records : List (List ℕ)) → with_first first f ≡ Some records → with_good first g ≡ records
with_good-all None f g agree records is = absurd (cc)
with_good-all (Some first) f g agree records is = by (f first.1) refl is
  where
    by : (o : Option (List (List ℕ))) → f first.1 ≡ o → option_map (λ (more : List (List ℕ)). first.0 ∷ more) o ≡ Some records
        → first.0 ∷ g first.1 ≡ records
    by None has same = absurd (cc)
    by (Some others) has same =
        let whole : first.0 ∷ others ≡ records = cc in
        ap (λ (more : List (List ℕ)). first.0 ∷ more) (agree first.1 others has) ∙ whole

good_upto-all : (n : ℕ) (layout : Layout) (bytes : List ℕ) (records : List (List ℕ)) → records_upto n layout bytes ≡ Some records
    → good_upto n layout bytes ≡ records
unfolding records_upto good_upto
good_upto-all n layout [] records is = cc
good_upto-all zero layout (byte ∷ bytes) records is = absurd (cc)
good_upto-all (suc n) layout (byte ∷ bytes) records is =
    with_good-all (first_record layout (byte ∷ bytes)) (records_upto n layout) (good_upto n layout)
    (λ rest others has. good_upto-all n layout rest others has) records is

pub all_are_good : (layout : Layout) (bytes : List ℕ) (records : List (List ℕ)) → records_in layout bytes ≡ Some records
    → good_in layout bytes ≡ records
all_are_good layout bytes records is = good_upto-all (length bytes) layout bytes records is

-- no bytes have no records
pub records_in-none : (layout : Layout) → records_in layout [] ≡ Some []
unfolding records_upto
records_in-none layout = refl

-- how long a record is that is spelled
pub length-variable_record : (line : List ℕ) → length (variable_record line) ≡ 2 + length line + length line % 2
unfolding variable_record
length-variable_record line =
    omega (arith, length-append {A = ℕ} line (replicate (length line % 2) 0), length-replicate {A = ℕ} (length line % 2) 0)

-- its own bytes
slice_range-variable_record : (line rest : List ℕ) → slice_range (variable_record line ++ rest) 2 (2 + length line) ≡ line
unfolding variable_record
slice_range-variable_record line rest =
    let count : 2 + length line - 2 ≡ length line = omega arith in
    let pad = replicate (length line % 2) 0 in
    ap (λ (n : ℕ). take n ((line ++ pad) ++ rest)) count ∙ ap (take (length line)) (append_assoc line pad rest)
    ∙ take-append_seam line (pad ++ rest)

-- its length word
size_of-variable_record : (line rest : List ℕ) → size_of Variable (variable_record line ++ rest) ≡ length line
unfolding variable_record
size_of-variable_record line rest = omega arith

-- the first of the records that are spelled
pub first_record-variable : (line rest : List ℕ) → first_record Variable (variable_record line ++ rest) ≡ Some (line, rest)
first_record-variable line rest =
    let bytes = variable_record line ++ rest in
    let size = size_of-variable_record line rest in
    let long = length-variable_record line in
    let fits : 2 + size_of Variable bytes ≤ length bytes = omega (arith, size, long, length-append {A = ℕ} (variable_record line) rest) in
    let end : 2 + length line + length line % 2 ≡ length (variable_record line) = omega arith in
    first_record-fits Variable bytes fits
    ∙ ap (λ (n : ℕ). Some (slice_range bytes 2 (2 + n), drop (2 + n + n % 2) bytes)) size
    ∙ ap (λ (own : List ℕ). Some (own, drop (2 + length line + length line % 2) bytes)) (slice_range-variable_record line rest)
    ∙ ap (λ (n : ℕ). Some (line, drop n bytes)) end
    ∙ ap (λ (others : List ℕ). Some (line, others)) (drop-append_seam (variable_record line) rest)

-- lines come back from the records that spell them
pub records_come_back : (lines : List (List ℕ)) → records_in Variable (variable_records lines) ≡ Some lines
records_come_back [] = records_in-none Variable
records_come_back (line ∷ lines) =
    let bytes = variable_record line ++ variable_records lines in
    let long : 0 < length bytes =
    omega (arith, length-append {A = ℕ} (variable_record line) (variable_records lines), length-variable_record line) in
    let some : 0 < 2 = omega arith in
    records_in-first Variable bytes some long
    ∙ ap (λ (first : Option (List ℕ × List ℕ)). with_first first (records_in Variable))
    (first_record-variable line (variable_records lines))
    ∙ ap (option_map (λ (more : List (List ℕ)). line ∷ more)) (records_come_back lines)
