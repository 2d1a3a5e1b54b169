-- How many bytes the records of a text's lines take.
use Rattle.std.proofs.Common.{◌≡◌, ◌⊎◌, inl, inr, ℕ, zero, suc, ◌+◌, ◌*◌, ◌≤◌, true, false, eqb, not, List, [], ◌∷◌, length, drop, refl, ap}
use Rattle.std.proofs.Common.{◌∙◌, arith, length-append, length-drop}
use Rattle.std.proofs.lemmas.Bool.{and_parts, cases_Bool, cond-true, cond-false}
use Rattle.std.proofs.lemmas.List.Filters.{length-filter_both}
use Rattle.f11_flx.specs.Lines.{without_zeros, goes_on_with_lf, before_crlf, behind_crlf, lines_of, lines_upto}
use Rattle.f11_flx.specs.Spelled.{variable_record, variable_records}
use Rattle.f11_flx.proofs.Texts.LineLemmas.{is_crlf}
use Rattle.f11_flx.proofs.Texts.RecordLemmas.{length-variable_record}

some-lf : (text : List ℕ) → goes_on_with_lf text ≡ true → 1 ≤ length text
some-lf [] is = absurd (differ is)
  where
    differ : false ≡ true → ⊥
    differ is = cc
some-lf (c ∷ text) is = omega arith

-- a text is its first line, CR LF and what is behind it, or its first line alone
abbrev IsParted : List ℕ → List ℕ → List ℕ → Type 0
IsParted text first rest = (length first + 2 + length rest ≤ length text) ⊎ ((length first ≤ length text) × (rest ≡ []))

parted : (text : List ℕ) → IsParted text (before_crlf text) (behind_crlf text)
unfolding before_crlf behind_crlf
parted [] = inr (omega arith, refl)
parted (c ∷ text) = elim (cases_Bool (is_crlf c text)) [
  | inl ends ↦
      let first = ap length (cond-true (is_crlf c text) [] (c ∷ before_crlf text) ends) in
      let rest = ap length (cond-true (is_crlf c text) (drop 1 text) (behind_crlf text) ends) in
      inl (omega (arith, first, rest, length-drop {A = ℕ} 1 text, some-lf text (and_parts (eqb c 13) (goes_on_with_lf text) ends).1))
  | inr none ↦
      let first = ap length (cond-false (is_crlf c text) [] (c ∷ before_crlf text) none) in
      let rest = cond-false (is_crlf c text) (drop 1 text) (behind_crlf text) none in
      elim (parted text) [
        | inl two ↦ inl (omega (arith, first, ap length rest, two))
        | inr last ↦ inr (omega (arith, first, last.0), rest ∙ last.1)
      ]
]

few_upto : (n : ℕ) (text : List ℕ) → length (variable_records (lines_upto n text)) ≤ 2 * length text + 2
unfolding lines_upto
few_upto n [] = omega arith
few_upto zero (c ∷ text) = omega arith
few_upto (suc n) (c ∷ text) =
    let first = before_crlf (c ∷ text) in
    let rest = behind_crlf (c ∷ text) in
    let both = length-append {A = ℕ} (variable_record first) (variable_records (lines_upto n rest)) in
    elim (parted (c ∷ text)) [
      | inl two ↦ omega (arith, two, both, length-variable_record first, few_upto n rest)
      | inr last ↦ omega (
        arith,
        last.0,
        both,
        length-variable_record first,
        ap (λ (more : List ℕ). length (variable_records (lines_upto n more))) last.1,
      )
    ]

pub records_are_few : (bytes : List ℕ) → length (variable_records (lines_of (without_zeros bytes))) ≤ 2 * length bytes + 2
records_are_few bytes =
    let text = without_zeros bytes in
    omega (arith, few_upto (length text) text, length-filter_both (λ (c : ℕ). not (eqb c 0)) (λ c. not (not (eqb c 0))) (λ c. refl) bytes)
