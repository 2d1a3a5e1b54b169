-- Which blocks are live headers, and which are killed ones.
use Rattle.std.proofs.Common.{◌≡◌, ◌≢◌, ℕ, ◌+◌, ◌*◌, ◌<◌, ◌≤◌, List, length, Bool, true, false, Option, Some, None, IsTrue}
use Rattle.std.proofs.Common.{◌⊎◌, ◌↔◌, inl, inr, refl, ap, sym, subst, ◌∙◌, eqb-true, eq-eqb, arith}
use Rattle.std.specs.Prelude.{slice_index}
use Rattle.std.specs.Cmp.{both_ways as same_Bool}
use Rattle.std.proofs.lemmas.Bool.{cases_Bool, both_ways, and_parts, and_from, cond-true, cond-false, cases_eq, cases_lt}
use Rattle.std.proofs.lemmas.List.{ext_get_or}
use Rattle.f11_bytes.specs.Block.{IsBlock}
use Rattle.f11_bytes.specs.Words.{word, with_word, word_sum}
use Rattle.f11_bytes.proofs.WordLemmas.{word-with_word, word-with_word_apart}
use Rattle.f11_header.specs.Fields.{file_number, file_sequence, check_word, map_offset, map_area, ident_offset}
use Rattle.f11_header.specs.MapFields.{segment}
use Rattle.f11_header.specs.Header.{holds_header, IsHeader}
use Rattle.f11_header.specs.Writing.{dead_header, with_check_word}
use Rattle.f11_header.proofs.FieldLemmas.{valid-with_check_word}
use Rattle.f11_header.proofs.AreaLemmas.{KeepsAreas}
use Rattle.f11_header.proofs.HeaderFacts.{header_facts, map_within, ident_within}
use Rattle.f11_scan.specs.Uses.{IsLive, IsKilled, is_live, is_killed, use_of_block}
use Rattle.f11_scan.specs.declared.header_use.HeaderUse.{HeaderUse}
use Rattle.f11_scan.specs.declared.header_use.HeaderUse.TheVariants.{Live, Killed}
use Rattle.f11_scan.proofs.KeepLemmas.{KeepsRest, rest_holds, rest-number, rest-check_word, rest-more, rest-back}
use Rattle.f11_scan.proofs.KeepLemmas.{rest-dead, rest_areas, dead-number, dead-check_word, block-with_word}

-- the test of a live header
pub live-from : (b : List ℕ) (n : ℕ) → IsHeader b n → IsTrue (is_live b)
unfolding is_live
live-from b n header = and_from _ _ header.holds (eq-eqb _ _ header.sum)

pub live-is : (b : List ℕ) → IsTrue (is_live b) → IsHeader b (file_number b)
unfolding is_live
live-is b live = let parts = and_parts _ _ live in record { number = refl; holds = parts.0; sum = eqb-true _ _ parts.1 }

-- the test of a killed one, part by part
pub killed-parts : (b : List ℕ) → IsTrue (is_killed b)
    → (file_number b ≡ 0) × (check_word b ≡ 0) × IsTrue (holds_header (with_word b 2 1))
unfolding is_killed
killed-parts b killed =
    let parts = and_parts _ _ killed in
    let rest = and_parts _ _ parts.1 in
    (eqb-true _ _ parts.0, eqb-true _ _ rest.0, rest.1)

pub killed-from_parts : (b : List ℕ) → file_number b ≡ 0 → check_word b ≡ 0 → IsTrue (holds_header (with_word b 2 1)) → IsTrue (is_killed b)
unfolding is_killed
killed-from_parts b number sum holds = and_from _ _ (eq-eqb _ _ number) (and_from _ _ (eq-eqb _ _ sum) holds)

-- where the test of a killed one fails, and what is left of it
pub not-killed : (b : List ℕ) → (file_number b ≢ 0) ⊎ (check_word b ≢ 0) → is_killed b ≡ false
not-killed b other = elim (cases_Bool (is_killed b)) [
  | inl killed ↦ absurd (elim other [
    | inl number ↦ number (killed-parts b killed).0
    | inr sum ↦ sum (killed-parts b killed).1
  ])
  | inr gone ↦ gone
]

pub killed-test : (b : List ℕ) → file_number b ≡ 0 → check_word b ≡ 0 → is_killed b ≡ holds_header (with_word b 2 1)
killed-test b number sum = same_Bool (is_killed b) (holds_header (with_word b 2 1)) (λ killed. (killed-parts b killed).2)
    (λ holds. killed-from_parts b number sum holds)

pub no-sequence : (b : List ℕ) → file_sequence b ≡ 0 → holds_header (with_word b 2 1) ≡ false
no-sequence b none = elim (cases_Bool (holds_header (with_word b 2 1))) [
  | inl held ↦
      let some : 0 < file_sequence (with_word b 2 1) = (header_facts (with_word b 2 1) held).some_sequence in
      let same : file_sequence (with_word b 2 1) ≡ file_sequence b = word-with_word_apart b 2 1 4 (inr (omega arith)) in
      absurd (omega (arith, some, same, none))
  | inr not_held ↦ not_held
]

-- what killing a header leaves passes it,
pub killed-dead : (h : List ℕ) → length h ≡ 512 → IsTrue (holds_header h) → IsTrue (is_killed (dead_header h))
killed-dead h long held =
    let dead : List ℕ = dead_header h in
    let keeps : KeepsRest h (with_word dead 2 1) = rest-more (rest-dead h) (rest-number dead 1) in
    let size : length dead ≡ 512 = (rest-dead h).size ∙ long in
    let one : file_number (with_word dead 2 1) ≡ 1 = word-with_word dead 2 1 (omega (arith, size)) in
    killed-from_parts dead (dead-number h long) (dead-check_word h long) (rest_holds h (with_word dead 2 1) keeps (omega (arith, one)) held)

pub killed-from : (b : List ℕ) → IsKilled b → IsTrue (is_killed b)
killed-from b (h, n, block, header, is) = subst (λ (d : List ℕ). IsTrue (is_killed d)) (sym is) (killed-dead h block.size header.holds)

-- and what passes it is what one leaves
word_sum-fits : (b : List ℕ) (n : ℕ) → word_sum b n < 65536
unfolding word_sum
word_sum-fits b n = omega arith

same_byte : (b d : List ℕ) (at i : ℕ) → word b at ≡ 0 → word d at ≡ 0 → (i ≡ at) ⊎ (i ≡ at + 1) → slice_index b i ≡ slice_index d i
same_byte b d at i none_b none_d where_to = elim where_to [
  | inl low ↦
      let byte : slice_index b at ≡ slice_index d at = omega (arith, none_b, none_d) in
      ap (slice_index b) low ∙ byte ∙ sym (ap (slice_index d) low)
  | inr high ↦
      let byte : slice_index b (at + 1) ≡ slice_index d (at + 1) = omega (arith, none_b, none_d) in
      ap (slice_index b) high ∙ byte ∙ sym (ap (slice_index d) high)
]

same-dead : (b h : List ℕ) → length b ≡ 512 → KeepsRest b h → word b 2 ≡ 0 → word b 510 ≡ 0 → b ≡ dead_header h
same-dead b h long keeps number sum =
    let dead : List ℕ = dead_header h in
    let all : KeepsRest b dead = rest-more keeps (rest-dead h) in
    let size : length h ≡ 512 = keeps.size ∙ long in
    let none : word dead 2 ≡ 0 = dead-number h size in
    let none_sum : word dead 510 ≡ 0 = dead-check_word h size in
    ext_get_or 0 b dead (sym all.size) (λ i below. elim (cases_eq i 2) [
      | inl low ↦ same_byte b dead 2 i number none (inl low)
      | inr not_low ↦ elim (cases_eq i 3) [
        | inl high ↦ same_byte b dead 2 i number none (inr high)
        | inr not_high ↦ elim (cases_eq i 510) [
          | inl low ↦ same_byte b dead 510 i sum none_sum (inl low)
          | inr not_low_sum ↦ elim (cases_eq i 511) [
            | inl high ↦ same_byte b dead 510 i sum none_sum (inr high)
            | inr not_high_sum ↦ sym (all.others i (apart i not_low not_high)
                (omega (arith, below, long, not_low_sum, not_high_sum)))
          ]
        ]
      ]
    ])
  where
    apart : (i : ℕ) → i ≢ 2 → i ≢ 3 → (i < 2) ⊎ (4 ≤ i)
    apart i not_low not_high = elim (cases_lt i 2) [ inl before ↦ inl before | inr behind ↦ inr (omega (arith, behind, not_low, not_high)) ]

pub killed-is : (b : List ℕ) → IsBlock b → IsTrue (is_killed b) → IsKilled b
killed-is b block killed =
    let parts = killed-parts b killed in
    let numbered : List ℕ = with_word b 2 1 in
    let h : List ℕ = with_check_word numbered in
    let fits : IsBlock numbered = block-with_word b 2 1 (omega arith) block in
    let keeps : KeepsRest b h = rest-more (rest-number b 1) (rest-check_word numbered (word_sum numbered 255)) in
    let whole : IsBlock h = block-with_word numbered 510 (word_sum numbered 255) (word_sum-fits numbered 255) fits in (
      h,
      file_number numbered,
      whole,
      (valid-with_check_word numbered fits.size parts.2).0,
      same-dead b h block.size keeps parts.0 parts.1,
    )

-- a killed header isn't live
pub live-not-killed : (b : List ℕ) → IsTrue (is_live b) → ¬ IsTrue (is_killed b)
live-not-killed b live killed =
    let some : 0 < file_number b = (header_facts b (live-is b live).holds).some_number in
    omega (arith, some, (killed-parts b killed).0)

-- what is told of a block
pub use-live : (b : List ℕ) → IsTrue (is_live b) → use_of_block b ≡ Some Live
unfolding use_of_block
use-live b live = cond-true (is_live b) _ _ live

pub use-killed : (b : List ℕ) → IsTrue (is_killed b) → use_of_block b ≡ Some Killed
unfolding use_of_block
use-killed b killed = elim (cases_Bool (is_live b)) [
  | inl live ↦ absurd (live-not-killed b live killed)
  | inr dead ↦ cond-false (is_live b) _ _ dead ∙ cond-true (is_killed b) _ _ killed
]

pub use-none : (b : List ℕ) → is_live b ≡ false → is_killed b ≡ false → use_of_block b ≡ None
unfolding use_of_block
use-none b dead gone = cond-false (is_live b) _ _ dead ∙ cond-false (is_killed b) _ _ gone

-- and what it means
abbrev is_live_use : Option HeaderUse → Bool
is_live_use (Some Live) = true
is_live_use (Some Killed) = false
is_live_use None = false

abbrev is_killed_use : Option HeaderUse → Bool
is_killed_use (Some Live) = false
is_killed_use (Some Killed) = true
is_killed_use None = false

pub told-live : (b : List ℕ) → use_of_block b ≡ Some Live → IsTrue (is_live b)
told-live b told = elim (cases_Bool (is_live b)) [
  | inl live ↦ live
  | inr dead ↦ elim (cases_Bool (is_killed b)) [
    | inl killed ↦ absurd (both_ways false refl (ap is_live_use (sym (use-killed b killed) ∙ told)))
    | inr gone ↦ absurd (both_ways false refl (ap is_live_use (sym (use-none b dead gone) ∙ told)))
  ]
]

pub told-killed : (b : List ℕ) → use_of_block b ≡ Some Killed → IsTrue (is_killed b)
told-killed b told = elim (cases_Bool (is_killed b)) [
  | inl killed ↦ killed
  | inr gone ↦ elim (cases_Bool (is_live b)) [
    | inl live ↦ absurd (both_ways false refl (ap is_killed_use (sym (use-live b live) ∙ told)))
    | inr dead ↦ absurd (both_ways false refl (ap is_killed_use (sym (use-none b dead gone) ∙ told)))
  ]
]

pub use-exact : (b : List ℕ) → IsBlock b → ((use_of_block b ≡ Some Live) ↔ IsLive b) × ((use_of_block b ≡ Some Killed) ↔ IsKilled b)
use-exact b block = (
  ((λ told. (file_number b, live-is b (told-live b told))), (λ live. use-live b (live-from b live.0 live.1))),
  ((λ told. killed-is b block (told-killed b told)), (λ killed. use-killed b (killed-from b killed))),
)

-- the areas of either lie in its block, since they are those of a header
held-areas : (b : List ℕ) (u : HeaderUse) → use_of_block b ≡ Some u → (h : List ℕ) × IsTrue (holds_header h) × KeepsAreas h b
held-areas b Live told =
    (b, (live-is b (told-live b told)).holds, record { ident_at = refl; map_at = refl; end_at = refl; ident = refl; map = refl })
held-areas b Killed told =
    let holds = (killed-parts b (told-killed b told)).2 in
    let keeps : KeepsRest b (with_word b 2 1) = rest-number b 1 in
    (with_word b 2 1, holds, rest_areas (with_word b 2 1) b (rest-back keeps) holds)

pub use-map_within : (b : List ℕ) (u : HeaderUse) → use_of_block b ≡ Some u → map_offset b ≤ 250
use-map_within b u told =
    let held = held-areas b u told in
    let at : map_offset b ≡ map_offset held.0 = held.2.map_at in
    omega (arith, at, map_within held.0 held.1)

pub use-ident_within : (b : List ℕ) (u : HeaderUse) → use_of_block b ≡ Some u → segment (map_area b) ≡ 0 → 2 * ident_offset b + 46 ≤ 510
use-ident_within b u told first =
    let held = held-areas b u told in
    let at : ident_offset b ≡ ident_offset held.0 = held.2.ident_at in
    omega (arith, at, ident_within held.0 held.1 (ap segment (sym held.2.map) ∙ first))

-- what a call tells that tells this
pub use-where : (b : List ℕ) (u : Option HeaderUse) → IsBlock b → use_of_block b ≡ u
    → ((u ≡ Some Live) ↔ IsLive b) × ((u ≡ Some Killed) ↔ IsKilled b)
use-where b u block is =
    subst (λ (o : Option HeaderUse). ((o ≡ Some Live) ↔ IsLive b) × ((o ≡ Some Killed) ↔ IsKilled b)) is (use-exact b block)
