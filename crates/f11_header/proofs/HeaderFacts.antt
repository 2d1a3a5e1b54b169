-- What the tests of a map area and of a header tell, fact by fact.
use Rattle.std.proofs.Common.{◌≡◌, ◌≢◌, ℕ, ◌+◌, ◌*◌, ◌%◌, ◌<◌, ◌≤◌, List, Some, ◌∙◌, ap, sym, inl, inr, eqb-true, eq-eqb, arith}
use Rattle.std.specs.Prelude.{IsTrue, option_map}
use Rattle.std.proofs.lemmas.Bool.{cases_Bool, and_parts, and_from, leb-true, le-leb, ltb-true, lt-ltb, cond-true, cond-false}
use Rattle.f11_store.specs.bytes.Words.{word_sum}
use Rattle.f11_header.specs.Fields.{ident_offset, map_offset, file_number, file_sequence, level, check_word, map_area, ident_end}
use Rattle.f11_header.specs.Fields.{ident_words, HeaderFields, header_fields}
use Rattle.f11_header.specs.MapFields.{segment, count_size, lbn_size, words_in_use, places, holds_pointers}
use Rattle.f11_header.specs.Header.{holds_header, header_in, header_with, IsHeader, IsDead}

-- whole pointers of format 1, no more than there are places for
pub record PointerFacts (m : List ℕ) : Type 0 where
  pub count_is : count_size m ≡ 1
  pub lbn_is : lbn_size m ≡ 3
  pub even : words_in_use m % 2 ≡ 0
  pub within : words_in_use m ≤ 2 * places m

pub pointer_facts : (m : List ℕ) → IsTrue (holds_pointers m) → PointerFacts m
unfolding holds_pointers
pointer_facts m holds =
    let count = and_parts _ _ holds in
    let lbn = and_parts _ _ count.1 in
    let words = and_parts _ _ lbn.1 in
    record { count_is = eqb-true _ _ count.0; lbn_is = eqb-true _ _ lbn.0; even = eqb-true _ _ words.0; within = leb-true _ _ words.1 }

pub holds_pointers-from : (m : List ℕ) → PointerFacts m → IsTrue (holds_pointers m)
unfolding holds_pointers
holds_pointers-from m facts =
    and_from _ _ (eq-eqb _ _ facts.count_is)
    (and_from _ _ (eq-eqb _ _ facts.lbn_is) (and_from _ _ (eq-eqb _ _ facts.even) (le-leb _ _ facts.within)))

-- a header that is valid but for its check word
pub record HeaderFacts (b : List ℕ) : Type 0 where
  pub some_number : 0 < file_number b
  pub some_sequence : 0 < file_sequence b
  pub level_is : level b ≡ 257
  pub ident_placed : 23 ≤ ident_offset b
  pub map_placed : ident_end b ≤ map_offset b
  pub map_within : map_offset b ≤ 250
  pub pointers : IsTrue (holds_pointers (map_area b))

pub header_facts : (b : List ℕ) → IsTrue (holds_header b) → HeaderFacts b
unfolding holds_header
header_facts b holds =
    let number = and_parts _ _ holds in
    let sequence = and_parts _ _ number.1 in
    let level = and_parts _ _ sequence.1 in
    let ident = and_parts _ _ level.1 in
    let placed = and_parts _ _ ident.1 in
    let within = and_parts _ _ placed.1 in
    record {
      some_number = ltb-true _ _ number.0;
      some_sequence = ltb-true _ _ sequence.0;
      level_is = eqb-true _ _ level.0;
      ident_placed = leb-true _ _ ident.0;
      map_placed = leb-true _ _ placed.0;
      map_within = leb-true _ _ within.0;
      pointers = within.1;
    }

pub holds_header-from : (b : List ℕ) → HeaderFacts b → IsTrue (holds_header b)
unfolding holds_header
holds_header-from b facts =
    and_from _ _ (lt-ltb _ _ facts.some_number) (and_from _ _ (lt-ltb _ _ facts.some_sequence) (and_from _ _ (eq-eqb _ _ facts.level_is)
    (and_from _ _ (le-leb _ _ facts.ident_placed)
    (and_from _ _ (le-leb _ _ facts.map_placed) (and_from _ _ (le-leb _ _ facts.map_within) facts.pointers)))))

-- where its areas may be read
pub map_within : (b : List ℕ) → IsTrue (holds_header b) → map_offset b ≤ 250
map_within b holds = (header_facts b holds).map_within

pub ident_within : (b : List ℕ) → IsTrue (holds_header b) → segment (map_area b) ≡ 0 → 2 * ident_offset b + 46 ≤ 510
ident_within b holds first =
    let facts : HeaderFacts b = header_facts b holds in
    let end : ident_end b ≡ ident_offset b + 23 = ap (λ (s : ℕ). ident_offset b + ident_words s) first in
    omega (arith, end, facts.map_placed, facts.map_within)

-- what a block says where it holds a header
pub header_in-held : (b : List ℕ) → IsTrue (holds_header b) → header_in b ≡ Some (header_fields b)
unfolding header_in
header_in-held b holds = cond-true (holds_header b) _ _ holds

-- a block that holds a header where another does, and says then what f makes of it
pub header_in-written : (old new : List ℕ) (f : HeaderFields → HeaderFields) → holds_header new ≡ holds_header old
    → (IsTrue (holds_header old) → header_fields new ≡ f (header_fields old)) → header_in new ≡ header_with f old
unfolding header_in
header_in-written old new f same says = elim (cases_Bool (holds_header old)) [
  | inl held ↦ cond-true (holds_header new) _ _ (same ∙ held) ∙ ap Some (says held)
      ∙ sym (ap (option_map f) (cond-true (holds_header old) _ _ held))
  | inr none ↦ cond-false (holds_header new) _ _ (same ∙ none) ∙ sym (ap (option_map f) (cond-false (holds_header old) _ _ none))
]

-- what is tested of a header: its numbers and sums, where its areas lie, and its pointers
abbrev pub IsNumbered : List ℕ → ℕ → Type 0
IsNumbered b n = (file_number b ≡ n) × (file_sequence b ≢ 0) × (level b ≡ 257) × (check_word b ≡ word_sum b 255)

abbrev pub IsPlaced : List ℕ → Type 0
IsPlaced b = (23 ≤ ident_offset b) × (ident_end b ≤ map_offset b) × (map_offset b ≤ 250)

abbrev pub HasPointers : List ℕ → Type 0
HasPointers m = (count_size m ≡ 1) × (lbn_size m ≡ 3) × (words_in_use m % 2 ≡ 0) × (words_in_use m ≤ 2 * places m)

pub IsHeader-from : (b : List ℕ) (n : ℕ) → file_number b ≢ 0 → IsNumbered b n → IsPlaced b → HasPointers (map_area b) → IsHeader b n
IsHeader-from b n some numbered placed pointers = record {
  number = numbered.0;
  holds = holds_header-from b (record {
    some_number = omega (arith, some);
    some_sequence = omega (arith, numbered.1);
    level_is = numbered.2;
    ident_placed = placed.0;
    map_placed = placed.1;
    map_within = placed.2;
    pointers = holds_pointers-from (map_area b)
        (record { count_is = pointers.0; lbn_is = pointers.1; even = pointers.2; within = pointers.3 });
  });
  sum = numbered.3;
}

pub IsHeader-parts : (b : List ℕ) (n : ℕ) → IsHeader b n → (file_number b ≢ 0) × IsNumbered b n × IsPlaced b × HasPointers (map_area b)
IsHeader-parts b n header =
    let facts : HeaderFacts b = header_facts b header.holds in
    let pointers : PointerFacts (map_area b) = pointer_facts (map_area b) facts.pointers in
    let number : 0 < file_number b = facts.some_number in
    let sequence : 0 < file_sequence b = facts.some_sequence in (
      λ none. absurd (omega (arith, number, none)),
      (header.number, (λ none. absurd (omega (arith, sequence, none))), facts.level_is, header.sum),
      (facts.ident_placed, facts.map_placed, facts.map_within),
      (pointers.count_is, pointers.lbn_is, pointers.even, pointers.within),
    )

-- a dead header is no valid one
pub dead-not-valid : (b : List ℕ) (n : ℕ) → IsDead b → ¬ IsHeader b n
dead-not-valid b n none valid = let some = (header_facts b valid.holds).some_number in omega (arith, some, none)
