-- What a header keeps under another number and with another check word.
use Rattle.std.proofs.Common.{◌≡◌, ◌⊎◌, ℕ, ◌+◌, ◌*◌, ◌/◌, ◌%◌, ◌<◌, ◌≤◌, List, length, IsTrue, inl, inr, ap, sym, subst, ◌∙◌, arith}
use Rattle.std.specs.Prelude.{slice_index}
use Rattle.std.proofs.Math.ListN.{set}
use Rattle.std.proofs.lemmas.Bool.{cases_eq, cases_lt}
use Rattle.std.proofs.lemmas.List.{get_or-set_same, get_or-set_other, get_or_past, length-set}
use Rattle.f11_bytes.specs.Block.{IsBlock}
use Rattle.f11_bytes.specs.Words.{word, with_word}
use Rattle.f11_bytes.proofs.PartLemmas.{slice_range-same}
use Rattle.f11_bytes.proofs.WordLemmas.{slice_index-with_word, length-with_word, word-with_word, word-with_word_apart}
use Rattle.f11_header.specs.Fields.{file_number, header_fields, attributes, owner}
use Rattle.f11_header.specs.Header.{holds_header}
use Rattle.f11_header.specs.MapFields.{holds_pointers}
use Rattle.f11_header.specs.Writing.{dead_header}
use Rattle.f11_header.proofs.AreaLemmas.{KeepsAreas, keeps_areas}
use Rattle.f11_header.proofs.HeaderFacts.{HeaderFacts, header_facts, holds_header-from}

-- two blocks differ in the number and the check word at most
pub record KeepsRest (old new : List ℕ) : Type 0 where
  pub size : length new ≡ length old
  pub others : (i : ℕ) → (i < 2) ⊎ (4 ≤ i) → i < 510 → slice_index new i ≡ slice_index old i

pub rest_areas : (old new : List ℕ) → KeepsRest old new → IsTrue (holds_header old) → KeepsAreas old new
rest_areas old new keeps held =
    let was : HeaderFacts old = header_facts old held in
    keeps_areas old new keeps.size (keeps.others 0 (inl (omega arith)) (omega arith)) (keeps.others 1 (inl (omega arith)) (omega arith))
    (λ i above below. keeps.others i (inr (omega (arith, above, was.ident_placed))) (omega (arith, below, was.map_placed, was.map_within)))
    (λ i above below. keeps.others i (inr (omega (arith, above, was.ident_placed, was.map_placed))) below)

pub rest_word : (old new : List ℕ) → KeepsRest old new → (i : ℕ) → 4 ≤ i → i + 2 ≤ 510 → word new i ≡ word old i
rest_word old new keeps i above below =
    let low : slice_index new i ≡ slice_index old i = keeps.others i (inr above) (omega arith) in
    let high : slice_index new (i + 1) ≡ slice_index old (i + 1) = keeps.others (i + 1) (inr (omega arith)) (omega arith) in
    λ k. low k + 256 * high k

-- it holds a header still, where its number isn't 0
pub rest_holds : (old new : List ℕ) → KeepsRest old new → 0 < file_number new → IsTrue (holds_header old) → IsTrue (holds_header new)
rest_holds old new keeps some held =
    let was : HeaderFacts old = header_facts old held in
    let areas : KeepsAreas old new = rest_areas old new keeps held in
    let sequence : word new 4 ≡ word old 4 = rest_word old new keeps 4 (omega arith) (omega arith) in
    holds_header-from new (record {
      some_number = some;
      some_sequence = omega (arith, sequence, was.some_sequence);
      level_is = rest_word old new keeps 6 (omega arith) (omega arith) ∙ was.level_is;
      ident_placed = omega (arith, areas.ident_at, was.ident_placed);
      map_placed = omega (arith, areas.end_at, areas.map_at, was.map_placed);
      map_within = omega (arith, areas.map_at, was.map_within);
      pointers = subst (λ m. IsTrue (holds_pointers m)) (sym areas.map) was.pointers;
    })

-- another number, and another check word
pub rest-number : (b : List ℕ) (n : ℕ) → KeepsRest b (with_word b 2 n)
rest-number b n = record {
  size = length-with_word b 2 n;
  others = λ i apart below. slice_index-with_word b 2 n i (λ is. elim apart [ inl before ↦ omega arith | inr behind ↦ omega arith ])
      (λ is. elim apart [ inl before ↦ omega arith | inr behind ↦ omega arith ]);
}

pub rest-check_word : (b : List ℕ) (w : ℕ) → KeepsRest b (with_word b 510 w)
rest-check_word b w = record {
  size = length-with_word b 510 w;
  others = λ i apart below. slice_index-with_word b 510 w i (λ is. omega arith) (λ is. omega arith);
}

-- back, and one after the other
pub rest-back : {a b : List ℕ} → KeepsRest a b → KeepsRest b a
rest-back keeps = record { size = sym keeps.size; others = λ i apart below. sym (keeps.others i apart below) }

pub rest-more : {a b c : List ℕ} → KeepsRest a b → KeepsRest b c → KeepsRest a c
rest-more first then = record {
  size = then.size ∙ first.size;
  others = λ i apart below. then.others i apart below ∙ first.others i apart below;
}

pub rest-dead : (h : List ℕ) → KeepsRest h (dead_header h)
rest-dead h = rest-more (rest-number h 0) (rest-check_word (with_word h 2 0) 0)

-- a dead header's number and check word are 0
pub dead-number : (h : List ℕ) → length h ≡ 512 → word (dead_header h) 2 ≡ 0
dead-number h long =
    word-with_word_apart (with_word h 2 0) 510 0 2 (inl (omega arith)) ∙ word-with_word h 2 0 (omega (arith, long))

pub dead-check_word : (h : List ℕ) → length h ≡ 512 → word (dead_header h) 510 ≡ 0
dead-check_word h long = word-with_word (with_word h 2 0) 510 0 (omega (arith, long, length-with_word h 2 0))

-- and what else it says is as it was
pub rest-fields : (h : List ℕ) → length h ≡ 512 → IsTrue (holds_header h)
    → header_fields (dead_header h) ≡ record (header_fields h) { number = 0 }
rest-fields h long held =
    let new : List ℕ = dead_header h in
    let keeps : KeepsRest h new = rest-dead h in
    let areas : KeepsAreas h new = rest_areas h new keeps held in
    let number : file_number new ≡ 0 = dead-number h long in
    let sequence : word new 4 ≡ word h 4 = rest_word h new keeps 4 (omega arith) (omega arith) in
    let member : slice_index new 8 ≡ slice_index h 8 = keeps.others 8 (inr (omega arith)) (omega arith) in
    let group : slice_index new 9 ≡ slice_index h 9 = keeps.others 9 (inr (omega arith)) (omega arith) in
    let owned : owner new ≡ owner h = λ k. record { group = group k; member = member k } in
    let protects : word new 10 ≡ word h 10 = rest_word h new keeps 10 (omega arith) (omega arith) in
    let marks : word new 12 ≡ word h 12 = rest_word h new keeps 12 (omega arith) (omega arith) in
    let user : attributes new ≡ attributes h = slice_range-same new h 14 46 keeps.size
    (λ i above below. keeps.others i (inr (omega (arith, above))) (omega (arith, below))) in
    λ k. record {
      number = number k;
      sequence = sequence k;
      owner = owned k;
      protection = protects k;
      characteristics = marks k;
      attributes = user k;
      ident = areas.ident k;
      map = areas.map k;
    }

-- a block is one with another word
byte-set : (b : List ℕ) (at w i : ℕ) → w < 256 → slice_index b i < 256 → slice_index (set b at w) i < 256
byte-set b at w i small was = elim (cases_eq i at) [
  | inl same ↦ elim (cases_lt at (length b)) [
    | inl within ↦
        let is : slice_index (set b at w) i ≡ w = ap (λ (j : ℕ). slice_index (set b at w) j) same ∙ get_or-set_same b at w 0 within in
        omega (arith, is, small)
    | inr past ↦
        let is : slice_index (set b at w) i ≡ 0 =
        get_or_past (set b at w) i 0 (omega (arith, same, past, length-set b at w)) in
        omega (arith, is)
  ]
  | inr apart ↦
      let is : slice_index (set b at w) i ≡ slice_index b i = get_or-set_other b at i w 0 apart in
      omega (arith, is, was)
]

pub block-with_word : (b : List ℕ) (at w : ℕ) → w < 65536 → IsBlock b → IsBlock (with_word b at w)
block-with_word b at w small block = record {
  size = length-with_word b at w ∙ block.size;
  bytes = λ i. byte-set (set b at (w % 256)) (at + 1) (w / 256) i (omega (arith, small))
      (byte-set b at (w % 256) i (omega arith) (block.bytes i));
}
