-- A fresh home block is one.
use Rattle.std.proofs.Common.{◌≡◌, ◌<◌, ◌≤◌, ◌+◌, ◌*◌, ◌/◌, ◌%◌, ℕ, List, ◌++◌, refl, ap, sym, ◌∙◌, inl, arith, length}
use Rattle.std.specs.Prelude.{slice_index, slice_range, slice_set, codes, take, drop}
use Rattle.std.proofs.lemmas.List.{length-append, length-take, length-drop, length-set, get_or-set_other}
use Rattle.f11_bytes.specs.Block.{zero_block}
use Rattle.f11_bytes.specs.Part.{with_bytes}
use Rattle.f11_bytes.specs.Words.{with_word, word_sum}
use Rattle.f11_bytes.proofs.PartLemmas.{slice_range-with_bytes, slice_range-same}
use Rattle.f11_bytes.proofs.WordLemmas.{length-with_word}
use Rattle.f11_home.specs.HomeBlock.{index_blocks, index_lbn, max_files, HasHomeFields, IsHomeBlock}
use Rattle.f11_home.proofs.SealLemmas.{IsHomeBlock-with_sums}
use Rattle.f11_layout.specs.FreshHome.{with_texts, with_numbers, fresh_home}
use Rattle.f11_layout.specs.Places.{bit_blocks, AreNumbers}
use Rattle.f11_layout.specs.declared.layout.Layout.{Layout}

pub fresh-index_blocks : (l : Layout) → bit_blocks l.max_files < 65536 → index_blocks (fresh_home l) ≡ bit_blocks l.max_files
unfolding fresh_home with_numbers with_texts zero_block
fresh-index_blocks l few =
    let is : index_blocks (fresh_home l) ≡ bit_blocks l.max_files % 256 + 256 * (bit_blocks l.max_files / 256) = refl in omega (arith, is)

pub fresh-index_lbn : (l : Layout) → index_lbn (fresh_home l) ≡ 2
unfolding fresh_home with_numbers with_texts zero_block
fresh-index_lbn l = refl

pub fresh-max_files : (l : Layout) → l.max_files < 65536 → max_files (fresh_home l) ≡ l.max_files
unfolding fresh_home with_numbers with_texts zero_block
fresh-max_files l few = let is : max_files (fresh_home l) ≡ l.max_files % 256 + 256 * (l.max_files / 256) = refl in omega (arith, is)

-- a block that has bytes in it and is 512 long was 512 long before, where they end four bytes before its end
before-size : (b bytes : List ℕ) → length bytes ≡ 12 → length (with_bytes b 496 bytes) ≡ 512 → 496 ≤ length b
before-size b bytes twelve size =
    let all : length (with_bytes b 496 bytes) ≡ length (take 496 b) + (length bytes + length (drop (496 + length bytes) b)) =
    length-append (take 496 b) (bytes ++ drop (496 + length bytes) b)
    ∙ ap (λ (k : ℕ). length (take 496 b) + k) (length-append bytes (drop (496 + length bytes) b)) in
    omega (arith, all, size, twelve, length-take 496 b, length-drop (496 + length bytes) b)

set-behind : (b : List ℕ) (k v i : ℕ) → k < 46 → 46 ≤ i → slice_index (slice_set b k v) i ≡ slice_index b i
set-behind b k v i low high = get_or-set_other b k i v 0 (λ same. omega (arith, same, low, high))

-- the numbers leave the bytes behind them
numbers-behind : (l : Layout) (b : List ℕ) (i : ℕ) → 46 ≤ i → slice_index (with_numbers l b) i ≡ slice_index b i
unfolding with_numbers
numbers-behind l b i past =
    set-behind _ 45 _ i (omega arith) past
    ∙ set-behind _ 44 _ i (omega arith) past
    ∙ set-behind _ 37 _ i (omega arith) past
    ∙ set-behind _ 36 _ i (omega arith) past
    ∙ set-behind _ 31 _ i (omega arith) past
    ∙ set-behind _ 30 _ i (omega arith) past
    ∙ set-behind _ 13 _ i (omega arith) past
    ∙ set-behind _ 12 _ i (omega arith) past
    ∙ set-behind _ 9 _ i (omega arith) past
    ∙ set-behind _ 8 _ i (omega arith) past
    ∙ set-behind _ 7 _ i (omega arith) past
    ∙ set-behind _ 6 _ i (omega arith) past
    ∙ set-behind _ 5 _ i (omega arith) past
    ∙ set-behind _ 4 _ i (omega arith) past
    ∙ set-behind _ 3 _ i (omega arith) past
    ∙ set-behind _ 2 _ i (omega arith) past
    ∙ set-behind _ 1 _ i (omega arith) past
    ∙ set-behind _ 0 _ i (omega arith) past

numbers-size : (l : Layout) (b : List ℕ) → length (with_numbers l b) ≡ length b
unfolding with_numbers
numbers-size l b =
    length-set _ 45 _
    ∙ length-set _ 44 _
    ∙ length-set _ 37 _
    ∙ length-set _ 36 _
    ∙ length-set _ 31 _
    ∙ length-set _ 30 _
    ∙ length-set _ 13 _
    ∙ length-set _ 12 _
    ∙ length-set _ 9 _
    ∙ length-set _ 8 _
    ∙ length-set _ 7 _
    ∙ length-set _ 6 _
    ∙ length-set _ 5 _
    ∙ length-set _ 4 _
    ∙ length-set _ 3 _
    ∙ length-set _ 2 _
    ∙ length-set _ 1 _
    ∙ length-set _ 0 _

-- the name of the format stands in its place
format : (l : Layout) → length (with_numbers l (with_texts l zero_block)) ≡ 512
    → slice_range (with_numbers l (with_texts l zero_block)) 496 508 ≡ codes "DECFILE11A  "
unfolding with_texts
format l size =
    let texts : List ℕ = with_texts l zero_block in
    let whole : length texts ≡ 512 = sym (numbers-size l texts) ∙ size in
    slice_range-same (with_numbers l texts) texts 496 508 (numbers-size l texts)
    (λ i from to. numbers-behind l texts i (omega (arith, from)))
    ∙ slice_range-with_bytes _ 496 508 (codes "DECFILE11A  ") (before-size _ (codes "DECFILE11A  ") refl whole) refl

fields : (l : Layout) (blocks : ℕ) → l.blocks ≤ blocks → length (with_numbers l (with_texts l zero_block)) ≡ 512
    → HasHomeFields (with_numbers l (with_texts l zero_block)) blocks
unfolding with_numbers with_texts zero_block
fields l blocks room size =
    let numbers : AreNumbers l.slots l.max_files l.blocks = l.valid in
    let b : List ℕ = with_numbers l (with_texts l zero_block) in
    let few : index_blocks b ≡ bit_blocks l.max_files % 256 + 256 * (bit_blocks l.max_files / 256) = refl in
    let at : index_lbn b ≡ 2 = refl in
    record {
      some_bitmap = omega (arith, few, numbers.some_files, numbers.some_slots);
      small_bitmap = omega (arith, few, numbers.few_files);
      index_placed = omega (arith, at);
      index_within = omega (arith, few, at, numbers.room, numbers.some_slots, numbers.few_files, room);
      cluster = refl;
      level = inl refl;
      format = format l size;
    }

-- so a fresh home block is a home block of a device that has room for the volume
pub fresh-home : (l : Layout) (blocks : ℕ) → l.blocks ≤ blocks → length (fresh_home l) ≡ 512 → IsHomeBlock (fresh_home l) blocks
unfolding fresh_home
fresh-home l blocks room size =
    let b : List ℕ = with_numbers l (with_texts l zero_block) in
    let whole : length b ≡ 512 = sym (length-with_word b 58 (word_sum b 29))
    ∙ sym (length-with_word (with_word b 58 (word_sum b 29)) 510 (word_sum (with_word b 58 (word_sum b 29)) 255)) ∙ size in
    IsHomeBlock-with_sums b blocks whole (fields l blocks room whole)
