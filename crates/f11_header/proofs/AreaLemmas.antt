-- Facts about the bytes of a header: where its areas stand, and what stays of them where bytes change.
use Rattle.std.proofs.Common.{◌≡◌, ◌⊎◌, inl, inr, ⊎_elim, ℕ, ◌+◌, ◌-◌, ◌*◌, ◌<◌, ◌≤◌, List, length, ap, ◌∙◌, arith}
use Rattle.std.specs.Prelude.{slice_index, slice_range}
use Rattle.f11_store.specs.bytes.Part.{with_bytes}
use Rattle.f11_store.specs.bytes.Words.{word, with_word}
use Rattle.f11_store.proofs.bytes.WordLemmas.{length-with_word, slice_index-with_word}
use Rattle.f11_store.proofs.bytes.PartLemmas.{length-with_bytes, slice_index-with_bytes_before, slice_index-with_bytes_behind}
use Rattle.f11_store.proofs.bytes.PartLemmas.{length-slice_range, slice_range-same, with_bytes-slice_range}
use Rattle.f11_header.specs.Fields.{ident_offset, map_offset, ident_area, ident_end, ident_words, map_area}
use Rattle.f11_header.specs.MapFields.{segment}
use Rattle.f11_header.specs.Writing.{with_map}

-- the size of the map area
pub length-map_area : (b : List ℕ) → length b ≡ 512 → length (map_area b) ≡ 510 - 2 * map_offset b
length-map_area b long = length-slice_range b (2 * map_offset b) 510 (omega arith)

-- the block keeps its size with another map area
pub length-with_map : (b map : List ℕ) → length b ≡ 512 → map_offset b ≤ 250 → length map ≡ 510 - 2 * map_offset b
    → length (with_map b map) ≡ 512
length-with_map b map long within size = length-with_bytes b (2 * map_offset b) map (omega arith) ∙ long

-- the map area put where it stood
pub with_map-map_area : (b : List ℕ) → map_offset b ≤ 255 → with_map b (map_area b) ≡ b
with_map-map_area b low = with_bytes-slice_range b (2 * map_offset b) 510

-- bytes change from one place up to another, and no others
pub record ChangesFrom (from to : ℕ) (old new : List ℕ) : Type 0 where
  pub size : length new ≡ length old
  pub others : (i : ℕ) → (i < from) ⊎ (to ≤ i) → slice_index new i ≡ slice_index old i

-- a word is put, and bytes are
pub changes-with_word : (b : List ℕ) (at w : ℕ) → ChangesFrom at (at + 2) b (with_word b at w)
changes-with_word b at w = record {
  size = length-with_word b at w;
  others = λ i apart. slice_index-with_word b at w i (λ is. ⊎_elim (λ before. omega arith) (λ behind. omega arith) apart)
      (λ is. ⊎_elim (λ before. omega arith) (λ behind. omega arith) apart);
}

pub changes-with_bytes : (b : List ℕ) (at to : ℕ) (bytes : List ℕ) → to ≡ at + length bytes → to ≤ length b
    → ChangesFrom at to b (with_bytes b at bytes)
changes-with_bytes b at to bytes end within = record {
  size = length-with_bytes b at bytes (omega arith);
  others = λ i apart. ⊎_elim (λ before. slice_index-with_bytes_before b at bytes i (omega arith) before)
      (λ behind. slice_index-with_bytes_behind b at bytes i (omega arith) (omega arith)) apart;
}

-- two changes, one after the other
pub changes-more : {from to further : ℕ} {a b c : List ℕ} → from ≤ to → to ≤ further → ChangesFrom from to a b → ChangesFrom to further b c
    → ChangesFrom from further a c
changes-more ordered more first then = record {
  size = then.size ∙ first.size;
  others = λ i apart. ⊎_elim (λ before. then.others i (inl (omega arith)) ∙ first.others i (inl before))
      (λ behind. then.others i (inr behind) ∙ first.others i (inr (omega arith))) apart;
}

-- a word outside of them stays
pub word-kept : {from to : ℕ} {old new : List ℕ} → ChangesFrom from to old new → (i : ℕ) → (i + 2 ≤ from) ⊎ (to ≤ i)
    → word new i ≡ word old i
word-kept changes i apart =
    let low = changes.others i (⊎_elim (λ before. inl (omega arith)) inr apart) in
    let high = changes.others (i + 1) (⊎_elim (λ before. inl (omega arith)) (λ behind. inr (omega arith)) apart) in
    λ k. low k + 256 * high k

-- The two areas where a header keeps them: the offsets, and where the ident area ends.
pub record KeepsAreas (old new : List ℕ) : Type 0 where
  pub ident_at : ident_offset new ≡ ident_offset old
  pub map_at : map_offset new ≡ map_offset old
  pub end_at : ident_end new ≡ ident_end old
  pub ident : ident_area new ≡ ident_area old
  pub map : map_area new ≡ map_area old

-- they stay where the offsets and the bytes of the areas stay
pub keeps_areas : (old new : List ℕ) → length new ≡ length old → slice_index new 0 ≡ slice_index old 0
    → slice_index new 1 ≡ slice_index old 1
    → ((i : ℕ) → 2 * ident_offset old ≤ i → i < 2 * ident_end old → slice_index new i ≡ slice_index old i)
    → ((i : ℕ) → 2 * map_offset old ≤ i → i < 510 → slice_index new i ≡ slice_index old i) → KeepsAreas old new
keeps_areas old new size ident_at map_at ident_bytes map_bytes =
    let map : map_area new ≡ map_area old =
    ap (λ (o : ℕ). slice_range new (2 * o) 510) map_at ∙ slice_range-same new old (2 * map_offset old) 510 size map_bytes in
    let end_at : ident_end new ≡ ident_end old = λ k. ident_at k + ident_words (segment (map k)) in
    let moved : ident_area new ≡ slice_range new (2 * ident_offset old) (2 * ident_end old) = λ k.
    slice_range new (2 * ident_at k) (2 * end_at k) in
    record {
      ident_at = ident_at;
      map_at = map_at;
      end_at = end_at;
      ident = moved ∙ slice_range-same new old (2 * ident_offset old) (2 * ident_end old) size ident_bytes;
      map = map;
    }
