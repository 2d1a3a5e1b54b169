-- What a header says once a field of it or an area is written.
use Rattle.std.proofs.Common.{◌≡◌, ◌≢◌, ◌⊎◌, inl, inr, ⊎_elim, ℕ, ◌+◌, ◌-◌, ◌*◌, ◌/◌, ◌%◌, ◌<◌, ◌≤◌, List, Option, Some, None, length, refl}
use Rattle.std.proofs.Common.{sym, ap, ◌∙◌, subst, arith}
use Rattle.std.specs.Prelude.{slice_index, slice_range, IsTrue, option_map}
use Rattle.std.specs.Cmp.{both_ways}
use Rattle.std.proofs.Math.ListN.{set}
use Rattle.std.proofs.lemmas.List.{length-set, get_or-set_same, get_or-set_other}
use Rattle.f11_store.specs.bytes.Words.{word, with_word, word_sum}
use Rattle.f11_store.proofs.bytes.WordLemmas.{length-with_word, word-with_word, word-with_word_apart, word_sum-with_word}
use Rattle.f11_store.proofs.bytes.PartLemmas.{slice_range-same, slice_range-with_bytes}
use Rattle.f11_header.specs.Fields.{ident_offset, map_offset, file_number, file_sequence, level, owner, protection, characteristics}
use Rattle.f11_header.specs.Fields.{attributes, ident_area, ident_end, ident_room, ident_words, map_area, HeaderFields, header_fields}
use Rattle.f11_header.specs.MapFields.{segment, holds_pointers, IsMapArea}
use Rattle.f11_header.specs.Header.{holds_header, header_in, header_with, IsHeader}
use Rattle.f11_header.specs.Writing.{ChangesFields, KeepsHeader, owner_word, with_id, with_owner, with_protection, with_characteristics}
use Rattle.f11_header.specs.Writing.{with_attributes, with_ident, with_map, with_check_word, dead_header}
use Rattle.f11_header.proofs.AreaLemmas.{ChangesFrom, KeepsAreas, keeps_areas, changes-with_word, changes-with_bytes, changes-more}
use Rattle.f11_header.proofs.AreaLemmas.{word-kept, length-map_area}
use Rattle.f11_header.proofs.HeaderFacts.{HeaderFacts, header_facts, holds_header-from, header_in-held, header_in-written}
use Rattle.f11_store.specs.declared.callers.Uic.{Uic}
use Rattle.f11_store.specs.declared.files.FileId.{FileId}

-- The bytes before the owner stay, and those behind the user attributes up to the check word.
record Stays (old new : List ℕ) : Type 0 where
  pub size : length new ≡ length old
  pub others : (i : ℕ) → (i < 8) ⊎ (46 ≤ i) → i < 510 → slice_index new i ≡ slice_index old i

stays-back : {old new : List ℕ} → Stays old new → Stays new old
stays-back stays = record { size = sym stays.size; others = λ i apart before. sym (stays.others i apart before) }

stays-changes : {from to : ℕ} {old new : List ℕ} → ChangesFrom from to old new → ((8 ≤ from) × (to ≤ 46)) ⊎ (510 ≤ from) → Stays old new
stays-changes changes where_to = record {
  size = changes.size;
  others = λ i apart before.
      changes.others i (⊎_elim (λ fields. ⊎_elim (λ front. inl (omega (arith, fields.0))) (λ behind. inr (omega (arith, fields.1))) apart)
      (λ past. inl (omega arith)) where_to);
}

-- A header keeps its areas where they stay, and the facts that make it one.
stays_areas : (old new : List ℕ) → Stays old new → HeaderFacts old → KeepsAreas old new
stays_areas old new stays was =
    keeps_areas old new stays.size (stays.others 0 (inl (omega arith)) (omega arith)) (stays.others 1 (inl (omega arith)) (omega arith))
    (λ i above below. stays.others i (inr (omega (arith, was.ident_placed))) (omega (arith, was.map_placed, was.map_within)))
    (λ i above below. stays.others i (inr (omega (arith, was.ident_placed, was.map_placed))) below)

facts-kept : (old new : List ℕ) → KeepsAreas old new → 0 < file_number new → 0 < file_sequence new → level new ≡ level old → HeaderFacts old
    → HeaderFacts new
facts-kept old new areas some_number some_sequence level_is was = record {
  some_number = some_number;
  some_sequence = some_sequence;
  level_is = level_is ∙ was.level_is;
  ident_placed = omega (arith, areas.ident_at, was.ident_placed);
  map_placed = omega (arith, areas.end_at, areas.map_at, was.map_placed);
  map_within = omega (arith, areas.map_at, was.map_within);
  pointers = subst (λ m. IsTrue (holds_pointers m)) (sym areas.map) was.pointers;
}

word-stays : {old new : List ℕ} → Stays old new → (i : ℕ) → i + 2 ≤ 8 → word new i ≡ word old i
word-stays stays i front =
    let low = stays.others i (inl (omega arith)) (omega arith) in
    let high = stays.others (i + 1) (inl (omega arith)) (omega arith) in
    λ k. low k + 256 * high k

stays_facts : (old new : List ℕ) → Stays old new → IsTrue (holds_header old) → IsTrue (holds_header new)
stays_facts old new stays holds =
    let was : HeaderFacts old = header_facts old holds in
    let number : file_number new ≡ file_number old = word-stays stays 2 (omega arith) in
    let sequence : file_sequence new ≡ file_sequence old = word-stays stays 4 (omega arith) in
    holds_header-from new (facts-kept old new (stays_areas old new stays was) (omega (arith, number, was.some_number))
    (omega (arith, sequence, was.some_sequence))
    (word-stays stays 6 (omega arith)) was)

stays_keep : (old new : List ℕ) → Stays old new → KeepsHeader old new
stays_keep old new stays = record {
  holds = both_ways (holds_header new) (holds_header old) (stays_facts new old (stays-back stays)) (stays_facts old new stays);
  number = word-stays stays 2 (omega arith);
}

-- the owner, and the user attributes, where their bytes stay
owner-kept : {from to : ℕ} {old new : List ℕ} → ChangesFrom from to old new → (10 ≤ from) ⊎ (to ≤ 8) → owner new ≡ owner old
owner-kept changes apart =
    let member = changes.others 8 (⊎_elim (λ behind. inl (omega arith)) inr apart) in
    let group = changes.others 9 (⊎_elim (λ behind. inl (omega arith)) (λ before. inr (omega arith)) apart) in
    λ k. record { group = group k; member = member k }

attributes-kept : {from to : ℕ} {old new : List ℕ} → ChangesFrom from to old new → (46 ≤ from) ⊎ (to ≤ 14) → attributes new ≡ attributes old
attributes-kept {old = old} {new = new} changes apart =
    slice_range-same new old 14 46 changes.size
    (λ i above below. changes.others i (⊎_elim (λ behind. inl (omega arith)) (λ before. inr (omega arith)) apart))

-- What a header says whose number and areas stay, where its other fields are these.
says : (old new : List ℕ) → Stays old new → IsTrue (holds_header old) → (owned : Uic) (protects marks : ℕ) (put : List ℕ)
    → owner new ≡ owned → protection new ≡ protects
    → characteristics new ≡ marks → attributes new ≡ put
    → header_fields new ≡ record (header_fields old) { owner = owned; protection = protects; characteristics = marks; attributes = put }
says old new stays holds owned protects marks put owner_is protection_is characteristics_is attributes_is =
    let areas : KeepsAreas old new = stays_areas old new stays (header_facts old holds) in
    let number : file_number new ≡ file_number old = word-stays stays 2 (omega arith) in
    let sequence : file_sequence new ≡ file_sequence old = word-stays stays 4 (omega arith) in
    λ k. record {
      number = number k;
      sequence = sequence k;
      owner = owner_is k;
      protection = protection_is k;
      characteristics = characteristics_is k;
      attributes = attributes_is k;
      ident = areas.ident k;
      map = areas.map k;
    }

-- the two bytes of an owner that is put
owner_is-with_owner : (b : List ℕ) (owned : Uic) → length b ≡ 512 → owned.member < 256 → owner (with_owner b owned) ≡ owned
owner_is-with_owner b owned long small =
    let w : ℕ = owner_word owned in
    let low : slice_index (with_owner b owned) 8 ≡ w % 256 = get_or-set_other (set b 8 (w % 256)) 9 8 (w / 256) 0 (omega arith)
    ∙ get_or-set_same b 8 (w % 256) 0 (omega arith) in
    let high : slice_index (with_owner b owned) 9 ≡ w / 256 = get_or-set_same (set b 8 (w % 256)) 9 (w / 256) 0
    (omega (arith, length-set b 8 (w % 256))) in
    let member : slice_index (with_owner b owned) 8 ≡ owned.member = omega (arith, low) in
    let group : slice_index (with_owner b owned) 9 ≡ owned.group = omega (arith, high) in
    λ k. record { group = group k; member = member k }

-- with another owner, protection word, characteristics or user attributes
pub keeps-with_owner : (b : List ℕ) (owned : Uic) → KeepsHeader b (with_owner b owned)
keeps-with_owner b owned = stays_keep b _ (stays-changes (changes-with_word b 8 (owner_word owned)) (inl (omega arith, omega arith)))

pub header_in-with_owner : (b : List ℕ) (owned : Uic) → length b ≡ 512 → owned.member < 256
    → header_in (with_owner b owned) ≡ header_with (λ h. record h { owner = owned }) b
header_in-with_owner b owned long small =
    let new : List ℕ = with_owner b owned in
    let changes : ChangesFrom 8 10 b new = changes-with_word b 8 (owner_word owned) in
    let stays : Stays b new = stays-changes changes (inl (omega arith, omega arith)) in
    header_in-written b new (λ h. record h { owner = owned }) (stays_keep b new stays).holds
    (λ holds. says b new stays holds owned _ _ _ (owner_is-with_owner b owned long small) (word-kept changes 10 (inr (omega arith)))
    (word-kept changes 12 (inr (omega arith))) (attributes-kept changes (inr (omega arith))))

pub keeps-with_protection : (b : List ℕ) (protects : ℕ) → KeepsHeader b (with_protection b protects)
keeps-with_protection b protects = stays_keep b _ (stays-changes (changes-with_word b 10 protects) (inl (omega arith, omega arith)))

pub header_in-with_protection : (b : List ℕ) (protects : ℕ) → length b ≡ 512
    → header_in (with_protection b protects) ≡ header_with (λ h. record h { protection = protects }) b
header_in-with_protection b protects long =
    let new : List ℕ = with_protection b protects in
    let changes : ChangesFrom 10 12 b new = changes-with_word b 10 protects in
    let stays : Stays b new = stays-changes changes (inl (omega arith, omega arith)) in
    header_in-written b new (λ h. record h { protection = protects }) (stays_keep b new stays).holds
    (λ holds. says b new stays holds _ protects _ _ (owner-kept changes (inl (omega arith)))
    (word-with_word b 10 protects (omega (arith, long))) (word-kept changes 12 (inr (omega arith)))
    (attributes-kept changes (inr (omega arith))))

pub keeps-with_characteristics : (b : List ℕ) (marks : ℕ) → KeepsHeader b (with_characteristics b marks)
keeps-with_characteristics b marks = stays_keep b _ (stays-changes (changes-with_word b 12 marks) (inl (omega arith, omega arith)))

pub header_in-with_characteristics : (b : List ℕ) (marks : ℕ) → length b ≡ 512
    → header_in (with_characteristics b marks) ≡ header_with (λ h. record h { characteristics = marks }) b
header_in-with_characteristics b marks long =
    let new : List ℕ = with_characteristics b marks in
    let changes : ChangesFrom 12 14 b new = changes-with_word b 12 marks in
    let stays : Stays b new = stays-changes changes (inl (omega arith, omega arith)) in
    header_in-written b new (λ h. record h { characteristics = marks }) (stays_keep b new stays).holds
    (λ holds. says b new stays holds _ _ marks _ (owner-kept changes (inl (omega arith))) (word-kept changes 10 (inl (omega arith)))
    (word-with_word b 12 marks (omega (arith, long))) (attributes-kept changes (inr (omega arith))))

pub keeps-with_attributes : (b put : List ℕ) → length b ≡ 512 → length put ≡ 32 → KeepsHeader b (with_attributes b put)
keeps-with_attributes b put long size =
    stays_keep b _ (stays-changes (changes-with_bytes b 14 46 put (omega arith) (omega arith)) (inl (omega arith, omega arith)))

pub header_in-with_attributes : (b put : List ℕ) → length b ≡ 512 → length put ≡ 32
    → header_in (with_attributes b put) ≡ header_with (λ h. record h { attributes = put }) b
header_in-with_attributes b put long size =
    let new : List ℕ = with_attributes b put in
    let changes : ChangesFrom 14 46 b new = changes-with_bytes b 14 46 put (omega arith) (omega arith) in
    let stays : Stays b new = stays-changes changes (inl (omega arith, omega arith)) in
    header_in-written b new (λ h. record h { attributes = put }) (stays_keep b new stays).holds
    (λ holds. says b new stays holds _ _ _ put (owner-kept changes (inl (omega arith))) (word-kept changes 10 (inl (omega arith)))
    (word-kept changes 12 (inl (omega arith)))
    (slice_range-with_bytes b 14 46 put (omega (arith, long)) (omega (arith, size))))

-- with the check word right
option_map-id : (held : Option HeaderFields) → option_map (λ h. h) held ≡ held
option_map-id None = refl
option_map-id (Some h) = refl

pub keeps-with_check_word : (b : List ℕ) → KeepsHeader b (with_check_word b)
keeps-with_check_word b = stays_keep b _ (stays-changes (changes-with_word b 510 (word_sum b 255)) (inr (omega arith)))

pub header_in-with_check_word : (b : List ℕ) → header_in (with_check_word b) ≡ header_in b
header_in-with_check_word b =
    let new : List ℕ = with_check_word b in
    let changes : ChangesFrom 510 512 b new = changes-with_word b 510 (word_sum b 255) in
    let stays : Stays b new = stays-changes changes (inr (omega arith)) in
    header_in-written b new (λ h. h) (stays_keep b new stays).holds
    (λ holds. says b new stays holds _ _ _ _ (owner-kept changes (inl (omega arith))) (word-kept changes 10 (inl (omega arith)))
    (word-kept changes 12 (inl (omega arith))) (attributes-kept changes (inl (omega arith))))
    ∙ option_map-id (header_in b)

-- the check word is what it says
pub sum-with_check_word : (b : List ℕ) → length b ≡ 512 → word (with_check_word b) 510 ≡ word_sum (with_check_word b) 255
sum-with_check_word b long =
    word-with_word b 510 (word_sum b 255) (omega (arith, long)) ∙ sym (word_sum-with_word b 510 (word_sum b 255) 255 (omega arith))

-- the law of the check word
pub valid-with_check_word : (b : List ℕ) → length b ≡ 512 → IsTrue (holds_header b)
    → IsHeader (with_check_word b) (file_number b) × (header_in (with_check_word b) ≡ header_in b)
valid-with_check_word b long holds =
    let keeps : KeepsHeader b (with_check_word b) = keeps-with_check_word b in
    (record { number = keeps.number; holds = keeps.holds ∙ holds; sum = sum-with_check_word b long }, header_in-with_check_word b)

-- the law of the fields from the owner on and of the ident area
pub holds-changed : (old new : List ℕ) → ChangesFields old new → IsTrue (holds_header old)
    → IsTrue (holds_header new) × (file_number new ≡ file_number old) × (file_sequence new ≡ file_sequence old)
    × (map_area new ≡ map_area old)
holds-changed old new changes held =
    let was : HeaderFacts old = header_facts old held in
    let byte : (i : ℕ) → i < 8
    → slice_index new i ≡ slice_index old i = λ i few. changes.others i (inl few) (inl (omega (arith, was.ident_placed))) in
    let area : (i : ℕ) → 2 * map_offset old ≤ i → i < 510 → slice_index new i ≡ slice_index old i =
    λ i from to. changes.others i (inr (omega (arith, was.ident_placed, was.map_placed))) (inr (omega (arith, was.map_placed))) in
    let map_at : map_offset new ≡ map_offset old = byte 1 (omega arith) in
    let map : map_area new ≡ map_area old = ap (λ (o : ℕ). slice_range new (2 * o) 510) map_at
    ∙ slice_range-same new old (2 * map_offset old) 510 changes.size area in
    let ident_at : ident_offset new ≡ ident_offset old = byte 0 (omega arith) in
    let end_at : ident_end new ≡ ident_end old = λ k. ident_at k + ident_words (segment (map k)) in
    let number : file_number new ≡ file_number old = omega (arith, byte 2 (omega arith), byte 3 (omega arith)) in
    let sequence : file_sequence new ≡ file_sequence old = omega (arith, byte 4 (omega arith), byte 5 (omega arith)) in
    let facts : HeaderFacts new = record {
      some_number = omega (arith, number, was.some_number);
      some_sequence = omega (arith, sequence, was.some_sequence);
      level_is = omega (arith, byte 6 (omega arith), byte 7 (omega arith), was.level_is);
      ident_placed = omega (arith, ident_at, was.ident_placed);
      map_placed = omega (arith, end_at, map_at, was.map_placed);
      map_within = omega (arith, map_at, was.map_within);
      pointers = subst (λ m. IsTrue (holds_pointers m)) (sym map) was.pointers;
    } in
    (holds_header-from new facts, number, sequence, map)

-- under another number and sequence number
pub header_in-with_id : (b : List ℕ) (id : FileId) → length b ≡ 512 → IsTrue (holds_header b) → id.number ≢ 0 → id.sequence ≢ 0
    → header_in (with_id b id) ≡ Some (record (header_fields b) { number = id.number; sequence = id.sequence })
header_in-with_id b id long held some_number some_sequence =
    let was : HeaderFacts b = header_facts b held in
    let once : List ℕ = with_word b 2 id.number in
    let new : List ℕ = with_id b id in
    let changes : ChangesFrom 2 6 b new = changes-more (omega arith) (omega arith) (changes-with_word b 2 id.number)
    (changes-with_word once 4 id.sequence) in
    let areas : KeepsAreas b new = keeps_areas b new changes.size (changes.others 0 (inl (omega arith)))
    (changes.others 1 (inl (omega arith)))
    (λ i above below. changes.others i (inr (omega (arith, was.ident_placed))))
    (λ i above below. changes.others i (inr (omega (arith, was.ident_placed, was.map_placed)))) in
    let number : file_number new ≡ id.number = word-with_word_apart once 4 id.sequence 2 (inl (omega arith))
    ∙ word-with_word b 2 id.number (omega arith) in
    let sequence : file_sequence new ≡ id.sequence = word-with_word once 4 id.sequence (omega (arith, length-with_word b 2 id.number)) in
    let facts : HeaderFacts new = facts-kept b new areas (omega arith) (omega arith) (word-kept changes 6 (inr (omega arith))) was in
    let fields : header_fields new ≡ record (header_fields b) { number = id.number; sequence = id.sequence } = λ k. record {
      number = number k;
      sequence = sequence k;
      owner = owner-kept changes (inr (omega arith)) k;
      protection = word-kept changes 10 (inr (omega arith)) k;
      characteristics = word-kept changes 12 (inr (omega arith)) k;
      attributes = attributes-kept changes (inr (omega arith)) k;
      ident = areas.ident k;
      map = areas.map k;
    } in
    header_in-held new (holds_header-from new facts) ∙ ap Some fields

-- the ident area of a first header has 23 words
pub ident_end-first : (b : List ℕ) → segment (map_area b) ≡ 0 → ident_end b ≡ ident_offset b + 23
ident_end-first b first = ap (λ (s : ℕ). ident_offset b + ident_words s) first

-- with another ident area, in a first header
pub keeps-with_ident : (b put : List ℕ) → 2 * ident_offset b + 46 ≤ length b → segment (map_area b) ≡ 0 → length put ≡ 46
    → IsTrue (holds_header b)
    → KeepsHeader b (with_ident b put) × (header_in (with_ident b put) ≡ header_with (λ h. record h { ident = put }) b)
keeps-with_ident b put within first size held =
    let was : HeaderFacts b = header_facts b held in
    let new : List ℕ = with_ident b put in
    let from : ℕ = 2 * ident_offset b in
    let end : ident_end b ≡ ident_offset b + 23 = ident_end-first b first in
    let changes : ChangesFrom from (2 * ident_end b) b new = changes-with_bytes b from (2 * ident_end b) put (omega arith) (omega arith) in
    let behind : 46 ≤ from = omega (arith, was.ident_placed) in
    let kept = holds-changed b new (record { size = changes.size; others = λ i outside apart. changes.others i apart }) held in
    let offset : ident_offset new ≡ ident_offset b = changes.others 0 (inl (omega arith)) in
    let end_at : ident_end new ≡ ident_end b = λ k. offset k + ident_words (segment (kept.3 k)) in
    let moved : ident_area new ≡ slice_range new from (2 * ident_end b) = λ k. slice_range new (2 * offset k) (2 * end_at k) in
    let ident : ident_area new ≡ put = moved ∙ slice_range-with_bytes b from (2 * ident_end b) put (omega arith) (omega arith) in
    let fields : header_fields new ≡ record (header_fields b) { ident = put } = λ k. record {
      number = kept.1 k;
      sequence = kept.2 k;
      owner = owner-kept changes (inl (omega arith)) k;
      protection = word-kept changes 10 (inl (omega arith)) k;
      characteristics = word-kept changes 12 (inl (omega arith)) k;
      attributes = attributes-kept changes (inl behind) k;
      ident = ident k;
      map = kept.3 k;
    } in
    let keeps : KeepsHeader b new = record { holds = kept.0 ∙ sym held; number = kept.1 } in
    (keeps, header_in-written b new (λ h. record h { ident = put }) keeps.holds (λ holds. fields))

-- the map area of a header is one
pub IsMapArea-map_area : (b : List ℕ) → length (map_area b) ≡ 510 - 2 * map_offset b → IsTrue (holds_header b) → IsMapArea (map_area b)
IsMapArea-map_area b size holds =
    let facts : HeaderFacts b = header_facts b holds in
    record { in_block = omega (arith, size); fields = omega (arith, size, facts.map_within); pointers = facts.pointers }

pub IsMapArea-in_header : (b : List ℕ) → length b ≡ 512 → IsTrue (holds_header b) → IsMapArea (map_area b)
IsMapArea-in_header b long holds = IsMapArea-map_area b (length-map_area b long) holds

-- the law of the map area
pub keeps-with_map : (b put : List ℕ) → length b ≡ 512 → IsTrue (holds_header b) → length put ≡ length (map_area b)
    → segment put ≡ segment (map_area b) → IsMapArea put
    → KeepsHeader b (with_map b put) × (header_in (with_map b put) ≡ header_with (λ h. record h { map = put }) b)
keeps-with_map b put long held size same_segment valid =
    let was : HeaderFacts b = header_facts b held in
    let new : List ℕ = with_map b put in
    let from : ℕ = 2 * map_offset b in
    let low : map_offset b ≤ 250 = was.map_within in
    let end : 510 ≡ from + length put = omega (arith, size, length-map_area b long) in
    let changes : ChangesFrom from 510 b new = changes-with_bytes b from 510 put end (omega arith) in
    let behind : 46 ≤ from = omega (arith, was.ident_placed, was.map_placed) in
    let map_at : map_offset new ≡ map_offset b = changes.others 1 (inl (omega arith)) in
    let ident_at : ident_offset new ≡ ident_offset b = changes.others 0 (inl (omega arith)) in
    let map : map_area new ≡ put = ap (λ (o : ℕ). slice_range new (2 * o) 510) map_at
    ∙ slice_range-with_bytes b from 510 put (omega arith) end in
    let end_at : ident_end new ≡ ident_end b = (λ k. ident_at k + ident_words (segment (map k)))
    ∙ ap (λ (s : ℕ). ident_offset b + ident_words s) same_segment in
    let moved : ident_area new ≡ slice_range new (2 * ident_offset b) (2 * ident_end b) = λ k.
    slice_range new (2 * ident_at k) (2 * end_at k) in
    let ident : ident_area new ≡ ident_area b =
    moved ∙ slice_range-same new b (2 * ident_offset b) (2 * ident_end b) changes.size
    (λ i above below. changes.others i (inl (omega (arith, was.map_placed)))) in
    let number : file_number new ≡ file_number b = word-kept changes 2 (inl (omega arith)) in
    let sequence : file_sequence new ≡ file_sequence b = word-kept changes 4 (inl (omega arith)) in
    let facts : HeaderFacts new = record {
      some_number = omega (arith, number, was.some_number);
      some_sequence = omega (arith, sequence, was.some_sequence);
      level_is = word-kept changes 6 (inl (omega arith)) ∙ was.level_is;
      ident_placed = omega (arith, ident_at, was.ident_placed);
      map_placed = omega (arith, end_at, map_at, was.map_placed);
      map_within = omega (arith, map_at, was.map_within);
      pointers = subst (λ m. IsTrue (holds_pointers m)) (sym map) valid.pointers;
    } in
    let fields : header_fields new ≡ record (header_fields b) { map = put } = λ k. record {
      number = number k;
      sequence = sequence k;
      owner = owner-kept changes (inl (omega arith)) k;
      protection = word-kept changes 10 (inl (omega arith)) k;
      characteristics = word-kept changes 12 (inl (omega arith)) k;
      attributes = attributes-kept changes (inl behind) k;
      ident = ident k;
      map = map k;
    } in
    let keeps : KeepsHeader b new = record { holds = holds_header-from new facts ∙ sym held; number = number } in
    (keeps, header_in-written b new (λ h. record h { map = put }) keeps.holds (λ holds. fields))

-- the bytes in front of the map area stay where that is put and the block is sealed
pub ident_room-with_map : (b put : List ℕ) → length b ≡ 512 → IsTrue (holds_header b) → length put ≡ length (map_area b)
    → ident_room (with_check_word (with_map b put)) ≡ ident_room b
ident_room-with_map b put long held size =
    let was : HeaderFacts b = header_facts b held in
    let mid : List ℕ = with_map b put in
    let new : List ℕ = with_check_word mid in
    let from : ℕ = 2 * map_offset b in
    let low : map_offset b ≤ 250 = was.map_within in
    let end : 510 ≡ from + length put = omega (arith, size, length-map_area b long) in
    let first : ChangesFrom from 510 b mid = changes-with_bytes b from 510 put end (omega arith) in
    let second : ChangesFrom 510 512 mid new = changes-with_word mid 510 (word_sum mid 255) in
    let behind : 46 ≤ from = omega (arith, was.ident_placed, was.map_placed) in
    let byte : (i : ℕ) → i < from → slice_index new i ≡ slice_index b i =
    λ i below. second.others i (inl (omega arith)) ∙ first.others i (inl below) in
    let ident_at : ident_offset new ≡ ident_offset b = byte 0 (omega arith) in
    let map_at : map_offset new ≡ map_offset b = byte 1 (omega arith) in
    let moved : ident_room new ≡ slice_range new (2 * ident_offset b) from = λ k. slice_range new (2 * ident_at k) (2 * map_at k) in
    moved ∙ slice_range-same new b (2 * ident_offset b) from (second.size ∙ first.size) (λ i above below. byte i below)

-- a dead header keeps its map area
pub map_area-dead_header : (b : List ℕ) → length b ≡ 512 → IsTrue (holds_header b) → map_area (dead_header b) ≡ map_area b
map_area-dead_header b long held =
    let was : HeaderFacts b = header_facts b held in
    let once : List ℕ = with_word b 2 0 in
    let first : ChangesFrom 2 4 b once = changes-with_word b 2 0 in
    let second : ChangesFrom 510 512 once (dead_header b) = changes-with_word once 510 0 in
    let at : map_offset (dead_header b) ≡ map_offset b = second.others 1 (inl (omega arith)) ∙ first.others 1 (inl (omega arith)) in
    ap (λ (o : ℕ). slice_range (dead_header b) (2 * o) 510) at
    ∙ slice_range-same (dead_header b) b (2 * map_offset b) 510 (second.size ∙ first.size)
    (λ i above below. second.others i (inl below) ∙ first.others i (inr (omega (arith, was.ident_placed, was.map_placed))))
