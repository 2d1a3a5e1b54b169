-- Facts about an empty header.
use Rattle.std.proofs.Common.{◌≡◌, ℕ, ◌+◌, ◌*◌, ◌/◌, ◌%◌, ◌<◌, ◌≤◌, ◌&&◌, nat_lt, List, refl, arith}
use Rattle.std.specs.Cmp.{both_ways}
use Rattle.std.proofs.lemmas.Bool.{and_parts, and_from, ltb-true, lt-ltb}
use Rattle.std.proofs.lemmas.Bool.Decides.{nat_tests}
use Rattle.f11_store.specs.bytes.Block.{zero_block}
use Rattle.f11_store.specs.declared.callers.Uic.{Uic}
use Rattle.f11_store.specs.declared.files.FileId.{FileId}
use Rattle.f11_header.specs.Fields.{file_number, file_sequence, owner_group, owner_member, protection, map_area, ident_words}
use Rattle.f11_header.specs.MapFields.{segment, link}
use Rattle.f11_header.specs.Header.{holds_header, IsEmptyHeader}
use Rattle.f11_header.proofs.HeaderFacts.{HeaderFacts, header_facts, holds_header-from, holds_pointers-from}
use Rattle.f11_header.specs.Writing.{blank_header, owner_word}

ident_words-le : (segment : ℕ) → ident_words segment ≤ 23
ident_words-le segment = grind (arith, nat_tests)

-- an empty header is one where its number and its sequence number aren't 0
pub holds-blank_header : (id : FileId) (owner : Uic) (protection number : ℕ)
    → holds_header (blank_header id owner protection number) ≡ (nat_lt 0 id.number && nat_lt 0 id.sequence)
unfolding zero_block
holds-blank_header id owner protection number =
    let b : List ℕ = blank_header id owner protection number in
    let n : file_number b ≡ id.number = (let is : file_number b ≡ id.number % 256 + 256 * (id.number / 256) = refl in omega (arith, is)) in
    let s : file_sequence b ≡ id.sequence =
    (let is : file_sequence b ≡ id.sequence % 256 + 256 * (id.sequence / 256) = refl in omega (arith, is)) in
    both_ways (holds_header b) (nat_lt 0 id.number && nat_lt 0 id.sequence)
    (λ held. let facts : HeaderFacts b = header_facts b held in and_from _ _ (lt-ltb 0 id.number (omega (arith, n, facts.some_number)))
    (lt-ltb 0 id.sequence (omega (arith, s, facts.some_sequence))))
    (λ some.
    let parts = and_parts (nat_lt 0 id.number) (nat_lt 0 id.sequence) some in
    holds_header-from b (record {
      some_number = omega (arith, n, ltb-true 0 id.number parts.0);
      some_sequence = omega (arith, s, ltb-true 0 id.sequence parts.1);
      level_is = refl;
      ident_placed = omega arith;
      map_placed = omega (arith, ident_words-le (number % 256));
      map_within = omega arith;
      pointers = holds_pointers-from (map_area b) (record { count_is = refl; lbn_is = refl; even = refl; within = omega arith });
    }))

-- and has these fields and no others
pub IsEmptyHeader-blank_header : (id : FileId) (owner : Uic) (protects number : ℕ) → owner.group < 256 → owner.member < 256 → number < 256
    → IsEmptyHeader (blank_header id owner protects number) id owner protects number
unfolding zero_block
IsEmptyHeader-blank_header id owner protects number group member few = record {
  number_is = let is : file_number (blank_header id owner protects number) ≡ id.number % 256 + 256 * (id.number / 256) = refl in
      omega (arith, is);
  sequence_is = let is : file_sequence (blank_header id owner protects number) ≡ id.sequence % 256 + 256 * (id.sequence / 256) = refl in
      omega (arith, is);
  owner_is =
      let high : owner_group (blank_header id owner protects number) ≡ owner_word owner / 256 = refl in
      let low : owner_member (blank_header id owner protects number) ≡ owner_word owner % 256 = refl in
      let group_is : owner_group (blank_header id owner protects number) ≡ owner.group = omega (arith, high) in
      let member_is : owner_member (blank_header id owner protects number) ≡ owner.member = omega (arith, low) in
      λ k. record { group = group_is k; member = member_is k };
  protection_is = let is : protection (blank_header id owner protects number) ≡ protects % 256 + 256 * (protects / 256) = refl in
      omega (arith, is);
  no_characteristics = refl;
  no_attributes = refl;
  no_ident = refl;
  segment_is = let is : segment (map_area (blank_header id owner protects number)) ≡ number % 256 = refl in omega (arith, is);
  room = refl;
  no_pointer = refl;
  no_link =
      let volume : (link (map_area (blank_header id owner protects number))).volume ≡ 0 =
      (let is : (link (map_area (blank_header id owner protects number))).volume ≡ number / 256 = refl in omega (arith, is)) in
      λ k. record { number = 0; sequence = 0; volume = volume k };
}
