-- The header of a fresh volume's own file, made step by step.
use Rattle.std.proofs.Common.{◌≡◌, ◌<◌, ◌≤◌, ◌+◌, ◌-◌, ◌/◌, inl, inr, ℕ, List, [], ap, sym, ◌∙◌, arith, get_or}
use Rattle.std.specs.Prelude.{IsTrue, slice_index, option_map, map, drop, replicate}
use Rattle.std.specs.List.{range_with_len}
use Rattle.std.proofs.lemmas.Bool.{cases_lt, and_from, lt-ltb}
use Rattle.std.proofs.lemmas.List.{get_or-replicate, get_or-drop, get_or_past, length-replicate}
use Rattle.std.proofs.lemmas.Option.{same_Some}
use Rattle.f11_bytes.specs.Block.{zero_block}
use Rattle.f11_map.specs.header.Fields.{map_area, HeaderFields, header_fields}
use Rattle.f11_map.specs.header.Header.{holds_header, header_in, header_with, IsEmptyHeader}
use Rattle.f11_map.specs.header.MapFields.{segment, link, most_words, places, words_in_use}
use Rattle.f11_map.specs.header.Writing.{blank_header, KeepsHeader, IsSealed}
use Rattle.f11_map.proofs.header.BlankLemmas.{holds-blank_header}
use Rattle.f11_map.proofs.header.HeaderFacts.{header_in-held}
use Rattle.f11_map.specs.MapArea.{run_at, runs_of}
use Rattle.f11_layout.specs.Files.{own_file}
use Rattle.f11_layout.specs.FreshHeader.{IsBareHeader, IsFreshHeader}
use Rattle.f11_layout.specs.NamesBlocks.{NamesBlocks}
use Rattle.f11_layout.specs.OwnFields.{own_ident, own_attributes}
use Rattle.f11_layout.specs.declared.files.OwnFile.{OwnFile}
use Rattle.f11_layout.specs.declared.layout.Layout.{Layout}
use Rattle.f11_map.specs.store.declared.files.FileId.{FileId}

-- what a header says that was changed
says : (old new : List ℕ) (change : HeaderFields → HeaderFields) → IsTrue (holds_header old) → IsTrue (holds_header new)
    → header_in new ≡ header_with change old
    → header_fields new ≡ change (header_fields old)
says old new change held holds is = same_Some _ _ (sym (header_in-held new holds) ∙ is ∙ ap (option_map change) (header_in-held old held))

no-runs : (m : List ℕ) → words_in_use m ≡ 0 → runs_of m ≡ []
unfolding runs_of
no-runs m none = ap (λ (n : ℕ). map (run_at m) (range_with_len 0 (n / 2))) none

zero-at : (n i : ℕ) → slice_index (replicate n 0) i ≡ 0
zero-at n i = elim (cases_lt i n) [
  | inl within ↦ get_or-replicate n i 0 0 within
  | inr past ↦ get_or_past (replicate n 0) i 0 (omega (arith, past, length-replicate {A = ℕ} n 0))
]

zero-behind : (m : List ℕ) → drop 10 m ≡ replicate 408 0 → (i : ℕ) → 10 ≤ i → slice_index m i ≡ 0
zero-behind m zeros i past =
    let at : i ≡ 10 + (i - 10) = omega (arith, past) in
    ap (λ (k : ℕ). get_or m k 0) at ∙ sym (get_or-drop 10 m (i - 10) 0) ∙ ap (λ (xs : List ℕ). get_or xs (i - 10) 0) zeros
    ∙ zero-at 408 (i - 10)

-- a header is fresh once its blocks are named
pub fresh-named : (l : Layout) (n : ℕ) (old new : List ℕ) → IsBareHeader l n old
    → NamesBlocks (own_file l n).first (own_file l n).count old new → IsFreshHeader l n new
fresh-named l n old new bare names =
    let holds : IsTrue (holds_header new) = names.keeps.holds ∙ bare.none.holds in
    let same = says old new (λ h. record h { map = map_area new }) bare.none.holds holds names.fields in
    record {
      valid = record { number = names.keeps.number ∙ bare.number_is; holds = holds; sum = names.sum };
      sequence_is = ap (λ (h : HeaderFields). h.sequence) same ∙ bare.sequence_is;
      owner_is = ap (λ (h : HeaderFields). h.owner) same ∙ bare.owner_is;
      protection_is = ap (λ (h : HeaderFields). h.protection) same ∙ bare.protection_is;
      no_characteristics = ap (λ (h : HeaderFields). h.characteristics) same ∙ bare.no_characteristics;
      attributes_are = ap (λ (h : HeaderFields). h.attributes) same ∙ bare.attributes_are;
      ident_is = ap (λ (h : HeaderFields). h.ident) same ∙ bare.ident_is;
      first_segment = names.rest.segment_stays ∙ bare.first_segment;
      no_link = names.rest.link_stays ∙ bare.no_link;
      most = names.rest.most ∙ bare.most;
      room = names.room;
      pointers = names.pointers;
      blocks = names.blocks;
      rest = λ i past. names.rest.behind i past ∙ zero-behind (map_area old) bare.rest i (omega (arith, past));
    }

abbrev own_id : ℕ → FileId
own_id n = record { number = n; sequence = n; volume = 0 }

-- an empty header with a name and attributes, sealed
pub bare-made : (l : Layout) (n : ℕ) (file : OwnFile) (b one two three : List ℕ) → 0 < n → file ≡ own_file l n
    → b ≡ blank_header (own_id n) l.owner 57344 0 → IsEmptyHeader b (own_id n) l.owner 57344 0
    → KeepsHeader b one → header_in one ≡ header_with (λ h. record h { ident = own_ident file.name }) b
    → KeepsHeader one two → header_in two ≡ header_with (λ h. record h { attributes = own_attributes file }) one
    → IsSealed two three → header_in three ≡ header_in two → IsBareHeader l n three
unfolding zero_block
bare-made l n file b one two three some is blank empty keeps_one says_one keeps_two says_two sealed says_three =
    let held : IsTrue (holds_header b) =
    rw blank (holds-blank_header (own_id n) l.owner 57344 0 ∙ and_from _ _ (lt-ltb 0 n some) (lt-ltb 0 n some)) in
    let held_one : IsTrue (holds_header one) = keeps_one.holds ∙ held in
    let held_two : IsTrue (holds_header two) = keeps_two.holds ∙ held_one in
    let held_three : IsTrue (holds_header three) = sealed.keeps.holds ∙ held_two in
    let first : header_fields one ≡ record (header_fields b) { ident = own_ident file.name } =
    says b one (λ h. record h { ident = own_ident file.name }) held held_one says_one in
    let second : header_fields two ≡ record (header_fields one) { attributes = own_attributes file } =
    says one two (λ h. record h { attributes = own_attributes file }) held_one held_two says_two in
    let third : header_fields three ≡ header_fields two =
    same_Some _ _ (sym (header_in-held three held_three) ∙ says_three ∙ header_in-held two held_two) in
    let map_is : map_area three ≡ map_area b = ap (λ (h : HeaderFields). h.map) third ∙ ap (λ (h : HeaderFields). h.map) second
    ∙ ap (λ (h : HeaderFields). h.map) first in
    record {
      none = record {
        holds = held_three;
        sum = sealed.sum;
        room = ap places map_is ∙ empty.room;
        none = ap runs_of map_is ∙ no-runs (map_area b) empty.no_pointer;
      };
      number_is = ap (λ (h : HeaderFields). h.number) third ∙ ap (λ (h : HeaderFields). h.number) second
          ∙ ap (λ (h : HeaderFields). h.number) first ∙ empty.number_is;
      sequence_is = ap (λ (h : HeaderFields). h.sequence) third ∙ ap (λ (h : HeaderFields). h.sequence) second
          ∙ ap (λ (h : HeaderFields). h.sequence) first ∙ empty.sequence_is;
      owner_is = ap (λ (h : HeaderFields). h.owner) third ∙ ap (λ (h : HeaderFields). h.owner) second
          ∙ ap (λ (h : HeaderFields). h.owner) first ∙ empty.owner_is;
      protection_is = ap (λ (h : HeaderFields). h.protection) third ∙ ap (λ (h : HeaderFields). h.protection) second
          ∙ ap (λ (h : HeaderFields). h.protection) first ∙ empty.protection_is;
      no_characteristics = ap (λ (h : HeaderFields). h.characteristics) third ∙ ap (λ (h : HeaderFields). h.characteristics) second
          ∙ ap (λ (h : HeaderFields). h.characteristics) first ∙ empty.no_characteristics;
      attributes_are = ap (λ (h : HeaderFields). h.attributes) third ∙ ap (λ (h : HeaderFields). h.attributes) second
          ∙ ap own_attributes is;
      ident_is = ap (λ (h : HeaderFields). h.ident) third ∙ ap (λ (h : HeaderFields). h.ident) second
          ∙ ap (λ (h : HeaderFields). h.ident) first ∙ ap (λ (f : OwnFile). own_ident f.name) is;
      first_segment = ap segment map_is ∙ empty.segment_is;
      no_link = ap link map_is ∙ empty.no_link;
      most = ap most_words (map_is ∙ ap (λ (b : List ℕ). map_area b) blank);
      rest = ap (λ (m : List ℕ). drop 10 m) (map_is ∙ ap (λ (b : List ℕ). map_area b) blank);
    }
