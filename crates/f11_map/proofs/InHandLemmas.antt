-- Facts about a header in hand whose map area is written.
use Rattle.std.proofs.Common.{◌≡◌, ℕ, ◌-◌, ◌<◌, ◌≤◌, List, [], ◌++◌, length, take, subst, Option, Some, IsTrue, refl, sym, ap, ◌∙◌, arith}
use Rattle.std.specs.Prelude.{unwrap_or, option_map, Result, Ok, Err, IsErr, OnOk}
use Rattle.std.specs.List.{range_with_len}
use Rattle.f11_header.specs.bytes.Words.{word_sum}
use Rattle.f11_header.specs.Fields.{ident_room, map_area, map_offset, file_number, check_word, HeaderFields, header_fields}
use Rattle.f11_header.specs.MapFields.{segment, places, IsMapArea}
use Rattle.f11_header.specs.Header.{holds_header, header_in, header_with}
use Rattle.f11_header.specs.Writing.{KeepsHeader, with_check_word, with_map}
use Rattle.f11_header.proofs.AreaLemmas.{length-map_area, length-with_map, with_map-map_area}
use Rattle.f11_header.proofs.HeaderFacts.{header_in-held, map_within}
use Rattle.f11_header.proofs.FieldLemmas.{ident_room-with_map, keeps-with_map, keeps-with_check_word, header_in-with_check_word}
use Rattle.f11_header.proofs.FieldLemmas.{sum-with_check_word}
use Rattle.f11_map.specs.InHand.{RewritesMap, AppendsBlocks, AppendsRuns, CutsBlocks, SetsLink}
use Rattle.f11_map.specs.MapArea.{runs_of, blocks_of}
use Rattle.f11_map.specs.MapWriting.{with_blocks, fewest_runs, cut_to, WritesPointers, WritesLink}
use Rattle.f11_map.proofs.FewestLemmas.{length-behind}
use Rattle.f11_header.specs.store.File.{run_pointers}
use Rattle.f11_header.specs.store.declared.files.FileId.{FileId}

-- the map area that the header of a block says
said : Option HeaderFields → List ℕ
said held = unwrap_or (option_map (λ h. h.map) held) []

-- another map area is put, and the block is sealed
RewritesMap-sealed : (b m new : List ℕ) → length b ≡ 512 → IsTrue (holds_header b) → length m ≡ length (map_area b)
    → segment m ≡ segment (map_area b) → IsMapArea m
    → new ≡ with_check_word (with_map b m) → RewritesMap b new × (map_area new ≡ m)
unfolding said
RewritesMap-sealed b m new long holds size same valid is =
    let put : List ℕ = with_map b m in
    let kept = keeps-with_map b m long holds size same valid in
    let put_long : length put ≡ 512 = length-with_map b m long (map_within b holds) (size ∙ length-map_area b long) in
    let seal : KeepsHeader put (with_check_word put) = keeps-with_check_word put in
    let holds_new : IsTrue (holds_header new) = ap holds_header is ∙ seal.holds ∙ kept.0.holds ∙ holds in
    let says : header_in new ≡ header_with (λ h. record h { map = m }) b = ap header_in is ∙ header_in-with_check_word put ∙ kept.1 in
    let had : header_with (λ h. record h { map = m }) b ≡ Some (record (header_fields b) { map = m }) =
    ap (option_map (λ (h : HeaderFields). record h { map = m })) (header_in-held b holds) in
    let map : map_area new ≡ m = ap said (sym (header_in-held new holds_new) ∙ says ∙ had) in (
      record {
        seals = record {
          keeps = record {
            holds = ap holds_header is ∙ seal.holds ∙ kept.0.holds;
            number = ap file_number is ∙ seal.number
                ∙ kept.0.number;
          };
          sum = ap check_word is ∙ sum-with_check_word put put_long ∙ ap (λ (l : List ℕ). word_sum l 255) (sym is);
        };
        fields = says ∙ ap (λ (area : List ℕ). header_with (λ h. record h { map = area }) b) (sym map);
        ident = ap ident_room is ∙ ident_room-with_map b m long holds size;
      },
      map,
    )

-- the map area that was put is the one that the area in hand was written to
pub AppendsBlocks-sealed : (b area m new : List ℕ) (lbn count : ℕ) → length b ≡ 512 → IsTrue (holds_header b) → area ≡ map_area b
    → new ≡ with_check_word (with_map b m)
    → WritesPointers area m → runs_of m ≡ with_blocks (runs_of area) lbn count → blocks_of m ≡ blocks_of area ++ range_with_len lbn count
    → AppendsBlocks b new lbn count
AppendsBlocks-sealed b area m new lbn count long holds lent is writes pointers blocks =
    let rest : WritesPointers (map_area b) m = subst (λ (l : List ℕ). WritesPointers l m) lent writes in
    let header = RewritesMap-sealed b m new long holds rest.size rest.segment_stays rest.valid is in
    record {
      header = header.0;
      pointers = ap runs_of header.1 ∙ pointers ∙ ap (λ (l : List ℕ). with_blocks (runs_of l) lbn count) lent;
      blocks = ap blocks_of header.1 ∙ blocks ∙ ap (λ (l : List ℕ). blocks_of l ++ range_with_len lbn count) lent;
      rest = subst (WritesPointers (map_area b)) (sym header.1) rest;
    }

pub AppendsRuns-sealed : (b area m new : List ℕ) (lbn count : ℕ) → length b ≡ 512 → IsTrue (holds_header b) → area ≡ map_area b
    → new ≡ with_check_word (with_map b m)
    → WritesPointers area m → runs_of m ≡ runs_of area ++ fewest_runs lbn count → blocks_of m ≡ blocks_of area ++ range_with_len lbn count
    → AppendsRuns b new lbn count
AppendsRuns-sealed b area m new lbn count long holds lent is writes pointers blocks =
    let rest : WritesPointers (map_area b) m = subst (λ (l : List ℕ). WritesPointers l m) lent writes in
    let header = RewritesMap-sealed b m new long holds rest.size rest.segment_stays rest.valid is in
    let put : runs_of (map_area new) ≡ runs_of (map_area b) ++ fewest_runs lbn count =
    ap runs_of header.1 ∙ pointers ∙ ap (λ (l : List ℕ). runs_of l ++ fewest_runs lbn count) lent in
    record {
      header = header.0;
      pointers = put;
      more = length-behind (runs_of (map_area b)) (runs_of (map_area new)) lbn count put;
      blocks = ap blocks_of header.1 ∙ blocks ∙ ap (λ (l : List ℕ). blocks_of l ++ range_with_len lbn count) lent;
      rest = subst (WritesPointers (map_area b)) (sym header.1) rest;
    }

-- where there are places for their pointers, the blocks are appended
pub appended : {E : Type 0} (result : Result Unit E) (old new : List ℕ) (lbn count : ℕ)
    → run_pointers count ≤ places (map_area old) - length (runs_of (map_area old))
    → OnOk result (AppendsRuns old new lbn count)
    → (IsErr result → places (map_area old) - length (runs_of (map_area old)) < run_pointers count) → AppendsRuns old new lbn count
appended (Ok done) old new lbn count fits appends full = appends
appended (Err error) old new lbn count fits appends full = let lacks = full refl in absurd (omega (arith, fits, lacks))

pub CutsBlocks-sealed : (b area m new : List ℕ) (place : ℕ) → length b ≡ 512 → IsTrue (holds_header b) → area ≡ map_area b
    → new ≡ with_check_word (with_map b m)
    → WritesPointers area m → runs_of m ≡ cut_to (runs_of area) place → blocks_of m ≡ take place (blocks_of area) → CutsBlocks b new place
CutsBlocks-sealed b area m new place long holds lent is writes pointers blocks =
    let rest : WritesPointers (map_area b) m = subst (λ (l : List ℕ). WritesPointers l m) lent writes in
    let header = RewritesMap-sealed b m new long holds rest.size rest.segment_stays rest.valid is in
    record {
      header = header.0;
      pointers = ap runs_of header.1 ∙ pointers ∙ ap (λ (l : List ℕ). cut_to (runs_of l) place) lent;
      blocks = ap blocks_of header.1 ∙ blocks ∙ ap (λ (l : List ℕ). take place (blocks_of l)) lent;
      rest = subst (WritesPointers (map_area b)) (sym header.1) rest;
    }

pub SetsLink-sealed : (b area m new : List ℕ) (id : FileId) → length b ≡ 512 → IsTrue (holds_header b) → area ≡ map_area b
    → new ≡ with_check_word (with_map b m)
    → WritesLink area m id → runs_of m ≡ runs_of area → SetsLink b new id
SetsLink-sealed b area m new id long holds lent is writes pointers =
    let link : WritesLink (map_area b) m id = subst (λ (l : List ℕ). WritesLink l m id) lent writes in
    let header = RewritesMap-sealed b m new long holds link.size link.segment_stays link.valid is in
    record {
      header = header.0;
      link = subst (λ (l : List ℕ). WritesLink (map_area b) l id) (sym header.1) link;
      pointers = ap runs_of header.1 ∙ pointers ∙ ap runs_of lent;
    }

-- the map area put as it was
pub with_map-unchanged : (b area m new : List ℕ) → IsTrue (holds_header b) → area ≡ map_area b → m ≡ area → new ≡ with_map b m → new ≡ b
with_map-unchanged b area m new holds lent same is =
    let low : map_offset b ≤ 250 = map_within b holds in
    is ∙ ap (with_map b) (same ∙ lent) ∙ with_map-map_area b (omega arith)
