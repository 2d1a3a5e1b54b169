-- The block of a header that a file gets behind its last one.
use Rattle.std.proofs.Common.{◌≡◌, ◌+◌, ◌<◌, ℕ, true, IsTrue, List, [], ◌++◌, length, ap, ◌∙◌, ◌&&◌, nat_lt, arith}
use Rattle.std.specs.List.{range_with_len}
use Rattle.std.proofs.lemmas.Bool.{and_from, lt-ltb}
use Rattle.f11_header.specs.Fields.{HeaderFields, header_fields, map_area}
use Rattle.f11_header.specs.Header.{holds_header, IsEmptyHeader}
use Rattle.f11_header.specs.MapFields.{places, segment as segment_in}
use Rattle.f11_map.specs.InHand.{AppendsRuns}
use Rattle.f11_map.specs.MapArea.{blocks_in, runs_of}
use Rattle.f11_map.specs.HeaderBlock.{segment_number, link_of, blocks_named}
use Rattle.f11_store.specs.File.{run_pointers}
use Rattle.f11_store.specs.declared.files.FileId.{FileId}
use Rattle.f11_files.specs.Extending.Header.{IsExtension}
use Rattle.f11_image_store.specs.FileLaws.{pointers_in, room_in}
use Rattle.f11_files.specs.Extending.Tail.{NamesInHand}
use Rattle.f11_files.specs.declared.extend.tail.Tail.{Tail}
use Rattle.f11_files.proofs.Extending.NameRun.{held-again, segment-more, link-more, blocks-more, pointers-more}
use Rattle.f11_image_store.proofs.NewFileLemmas.{runs-none}

-- an identification that names a header
pub names-header : (id : FileId) → 0 < id.number → 0 < id.sequence → (nat_lt 0 id.number && nat_lt 0 id.sequence) ≡ true
names-header id number sequence = and_from _ _ (lt-ltb 0 id.number number) (lt-ltb 0 id.sequence sequence)

-- the segment number of a header in hand
pub segment-said : (block : List ℕ) (area : List ℕ) (segment : ℕ) → area ≡ map_area block → segment ≡ segment_in area
    → segment ≡ segment_number block
unfolding segment_number
segment-said block area segment same is = is ∙ ap segment_in same

module _ (tail : Tail) (id : FileId) (segment : ℕ) (empty : List ℕ) (holds : IsTrue (holds_header empty))
    (blank : IsEmptyHeader empty id tail.owner tail.protection (segment + 1)) where
  no-runs : runs_of (map_area empty) ≡ []
  no-runs = runs-none (map_area empty) blank.no_pointer

  -- there are places
  pub has-places : room_in empty ≡ 102
  has-places = let none = ap (λ (runs : List (ℕ × ℕ)). length runs) no-runs in omega (arith, none, blank.room)

  names-none : blocks_named empty ≡ []
  unfolding blocks_named
  names-none = ap blocks_in no-runs

  links-none : (link_of empty).number ≡ 0
  unfolding link_of
  links-none = ap (λ (l : FileId). l.number) blank.no_link

  numbered : segment_number empty ≡ segment + 1
  unfolding segment_number
  numbered = blank.segment_is

  -- the blocks were appended
  module _ (lbn count : ℕ) (block : List ℕ) (is : segment ≡ segment_number tail.block) (some : 0 < count)
      (appends : AppendsRuns empty block lbn count) where
    names : NamesInHand empty block (run_pointers count) lbn count
    names = record { header = appends.header; pointers = appends.more; blocks = appends.blocks; rest = appends.rest }

    held : IsTrue (holds_header block) × (header_fields block ≡ record (header_fields empty) { map = map_area block })
    held = held-again empty block holds appends.header

    pointers-are : pointers_in block ≡ run_pointers count
    pointers-are = let none = ap (λ (runs : List (ℕ × ℕ)). length runs) no-runs in omega (arith, none, names.pointers)

    all-places : places (map_area block) ≡ 102
    all-places = (pointers-more empty block (run_pointers count) lbn count names).places_are ∙ blank.room

    pub is-extension : IsExtension tail id lbn count block
    is-extension = record {
      valid = record {
        number = ap (λ (h : HeaderFields). h.number) held.1 ∙ blank.number_is;
        holds = held.0;
        sum = appends.header.seals.sum;
      };
      sequence = ap (λ (h : HeaderFields). h.sequence) held.1 ∙ blank.sequence_is;
      owner_is = ap (λ (h : HeaderFields). h.owner) held.1 ∙ blank.owner_is;
      protection_is = ap (λ (h : HeaderFields). h.protection) held.1 ∙ blank.protection_is;
      no_characteristics = ap (λ (h : HeaderFields). h.characteristics) held.1 ∙ blank.no_characteristics;
      no_attributes = ap (λ (h : HeaderFields). h.attributes) held.1 ∙ blank.no_attributes;
      no_ident = appends.header.ident ∙ blank.no_ident;
      segment = segment-more empty block (run_pointers count) lbn count names ∙ numbered ∙ ap (λ (k : ℕ). k + 1) is;
      no_link = ap (λ (l : FileId). l.number) (link-more empty block (run_pointers count) lbn count names) ∙ links-none;
      names = blocks-more empty block (run_pointers count) lbn count names
          ∙ ap (λ (bs : List ℕ). bs ++ range_with_len lbn count) names-none;
      some = omega (arith, pointers-are, some);
      few = omega (arith, pointers-are);
      room = omega (arith, all-places);
    }
