-- What is known of an index file while its headers are read, one after another.
use Rattle.std.proofs.Common.{◌≡◌, ◌≢◌, ℕ, zero, suc, ◌+◌, ◌-◌, ◌<◌, ◌≤◌, ◌⊎◌, List, ◌++◌, length, drop, true, false, Option, Some, None}
use Rattle.std.proofs.Common.{refl, sym, ap, subst, ◌∙◌, inl, inr, arith}
use Rattle.std.specs.List.{slice_get}
use Rattle.std.proofs.lemmas.Bool.{both_ways, cases_lt, cases_eq}
use Rattle.std.proofs.lemmas.List.{length-take, length-drop}
use Rattle.std.proofs.lemmas.Option.{none-some, slice_get-get_or}
use Rattle.f11_dev.specs.Image.{Image, image_block}
use Rattle.f11_map.specs.header.Fields.{file_sequence}
use Rattle.f11_home.specs.Home.{HomeFields}
use Rattle.f11_map.specs.HeaderBlock.{segment_number, link_of, blocks_named}
use Rattle.f11_index.specs.IndexFile.{index_of, index_file_blocks, blocks_on, header_place, header_among, header_lbn, most_slots, slots}
use Rattle.f11_index.specs.IndexFile.{first_header_lbn}
use Rattle.f11_index.specs.Sound.{IsPlaced, IsIndexFile}
use Rattle.f11_index.specs.Table.{Table, table_in, table_of, IsLive, IsNext, IsHeaderOf, first, next, LinksRightly, IsWholeFile}
use Rattle.f11_index.specs.Table.{last_sequence}
use Rattle.f11_index.proofs.BitLemmas.{is_in_use-none}
use Rattle.f11_index.proofs.ChainLemmas.{file_of-header, same-segment, links-before}
use Rattle.f11_index.proofs.PlaceLemmas.{slice_get-append_front, get_or-header}

-- the blocks so far stay where they are
pub so_far : (most : ℕ) (image : Image) (home : HomeFields) (known : List ℕ) (at : Option ℕ) (i lbn : ℕ) → slice_get known i ≡ Some lbn
    → slice_get (blocks_on most image home known at) i ≡ Some lbn
unfolding blocks_on
so_far zero image home known at i lbn is = is
so_far (suc most) image home known None i lbn is = is
so_far (suc most) image home known (Some from) i lbn is = so_far most image home _ _ i lbn (slice_get-append_front known _ i lbn is)

-- the walk ends where there is no header to go on with
pub ends : (most : ℕ) (image : Image) (home : HomeFields) (known : List ℕ) → blocks_on most image home known None ≡ known
unfolding blocks_on
ends zero image home known = refl
ends (suc most) image home known = refl

-- one header more
pub goes_on : (most : ℕ) (image : Image) (home : HomeFields) (known : List ℕ) (lbn : ℕ) (header : List ℕ) → image_block image lbn ≡ header
    → blocks_on (suc most) image home known (Some lbn) ≡ blocks_on most image home (known ++ blocks_named header)
    (header_among home (known ++ blocks_named header) (link_of header).number)
unfolding blocks_on
goes_on most image home known lbn header is =
    ap (λ (b : List ℕ). blocks_on most image home (known ++ blocks_named b)
    (header_among home (known ++ blocks_named b) (link_of b).number)) is

-- the header of a number that isn't 0
pub header_among-some : (home : HomeFields) (known : List ℕ) (n : ℕ) → 0 < n
    → header_among home known n ≡ slice_get known (header_place home n)
header_among-some home known zero some = absurd (omega arith)
header_among-some home known (suc n) some = refl

-- header 1 stands behind the index bitmap
abbrev pub IsFirstAt : HomeFields → List ℕ → Type 0
IsFirstAt home blocks = slice_get blocks (header_place home 1) ≡ Some (first_header_lbn home)

pub first-at : (home : HomeFields) (blocks : List ℕ) → IsPlaced home blocks → IsFirstAt home blocks
first-at home blocks placed =
    let place : header_place home 1 ≡ 2 + home.index_blocks = omega arith in
    ap (slice_get blocks) place ∙ placed.bitmap_and_headers home.index_blocks (omega arith)

module _ (image : Image) (home : HomeFields) where
  abbrev t : Table
  t = table_of image home

  abbrev all : List ℕ
  all = index_file_blocks image home

  -- header n of the table stands where the index file has it
  pub header_is : (n lbn : ℕ) → 0 < n → n ≤ most_slots home → slice_get all (header_place home n) ≡ Some lbn
      → t.header n ≡ image_block image lbn
  unfolding table_in index_of header_lbn
  header_is n lbn some few at =
      let place : header_place home n ≡ 2 + home.index_blocks + (n - 1) = omega arith in
      ap (image_block image) (get_or-header all (2 + home.index_blocks) (most_slots home) (n - 1) lbn 0 (omega arith)
      (ap (slice_get all) (sym place) ∙ at))

  -- a slot in use is a slot
  pub in_use-within : (n : ℕ) → (table_of image home).in_use n ≡ true → (0 < n) × (n ≤ slots (index_of image home))
  unfolding table_in
  in_use-within n is = elim (cases_lt 0 n) [
    | inr none ↦ absurd (both_ways false refl (is_in_use-none (index_of image home) n (inl (omega arith)) ∙ is))
    | inl some ↦ elim (cases_lt (slots (index_of image home)) n) [
      | inl past ↦ absurd (both_ways false refl (is_in_use-none (index_of image home) n (inr past) ∙ is))
      | inr within ↦ (some, within)
    ]
  ]

  pub few-slots : slots (index_of image home) ≤ most_slots home
  unfolding index_of
  few-slots = omega (arith, length-take (most_slots home) (drop (2 + home.index_blocks) (index_file_blocks image home)))

  -- header n is the one that is looked for: the file's of this segment
  pub record IsExpected (n sequence segment : ℕ) : Type 0 where
    pub live : IsLive t n
    pub sequence_is : file_sequence (t.header n) ≡ sequence
    pub segment_is : segment_number (t.header n) ≡ segment

  -- The header at hand: it is the one that is looked for where the index file is as it should be, and where it is that, the
  -- headers before it link rightly.
  pub record Arrives (n sequence segment lbn : ℕ) : Type 0 where
    pub some : 0 < n
    pub few : n ≤ most_slots home
    pub place : slice_get all (header_place home n) ≡ Some lbn
    pub due : IsIndexFile image home → IsExpected n sequence segment
    pub is_header : IsExpected n sequence segment → IsHeaderOf t 1 n
    pub right : IsExpected n sequence segment → (m : ℕ) → IsHeaderOf t 1 m → segment_number (t.header m) < segment → LinksRightly t m
    pub last : IsExpected n sequence segment → last_sequence t 1 ≡ 1

  -- at the start that is header 1
  pub arrives-first : IsFirstAt home all → 0 < most_slots home → Arrives 1 1 0 (first_header_lbn home)
  arrives-first at some = record {
    some = omega arith;
    few = some;
    place = at;
    due = λ is. record { live = is.whole.file.live; sequence_is = is.sequence; segment_is = is.whole.file.first };
    is_header = λ is. first (record { live = is.live; first = is.segment_is });
    right = λ is m of before. absurd (omega arith);
    last = λ is. is.sequence_is;
  }

  -- and then the one that it links to, where that is found
  pub arrives-next : (n sequence segment lbn next_lbn : ℕ) → Arrives n sequence segment lbn → IsExpected n sequence segment
      → (link_of (t.header n)).number ≢ 0 → (link_of (t.header n)).number ≤ most_slots home
      → slice_get all (header_place home (link_of (t.header n)).number) ≡ Some next_lbn
      → Arrives (link_of (t.header n)).number (link_of (t.header n)).sequence (segment + 1) next_lbn
  arrives-next n sequence segment lbn next_lbn here is some few place = record {
    some = omega arith;
    few = few;
    place = place;
    due = λ good. elim (good.whole.links n (here.is_header is)) [
      | inl none ↦ absurd (some none)
      | inr goes ↦ record {
        live = goes.to;
        sequence_is = sym goes.sequence;
        segment_is = goes.segment
            ∙ ap (λ (k : ℕ). k + 1) is.segment_is;
      }
    ];
    is_header = λ there. next (here.is_header is) (is_next there);
    right = λ there m of before. elim (cases_lt (segment_number (t.header m)) segment) [
      | inl earlier ↦ here.right is m of earlier
      | inr last ↦
          let same : n ≡ m = same-segment (here.is_header is) of (omega (arith, is.segment_is)) in
          subst (λ (k : ℕ). LinksRightly t k) same (inr (is_next there))
    ];
    last = λ there. here.last is;
  }
    where
      is_next : IsExpected (link_of (t.header n)).number (link_of (t.header n)).sequence (segment + 1)
          → IsNext t n (link_of (t.header n)).number
      is_next there = record {
        from = is.live;
        to = there.live;
        number = refl;
        sequence = sym there.sequence_is;
        segment = there.segment_is ∙ ap (λ (k : ℕ). k + 1) (sym is.segment_is);
      }

  -- number 0 is no header's
  no_header-zero : (n : ℕ) → ¬ IsNext t n 0
  unfolding table_in
  no_header-zero n is = let never = is_in_use-none (index_of image home) 0 (inl refl) ∙ is.to.in_use in cc

  -- a header that links to none is the last
  pub whole-last : (n sequence segment lbn : ℕ) → Arrives n sequence segment lbn → IsExpected n sequence segment
      → (link_of (t.header n)).number ≡ 0 → IsWholeFile t 1
  whole-last n sequence segment lbn here is none = record {
    file = file_of-header (here.is_header is);
    links = λ m of. elim (cases_lt (segment_number (t.header m)) segment) [
      | inl earlier ↦ here.right is m of earlier
      | inr late ↦ elim (cases_eq (segment_number (t.header m)) segment) [
        | inl same ↦ subst (λ (k : ℕ). LinksRightly t k) (same-segment (here.is_header is) of (is.segment_is ∙ sym same)) (inl none)
        | inr past ↦
            let l = links-before segment of (omega (arith, late, past)) in
            let same : n ≡ l.from = same-segment (here.is_header is) l.of (is.segment_is ∙ sym l.number) in
            let to : l.to ≡ 0 = sym l.goes.number ∙ ap (λ (k : ℕ). (link_of (t.header k)).number) (sym same) ∙ none in
            absurd (no_header-zero l.from (subst (λ (k : ℕ). IsNext t l.from k) to l.goes))
      ]
    ];
  }

module _ (image : Image) (home : HomeFields) (good : IsIndexFile image home) where
  -- a header of the index file is a slot, so the walk has found it by its end
  pub found-there : (known : List ℕ) (m : ℕ) → 0 < m → m ≤ slots (index_of image home) → index_file_blocks image home ≡ known
      → ¬ (header_among home known m ≡ None)
  unfolding index_of
  found-there known m some few so none =
      let all : List ℕ = index_file_blocks image home in
      let within : header_place home m < length known =
      omega (
        arith,
        some,
        few,
        ap length so,
        length-take (most_slots home) (drop (2 + home.index_blocks) all),
        length-drop (2 + home.index_blocks) all,
      ) in
      none-some _ (sym none ∙ header_among-some home known m some ∙ slice_get-get_or known (header_place home m) 0 within)

  -- the header that one links to
  pub linked-there : (m : ℕ) → IsHeaderOf (table_of image home) 1 m
      → ((link_of ((table_of image home).header m)).number ≡ 0)
      ⊎ IsHeaderOf (table_of image home) 1 (link_of ((table_of image home).header m)).number
  linked-there m of = elim (good.whole.links m of) [ inl none ↦ inl none | inr goes ↦ inr (next of goes) ]
