-- From header to header of an index file: what the code keeps, and what the image says.
use Rattle.std.proofs.Common.{◌≡◌, ℕ, suc, ◌+◌, ◌-◌, ◌*◌, ◌<◌, ◌≤◌, Bool, false, IsTrue, List, [], ◌∷◌, ◌++◌, length, get_or, take, drop}
use Rattle.std.proofs.Common.{Option, Some, None, refl, sym, ap, subst, ◌∙◌, inl, inr, arith}
use Rattle.std.specs.List.{slice_get}
use Rattle.std.proofs.lemmas.Bool.{both_ways, cases_lt}
use Rattle.std.proofs.lemmas.List.{length-take, length-drop}
use Rattle.std.proofs.lemmas.Option.{slice_get-get_or, slice_get_past, slice_get_within}
use Rattle.f11_dev.specs.Disk.{Disk}
use Rattle.f11_dev.specs.Image.{Image, IsImage, image_block}
use Rattle.f11_dev.specs.Looked.{Looked}
use Rattle.f11_dev.proofs.LookedLemmas.{looked_more, looked_within}
use Rattle.f11_map.specs.header.Fields.{file_sequence}
use Rattle.f11_map.specs.header.Header.{IsHeader}
use Rattle.f11_home.specs.Home.{HomeFields, IsSound}
use Rattle.f11_home.specs.HomeBlock as HomeBlock
use Rattle.f11_map.specs.HeaderBlock.{segment_number, link_of, blocks_named}
use Rattle.f11_index.specs.Headers.{headers_of}
use Rattle.f11_index.specs.IndexFile.{index_of, index_file_blocks, blocks_on, bit_of_slot, header_place, header_among, headers_among}
use Rattle.f11_index.specs.IndexFile.{most_slots, slots, first_header_lbn}
use Rattle.f11_index.specs.Sound.{IsPlaced, IsIndexFile}
use Rattle.f11_index.specs.Table.{table_in, table_of, IsNext}
use Rattle.f11_index.specs.Walk.{lbn_due, first_place, headers_with, FitFrom, AddsPlaces, AddsTo, IsDue, MayStep, IsNextDue, Steps, Misfits}
use Rattle.f11_index.specs.Walk.{IsFileOne, Follows, Strays}
use Rattle.f11_index.specs.Calls.{LooksAlong}
use Rattle.f11_index.specs.declared.blocks.Blocks.{Blocks}
use Rattle.f11_index.specs.declared.walk.Due.{Due}
use Rattle.f11_map.specs.store.declared.files.FileId.{FileId}
use Rattle.f11_index.proofs.BitLemmas.{is_in_use-within, is_in_use-past}
use Rattle.f11_index.proofs.BlockLemmas.{Adds-none, Adds-append, Adds-few, FitFrom-none, FitFrom-append, FitFrom-back, fit-IsPlaced}
use Rattle.f11_index.proofs.PlaceLemmas.{slice_get-header}
use Rattle.f11_index.proofs.SegmentLemmas.{segment_number-byte}
use Rattle.f11_index.proofs.HeadersLemmas.{Comes, Comes-first, Comes-next, Comes-count, Comes-passed}
use Rattle.f11_index.proofs.WalkLemmas.{IsFirstAt, first-at, so_far, ends, goes_on, header_among-some, header_is, IsExpected, Arrives}
use Rattle.f11_index.proofs.WalkLemmas.{arrives-first, arrives-next, whole-last}

-- what was added from the start
pub Adds-start : (home : HomeFields) (lbns : List ℕ) {p : ℕ} {hs : List ℕ} → AddsPlaces home lbns 0 [] p hs
    → (p ≡ length lbns) × (hs ≡ headers_among home lbns)
Adds-start home lbns adds =
    let all : first_place home - 0 ≡ 2 + home.index_blocks = omega arith in
    (omega (arith, adds.places_are), adds.headers_are ∙ ap (λ (n : ℕ). take (most_slots home) (drop n lbns)) all)

-- what is known of the index bitmap's place
pub record HomeFacts (home : HomeFields) (blocks : ℕ) : Type 0 where
  pub some : 0 < home.index_blocks
  pub few : home.index_blocks ≤ 16
  pub within : home.index_lbn + home.index_blocks + 16 ≤ blocks

pub home_facts : (home : HomeFields) (blocks : ℕ) → IsSound home blocks → HomeFacts home blocks
home_facts home blocks sound =
    let size : home.index_blocks ≡ HomeBlock.index_blocks sound.block = ap (λ (h : HomeFields). h.index_blocks) sound.fields in
    let lbn : home.index_lbn ≡ HomeBlock.index_lbn sound.block = ap (λ (h : HomeFields). h.index_lbn) sound.fields in
    record {
      some = omega (arith, size, sound.valid.fields.some_bitmap);
      few = omega (arith, size, sound.valid.fields.small_bitmap);
      within = omega (arith, size, lbn, sound.valid.fields.index_within);
    }

-- one header was read, in an image
pub record StepsIn (image : Image) (honest : Bool) (home : HomeFields) (bitmap : List (List ℕ)) (due : Due) (segment : ℕ)
    (before after : Blocks) (next : Option Due) : Type 0 where
  pub header : List ℕ
  pub read : IsTrue honest → image_block image due.lbn ≡ header
  pub may : MayStep home bitmap (length image) due segment before header
  pub adds : AddsTo home (blocks_named header) before after
  pub few : after.places ≤ before.places + 32512
  pub next_is : IsNextDue after.headers.items (link_of header) next

pub steps_in : (old now new : Disk) (home : HomeFields) (bitmap : List (List ℕ)) (due : Due) (segment : ℕ) (before after : Blocks)
    (next : Option Due) (most : ℕ)
    → Looked old now most 0 → Steps home bitmap due segment before after next now new
    → StepsIn old.image old.honest home bitmap due segment before after next
steps_in old now new home bitmap due segment before after next most looked s = record {
  header = s.header;
  read = λ honest. ap (λ (image : Image). image_block image due.lbn) (sym looked.image) ∙ s.read (looked.honest ∙ honest);
  may = subst (λ (image : Image). MayStep home bitmap (length image) due segment before s.header) looked.image s.may;
  adds = s.adds;
  few = s.few;
  next_is = s.next_is;
}

module _ (image : Image) (honest : Bool) (home : HomeFields) (bitmap : List (List ℕ)) where
  -- The walk before the header of this segment.
  pub record Walking (due : Due) (segment : ℕ) (blocks : Blocks) : Type 0 where
    pub lbns : List ℕ
    pub adds : AddsPlaces home lbns 0 [] blocks.places blocks.headers.items
    pub fit : FitFrom home (length image) 0 lbns
    pub few : blocks.places ≤ 32512 * segment
    pub some : 0 < due.number
    pub number : due.number ≤ most_slots home
    pub within : due.lbn < length image
    pub walks : IsTrue honest → index_file_blocks image home ≡ blocks_on (256 - segment) image home lbns (Some due.lbn)
    pub arrives : IsTrue honest → IsFirstAt home (index_file_blocks image home) → Arrives image home due.number due.sequence segment due.lbn
    pub behind : List ℕ
    pub comes : IsTrue honest → Comes (table_of image home) 1 due.number segment behind

  pub walking-first : (due : Due) (blocks : Blocks) → IsSound home (length image) → blocks.places ≡ 0 → blocks.headers.items ≡ []
      → due ≡ record { lbn = first_header_lbn home; number = 1; sequence = 1 } → Walking due 0 blocks
  unfolding index_file_blocks
  walking-first due blocks sound none_places none_headers is = record {
    lbns = [];
    adds = subst (λ (p : ℕ). AddsPlaces home [] 0 [] p blocks.headers.items) (sym none_places)
        (subst (λ (h : List ℕ). AddsPlaces home [] 0 [] 0 h) (sym none_headers) (Adds-none home 0 [] (omega arith)));
    fit = FitFrom-none home (length image) 0;
    few = omega arith;
    some = omega (arith, ap (λ (d : Due). d.number) is);
    number = omega (arith, ap (λ (d : Due). d.number) is, some_slots);
    within = omega (arith, ap (λ (d : Due). d.lbn) is, facts.within);
    walks = λ _. ap (λ (d : Due). blocks_on 256 image home [] (Some d.lbn)) (sym is);
    arrives = λ _ at. subst (λ (d : Due). Arrives image home d.number d.sequence 0 d.lbn) (sym is) (arrives-first image home at some_slots);
    behind = [];
    comes = λ _. subst (λ (d : Due). Comes (table_of image home) 1 d.number 0 []) (sym is) (Comes-first (table_of image home) 1);
  }
    where
      facts : HomeFacts home (length image)
      facts = home_facts home (length image) sound

      some_slots : 0 < most_slots home
      some_slots = omega (arith, facts.some)

  -- The header at hand, as the image has it.
  module _ (due : Due) (segment : ℕ) (header : List ℕ) (here : Arrives image home due.number due.sequence segment due.lbn)
      (read : image_block image due.lbn ≡ header)
      (bits : bitmap ≡ (index_of image home).bitmap) where
    table_header : (table_of image home).header due.number ≡ header
    table_header = header_is image home due.number due.lbn here.some here.few here.place ∙ read

    in_slots : due.number ≤ slots (index_of image home)
    unfolding index_of
    in_slots =
        let within = slice_get_within (index_file_blocks image home) (header_place home due.number) due.lbn here.place in
        omega (
          arith,
          within,
          here.some,
          here.few,
          length-take (most_slots home) (drop (2 + home.index_blocks) (index_file_blocks image home)),
          length-drop (2 + home.index_blocks) (index_file_blocks image home),
        )

    -- what the code tests is what is expected
    pub due-expected : IsDue bitmap due segment header → IsExpected image home due.number due.sequence segment
    unfolding table_in
    due-expected is = record {
      live = record {
        in_use = is_in_use-within (index_of image home) due.number here.some in_slots
            ∙ ap (λ (b : List (List ℕ)). bit_of_slot b due.number) (sym bits) ∙ is.bit;
        valid = subst (λ (b : List ℕ). IsHeader b due.number) (sym table_header) is.valid;
      };
      sequence_is = ap file_sequence table_header ∙ is.sequence_is;
      segment_is = ap segment_number table_header ∙ is.segment_is;
    }

    pub expected-due : IsExpected image home due.number due.sequence segment → IsDue bitmap due segment header
    unfolding table_in
    expected-due is = record {
      bit = ap (λ (b : List (List ℕ)). bit_of_slot b due.number) bits
          ∙ sym (is_in_use-within (index_of image home) due.number here.some in_slots) ∙ is.live.in_use;
      valid = subst (λ (b : List ℕ). IsHeader b due.number) table_header is.live.valid;
      sequence_is = ap file_sequence (sym table_header) ∙ is.sequence_is;
      segment_is = ap segment_number (sym table_header) ∙ is.segment_is;
    }

  -- One header was read: these are the blocks then.
  module _ (due : Due) (segment : ℕ) (before after : Blocks) (w : Walking due segment before)
      (bits : IsTrue honest → bitmap ≡ (index_of image home).bitmap) (early : segment < 256) where
    abbrev more : List ℕ → List ℕ
    more header = w.lbns ++ blocks_named header

    walks_on : (header : List ℕ) → IsTrue honest → image_block image due.lbn ≡ header
        → index_file_blocks image home ≡ blocks_on (256 - (segment + 1)) image home (more header)
        (header_among home (more header) (link_of header).number)
    walks_on header is read =
        let left : 256 - segment ≡ suc (256 - (segment + 1)) = omega arith in
        w.walks is ∙ ap (λ (n : ℕ). blocks_on n image home w.lbns (Some due.lbn)) left
        ∙ goes_on (256 - (segment + 1)) image home w.lbns due.lbn header read

    adds_more : (header : List ℕ) → AddsTo home (blocks_named header) before after
        → AddsPlaces home (more header) 0 [] after.places after.headers.items
    adds_more header adds = Adds-append home w.lbns (blocks_named header) w.adds adds

    with_is : (header : List ℕ)
        → headers_with home (blocks_named header) before.places before.headers.items ≡ headers_among home (more header)
    with_is header =
        let adds : AddsPlaces home (blocks_named header) before.places before.headers.items (before.places + length (blocks_named header))
        (headers_with home (blocks_named header) before.places before.headers.items) =
        record { places_are = refl; headers_are = refl } in
        (Adds-start home (more header) (Adds-append home w.lbns (blocks_named header) w.adds adds)).1

    fit_more : (header : List ℕ) → FitFrom home (length image) before.places (blocks_named header)
        → FitFrom home (length image) 0 (more header)
    fit_more header fit = FitFrom-append home (length image) 0 w.lbns (blocks_named header) before.places w.adds.places_are w.fit fit

    -- the header that it links to is among them
    found : (header : List ℕ) (next : Due) → AddsTo home (blocks_named header) before after
        → IsNextDue after.headers.items (link_of header) (Some next)
        → slice_get (more header) (header_place home (link_of header).number) ≡ Some next.lbn
    found header next adds (some, (few, is)) =
        let kept = (Adds-start home (more header) (adds_more header adds)).1 in
        let place : 2 + home.index_blocks + ((link_of header).number - 1) ≡ header_place home (link_of header).number = omega arith in
        let inside : (link_of header).number - 1 < length (headers_among home (more header)) = omega (arith, ap length kept) in
        let there : next.lbn ≡ get_or (headers_among home (more header)) ((link_of header).number - 1) 0 =
        ap (λ (d : Due). d.lbn) is ∙ ap (λ (h : List ℕ). get_or h ((link_of header).number - 1) 0) kept in
        sym (ap (slice_get (more header)) place)
        ∙ slice_get-header (more header) (2 + home.index_blocks) (most_slots home) ((link_of header).number - 1) next.lbn 0 inside there

    -- so header 1 is where it should be
    first_is : (header : List ℕ) (next : Due) → IsTrue honest → image_block image due.lbn ≡ header
        → AddsTo home (blocks_named header) before after
        → IsNextDue after.headers.items (link_of header) (Some next) → FitFrom home (length image) before.places (blocks_named header)
        → IsFirstAt home (index_file_blocks image home)
    first_is header next is read adds (some, (few, same)) fit =
        let kept = (Adds-start home (more header) (adds_more header adds)).1 in
        let inside : header_place home 1 < length (more header) =
        omega (
          arith,
          some,
          few,
          ap length kept,
          length-take (most_slots home) (drop (2 + home.index_blocks) (more header)),
          length-drop (2 + home.index_blocks) (more header),
        ) in
        let at = slice_get-get_or (more header) (header_place home 1) 0 inside in
        let place : 0 + header_place home 1 ≡ suc (suc home.index_blocks) = omega arith in
        let due_at = ((fit_more header fit).each (header_place home 1) _ at).due (omega arith) ∙ ap (lbn_due home) place in
        ap (λ (xs : List ℕ). slice_get xs (header_place home 1)) (walks_on header is read)
        ∙ so_far (256 - (segment + 1)) image home (more header) (header_among home (more header) (link_of header).number)
        (header_place home 1) _ at
        ∙ ap Some due_at

    pub walking-next : (next : Due) → StepsIn image honest home bitmap due segment before after (Some next)
        → Walking next (segment + 1) after
    walking-next next s =
        let at = found s.header next s.adds s.next_is in
        let fit = fit_more s.header s.may.fit in
        let is = s.next_is.1.1 in
        let number : next.number ≡ (link_of s.header).number = ap (λ (d : Due). d.number) is in
        let few : (link_of s.header).number ≤ most_slots home =
        omega (arith, s.next_is.1.0, Adds-few home (more s.header) (adds_more s.header s.adds)) in
        record {
          lbns = more s.header;
          adds = adds_more s.header s.adds;
          fit = fit;
          few = omega (arith, w.few, s.few);
          some = omega (arith, number, s.next_is.0);
          number = omega (arith, number, few);
          within = (fit.each (header_place home (link_of s.header).number) next.lbn at).within;
          walks = λ honest_is.
              walks_on s.header honest_is (s.read honest_is)
              ∙ ap (blocks_on (256 - (segment + 1)) image home (more s.header))
              (header_among-some home (more s.header) (link_of s.header).number s.next_is.0 ∙ at);
          behind = w.behind ++ due.number ∷ [];
          comes = λ honest_is.
              let here = w.arrives honest_is (first_is s.header next honest_is (s.read honest_is) s.adds s.next_is s.may.fit) in
              let same = table_header due segment s.header here (s.read honest_is) (bits honest_is) in
              let link_is = ap (λ (b : List ℕ). (link_of b).number) same in
              Comes-next (table_of image home) 1 due.number segment w.behind (w.comes honest_is) w.some early next.number
              (link_is ∙ sym number);
          arrives = λ honest_is at_first.
              let here = w.arrives honest_is at_first in
              let expected = due-expected due segment s.header here (s.read honest_is) (bits honest_is) s.may.is_due in
              let same = table_header due segment s.header here (s.read honest_is) (bits honest_is) in
              let link_is : link_of ((table_of image home).header due.number) ≡ link_of s.header = ap link_of same in
              let all_at : slice_get (index_file_blocks image home) (header_place home (link_of s.header).number) ≡ Some next.lbn =
              ap (λ (xs : List ℕ). slice_get xs (header_place home (link_of s.header).number))
              (walks_on s.header honest_is (s.read honest_is))
              ∙ so_far (256 - (segment + 1)) image home (more s.header) (header_among home (more s.header) (link_of s.header).number)
              (header_place home (link_of s.header).number) next.lbn at in
              let number_is = ap (λ (i : FileId). i.number) link_is in
              let goes : Arrives image home (link_of s.header).number (link_of s.header).sequence (segment + 1) next.lbn =
              subst (λ (to : FileId). Arrives image home to.number to.sequence (segment + 1) next.lbn) link_is
              (arrives-next image home due.number due.sequence segment due.lbn next.lbn here expected
              (λ none. omega (arith, none, number_is, s.next_is.0)) (omega (arith, number_is, few))
              (ap (λ (n : ℕ). slice_get (index_file_blocks image home) (header_place home n)) number_is ∙ all_at)) in
              subst (λ (n : ℕ). Arrives image home n next.sequence (segment + 1) next.lbn) (sym number)
              (subst (λ (q : ℕ). Arrives image home (link_of s.header).number q (segment + 1) next.lbn)
              (sym (ap (λ (d : Due). d.sequence) is)) goes);
        }

    -- that header was the last
    none_after : (header : List ℕ) → (link_of header).number ≡ 0 → header_among home (more header) (link_of header).number ≡ None
    none_after header none = ap (header_among home (more header)) none

    -- All headers were read.
    pub record Walked (blocks : Blocks) : Type 0 where
      pub lbns : List ℕ
      pub adds : AddsPlaces home lbns 0 [] blocks.places blocks.headers.items
      pub fit : FitFrom home (length image) 0 lbns
      pub is_file : IsTrue honest → lbns ≡ index_file_blocks image home
      pub whole : IsTrue honest → IsPlaced home lbns → IsFileOne image home

    pub walked : StepsIn image honest home bitmap due segment before after None → Walked after
    walked s = record {
      lbns = more s.header;
      adds = adds_more s.header s.adds;
      fit = fit_more s.header s.may.fit;
      is_file = same;
      whole = λ honest_is placed.
          let here = w.arrives honest_is (subst (IsFirstAt home) (same honest_is) (first-at home (more s.header) placed)) in
          let expected = due-expected due segment s.header here (s.read honest_is) (bits honest_is) s.may.is_due in
          let none : (link_of ((table_of image home).header due.number)).number ≡ 0 =
          ap (λ (b : List ℕ). (link_of b).number) (table_header due segment s.header here (s.read honest_is) (bits honest_is))
          ∙ s.next_is in
          record {
            whole = whole-last image home due.number due.sequence segment due.lbn here expected none;
            sequence = here.last expected;
          };
    }
      where
        same : IsTrue honest → more s.header ≡ index_file_blocks image home
        same honest_is = sym (
            walks_on s.header honest_is (s.read honest_is)
            ∙ ap (blocks_on (256 - (segment + 1)) image home (more s.header)) (none_after s.header s.next_is)
            ∙ ends (256 - (segment + 1)) image home (more s.header))

    -- Where the index file is as it should be the walk goes on.
    module _ (honest_is : IsTrue honest) (good : IsIndexFile image home) where
      abbrev header : List ℕ
      header = image_block image due.lbn

      fit_all : FitFrom home (length image) 0 (index_file_blocks image home)
      fit_all = fit-IsPlaced home (length image) (index_file_blocks image home) good.within good.placed

      front : FitFrom home (length image) 0 (more header)
      front = record {
        each = λ i lbn at. fit_all.each i lbn (
            ap (λ (xs : List ℕ). slice_get xs i) (walks_on header honest_is refl)
            ∙ so_far (256 - (segment + 1)) image home (more header) (header_among home (more header) (link_of header).number) i lbn at);
      }

      here : Arrives image home due.number due.sequence segment due.lbn
      here = w.arrives honest_is (first-at home (index_file_blocks image home) good.placed)

      expected : IsExpected image home due.number due.sequence segment
      expected = here.due good

      table_link : link_of ((table_of image home).header due.number) ≡ link_of header
      table_link = ap link_of (table_header due segment header here refl (bits honest_is))

      -- a link to a slot in use is to a header that is known by now
      known : (m : ℕ) → (link_of header).number ≡ m → 0 < m → m ≤ slots (index_of image home)
          → m ≤ length (headers_among home (more header))
      unfolding index_of
      known m is some few = elim (cases_lt (header_place home m) (length (more header))) [
        | inl within ↦ omega (
          arith,
          few,
          within,
          some,
          length-take (most_slots home) (drop (2 + home.index_blocks) (index_file_blocks image home)),
          length-take (most_slots home) (drop (2 + home.index_blocks) (more header)),
          length-drop (2 + home.index_blocks) (more header),
        )
        | inr past ↦
            let none : header_among home (more header) (link_of header).number ≡ None =
            ap (header_among home (more header)) is ∙ header_among-some home (more header) m some
            ∙ slice_get_past (more header) (header_place home m) past in
            let all : index_file_blocks image home ≡ more header =
            walks_on header honest_is refl ∙ ap (blocks_on (256 - (segment + 1)) image home (more header)) none
            ∙ ends (256 - (segment + 1)) image home (more header) in
            omega (arith, few, ap (λ (xs : List ℕ). length (headers_among home xs)) all)
      ]

      in_slots-next : (m : ℕ) → IsNext (table_of image home) due.number m → m ≤ slots (index_of image home)
      unfolding table_in
      in_slots-next m goes = elim (cases_lt (slots (index_of image home)) m) [
        | inl past ↦ absurd (both_ways false refl (sym (is_in_use-past (index_of image home) m past) ∙ goes.to.in_use))
        | inr within ↦ within
      ]

      linked : (link_of header).number ≤ length (headers_among home (more header))
      linked = elim (good.whole.links due.number (here.is_header expected)) [
        | inl none ↦ omega (arith, none, ap (λ (i : FileId). i.number) table_link)
        | inr goes ↦
            let is : (link_of header).number ≡ (link_of ((table_of image home).header due.number)).number =
            ap (λ (i : FileId). i.number) (sym table_link) in
            elim (cases_lt 0 (link_of header).number) [
              | inl some ↦ known (link_of header).number refl some
                  (omega (arith, is, in_slots-next (link_of ((table_of image home).header due.number)).number goes))
              | inr none ↦ omega arith
            ]
      ]

      pub may : MayStep home bitmap (length image) due segment before (image_block image due.lbn)
      may =
          record {
            is_due = expected-due due segment header here refl (bits honest_is) expected;
            fit = FitFrom-back home (length image) 0 w.lbns (blocks_named header) before.places w.adds.places_are front;
            linked = omega (arith, linked, ap length (with_is header));
          }

  -- A file has no segment 256: its number is a byte.
  pub walking-out : (due : Due) (blocks : Blocks) → Walking due 256 blocks → IsImage image → IsTrue honest → ¬ IsIndexFile image home
  walking-out due blocks w is_image honest_is good =
      let here = w.arrives honest_is (first-at home (index_file_blocks image home) good.placed) in
      let small = segment_number-byte image due.lbn is_image in
      let number = ap segment_number (header_is image home due.number due.lbn here.some here.few here.place) ∙ refl in
      absurd (omega (arith, small, number, (here.due good).segment_is))

-- One header more was read.
pub looks : (old now new : Disk) (home : HomeFields) (bitmap : List (List ℕ)) (due : Due) (segment : ℕ) (blocks : Blocks) (faults : ℕ)
    → Looked old now segment 0 → Walking old.image old.honest home bitmap due segment blocks → segment < 256 → Looked now new 1 faults
    → LooksAlong home 0 old new faults
looks old now new home bitmap due segment blocks faults looked w early one = record {
  headers = segment + 1;
  few = omega (arith, early);
  each_once = λ honest. Comes-count (table_of old.image home) 1 due.number segment w.behind (w.comes honest) w.some early;
  looked = looked_within (looked_more looked one) (omega arith);
}

-- All that there can be were read.
pub looks-out : (old now : Disk) (home : HomeFields) (bitmap : List (List ℕ)) (due : Due) (blocks : Blocks)
    → Looked old now 256 0 → Walking old.image old.honest home bitmap due 256 blocks → LooksAlong home 0 old now 0
looks-out old now home bitmap due blocks looked w = record {
  headers = 256;
  few = omega arith;
  each_once = λ honest. Comes-passed (w.comes honest);
  looked = looked_within looked (omega arith);
}

-- Other blocks were read before.
pub looks-behind : (old now new : Disk) (home : HomeFields) (others faults : ℕ) → Looked old now others 0 → LooksAlong home 0 now new faults
    → LooksAlong home others old new faults
looks-behind old now new home others faults looked along = record {
  headers = along.headers;
  few = along.few;
  each_once = λ honest. subst (λ (image : Image). along.headers ≤ length (headers_of (table_of image home) 1)) looked.image
      (along.each_once (looked.honest ∙ honest));
  looked = looked_within (looked_more looked along.looked) (omega arith);
}

-- A header that the walk may not go on from shows that the index file isn't as it should be.
pub strays_from : (old now new : Disk) (home : HomeFields) (bitmap : List (List ℕ)) (due : Due) (segment : ℕ) (before : Blocks)
    → Looked old now segment 0 → Walking old.image old.honest home bitmap due segment before
    → (IsTrue old.honest → bitmap ≡ (index_of old.image home).bitmap) → segment < 256 → Misfits home bitmap due segment before now new
    → Strays home old new
strays_from old now new home bitmap due segment before looked w bits early m = record {
  misplaced = λ honest good.
      m.misfits (looked.honest ∙ honest)
      (subst (λ (image : Image). MayStep home bitmap (length image) due segment before (image_block image due.lbn)) (sym looked.image)
      (may old.image old.honest home bitmap due segment before before w bits early honest good));
  looked = looks old now new home bitmap due segment before 0 looked w early m.looked;
}

-- Its last header was read.
pub follows_from : (old now new : Disk) (home : HomeFields) (bitmap : List (List ℕ)) (due : Due) (segment : ℕ) (before after : Blocks)
    → Looked old now segment 0 → Walking old.image old.honest home bitmap due segment before
    → (IsTrue old.honest → bitmap ≡ (index_of old.image home).bitmap) → segment < 256
    → Steps home bitmap due segment before after None now new → Follows home after old new
follows_from old now new home bitmap due segment before after looked w bits early s =
    let all = walked old.image old.honest home bitmap due segment before after w bits early
    (steps_in old now new home bitmap due segment before after None segment looked s) in
    record {
      lbns = all.lbns;
      adds = all.adds;
      fit = all.fit;
      is_file = all.is_file;
      whole = all.whole;
      looked = looks old now new home bitmap due segment before 0 looked w early s.looked;
    }
