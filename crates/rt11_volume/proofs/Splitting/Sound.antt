-- An image of which a segment was split has no fault where it had none.
use Rattle.std.proofs.Common.{◌≡◌, ◌≢◌, inl, inr, ℕ, zero, suc, ◌+◌, ◌-◌, ◌*◌, ◌<◌, ◌≤◌, true, false, min, List, [], ◌∷◌, ◌++◌, length}
use Rattle.std.proofs.Common.{get_or, map, take, drop, sum_by, append_assoc, Some, sym, ◌∙◌, ap, subst, arith}
use Rattle.std.specs.List.{All, slice_get, take-map, drop-map}
use Rattle.std.proofs.lemmas.Bool.{cases_eq, cases_lt}
use Rattle.std.proofs.lemmas.List.{length-take, length-drop, get_or-take, get_or-drop, take_more, map-append}
use Rattle.std.proofs.lemmas.List.Edits.{length-insert, get_or-insert_below, get_or-insert_at, get_or-insert_above}
use Rattle.std.proofs.lemmas.List.Sums.{sum_by-take-le}
use Rattle.std.proofs.lemmas.Option.{slice_get_within, slice_get-get_or, get_or_from_slice_get}
use Rattle.f11_dev.specs.Image.{Image}
use Rattle.rt11_volume.specs.Directory.{count_of, next_of, visited, segment_of, end_before, is_extra_wrong}
use Rattle.rt11_volume.specs.Entry.{area_length, status, is_one_kind}
use Rattle.rt11_volume.specs.Segment.{Segment, segment_words, extra_bytes, highest_segment, HasEnd, area_start, areas_end}
use Rattle.rt11_volume.proofs.BlockLemmas.{map-agree}
use Rattle.rt11_volume.proofs.Rewriting.Rewrite.{areas-end-low}
use Rattle.rt11_volume.proofs.Verifying.Sound.{IsSoundImage, IsSoundAt}
use Rattle.rt11_volume.proofs.Splitting.Walk.{IsChain, SplitsLinks, chain-visited, split-chain, split_visited}
use Rattle.rt11_volume.proofs.Walking.Walk.{visited-distinct}

-- What holds of the areas of a segment, on an image of so many blocks.
pub record AreSoundAreas (image : Image) (blocks high k : ℕ) : Type 0 where
  pub ends : HasEnd (extra_bytes (segment_words image k)) (segment_words image k)
  pub low : k ≤ high
  pub one_kind : (i : ℕ) (e : List ℕ) → slice_get (segment_of image k).entries i ≡ Some e → is_one_kind (status e) ≡ true
  pub within : (i : ℕ) (e : List ℕ) → slice_get (segment_of image k).entries i ≡ Some e
      → area_start (segment_of image k) (i + 1) ≤ min blocks 65535

chain-begins : (image : Image) (ks : List ℕ) → visited image ≡ ks → 6 + 2 * count_of image ≤ (segment_of image (get_or ks 0 0)).first
    → ((j : ℕ) → j + 1 < length ks → areas_end (segment_of image (get_or ks j 0)) ≤ (segment_of image (get_or ks (j + 1) 0)).first)
    → (place : ℕ) → place < length ks
    → end_before image place ≤ (segment_of image (get_or ks place 0)).first
unfolding end_before
chain-begins image ks visits first then zero inside = first
chain-begins image ks visits first then (suc place) inside =
    let step = then place (omega (arith, inside)) in
    let here = ap (λ (xs : List ℕ). areas_end (segment_of image (get_or xs place 0))) visits in
    let p : place + 1 ≡ suc place = omega arith in
    let there = ap (λ n. (segment_of image (get_or ks n 0)).first) p in
    omega (arith, step, here, there)

-- a chain whose areas are sound, each behind the ones before it
pub chain-sound : (image : Image) (ks : List ℕ) → IsChain image ks → 6 + 2 * count_of image ≤ length image → count_of image ≤ 31
    → highest_segment (segment_words image 1) ≤ count_of image
    → ((j : ℕ) → j < length ks → AreSoundAreas image (length image) (highest_segment (segment_words image 1)) (get_or ks j 0))
    → 6 + 2 * count_of image ≤ (segment_of image (get_or ks 0 0)).first
    → ((j : ℕ) → j + 1 < length ks → areas_end (segment_of image (get_or ks j 0)) ≤ (segment_of image (get_or ks (j + 1) 0)).first)
    → IsSoundImage image
chain-sound image ks chain within few high areas first then = record {
  sized = record { some = omega (arith, chain.low 0 chain.some, chain.positive 0 chain.some); few = few; within = within };
  highest = high;
  each = λ place k at. each place k (ap (λ (xs : List ℕ). slice_get xs place) (sym visits) ∙ at);
}
  where
    visits : visited image ≡ ks
    visits = chain-visited image ks chain

    each : (place k : ℕ) → slice_get ks place ≡ Some k → IsSoundAt image place k
    each place k at =
        let inside : place < length ks = slice_get_within ks place k at in
        let is : get_or ks place 0 ≡ k = get_or_from_slice_get ks place k 0 at in
        let area : AreSoundAreas image (length image) (highest_segment (segment_words image 1)) k =
        subst (AreSoundAreas image (length image) (highest_segment (segment_words image 1))) is (areas place inside) in
        record {
          right = subst (λ n. is_extra_wrong image n ≡ false) is (chain.right place inside);
          link_in = link_in place k inside is;
          link_on = λ earlier order back.
              link_on place k inside is earlier order (ap (λ (xs : List ℕ). slice_get xs earlier) (sym visits) ∙ back);
          ends = area.ends;
          begins = subst (λ n. end_before image place ≤ (segment_of image n).first) is
              (chain-begins image ks visits first then place inside);
          low = area.low;
          one_kind = area.one_kind;
          within = area.within;
        }
      where
        last_next : (place k : ℕ) → place < length ks → get_or ks place 0 ≡ k → length ks ≤ place + 1 → next_of image k ≡ 0
        last_next place k inside is end =
            ap (next_of image) (sym is ∙ ap (λ n. get_or ks n 0) (let p : place ≡ length ks - 1 = omega (arith, inside, end) in p))
            ∙ chain.last

        link_in : (place k : ℕ) → place < length ks → get_or ks place 0 ≡ k → next_of image k ≤ count_of image
        link_in place k inside is = elim (cases_lt (place + 1) (length ks)) [
          | inl more ↦ omega (arith, ap (next_of image) (sym is) ∙ chain.next place more, chain.low (place + 1) more)
          | inr end ↦ omega (arith, last_next place k inside is end)
        ]

        link_on : (place k : ℕ) → place < length ks → get_or ks place 0 ≡ k → (earlier : ℕ) → earlier ≤ place
            → slice_get ks earlier ≡ Some (next_of image k) → ⊥
        link_on place k inside is earlier order back = elim (cases_lt (place + 1) (length ks)) [
          | inl more ↦ chain.apart earlier (place + 1) (omega (arith, order)) more
              (get_or_from_slice_get ks earlier (next_of image k) 0 back ∙ ap (next_of image) (sym is) ∙ chain.next place more)
          | inr end ↦ omega (
            arith,
            get_or_from_slice_get ks earlier (next_of image k) 0 back,
            last_next place k inside is end,
            chain.positive earlier (slice_get_within ks earlier (next_of image k) back),
          )
        ]

-- Segment k was split: its entries stand in two, the second in a new segment whose areas begin where those of the first end.
pub record SplitsAreas (old new : Image) (place k number start : ℕ) (front back : List (List ℕ)) : Type 0 where
  pub links : SplitsLinks old new place k number
  pub size : length new ≡ length old
  pub highest : highest_segment (segment_words new 1) ≡ number
  pub front_is : segment_of new k ≡ record { number = k; first = (segment_of old k).first; entries = front }
  pub back_is : segment_of new number ≡ record { number = number; first = start; entries = back }
  pub others : (j : ℕ) → j ≢ k → j ≢ number → segment_of new j ≡ segment_of old j
  pub ends_front : HasEnd (extra_bytes (segment_words new k)) (segment_words new k)
  pub ends_back : HasEnd (extra_bytes (segment_words new number)) (segment_words new number)
  pub ends : (j : ℕ) → j ≢ k → j ≢ number → HasEnd (extra_bytes (segment_words old j)) (segment_words old j)
      → HasEnd (extra_bytes (segment_words new j)) (segment_words new j)
  pub start_is : start ≡ (segment_of old k).first + sum_by area_length front
  pub sum : sum_by area_length front + sum_by area_length back ≡ sum_by area_length (segment_of old k).entries
  pub some : 0 < length (segment_of old k).entries
  pub kinds_front : All (λ e. is_one_kind (status e) ≡ true) front
  pub kinds_back : All (λ e. is_one_kind (status e) ≡ true) back

-- areas in a row
row-areas : (image : Image) (blocks high k number first bound : ℕ) (es : List (List ℕ))
    → segment_of image k ≡ record { number = number; first = first; entries = es }
    → HasEnd (extra_bytes (segment_words image k)) (segment_words image k) → k ≤ high → All (λ e. is_one_kind (status e) ≡ true) es
    → first + sum_by area_length es ≤ bound → bound ≤ min blocks 65535 → AreSoundAreas image blocks high k
row-areas image blocks high k number first bound es is ends low kinds within few = record {
  ends = ends;
  low = low;
  one_kind = λ i e entry.
      let in_it : slice_get es i ≡ Some e = ap (λ (s : Segment). slice_get s.entries i) (sym is) ∙ entry in
      ap (λ (x : List ℕ). is_one_kind (status x)) (sym (get_or_from_slice_get es i e e in_it)) ∙ kinds i e (slice_get_within es i e in_it);
  within = λ i e entry. omega (arith, ap (λ (s : Segment). area_start s (i + 1)) is, sum_by-take-le area_length es (i + 1), within, few);
}

-- the areas of a segment begin where those of the one before end, or behind
row-behind : (image : Image) (place : ℕ) → IsSoundImage image → place + 1 < length (visited image)
    → areas_end (segment_of image (get_or (visited image) place 0)) ≤ (segment_of image (get_or (visited image) (place + 1) 0)).first
unfolding end_before
row-behind image place sound more =
    let p : place + 1 ≡ suc place = omega arith in
    let begins = (sound.each (suc place) (get_or (visited image) (suc place) 0)
    (slice_get-get_or (visited image) (suc place) 0 (omega (arith, more)))).begins in
    omega (arith, begins, ap (λ n. (segment_of image (get_or (visited image) n 0)).first) p)

row-first : (image : Image) → IsSoundImage image → 0 < length (visited image)
    → 6 + 2 * count_of image ≤ (segment_of image (get_or (visited image) 0 0)).first
unfolding end_before
row-first image sound some = (sound.each 0 (get_or (visited image) 0 0) (slice_get-get_or (visited image) 0 0 some)).begins

-- the image has no fault
pub split-sound : (old new : Image) (place k number start : ℕ) (front back : List (List ℕ)) → IsSoundImage old
    → SplitsAreas old new place k number start front back → IsSoundImage new
split-sound old new place k number start front back sound is =
    chain-sound new L (split-chain old new place k number sound is.links) (omega (arith, sound.sized.within, is.links.count, is.size))
    (omega (arith, sound.sized.few, is.links.count))
    (omega (arith, is.highest, is.links.room, is.links.count)) areas
    (omega (
      arith,
      row-first old sound (omega (arith, inside_at)),
      first_same 0 (omega (arith, inside_at)),
      ap (λ n. (segment_of new n).first) (before 0 (omega arith)),
      is.links.count,
    )) then
  where
    L : List ℕ
    L = split_visited old place number

    V : ℕ → ℕ
    V j = get_or (visited old) j 0

    inside_at : place < length (visited old)
    inside_at = slice_get_within (visited old) place k is.links.at

    here : (j : ℕ) → j < length (visited old) → slice_get (visited old) j ≡ Some (V j)
    here j inside = slice_get-get_or (visited old) j 0 inside

    k_is : V place ≡ k
    k_is = get_or_from_slice_get (visited old) place k 0 is.links.at

    size : length L ≡ length (visited old) + 1
    size = length-insert (visited old) (place + 1) number (omega (arith, inside_at))

    fresh : (j : ℕ) → j < length (visited old) → V j ≢ number
    fresh j inside same = omega (arith, same, is.links.number_is, (sound.each j (V j) (here j inside)).low)

    other_than_k : (j : ℕ) → j < length (visited old) → j ≢ place → V j ≢ k
    other_than_k j inside apart same = elim (cases_lt j place) [
      | inl early ↦ visited-distinct old j place k sound early (here j inside ∙ ap Some same) is.links.at
      | inr late ↦ visited-distinct old place j k sound (omega (arith, late, apart)) is.links.at (here j inside ∙ ap Some same)
    ]

    before : (j : ℕ) → j < place + 1 → get_or L j 0 ≡ V j
    before j early = get_or-insert_below (visited old) (place + 1) number 0 j early (omega (arith, inside_at))

    middle : get_or L (place + 1) 0 ≡ number
    middle = get_or-insert_at (visited old) (place + 1) number 0 (omega (arith, inside_at))

    behind : (j : ℕ) → place + 1 ≤ j → get_or L (j + 1) 0 ≡ V j
    behind j late = get_or-insert_above (visited old) (place + 1) number 0 j late (omega (arith, inside_at))

    first_same : (j : ℕ) → j < length (visited old) → (segment_of new (V j)).first ≡ (segment_of old (V j)).first
    first_same j inside = elim (cases_eq (V j) k) [
      | inl same ↦ ap (λ n. (segment_of new n).first) same ∙ (λ t. (is.front_is t).first) ∙ ap (λ n. (segment_of old n).first) (sym same)
      | inr apart ↦ λ t. (is.others (V j) apart (fresh j inside) t).first
    ]

    end_same : (j : ℕ) → j < length (visited old) → j ≢ place → areas_end (segment_of new (V j)) ≡ areas_end (segment_of old (V j))
    end_same j inside apart = ap areas_end (is.others (V j) (other_than_k j inside apart) (fresh j inside))

    whole : areas_end (segment_of old k) ≤ min (length old) 65535
    whole = areas-end-low old place k sound is.links.at is.some

    end_front : areas_end (segment_of new k) ≡ start
    end_front = ap areas_end is.front_is ∙ sym is.start_is

    end_back : areas_end (segment_of new number) ≡ areas_end (segment_of old k)
    end_back = ap areas_end is.back_is ∙ omega (arith, is.start_is, is.sum)

    olds : (i : ℕ) → i < length (visited old) → AreSoundAreas new (length new) (highest_segment (segment_words new 1)) (V i)
    olds i inside = elim (cases_eq (V i) k) [
      | inl same ↦
          subst (AreSoundAreas new (length new) (highest_segment (segment_words new 1))) (sym same)
          (row-areas new (length new) (highest_segment (segment_words new 1)) k k (segment_of old k).first (areas_end (segment_of old k))
          front is.front_is is.ends_front
          (omega (arith, (sound.each place k is.links.at).low, is.highest, is.links.number_is)) is.kinds_front (omega (arith, is.sum))
          (omega (arith, whole, is.size)))
      | inr apart ↦
          let at = sound.each i (V i) (here i inside) in
          let seg = is.others (V i) apart (fresh i inside) in
          record {
            ends = is.ends (V i) apart (fresh i inside) at.ends;
            low = omega (arith, at.low, is.highest, is.links.number_is);
            one_kind = λ j e entry. at.one_kind j e (ap (λ (s : Segment). slice_get s.entries j) (sym seg) ∙ entry);
            within = λ j e entry. omega (
              arith,
              at.within j e (ap (λ (s : Segment). slice_get s.entries j) (sym seg) ∙ entry),
              ap (λ (s : Segment). area_start s (j + 1)) seg,
              is.size,
            );
          }
    ]

    areas : (j : ℕ) → j < length L → AreSoundAreas new (length new) (highest_segment (segment_words new 1)) (get_or L j 0)
    areas j within = elim (cases_lt j (place + 1)) [
      | inl early ↦ subst (AreSoundAreas new (length new) (highest_segment (segment_words new 1))) (sym (before j early))
          (olds j (omega (arith, early, inside_at)))
      | inr late ↦ elim (cases_eq j (place + 1)) [
        | inl same ↦
            subst (AreSoundAreas new (length new) (highest_segment (segment_words new 1))) (sym (ap (λ n. get_or L n 0) same ∙ middle))
            (row-areas new (length new) (highest_segment (segment_words new 1)) number number start (areas_end (segment_of old k)) back
            is.back_is is.ends_back (omega (arith, is.highest)) is.kinds_back
            (omega (arith, is.start_is, is.sum)) (omega (arith, whole, is.size)))
        | inr apart ↦
            let there : j - 1 + 1 ≡ j = omega (arith, late, apart) in
            subst (AreSoundAreas new (length new) (highest_segment (segment_words new 1)))
            (sym (ap (λ n. get_or L n 0) (sym there) ∙ behind (j - 1) (omega (arith, late, apart))))
            (olds (j - 1) (omega (arith, within, size, late, apart)))
      ]
    ]

    then : (j : ℕ) → j + 1 < length L → areas_end (segment_of new (get_or L j 0)) ≤ (segment_of new (get_or L (j + 1) 0)).first
    then j more = elim (cases_lt j place) [
      | inl early ↦
          let inside : j + 1 < length (visited old) = omega (arith, early, inside_at) in
          omega (
            arith,
            row-behind old j sound inside,
            ap (λ n. areas_end (segment_of new n)) (before j (omega (arith, early))),
            ap (λ n. (segment_of new n).first) (before (j + 1) (omega (arith, early))),
            end_same j (omega (arith, inside)) (λ s. omega (arith, s, early)),
            first_same (j + 1) inside,
          )
      | inr late ↦ elim (cases_eq j place) [
        | inl same ↦
            let p : j + 1 ≡ place + 1 = omega (arith, same) in
            omega (
              arith,
              ap (λ n. areas_end (segment_of new n)) (before j (omega (arith, same)) ∙ ap V same ∙ k_is),
              end_front,
              ap (λ n. (segment_of new n).first) (ap (λ n. get_or L n 0) p ∙ middle),
              (let b : (segment_of new number).first ≡ start = λ t. (is.back_is t).first in b),
            )
        | inr apart ↦ elim (cases_eq j (place + 1)) [
          | inl same ↦
              let inside : place + 1 < length (visited old) = omega (arith, more, size, same) in
              let p : j + 1 ≡ place + 1 + 1 = omega (arith, same) in
              omega (
                arith,
                ap (λ n. areas_end (segment_of new n)) (ap (λ n. get_or L n 0) same ∙ middle),
                end_back,
                ap (λ n. areas_end (segment_of old n)) k_is,
                row-behind old place sound inside,
                ap (λ n. (segment_of new n).first) (ap (λ n. get_or L n 0) p ∙ behind (place + 1) (omega arith)),
                first_same (place + 1) inside,
              )
          | inr far ↦
              let i : ℕ = j - 1 in
              let there : i + 1 ≡ j = omega (arith, late, apart) in
              let inside : i + 1 < length (visited old) = omega (arith, more, size, there) in
              omega (
                arith,
                row-behind old i sound inside,
                ap (λ n. areas_end (segment_of new n)) (ap (λ n. get_or L n 0) (sym there) ∙ behind i (omega (arith, late, apart, far))),
                ap (λ n. (segment_of new n).first)
                    (ap (λ n. get_or L (n + 1) 0) (sym there) ∙ behind (i + 1) (omega (arith, late, apart, far))),
                end_same i (omega (arith, inside)) (λ s. omega (arith, s, there, far)),
                first_same (i + 1) inside,
              )
        ]
      ]
    ]

-- the segments then: the two where there was one
pub split-segments : (old new : Image) (place k number start : ℕ) (front back : List (List ℕ)) → IsSoundImage old
    → SplitsAreas old new place k number start front back
    → map (segment_of new) (visited new)
    ≡ take place (map (segment_of old) (visited old))
    ++ (record { number = k; first = (segment_of old k).first; entries = front } ∷ record { number = number; first = start; entries = back }
    ∷ drop (place + 1) (map (segment_of old) (visited old)))
split-segments old new place k number start front back sound is =
    ap (map (segment_of new)) (chain-visited new (split_visited old place number) (split-chain old new place k number sound is.links))
    ∙ map-append (segment_of new) (take (place + 1) V) (number ∷ drop (place + 1) V)
    ∙ (λ t. map (segment_of new) (upto t) ++ (is.back_is t ∷ ends t))
    ∙ ap (λ xs. xs ++ (record { number = number; first = start; entries = back } ∷ drop (place + 1) (map (segment_of old) V)))
    (map-append (segment_of new) (take place V) (k ∷ []))
    ∙ append_assoc (map (segment_of new) (take place V)) (segment_of new k ∷ [])
    (record { number = number; first = start; entries = back } ∷ drop (place + 1) (map (segment_of old) V))
    ∙ (λ t. begins t ++ (is.front_is t ∷ record { number = number; first = start; entries = back } ∷ drop (place + 1)
    (map (segment_of old) V)))
  where
    V : List ℕ
    V = visited old

    inside_at : place < length (visited old)
    inside_at = slice_get_within (visited old) place k is.links.at

    upto : take (place + 1) (visited old) ≡ take place (visited old) ++ k ∷ []
    upto =
        take_more (visited old) place 0 inside_at
        ∙ ap (λ n. take place (visited old) ++ n ∷ []) (get_or_from_slice_get (visited old) place k 0 is.links.at)

    same : (j n : ℕ) → slice_get (visited old) j ≡ Some n → j ≢ place → segment_of new n ≡ segment_of old n
    same j n at apart = is.others n
        (λ e. elim (cases_lt j place) [
          | inl early ↦ visited-distinct old j place k sound early (at ∙ ap Some e) is.links.at
          | inr late ↦ visited-distinct old place j k sound (omega (arith, late, apart)) is.links.at (at ∙ ap Some e)
        ])
        (λ e. omega (arith, e, is.links.number_is, (sound.each j n at).low))

    begins : map (segment_of new) (take place (visited old)) ≡ take place (map (segment_of old) (visited old))
    begins =
        map-agree (segment_of new) (segment_of old) (take place (visited old)) (λ j n at.
        let within : j < place = omega (arith, slice_get_within (take place (visited old)) j n at, length-take place (visited old)) in
        let there : get_or (visited old) j 0 ≡ n = sym (get_or-take place (visited old) j 0 within)
        ∙ get_or_from_slice_get (take place (visited old)) j n 0 at in
        same j n (slice_get-get_or (visited old) j 0 (omega (arith, within, inside_at)) ∙ ap Some there) (λ e. omega (arith, e, within)))
        ∙ sym (take-map (segment_of old) place (visited old))

    ends : map (segment_of new) (drop (place + 1) (visited old)) ≡ drop (place + 1) (map (segment_of old) (visited old))
    ends =
        map-agree (segment_of new) (segment_of old) (drop (place + 1) (visited old)) (λ j n at.
        let within : j < length (drop (place + 1) (visited old)) = slice_get_within (drop (place + 1) (visited old)) j n at in
        let there : get_or (visited old) (place + 1 + j) 0 ≡ n = sym (get_or-drop (place + 1) (visited old) j 0)
        ∙ get_or_from_slice_get (drop (place + 1) (visited old)) j n 0 at in
        same (place + 1 + j) n (slice_get-get_or (visited old) (place + 1 + j) 0
        (omega (arith, within, length-drop (place + 1) (visited old))) ∙ ap Some there) (λ e. omega (arith, e)))
        ∙ sym (drop-map (segment_of old) (place + 1) (visited old))
