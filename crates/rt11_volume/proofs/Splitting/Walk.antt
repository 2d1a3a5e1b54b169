-- The walk over an image of which a segment was split.
use Rattle.std.proofs.Common.{◌≡◌, ◌≢◌, inl, inr, ℕ, ◌+◌, ◌-◌, ◌<◌, ◌≤◌, ◌==◌, ◌&&◌, true, false, not, nat_le, List, length, get_or, take}
use Rattle.std.proofs.Common.{Some, sym, ◌∙◌, ap, subst, arith}
use Rattle.std.specs.List.{list_any, slice_get, insert}
use Rattle.std.proofs.lemmas.Bool.{cases_eq, cases_lt, and_from, not_from_false, ne_eqb, le-leb}
use Rattle.std.proofs.lemmas.List.{length-take, get_or-take, get_or_default}
use Rattle.std.proofs.lemmas.List.Edits.{length-insert, get_or-insert_below, get_or-insert_at, get_or-insert_above}
use Rattle.std.proofs.lemmas.List.Folds.{list_any_none}
use Rattle.std.proofs.lemmas.Option.{slice_get_within, slice_get-get_or, get_or_from_slice_get}
use Rattle.f11_dev.specs.Image.{Image}
use Rattle.rt11_volume.specs.Directory.{count_of, extra_of, next_of, visited, goes_on, is_extra_wrong, are_extra_wrong, is_link_on}
use Rattle.rt11_volume.specs.Segment.{segment_words, extra_bytes, highest_segment}
use Rattle.rt11_volume.proofs.Walking.Count.{visited-highest}
use Rattle.rt11_volume.proofs.Verifying.Sound.{IsSoundImage}
use Rattle.rt11_volume.proofs.Walking.Walk.{linked-visited, link_ends, IsNext-step, on-visited, visited-on, visited-few, visited-distinct}
use Rattle.rt11_volume.proofs.Walking.Walk.{visited-some, visited-first_one}

-- Segments that links make, no two of them the same.
pub record IsChain (image : Image) (ks : List ℕ) : Type 0 where
  pub some : 0 < length ks
  pub few : length ks ≤ 31
  pub first : get_or ks 0 0 ≡ 1
  pub positive : (j : ℕ) → j < length ks → 0 < get_or ks j 0
  pub low : (j : ℕ) → j < length ks → get_or ks j 0 ≤ count_of image
  pub right : (j : ℕ) → j < length ks → is_extra_wrong image (get_or ks j 0) ≡ false
  pub apart : (i j : ℕ) → i < j → j < length ks → get_or ks i 0 ≢ get_or ks j 0
  pub next : (j : ℕ) → j + 1 < length ks → next_of image (get_or ks j 0) ≡ get_or ks (j + 1) 0
  pub last : next_of image (get_or ks (length ks - 1) 0) ≡ 0

-- a link leads on to another segment that there is and that wasn't seen
leads-on : (image : Image) (seen : List ℕ) (m : ℕ) → is_extra_wrong image m ≡ false → next_of image m ≢ 0 → next_of image m ≤ count_of image
    → ((i d : ℕ) → i < length seen → get_or seen i d ≢ next_of image m)
    → goes_on image seen m ≡ true
leads-on image seen m right some within other =
    let next : ℕ = next_of image m in
    let none : list_any (λ j. j == next) seen ≡ false = list_any_none (λ j. j == next) seen (λ i d inside. ne_eqb _ _ (other i d inside)) in
    and_from (not (is_extra_wrong image m)) (is_link_on (count_of image) seen next) (not_from_false _ right)
    (and_from (not (next == 0)) (nat_le next (count_of image) && not (list_any (λ j. j == next) seen))
    (not_from_false _ (ne_eqb next 0 some))
    (and_from (nat_le next (count_of image)) (not (list_any (λ j. j == next) seen)) (le-leb _ _ within) (not_from_false _ none)))

-- a chain is the list of those that are visited
pub chain-visited : (image : Image) (ks : List ℕ) → IsChain image ks → visited image ≡ ks
chain-visited image ks chain = linked-visited image ks record {
  some = chain.some;
  few = chain.few;
  first = chain.first;
  leads = λ j more.
      let inside : j < length ks = omega (arith, more) in
      let next = chain.next j more in
      leads-on image (take (j + 1) ks) (get_or ks j 0) (chain.right j inside)
      (λ none. omega (arith, none, next, chain.positive (j + 1) more)) (omega (arith, next, chain.low (j + 1) more))
      (λ i d within same.
      let early : i < j + 1 = omega (arith, within, length-take (j + 1) ks) in
      chain.apart i (j + 1) early more (get_or_default ks i 0 d (omega (arith, early, more)) ∙ sym (get_or-take (j + 1) ks i d early) ∙ same
      ∙ next));
  next = chain.next;
  last = link_ends image ks (get_or ks (length ks - 1) 0) chain.last;
}

-- the links of those that are visited
pub visited-next : (image : Image) (place : ℕ) → IsSoundImage image → place + 1 < length (visited image)
    → next_of image (get_or (visited image) place 0) ≡ get_or (visited image) (place + 1) 0
visited-next image place sound long =
    let j : ℕ = get_or (visited image) place 0 in
    let there : slice_get (visited image) place ≡ Some j = slice_get-get_or (visited image) place 0 (omega (arith, long)) in
    let next = IsNext-step image place j sound (omega (arith, long, visited-few image)) (on-visited image place j sound there) in
    let some : next_of image j ≢ 0 = λ none. omega (arith, next.ends none, long) in
    sym (get_or_from_slice_get (visited image) (place + 1) (next_of image j) 0
    (visited-on image (place + 1) (next_of image j) (next.goes some (omega (arith, long, visited-few image)))))

pub visited-last : (image : Image) → IsSoundImage image → 0 < length (visited image) → length (visited image) < 31
    → next_of image (get_or (visited image) (length (visited image) - 1) 0) ≡ 0
visited-last image sound some few =
    let place : ℕ = length (visited image) - 1 in
    let j : ℕ = get_or (visited image) place 0 in
    let there : slice_get (visited image) place ≡ Some j = slice_get-get_or (visited image) place 0 (omega (arith, some)) in
    let next = IsNext-step image place j sound (omega (arith, few)) (on-visited image place j sound there) in
    elim (cases_eq (next_of image j) 0) [
      | inl none ↦ none
      | inr more ↦
          let behind = slice_get_within (visited image) (place + 1) (next_of image j)
          (visited-on image (place + 1) (next_of image j) (next.goes more (omega (arith, some, few)))) in
          absurd (omega (arith, behind, some))
    ]

-- Segment k, visited at a place, was split: a new segment with the next number stands behind it.
pub record SplitsLinks (old new : Image) (place k number : ℕ) : Type 0 where
  pub at : slice_get (visited old) place ≡ Some k
  pub number_is : number ≡ highest_segment (segment_words old 1) + 1
  pub room : number ≤ count_of old
  pub count : count_of new ≡ count_of old
  pub next_front : next_of new k ≡ number
  pub next_back : next_of new number ≡ next_of old k
  pub next : (j : ℕ) → j ≢ k → j ≢ number → next_of new j ≡ next_of old j
  pub extra : (j : ℕ) → j ≢ number → extra_bytes (segment_words new j) ≡ extra_bytes (segment_words old j)
  pub extra_back : extra_bytes (segment_words new number) ≡ extra_of old

-- the segments that are visited then
abbrev pub split_visited : Image → ℕ → ℕ → List ℕ
split_visited old place number = insert (visited old) (place + 1) number

-- they are a chain
pub split-chain : (old new : Image) (place k number : ℕ) → IsSoundImage old → SplitsLinks old new place k number
    → IsChain new (split_visited old place number)
split-chain old new place k number sound is = record {
  some = omega (arith, size);
  few = omega (arith, size, short);
  first = before 0 (omega arith) ∙ visited-first_one old sound;
  positive = λ j within. by_place (λ m. 0 < m) (λ i inside. visited-some old i (V i) sound (here i inside)) (omega (arith, is.number_is)) j
      within;
  low = λ j within. by_place (λ m. m ≤ count_of new)
      (λ i inside. omega (arith, (sound.each i (V i) (here i inside)).low, is.number_is, is.room, is.count))
      (omega (arith, is.room, is.count)) j within;
  right = λ j within. by_place (λ m. is_extra_wrong new m ≡ false)
      (λ i inside. (λ t. are_extra_wrong (first_extra t) (is.extra (V i) (fresh i inside) t)) ∙ (sound.each i (V i) (here i inside)).right)
      ((λ t. are_extra_wrong (first_extra t) (is.extra_back t))
      ∙ (sound.each 0 1 (slice_get-get_or (visited old) 0 0 (omega (arith, inside_at)) ∙ ap Some (visited-first_one old sound))).right)
      j within;
  apart = λ i j order within. all_apart i j order within;
  next = λ j more. linked j more;
  last = ends;
}
  where
    V : ℕ → ℕ
    V j = get_or (visited old) j 0

    inside_at : place < length (visited old)
    inside_at = slice_get_within (visited old) place k is.at

    size : length (split_visited old place number) ≡ length (visited old) + 1
    size = length-insert (visited old) (place + 1) number (omega (arith, inside_at))

    short : length (visited old) < 31
    short = omega (arith, visited-highest old sound, is.number_is, is.room, sound.sized.few)

    here : (j : ℕ) → j < length (visited old) → slice_get (visited old) j ≡ Some (V j)
    here j inside = slice_get-get_or (visited old) j 0 inside

    k_is : V place ≡ k
    k_is = get_or_from_slice_get (visited old) place k 0 is.at

    -- none of those that were visited is the new one
    fresh : (j : ℕ) → j < length (visited old) → V j ≢ number
    fresh j inside same = omega (arith, same, is.number_is, (sound.each j (V j) (here j inside)).low)

    other_than_k : (j : ℕ) → j < length (visited old) → j ≢ place → V j ≢ k
    other_than_k j inside apart same = elim (cases_lt j place) [
      | inl early ↦ visited-distinct old j place k sound early (here j inside ∙ ap Some same) is.at
      | inr late ↦ visited-distinct old place j k sound (omega (arith, late, apart)) is.at (here j inside ∙ ap Some same)
    ]

    first_extra : extra_bytes (segment_words new 1) ≡ extra_of old
    first_extra =
        is.extra 1 (λ same. omega
        (arith, same, is.number_is, (sound.each 0 1 (here 0 (omega (arith, inside_at)) ∙ ap Some (visited-first_one old sound))).low))

    before : (j : ℕ) → j < place + 1 → get_or (split_visited old place number) j 0 ≡ V j
    before j early = get_or-insert_below (visited old) (place + 1) number 0 j early (omega (arith, inside_at))

    middle : get_or (split_visited old place number) (place + 1) 0 ≡ number
    middle = get_or-insert_at (visited old) (place + 1) number 0 (omega (arith, inside_at))

    behind : (j : ℕ) → place + 1 ≤ j → get_or (split_visited old place number) (j + 1) 0 ≡ V j
    behind j late = get_or-insert_above (visited old) (place + 1) number 0 j late (omega (arith, inside_at))

    -- what holds of those that were visited and of the new one holds of all
    by_place : (P : ℕ → Type 0) → ((i : ℕ) → i < length (visited old) → P (V i)) → P number → (j : ℕ)
        → j < length (split_visited old place number) → P (get_or (split_visited old place number) j 0)
    by_place P olds new_one j within = elim (cases_lt j (place + 1)) [
      | inl early ↦ subst P (sym (before j early)) (olds j (omega (arith, early, inside_at)))
      | inr late ↦ elim (cases_eq j (place + 1)) [
        | inl same ↦ subst P (sym (ap (λ n. get_or (split_visited old place number) n 0) same ∙ middle)) new_one
        | inr apart ↦
            let there : j - 1 + 1 ≡ j = omega (arith, late, apart) in
            subst P (sym (ap (λ n. get_or (split_visited old place number) n 0) (sym there) ∙ behind (j - 1) (omega (arith, late, apart))))
            (olds (j - 1) (omega (arith, within, size, late, apart)))
      ]
    ]

    -- where each of them stood
    stood : (j : ℕ) → j ≢ place + 1 → j < length (split_visited old place number)
        → (i : ℕ) × (i < length (visited old)) × (get_or (split_visited old place number) j 0 ≡ V i) × (j < place + 1 → i ≡ j)
        × (place + 1 < j → i + 1 ≡ j)
    stood j apart within = elim (cases_lt j (place + 1)) [
      | inl early ↦ (
        j,
        omega (arith, early, inside_at),
        before j early,
        (λ e. sym (let s : j ≡ j = omega arith in s)),
        (λ l. absurd (omega (arith, early, l))),
      )
      | inr late ↦
          let there : j - 1 + 1 ≡ j = omega (arith, late, apart) in (
            j - 1,
            omega (arith, within, size, late, apart),
            ap (λ n. get_or (split_visited old place number) n 0) (sym there) ∙ behind (j - 1) (omega (arith, late, apart)),
            (λ e. absurd (omega (arith, e, late))),
            (λ l. there),
          )
    ]

    all_apart : (i j : ℕ) → i < j → j < length (split_visited old place number)
        → get_or (split_visited old place number) i 0 ≢ get_or (split_visited old place number) j 0
    all_apart i j order within same = elim (cases_eq i (place + 1)) [
      | inl one ↦
          let b = stood j (λ e. omega (arith, e, one, order)) within in
          fresh b.0 b.1 (sym b.2 ∙ sym same ∙ ap (λ n. get_or (split_visited old place number) n 0) one ∙ middle)
      | inr other ↦
          let a = stood i other (omega (arith, order, within)) in
          elim (cases_eq j (place + 1)) [
            | inl two ↦ fresh a.0 a.1 (sym a.2 ∙ same ∙ ap (λ n. get_or (split_visited old place number) n 0) two ∙ middle)
            | inr more ↦
                let b = stood j more within in
                visited-distinct old a.0 b.0 (V b.0) sound (ordered i j a.0 b.0 order other more a.3 a.4 b.3 b.4)
                (here a.0 a.1 ∙ ap Some (sym a.2 ∙ same ∙ b.2)) (here b.0 b.1)
          ]
    ]
      where
        ordered : (i j a b : ℕ) → i < j → i ≢ place + 1 → j ≢ place + 1 → (i < place + 1 → a ≡ i) → (place + 1 < i → a + 1 ≡ i)
            → (j < place + 1 → b ≡ j) → (place + 1 < j → b + 1 ≡ j) → a < b
        ordered i j a b order one two ia ib ja jb = elim (cases_lt i (place + 1)) [
          | inl early ↦ elim (cases_lt j (place + 1))
              [ inl e ↦ omega (arith, order, ia early, ja e) | inr l ↦ omega (arith, early, l, two, ia early, jb (omega (arith, l, two))) ]
          | inr late ↦ omega (arith, order, late, one, ib (omega (arith, late, one)), jb (omega (arith, order, late)))
        ]

    linked : (j : ℕ) → j + 1 < length (split_visited old place number)
        → next_of new (get_or (split_visited old place number) j 0) ≡ get_or (split_visited old place number) (j + 1) 0
    linked j more = elim (cases_lt j place) [
      | inl early ↦
          ap (next_of new) (before j (omega (arith, early)))
          ∙ is.next (V j) (other_than_k j (omega (arith, early, inside_at)) (λ s. omega (arith, s, early)))
          (fresh j (omega (arith, early, inside_at)))
          ∙ visited-next old j sound (omega (arith, early, inside_at)) ∙ sym (before (j + 1) (omega (arith, early)))
      | inr late ↦ elim (cases_eq j place) [
        | inl same ↦
            ap (next_of new) (before j (omega (arith, same)) ∙ ap V same ∙ k_is) ∙ is.next_front ∙ sym middle
            ∙ ap (λ n. get_or (split_visited old place number) n 0) (let p : place + 1 ≡ j + 1 = omega (arith, same) in p)
        | inr apart ↦ elim (cases_eq j (place + 1)) [
          | inl same ↦
              ap (λ n. next_of new (get_or (split_visited old place number) n 0)) same ∙ ap (next_of new) middle ∙ is.next_back
              ∙ ap (next_of old) (sym k_is)
              ∙ visited-next old place sound (omega (arith, more, size, same)) ∙ sym (behind (place + 1) (omega arith))
              ∙ ap (λ n. get_or (split_visited old place number) n 0) (let p : place + 1 + 1 ≡ j + 1 = omega (arith, same) in p)
          | inr far ↦
              let i : ℕ = j - 1 in
              let there : i + 1 ≡ j = omega (arith, late, apart) in
              let inside : i < length (visited old) = omega (arith, more, size, there) in
              ap (λ n. next_of new (get_or (split_visited old place number) n 0)) (sym there)
              ∙ ap (next_of new) (behind i (omega (arith, late, apart, far)))
              ∙ is.next (V i) (other_than_k i inside (λ s. omega (arith, s, there, far, apart))) (fresh i inside)
              ∙ visited-next old i sound (omega (arith, more, size, there))
              ∙ sym (behind (i + 1) (omega (arith, late, apart, far))) ∙ ap (λ n. get_or (split_visited old place number) (n + 1) 0) there
        ]
      ]
    ]

    ends : next_of new (get_or (split_visited old place number) (length (split_visited old place number) - 1) 0) ≡ 0
    ends =
        let n : ℕ = length (visited old) in
        let last_place : length (split_visited old place number) - 1 ≡ n = omega (arith, size) in
        let last = visited-last old sound (omega (arith, inside_at)) short in
        ap (λ m. next_of new (get_or (split_visited old place number) m 0)) last_place ∙ elim (cases_eq n (place + 1)) [
          | inl same ↦
              ap (λ m. next_of new (get_or (split_visited old place number) m 0)) same ∙ ap (next_of new) middle ∙ is.next_back
              ∙ ap (next_of old) (sym k_is)
              ∙ ap (λ m. next_of old (V m)) (let p : place ≡ n - 1 = omega (arith, same) in p) ∙ last
          | inr apart ↦
              let there : n - 1 + 1 ≡ n = omega (arith, inside_at) in
              let inside : n - 1 < n = omega (arith, inside_at) in
              ap (λ m. next_of new (get_or (split_visited old place number) m 0)) (sym there)
              ∙ ap (next_of new) (behind (n - 1) (omega (arith, inside_at, apart)))
              ∙ is.next (V (n - 1)) (other_than_k (n - 1) inside (λ s. omega (arith, s, apart, inside_at))) (fresh (n - 1) inside) ∙ last
        ]
