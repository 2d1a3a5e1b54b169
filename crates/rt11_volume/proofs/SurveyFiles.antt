-- The files that are found of any directory, and those of an accepted volume's store.
use Rattle.std.proofs.Common.{◌≡◌, ◌≢◌, ℕ, zero, suc, ◌+◌, ◌<◌, ◌≤◌, ◌==◌, ◌&&◌, Bool, true, false, not, if◌then◌else◌, nat_le, List}
use Rattle.std.proofs.Common.{[]}
use Rattle.std.proofs.Common.{◌∷◌, ◌++◌, length, get_or, map, take, filter, find, Some, None, option_map, refl, sym, ◌∙◌}
use Rattle.std.proofs.Common.{ap}
use Rattle.std.proofs.Common.{subst, arith, slice_index_or}
use Rattle.std.specs.Int.{bit_at}
use Rattle.std.specs.List.{flat_map, range_with_len, slice_get}
use Rattle.std.proofs.lemmas.Bool.{and_parts, eqb-true, ne_eqb, eq-eqb}
use Rattle.std.proofs.lemmas.Bool.Decides.{nat_tests}
use Rattle.std.proofs.lemmas.List.{get_or_default, take_more, take_all}
use Rattle.std.proofs.lemmas.List.FromFn.{map-range_with_len_more}
use Rattle.std.proofs.lemmas.Option.{slice_get-get_or}
use Rattle.f11_bytes.specs.Block.{zero_block}
use Rattle.f11_dev.specs.Image.{Image, image_block}
use Rattle.rt11_volume.specs.AnyDirectory.{blocks_from, directory_entries, entries_in, entries_told, entry_of_segment, has_name}
use Rattle.rt11_volume.specs.AnyDirectory.{is_file_area, is_sound_file_named, name_if_any}
use Rattle.rt11_volume.specs.Directory.{data_start, segment_of, visited}
use Rattle.rt11_volume.specs.Entry.{area_length, has_bit, is_file_named, is_one_kind, is_same_name, kind_of, name_words}
use Rattle.rt11_volume.specs.Entry.{status}
use Rattle.rt11_volume.specs.Laws.{FindsTheStoresFile}
use Rattle.rt11_volume.specs.Named.{Placed, area_of, files_named, placed, placed_in}
use Rattle.rt11_volume.specs.RtName.{is_rt_name}
use Rattle.rt11_volume.specs.Segment.{Segment, area_start}
use Rattle.rt11_volume.specs.Store.{Area, rt_store_of}
use Rattle.rt11_volume.specs.declared.any_entries.RtEntry.{RtEntry}
use Rattle.rt11_volume.specs.declared.area.RtKind.TheVariants.{Tentative, Empty, Permanent}
use Rattle.f11_rad50.specs.Name.{is_name}
use Rattle.rt11_volume.proofs.Named.Ascending.{Ascends, begins-behind, image-ascends}
use Rattle.rt11_volume.proofs.Named.Placing.{all-around, at_start, placed-append, placed-more, placed-nil, segments-more, segments-nil}
use Rattle.rt11_volume.proofs.Searching.File.{area-ends, segments-at}
use Rattle.rt11_volume.proofs.Verifying.Sound.{IsSoundImage, sound_from}

-- two lists have as many elements, and those at the same places are in a relation
data AreSame (S : RtEntry → Placed → Type 0) : List RtEntry → List Placed → Type 0 where
  none : AreSame S [] []
  more : (e : RtEntry) (p : Placed) (es : List RtEntry) (ps : List Placed) → S e p → AreSame S es ps → AreSame S (e ∷ es) (p ∷ ps)

same-append : (S : RtEntry → Placed → Type 0) (es fs : List RtEntry) (ps qs : List Placed) → AreSame S es ps → AreSame S fs qs
    → AreSame S (es ++ fs) (ps ++ qs)
same-append S _ fs _ qs AreSame.none behind = behind
same-append S _ fs _ qs (AreSame.more e p es ps one rest) behind =
    AreSame.more e p (es ++ fs) (ps ++ qs) one (same-append S es fs ps qs rest behind)

-- An entry is found where one is named, and has the same blocks then.
record IsSameFile (image : Image) (block : ℕ → List ℕ) (name : List ℕ) (e : RtEntry) (p : Placed) : Type 0 where
  test : is_sound_file_named name e ≡ is_file_named name p.entry
  blocks : blocks_from image e.first e.blocks ≡ map block (range_with_len p.start (area_length p.entry))

-- what is found first, and the first that is named
module _ (image : Image) (block : ℕ → List ℕ) (name : List ℕ) where
  abbrev blocks_of : RtEntry → List (List ℕ)
  blocks_of e = blocks_from image e.first e.blocks

  abbrev contents_of : List Placed → List (List (List ℕ))
  contents_of ps = map (λ (f : Area). f.contents) (map (area_of block) ps)

  first-same : (es : List RtEntry) (ps : List Placed) → AreSame (IsSameFile image block name) es ps
      → option_map blocks_of (find (is_sound_file_named name) es)
      ≡ slice_get (contents_of (filter (λ (p : Placed). is_file_named name p.entry) ps)) 0
  first-same _ _ AreSame.none = refl
  first-same _ _ (AreSame.more e p es ps one rest) = by (is_file_named name p.entry) one.test refl (first-same es ps rest)
    where
      by : (b : Bool) → is_sound_file_named name e ≡ is_file_named name p.entry → is_file_named name p.entry ≡ b
          → option_map blocks_of (find (is_sound_file_named name) es)
          ≡ slice_get (contents_of (filter (λ (q : Placed). is_file_named name q.entry) ps)) 0
          → option_map blocks_of (find (is_sound_file_named name) (e ∷ es))
          ≡ slice_get (contents_of (filter (λ (q : Placed). is_file_named name q.entry) (p ∷ ps))) 0
      by true same is behind = rw (same, is) (ap Some one.blocks)
      by false same is behind = rw (same, is) behind

-- maps over two ranges that agree
maps-agree : {A : Type 0} (f g : ℕ → A) (a b n : ℕ) → ((i : ℕ) → i < n → f (a + i) ≡ g (b + i)) → map f (range_with_len a n)
    ≡ map g (range_with_len b n)
maps-agree f g a b zero same = refl
maps-agree f g a b (suc n) same =
    let a0 : a + 0 ≡ a = omega arith in
    let b0 : b + 0 ≡ b = omega arith in
    let first : f a ≡ g b = ap f (sym a0) ∙ same 0 (omega arith) ∙ ap g b0 in
    let rest = maps-agree f g (a + 1) (b + 1) n (λ i less.
    let an : (a + 1) + i ≡ a + suc i = omega arith in
    let bn : b + suc i ≡ (b + 1) + i = omega arith in
    ap f an ∙ same (suc i) (omega (arith, less)) ∙ ap g bn) in
    λ t. first t ∷ rest t

-- the blocks of an area behind the directory of an image and on it
blocks-same : (image : Image) (start n : ℕ) → data_start image ≤ start → start + n ≤ length image
    → blocks_from image start n ≡ map (λ lbn. if nat_le (data_start image) lbn then image_block image lbn else []) (range_with_len start n)
blocks-same image start n behind on =
    maps-agree (λ i. slice_index_or image (start + i) zero_block)
    (λ lbn. if nat_le (data_start image) lbn then image_block image lbn else []) 0 start n (λ i less.
    let here : 0 + i ≡ i = omega arith in
    let high : nat_le (data_start image) (start + i) ≡ true = grind (arith, nat_tests) in
    ap (λ k. slice_index_or image (start + k) zero_block) here
    ∙ get_or_default image (start + i) zero_block [] (omega (arith, on, less))
    ∙ sym (ap (λ (b : Bool). if b then image_block image (start + i) else []) high))

-- a status of one kind is that of a file where its bit says so
pub kind-file : (a b c : ℕ) → a + b + c ≡ 1
    → is_file_area (Some (if a == 1 then Tentative else (if b == 1 then Empty else Permanent))) ≡ (c == 1)
kind-file a b c one = by (a == 1) (b == 1) refl refl
  where
    by : (p q : Bool) → (a == 1) ≡ p → (b == 1) ≡ q
        → is_file_area (Some (if a == 1 then Tentative else (if b == 1 then Empty else Permanent))) ≡ (c == 1)
    by true q is also =
        let none : (c == 1) ≡ false = ne_eqb c 1 (λ same. omega (arith, one, eqb-true a 1 is, same)) in
        rw is (sym none)
    by false true is also =
        let none : (c == 1) ≡ false = ne_eqb c 1 (λ same. omega (arith, one, eqb-true b 1 also, same)) in
        rw (is, also) (sym none)
    by false false is also =
        let low : a ≢ 1 = λ same. let clash : true ≡ false = sym (eq-eqb a 1 same) ∙ is in absurd (cc) in
        let lower : b ≢ 1 = λ same. let clash : true ≡ false = sym (eq-eqb b 1 same) ∙ also in absurd (cc) in
        let all : (c == 1) ≡ true = eq-eqb c 1 (omega (arith, one, low, lower)) in
        rw (is, also) (sym all)

-- a name is that of an entry where their words are the same
pub name-same : (name words : List ℕ) → is_rt_name name ≡ true → has_name name (name_if_any words) ≡ is_same_name words name
name-same name words proper = by (is_rt_name words) (is_same_name words name) refl refl
  where
    by : (b c : Bool) → is_rt_name words ≡ b → is_same_name words name ≡ c → has_name name (name_if_any words) ≡ is_same_name words name
    by true c is same = rw is refl
    by false false is same = rw (is, same) refl
    by false true is same =
        let first = and_parts (get_or words 0 0 == get_or name 0 0)
        (get_or words 1 0 == get_or name 1 0 && get_or words 2 0 == get_or name 2 0) same in
        let rest = and_parts (get_or words 1 0 == get_or name 1 0) (get_or words 2 0 == get_or name 2 0) first.1 in
        let one = eqb-true (get_or words 0 0) (get_or name 0 0) first.0 in
        let two = eqb-true (get_or words 1 0) (get_or name 1 0) rest.0 in
        let three = eqb-true (get_or words 2 0) (get_or name 2 0) rest.1 in
        let alike : is_rt_name words ≡ is_rt_name name = λ t.
        not (one t == 0) && is_name (one t ∷ two t ∷ 0 ∷ three t ∷ 1 ∷ []) in
        let clash : true ≡ false = sym proper ∙ sym alike ∙ is in
        absurd (cc)

-- an entry of an accepted image, and where it is placed
entry-same : (image : Image) (name : List ℕ) (place k i : ℕ) → IsSoundImage image → is_rt_name name ≡ true
    → slice_get (visited image) place ≡ Some k → i < length (segment_of image k).entries
    → IsSameFile image (rt_store_of image).block name (entry_of_segment (segment_of image k) i)
    (at_start (get_or (segment_of image k).entries i []) (area_start (segment_of image k) i))
unfolding rt_store_of
entry-same image name place k i sound proper at inside =
    let seg : Segment = segment_of image k in
    let e : List ℕ = get_or seg.entries i [] in
    let start : ℕ = area_start seg i in
    let ends = area-ends image place k i sound at inside in
    let one : is_one_kind (status e) ≡ true =
    (sound.each place k at).one_kind i e (slice_get-get_or seg.entries i [] inside) in
    let sum : bit_at (status e) 8 + bit_at (status e) 9 + bit_at (status e) 10 ≡ 1 =
    eqb-true (bit_at (status e) 8 + bit_at (status e) 9 + bit_at (status e) 10) 1 one in
    let within : nat_le (start + area_length e) 65535 ≡ true = grind (arith, nat_tests) in
    let up = subst (Ascends (data_start image))
    (all-around (map (segment_of image) (visited image)) place seg i (segments-at image place k at) inside) (image-ascends image sound) in
    record {
      test =
          (λ t. (is_file_area (if one t then Some (kind_of (status e)) else None) && within t) && has_name name
          (name_if_any (name_words e)))
          ∙ (λ t. (kind-file (bit_at (status e) 8) (bit_at (status e) 9) (bit_at (status e) 10) sum t && true)
          && name-same name (name_words e) proper t)
          ∙ (λ t. and-true (has_bit (status e) 10) t && is_same_name (name_words e) name)
          ∙ sym (λ t. (one t && has_bit (status e) 10) && is_same_name (name_words e) name);
      blocks = blocks-same image start (area_length e) (begins-behind (data_start image) _ _ _ up) (omega (arith, ends));
    }
  where
    and-true : (b : Bool) → (b && true) ≡ (true && b)
    and-true true = refl
    and-true false = refl

-- the first so many entries of a segment
segment-same : (image : Image) (name : List ℕ) (place k n : ℕ) → IsSoundImage image → is_rt_name name ≡ true
    → slice_get (visited image) place ≡ Some k → n ≤ length (segment_of image k).entries
    → AreSame (IsSameFile image (rt_store_of image).block name) (map (entry_of_segment (segment_of image k)) (range_with_len 0 n))
    (placed (segment_of image k).first (take n (segment_of image k).entries))
segment-same image name place k zero sound proper at inside =
    subst (AreSame (IsSameFile image (rt_store_of image).block name) []) (sym (placed-nil (segment_of image k).first)) AreSame.none
segment-same image name place k (suc n) sound proper at inside =
    let seg : Segment = segment_of image k in
    let S = IsSameFile image (rt_store_of image).block name in
    let e : List ℕ = get_or seg.entries n [] in
    let p : Placed = at_start e (area_start seg n) in
    let next : n + 1 ≡ suc n = omega arith in
    let es : map (entry_of_segment seg) (range_with_len 0 n) ++ entry_of_segment seg n ∷ []
    ≡ map (entry_of_segment seg) (range_with_len 0 (suc n)) =
    sym (map-range_with_len_more (entry_of_segment seg) 0 n n (omega arith))
    ∙ ap (λ m. map (entry_of_segment seg) (range_with_len 0 m)) next in
    let ps : placed seg.first (take n seg.entries) ++ p ∷ [] ≡ placed seg.first (take (suc n) seg.entries) =
    ap (λ (qs : List Placed). placed seg.first (take n seg.entries) ++ qs)
    (sym (placed-more (area_start seg n) e [] ∙ ap (λ (qs : List Placed). p ∷ qs) (placed-nil (area_start seg n + area_length e))))
    ∙ sym (placed-append seg.first (take n seg.entries) (e ∷ []))
    ∙ ap (placed seg.first) (sym (take_more seg.entries n [] (omega (arith, inside))))
    ∙ ap (λ m. placed seg.first (take m seg.entries)) next in
    subst (λ (xs : List RtEntry). AreSame S xs (placed seg.first (take (suc n) seg.entries))) es
    (subst (AreSame S (map (entry_of_segment seg) (range_with_len 0 n) ++ entry_of_segment seg n ∷ [])) ps
    (same-append S (map (entry_of_segment seg) (range_with_len 0 n)) (entry_of_segment seg n ∷ [])
    (placed seg.first (take n seg.entries)) (p ∷ [])
    (segment-same image name place k n sound proper at (omega (arith, inside)))
    (AreSame.more (entry_of_segment seg n) p [] [] (entry-same image name place k n sound proper at (omega (arith, inside))) AreSame.none)))

-- those of the segments from a place on
segments-same : (image : Image) (name : List ℕ) (place : ℕ) (ks : List ℕ) → IsSoundImage image → is_rt_name name ≡ true
    → ((j k : ℕ) → slice_get ks j ≡ Some k → slice_get (visited image) (place + j) ≡ Some k)
    → AreSame (IsSameFile image (rt_store_of image).block name) (flat_map (entries_in image) ks) (placed_in (map (segment_of image) ks))
segments-same image name place [] sound proper here =
    subst (AreSame (IsSameFile image (rt_store_of image).block name) []) (sym segments-nil) AreSame.none
segments-same image name place (k ∷ ks) sound proper here =
    let S = IsSameFile image (rt_store_of image).block name in
    let seg : Segment = segment_of image k in
    let zeroth : place + 0 ≡ place = omega arith in
    let at : slice_get (visited image) place ≡ Some k = ap (slice_get (visited image)) (sym zeroth) ∙ here 0 k refl in
    let right : entries_told seg ≡ entries_in image k =
    sym (ap (λ (b : Bool). if b then [] else entries_told seg) (sound.each place k at).right) in
    let first : AreSame S (entries_told seg) (placed seg.first seg.entries) =
    subst (λ (es : List (List ℕ)). AreSame S (entries_told seg) (placed seg.first es))
    (take_all (length seg.entries) seg.entries (omega arith))
    (segment-same image name place k (length seg.entries) sound proper at (omega arith)) in
    let rest = segments-same image name (place + 1) ks sound proper (λ j next is.
    let on : (place + 1) + j ≡ place + suc j = omega arith in
    ap (slice_get (visited image)) on ∙ here (suc j) next is) in
    subst (AreSame S (entries_in image k ++ flat_map (entries_in image) ks)) (sym (segments-more seg (map (segment_of image) ks)))
    (same-append S (entries_in image k) (flat_map (entries_in image) ks) (placed seg.first seg.entries)
    (placed_in (map (segment_of image) ks))
    (subst (λ (xs : List RtEntry). AreSame S xs (placed seg.first seg.entries)) right first) rest)

-- the first of a name that is found is the store's
pub finds-file : FindsTheStoresFile
unfolding directory_entries files_named rt_store_of
finds-file image name accepted proper =
    first-same image (rt_store_of image).block name (flat_map (entries_in image) (visited image))
    (placed_in (map (segment_of image) (visited image)))
    (segments-same image name 0 (visited image) (sound_from image accepted) proper (λ j k is.
    let zeroth : 0 + j ≡ j = omega arith in
    ap (slice_get (visited image)) zeroth ∙ is))
