-- The entries of a directory, of a volume with faults or without.
use Rattle.std.proofs.Common.{◌≡◌, ℕ, ◌+◌, ◌<◌, ◌≤◌, Bool, true, false, if◌then◌else◌, List, [], ◌∷◌, ◌++◌, length, get_or, map, take}
use Rattle.std.proofs.Common.{Some, None, IsTrue, refl, sym, ◌∙◌, ap, append_assoc, arith}
use Rattle.std.specs.List.{flat_map, range_with_len, slice_get}
use Rattle.std.proofs.lemmas.Grind.{flat_map-append}
use Rattle.std.proofs.lemmas.List.{take_more, take_all, append-nil}
use Rattle.std.proofs.lemmas.List.FromFn.{map-range_with_len_more, length-range_with_len, get_or-range_with_len}
use Rattle.std.proofs.lemmas.Option.{slice_get_within, slice_get-get_or, get_or_from_slice_get}
use Rattle.std.proofs.lemmas.Simd.{map-map}
use Rattle.f11_dev.specs.Disk.{Disk}
use Rattle.f11_dev.specs.Image.{Image}
use Rattle.f11_dev.specs.Looked.{Looked}
use Rattle.f11_findings.specs.Finding.{finding, AddsFindings}
use Rattle.f11_findings.specs.declared.finding.Finding.{Finding}
use Rattle.rt11_volume.specs.AnyDirectory.{only_kind, name_if_any, entry_in_hand, entry_told, entry_of_segment, entries_told, entries_in}
use Rattle.rt11_volume.specs.AnyDirectory.{directory_entries, listed_kind, listed_name, as_area}
use Rattle.rt11_volume.specs.Calls.{most_transfers}
use Rattle.rt11_volume.specs.Directory.{IsSized, is_extra_wrong, segment_of, visited}
use Rattle.rt11_volume.specs.Entry.{has_bit, kind_of, is_one_kind, status, name_words}
use Rattle.rt11_volume.specs.InHand.{SaysEntry, visits, visit_at, visit_of}
use Rattle.rt11_volume.specs.Laws.{ListsTheStoresAreas}
use Rattle.rt11_volume.specs.Listing.{shown_name, shown_words, shown_segment}
use Rattle.rt11_volume.specs.Searching.Looking.{segments_of}
use Rattle.rt11_volume.specs.Segment.{Segment, area_start, segment_with}
use Rattle.rt11_volume.specs.Surveying.{Surveys}
use Rattle.rt11_volume.specs.Verifying.Scans.{number_at}
use Rattle.rt11_volume.specs.declared.any_entries.RtEntry.{RtEntry}
use Rattle.rt11_volume.specs.declared.any_survey.RtSurvey.TheVariants.{Unreadable}
use Rattle.rt11_volume.specs.declared.area.RtKind.{RtKind}
use Rattle.rt11_volume.specs.declared.area.RtKind.TheVariants.{Tentative, Empty, Permanent}
use Rattle.rt11_volume.specs.declared.directory.Visited.{Visited}
use Rattle.rt11_volume.specs.declared.entry.Entry.{Entry}
use Rattle.rt11_volume.proofs.BlockLemmas.{map-agree}
use Rattle.rt11_volume.proofs.ListLemmas.{flat_map-agree, map-flat_map, listed-all}
use Rattle.rt11_volume.proofs.Searching.Looking.{length-segments}
use Rattle.rt11_volume.proofs.Verifying.Sound.{IsSoundImage, sound_from}
use Rattle.rt11_volume.proofs.Verifying.Verdict.{faults-size, notes-size}
use Rattle.rt11_volume.proofs.Walking.Places.{at-place}

-- what is told of an entry in hand is what is told of its words
pub told-says : (k i : ℕ) (e : Entry) (words : List ℕ) (start at : ℕ) → SaysEntry e words → start ≡ at
    → entry_in_hand k i e start ≡ entry_told k i words at
told-says k i e words start at says is = λ t. record {
  segment = k;
  number = i + 1;
  kind = only_kind (says.status t);
  name = name_if_any (says.name t);
  first = is t;
  blocks = says.length t;
  protected = has_bit (says.status t) 15;
}

-- one entry more of a segment
pub told-more : (seg : Segment) (before entries : List RtEntry) (entry : RtEntry) (i : ℕ) → entry ≡ entry_of_segment seg i
    → entries ≡ before ++ map (entry_of_segment seg) (range_with_len 0 i)
    → entries ++ entry ∷ [] ≡ before ++ map (entry_of_segment seg) (range_with_len 0 (i + 1))
told-more seg before entries entry i one so_far =
    let f = entry_of_segment seg in
    (λ k. so_far k ++ one k ∷ []) ∙ append_assoc before (map f (range_with_len 0 i)) (f i ∷ [])
    ∙ ap (λ xs. before ++ xs) (sym (map-range_with_len_more f 0 i i (omega arith)))

-- a segment whose extra bytes are wrong has none that can be read
pub read-wrong : (image : Image) (k : ℕ) (wrong : Bool) (before : List RtEntry) → wrong ≡ is_extra_wrong image k → wrong ≡ true
    → before ≡ before ++ entries_in image k
read-wrong image k wrong before is holds =
    let none : entries_in image k ≡ [] =
    ap (λ (b : Bool). if b then [] else entries_told (segment_of image k)) (sym is ∙ holds) in
    sym (ap (λ (es : List RtEntry). before ++ es) none ∙ append-nil before)

-- another one has all
pub read-right : (image : Image) (vs : List Visited) (j : ℕ) (wrong : Bool) (v : Visited) → vs ≡ visits image → j < length vs
    → wrong ≡ is_extra_wrong image (number_at image j) → wrong ≡ false → v ≡ visit_at vs j
    → entries_told (segment_with v.number v.segment) ≡ entries_in image (number_at image j)
read-right image vs j wrong v is inside says right here =
    let at = at-place image vs j is inside in
    let same : v ≡ visit_of image (number_at image j) = here ∙ at.here in
    ap (λ (w : Visited). entries_told (segment_with w.number w.segment)) same
    ∙ sym (ap (λ (b : Bool). if b then [] else entries_told (segment_of image (number_at image j))) (sym says ∙ right))

-- one segment more
pub read-more : (image : Image) (j : ℕ) (entries : List RtEntry) → j < length (visited image)
    → entries ≡ flat_map (entries_in image) (take j (visited image))
    → entries ++ entries_in image (number_at image j) ≡ flat_map (entries_in image) (take (j + 1) (visited image))
read-more image j entries inside so_far =
    let f = entries_in image in
    let v : List ℕ = visited image in
    ap (λ (es : List RtEntry). es ++ f (get_or v j 0)) so_far
    ∙ ap (λ (es : List RtEntry). flat_map f (take j v) ++ es) (sym (append-nil (f (get_or v j 0))))
    ∙ sym (flat_map-append f (take j v) (get_or v j 0 ∷ []))
    ∙ ap (flat_map f) (sym (take_more v j 0 inside))

-- all were visited
pub read-all : (image : Image) (j : ℕ) (entries : List RtEntry) → length (visited image) ≤ j
    → entries ≡ flat_map (entries_in image) (take j (visited image)) → entries ≡ directory_entries image
unfolding directory_entries
read-all image j entries long so_far = so_far ∙ ap (flat_map (entries_in image)) (take_all j (visited image) long)

-- a directory of a wrong size
pub finds-unsized : (faults notes : List Finding) (old new : Disk) → AddsFindings [] faults (finding 1 0 0 ∷ []) → notes ≡ []
    → (IsTrue old.honest → ¬ IsSized old.image) → Looked old new most_transfers 0 → Surveys (Unreadable faults notes) old new
finds-unsized faults notes old new adds none unsized looked = record {
  unsized = unsized;
  rejects = record {
    some = omega (arith, (adds.added (finding 1 0 0) (0, omega arith, refl)).1);
    all = record {
      faults_are = λ honest. faults-size old.image faults (unsized honest) adds;
      notes_are = λ honest. notes-size old.image notes (unsized honest) none;
      looked = looked;
    };
  };
}

-- the name that a list of areas shows
name-listed : (kind : RtKind) (words : List ℕ) → listed_name kind (name_if_any words) ≡ shown_name kind words
name-listed Tentative words = refl
name-listed Empty words = refl
name-listed Permanent words = refl

-- an entry of one kind, as a list of areas shows it
entry-listed : (k i : ℕ) (e : List ℕ) (start : ℕ) → is_one_kind (status e) ≡ true → as_area (entry_told k i e start) ≡ shown_words e start
entry-listed k i e start one =
    let kind : listed_kind (only_kind (status e)) ≡ kind_of (status e) =
    ap (λ (b : Bool). listed_kind (if b then Some (kind_of (status e)) else None)) one in
    let name = ap (λ (x : RtKind). listed_name x (name_if_any (name_words e))) kind ∙ name-listed (kind_of (status e)) (name_words e) in
    λ t. record (shown_words e start) { kind = kind t; name = name t }

-- the entries of a segment of an image without faults
segment-listed : (image : Image) (place k : ℕ) → IsSoundImage image → slice_get (visited image) place ≡ Some k
    → map as_area (entries_in image k) ≡ shown_segment (segment_of image k)
segment-listed image place k sound at =
    let seg : Segment = segment_of image k in
    let s = sound.each place k at in
    ap (λ (b : Bool). map as_area (if b then [] else entries_told seg)) s.right
    ∙ map-map as_area (entry_of_segment seg) (range_with_len 0 (length seg.entries))
    ∙ map-agree (λ i. as_area (entry_of_segment seg i)) (λ i. shown_words (get_or seg.entries i []) (area_start seg i))
    (range_with_len 0 (length seg.entries)) (λ j i is.
    let within : j < length (range_with_len 0 (length seg.entries)) = slice_get_within (range_with_len 0 (length seg.entries)) j i is in
    let inside : j < length seg.entries = omega (arith, within, length-range_with_len 0 (length seg.entries)) in
    let same : i ≡ j = sym (get_or_from_slice_get (range_with_len 0 (length seg.entries)) j i 0 is)
    ∙ get_or-range_with_len 0 (length seg.entries) j 0 inside ∙ omega arith in
    let here : i < length seg.entries = omega (arith, same, inside) in
    entry-listed k i (get_or seg.entries i []) (area_start seg i) (s.one_kind i _ (slice_get-get_or seg.entries i [] here)))

flat_map-map : {A B C : Type 0} (f : A → B) (g : B → List C) (xs : List A) → flat_map g (map f xs) ≡ flat_map (λ x. g (f x)) xs
flat_map-map f g [] = refl
flat_map-map f g (x ∷ xs) = ap (λ r. g (f x) ++ r) (flat_map-map f g xs)

-- on an accepted volume the entries are the store's areas
pub lists-areas : ListsTheStoresAreas
unfolding directory_entries
lists-areas image accepted =
    let sound = sound_from image accepted in
    map-flat_map as_area (entries_in image) (visited image)
    ∙ flat_map-agree (λ k. map as_area (entries_in image k)) (λ k. shown_segment (segment_of image k)) (visited image)
    (λ j k at. segment-listed image j k sound at)
    ∙ sym (flat_map-map (segment_of image) shown_segment (visited image))
    ∙ listed-all image (length (visited image)) (flat_map shown_segment (segments_of image)) sound (omega arith)
    (ap (flat_map shown_segment) (sym (take_all (length (visited image)) (segments_of image) (omega (arith, length-segments image)))))
