-- What is told of the files of an accepted volume.
use Rattle.std.proofs.Common.{◌≡◌, ℕ, zero, suc, ◌+◌, ◌-◌, ◌*◌, ◌<◌, ◌≤◌, ◌&&◌, Bool, true, false, if◌then◌else◌, nat_le}
use Rattle.std.proofs.Common.{IsTrue}
use Rattle.std.proofs.Common.{List, [], ◌∷◌, ◌++◌, length, map, filter, flat_map, get_or, take, Option, Some, None, refl, sym, ap, ◌∙◌}
use Rattle.std.proofs.Common.{subst}
use Rattle.std.proofs.Common.{arith}
use Rattle.std.specs.Prelude.{IfOk, IfSome, SomeIff, codes, drop, filter_map, is_some, option_map, unwrap_or}
use Rattle.std.proofs.Common.{Result, Ok, Err, Vec, Global}
use Rattle.f11_dev.proofs.LookedLemmas.{looked_more, looked_within}
use Rattle.rt11_volume.specs.Files.{faults_in, is_fault}
use Rattle.rt11_volume.specs.Directory.{IsSized}
use Rattle.rt11_volume.specs.declared.refusal.RtRefusal.TheVariants.{NoMemory}
use Rattle.rt11_volume.specs.declared.refusal.RtRefusal.{RtRefusal}
use Rattle.std.specs.Int.{bit_at}
use Rattle.std.specs.List.{All, cons_option, range_with_len, slice_get}
use Rattle.std.proofs.lemmas.List.Sums.{AllPass-from_list_all}
use Rattle.std.proofs.lemmas.Bool.{eqb-true}
use Rattle.std.proofs.lemmas.Bool.Decides.{nat_tests}
use Rattle.std.proofs.lemmas.List.{append-nil, take-append-drop, take_all, take_more}
use Rattle.std.proofs.lemmas.List.Elements.{All-append, All-nil, filter-append, filter_map-append, filter_more}
use Rattle.std.proofs.lemmas.List.FromFn.{length-map-range_with_len, map-range_with_len_more}
use Rattle.std.proofs.lemmas.Option.{get_or_from_slice_get, slice_get-get_or, slice_get_within}
use Rattle.f11_dev.specs.Disk.{Disk}
use Rattle.f11_dev.specs.Image.{Image}
use Rattle.f11_dev.specs.Looked.{Looked}
use Rattle.rt11_volume.specs.AnyDirectory.{directory_entries, entries_in, entries_told, entry_of_segment, has_name, is_file_area}
use Rattle.rt11_volume.specs.AnyDirectory.{is_sound_file_named, name_if_any}
use Rattle.rt11_volume.specs.Directory.{segment_of, visited}
use Rattle.rt11_volume.specs.Entry.{area_length, date, has_bit, is_file_named, is_one_kind, is_protected, is_same_name, kind_of, name_words}
use Rattle.rt11_volume.specs.Entry.{status}
use Rattle.rt11_volume.specs.Named.{Placed, area_of, files_named, placed, placed_in}
use Rattle.f11_rad50.specs.Name.{is_name_character}
use Rattle.f11_rad50.specs.Radix50.{code_of, radix50}
use Rattle.rt11_volume.specs.RtName.{IsRtName, is_rt_name, rt_name_of, rt_words_of}
use Rattle.rt11_volume.proofs.NameLemmas.{IsRtName-from_parts}
use Rattle.rt11_volume.specs.Segment.{Segment, area_start, extra_bytes, segment_words}
use Rattle.rt11_volume.specs.Store.{rt_store_of}
use Rattle.rt11_volume.specs.Verifying.Verdict.{IsRtAccepted, IsSoundDisk}
use Rattle.rt11_volume.specs.declared.any_entries.RtEntry.{RtEntry}
use Rattle.rt11_volume.proofs.Named.Placing.{at_start, placed-append, placed-more, placed-nil, segments-more, segments-nil}
use Rattle.rt11_volume.proofs.Rewriting.Entries.{entry-read}
use Rattle.rt11_volume.proofs.Searching.File.{area-ends}
use Rattle.rt11_volume.proofs.SurveyFiles.{kind-file, name-same}
use Rattle.rt11_volume.proofs.Verifying.Sound.{IsSoundImage, sound_from}
use Rattle.rt11_squeeze.specs.Squeezing.{AreTold, IsTold}
use Rattle.rt11_squeeze.specs.Telling.{FailsToTell, TellsAll, TellsEntries, TellsEntry, TellsFile, TellsFiles, as_list, date_in, date_told}
use Rattle.rt11_squeeze.specs.Telling.{entry_to_move, file_as_told, file_to_move, scratch_of, scratch_type, single}
use Rattle.rt11_squeeze.proofs.BlockLemmas.{sound-looked}
use Rattle.rt11_squeeze.specs.declared.moving.FileToMove.{FileToMove}

-- two lists have as many elements, and those at the same places are alike
data AreAlike (S : RtEntry → Placed → Type 0) : List RtEntry → List Placed → Type 0 where
  none : AreAlike S [] []
  more : (e : RtEntry) (p : Placed) (es : List RtEntry) (ps : List Placed) → S e p → AreAlike S es ps → AreAlike S (e ∷ es) (p ∷ ps)

alike-append : (S : RtEntry → Placed → Type 0) (es fs : List RtEntry) (ps qs : List Placed) → AreAlike S es ps → AreAlike S fs qs
    → AreAlike S (es ++ fs) (ps ++ qs)
alike-append S _ fs _ qs AreAlike.none behind = behind
alike-append S _ fs _ qs (AreAlike.more e p es ps one rest) behind =
    AreAlike.more e p (es ++ fs) (ps ++ qs) one (alike-append S es fs ps qs rest behind)

-- An entry tells what the one says that is placed.
record TellsPlaced (image : Image) (name : List ℕ) (e : RtEntry) (p : Placed) : Type 0 where
  test : is_sound_file_named name e ≡ is_file_named name p.entry
  blocks : e.blocks ≡ area_length p.entry
  protected : e.protected ≡ is_protected p.entry
  date_is : date_told image e ≡ date p.entry
  within : 4 + 2 * e.segment + 1 < length image

-- so do those of a name
module _ (image : Image) (name : List ℕ) where
  abbrev named : Placed → Bool
  named p = is_file_named name p.entry

  alike-named : (es : List RtEntry) (ps : List Placed) → AreAlike (TellsPlaced image name) es ps
      → AreAlike (TellsPlaced image name) (filter (is_sound_file_named name) es) (filter named ps)
  alike-named _ _ AreAlike.none = AreAlike.none
  alike-named _ _ (AreAlike.more e p es ps one rest) = by (named p) one.test refl (alike-named es ps rest)
    where
      by : (b : Bool) → is_sound_file_named name e ≡ named p → named p ≡ b
          → AreAlike (TellsPlaced image name) (filter (is_sound_file_named name) es) (filter named ps)
          → AreAlike (TellsPlaced image name) (filter (is_sound_file_named name) (e ∷ es)) (filter named (p ∷ ps))
      by true same is behind =
          rw (same, is) (AreAlike.more e p (filter (is_sound_file_named name) es) (filter named ps) one behind)
      by false same is behind = rw (same, is) behind

-- a list that is like one of one element
record IsLikeOne (S : RtEntry → Placed → Type 0) (e : RtEntry) (ps : List Placed) : Type 0 where
  p : Placed
  one : ps ≡ p ∷ []
  like : S e p

like-none : (S : RtEntry → Placed → Type 0) (ps : List Placed) → AreAlike S [] ps → ps ≡ []
like-none S _ AreAlike.none = refl

like-one : (S : RtEntry → Placed → Type 0) (e : RtEntry) (ps : List Placed) → AreAlike S (e ∷ []) ps → IsLikeOne S e ps
like-one S e _ (AreAlike.more _ p _ ps one rest) =
    record { p = p; one = ap (λ (qs : List Placed). p ∷ qs) (like-none S ps rest); like = one }

-- an entry of an accepted image, and where it is placed
entry-tells : (image : Image) (name : List ℕ) (place k i : ℕ) → IsSoundImage image → is_rt_name name ≡ true
    → slice_get (visited image) place ≡ Some k → i < length (segment_of image k).entries
    → TellsPlaced image name (entry_of_segment (segment_of image k) i)
    (at_start (get_or (segment_of image k).entries i []) (area_start (segment_of image k) i))
entry-tells image name place k i sound proper at inside =
    let seg : Segment = segment_of image k in
    let e : List ℕ = get_or seg.entries i [] in
    let start : ℕ = area_start seg i in
    let ends = area-ends image place k i sound at inside in
    let one : is_one_kind (status e) ≡ true =
    (sound.each place k at).one_kind i e (slice_get-get_or seg.entries i [] inside) in
    let sum : bit_at (status e) 8 + bit_at (status e) 9 + bit_at (status e) 10 ≡ 1 =
    eqb-true (bit_at (status e) 8 + bit_at (status e) 9 + bit_at (status e) 10) 1 one in
    let within : nat_le (start + area_length e) 65535 ≡ true = grind (arith, nat_tests) in
    let back : i + 1 - 1 ≡ i = omega arith in
    record {
      test =
          (λ t. (is_file_area (if one t then Some (kind_of (status e)) else None) && within t) && has_name name
          (name_if_any (name_words e)))
          ∙ (λ t. (kind-file (bit_at (status e) 8) (bit_at (status e) 9) (bit_at (status e) 10) sum t && true)
          && name-same name (name_words e) proper t)
          ∙ (λ t. and-true (has_bit (status e) 10) t && is_same_name (name_words e) name)
          ∙ sym (λ t. (one t && has_bit (status e) 10) && is_same_name (name_words e) name);
      blocks = refl;
      protected = refl;
      date_is = ap (date_in (segment_words image k)) back
          ∙ entry-read (extra_bytes (segment_words image k)) (segment_words image k) i 6 _ _ (omega arith) inside refl refl;
      within = omega (arith, (sound.each place k at).low, sound.highest, sound.sized.within);
    }
  where
    and-true : (b : Bool) → (b && true) ≡ (true && b)
    and-true true = refl
    and-true false = refl

-- the first so many entries of a segment
segment-tells : (image : Image) (name : List ℕ) (place k n : ℕ) → IsSoundImage image → is_rt_name name ≡ true
    → slice_get (visited image) place ≡ Some k → n ≤ length (segment_of image k).entries
    → AreAlike (TellsPlaced image name) (map (entry_of_segment (segment_of image k)) (range_with_len 0 n))
    (placed (segment_of image k).first (take n (segment_of image k).entries))
segment-tells image name place k zero sound proper at inside =
    subst (AreAlike (TellsPlaced image name) []) (sym (placed-nil (segment_of image k).first)) AreAlike.none
segment-tells image name place k (suc n) sound proper at inside =
    let seg : Segment = segment_of image k in
    let S = TellsPlaced image name in
    let e : List ℕ = get_or seg.entries n [] in
    let p : Placed = at_start e (area_start seg n) in
    let next : n + 1 ≡ suc n = omega arith in
    let es : map (entry_of_segment seg) (range_with_len 0 n) ++ entry_of_segment seg n ∷ []
    ≡ map (entry_of_segment seg) (range_with_len 0 (suc n)) =
    sym (map-range_with_len_more (entry_of_segment seg) 0 n n (omega arith))
    ∙ ap (λ m. map (entry_of_segment seg) (range_with_len 0 m)) next in
    let ps : placed seg.first (take n seg.entries) ++ p ∷ [] ≡ placed seg.first (take (suc n) seg.entries) =
    ap (λ (qs : List Placed). placed seg.first (take n seg.entries) ++ qs)
    (sym (placed-more (area_start seg n) e [] ∙ ap (λ (qs : List Placed). p ∷ qs) (placed-nil (area_start seg n + area_length e))))
    ∙ sym (placed-append seg.first (take n seg.entries) (e ∷ []))
    ∙ ap (placed seg.first) (sym (take_more seg.entries n [] (omega (arith, inside))))
    ∙ ap (λ m. placed seg.first (take m seg.entries)) next in
    subst (λ (xs : List RtEntry). AreAlike S xs (placed seg.first (take (suc n) seg.entries))) es
    (subst (AreAlike S (map (entry_of_segment seg) (range_with_len 0 n) ++ entry_of_segment seg n ∷ [])) ps
    (alike-append S (map (entry_of_segment seg) (range_with_len 0 n)) (entry_of_segment seg n ∷ [])
    (placed seg.first (take n seg.entries)) (p ∷ [])
    (segment-tells image name place k n sound proper at (omega (arith, inside)))
    (AreAlike.more (entry_of_segment seg n) p [] [] (entry-tells image name place k n sound proper at (omega (arith, inside)))
    AreAlike.none)))

-- those of the segments from a place on
segments-tell : (image : Image) (name : List ℕ) (place : ℕ) (ks : List ℕ) → IsSoundImage image → is_rt_name name ≡ true
    → ((j k : ℕ) → slice_get ks j ≡ Some k → slice_get (visited image) (place + j) ≡ Some k)
    → AreAlike (TellsPlaced image name) (flat_map (entries_in image) ks) (placed_in (map (segment_of image) ks))
segments-tell image name place [] sound proper here =
    subst (AreAlike (TellsPlaced image name) []) (sym segments-nil) AreAlike.none
segments-tell image name place (k ∷ ks) sound proper here =
    let S = TellsPlaced image name in
    let seg : Segment = segment_of image k in
    let zeroth : place + 0 ≡ place = omega arith in
    let at : slice_get (visited image) place ≡ Some k = ap (slice_get (visited image)) (sym zeroth) ∙ here 0 k refl in
    let right : entries_told seg ≡ entries_in image k =
    sym (ap (λ (b : Bool). if b then [] else entries_told seg) (sound.each place k at).right) in
    let first : AreAlike S (entries_told seg) (placed seg.first seg.entries) =
    subst (λ (es : List (List ℕ)). AreAlike S (entries_told seg) (placed seg.first es))
    (take_all (length seg.entries) seg.entries (omega arith))
    (segment-tells image name place k (length seg.entries) sound proper at (omega arith)) in
    let rest = segments-tell image name (place + 1) ks sound proper (λ j next is.
    let on : (place + 1) + j ≡ place + suc j = omega arith in
    ap (slice_get (visited image)) on ∙ here (suc j) next is) in
    subst (AreAlike S (entries_in image k ++ flat_map (entries_in image) ks)) (sym (segments-more seg (map (segment_of image) ks)))
    (alike-append S (entries_in image k) (flat_map (entries_in image) ks) (placed seg.first seg.entries)
    (placed_in (map (segment_of image) ks))
    (subst (λ (xs : List RtEntry). AreAlike S xs (placed seg.first seg.entries)) right first) rest)

-- the one entry of a name tells the one file
module _ (image : Image) (accepted : IsRtAccepted image) (name : List ℕ) (proper : is_rt_name name ≡ true) (e : RtEntry)
    (one : filter (is_sound_file_named name) (directory_entries image) ≡ e ∷ []) where
  abbrev all-placed : List Placed
  all-placed = placed_in (map (segment_of image) (visited image))

  the-one : IsLikeOne (TellsPlaced image name) e (filter (named image name) all-placed)
  unfolding directory_entries
  the-one =
      like-one (TellsPlaced image name) e (filter (named image name) all-placed)
      (subst (λ (es : List RtEntry). AreAlike (TellsPlaced image name) es (filter (named image name) all-placed)) one
      (alike-named image name (flat_map (entries_in image) (visited image)) all-placed
      (segments-tell image name 0 (visited image) (sound_from image accepted) proper (λ j k is.
      let zeroth : 0 + j ≡ j = omega arith in
      ap (slice_get (visited image)) zeroth ∙ is))))

  pub one-within : 4 + 2 * e.segment + 1 < length image
  one-within = the-one.like.within

  the-file : files_named name (rt_store_of image) ≡ area_of (rt_store_of image).block the-one.p ∷ []
  unfolding files_named rt_store_of
  the-file = ap (map (area_of (rt_store_of image).block)) the-one.one

  pub one-told : (told : FileToMove) → told.name ≡ name → told.blocks ≡ e.blocks → told.protected ≡ e.protected
      → told.date ≡ date_told image e → IsTold told (rt_store_of image)
  one-told told named-so blocks protected dated = record {
    file = area_of (rt_store_of image).block the-one.p;
    named = ap (λ (n : List ℕ). files_named n (rt_store_of image)) named-so ∙ the-file;
    count_is =
        length-map-range_with_len (rt_store_of image).block the-one.p.start (area_length the-one.p.entry)
        ∙ sym the-one.like.blocks ∙ sym blocks;
    date_is = sym (dated ∙ the-one.like.date_is);
    protected_is = sym (protected ∙ the-one.like.protected);
  }

-- what was found so far
abbrev pub listed : Option RtEntry → List RtEntry
listed None = []
listed (Some e) = e ∷ []

-- one entry more, which has the name or hasn't
module _ (name : List ℕ) (entries : List RtEntry) (i : ℕ) (e : RtEntry) (inside : i < length entries) (is : e ≡ get_or entries i e) where
  one-more : (b : Bool) → is_sound_file_named name e ≡ b → filter (is_sound_file_named name) (take (i + 1) entries)
      ≡ filter (is_sound_file_named name) (take i entries) ++ (if b then e ∷ [] else [])
  one-more b test =
      filter_more (is_sound_file_named name) entries i e inside
      ∙ ap (λ (x : RtEntry). filter (is_sound_file_named name) (take i entries) ++ (if is_sound_file_named name x then x ∷ [] else []))
      (sym is)
      ∙ ap (λ (c : Bool). filter (is_sound_file_named name) (take i entries) ++ (if c then e ∷ [] else [])) test

  pub found-more : (found : Option RtEntry) → is_sound_file_named name e ≡ true → is_some found ≡ false
      → filter (is_sound_file_named name) (take i entries) ≡ listed found
      → filter (is_sound_file_named name) (take (i + 1) entries) ≡ listed (Some e)
  found-more None test unmet so_far =
      one-more true test ∙ ap (λ (es : List RtEntry). es ++ e ∷ []) so_far
  found-more (Some x) test met so_far = absurd (cc)

  pub found-same : (found : Option RtEntry) → is_sound_file_named name e ≡ false
      → filter (is_sound_file_named name) (take i entries) ≡ listed found
      → filter (is_sound_file_named name) (take (i + 1) entries) ≡ listed found
  found-same found test so_far =
      one-more false test ∙ append-nil (filter (is_sound_file_named name) (take i entries)) ∙ so_far

  -- where one has it that isn't the first, none is alone
  pub found-twice : (found : Option RtEntry) → is_sound_file_named name e ≡ true → is_some found ≡ true
      → filter (is_sound_file_named name) (take i entries) ≡ listed found
      → single (filter (is_sound_file_named name) entries) ≡ None
  found-twice None test met so_far = absurd (cc)
  found-twice (Some x) test met so_far =
      let p : RtEntry → Bool = is_sound_file_named name in
      let more : filter p (take (i + 1) entries) ≡ x ∷ e ∷ [] = one-more true test ∙ ap (λ (es : List RtEntry). es ++ e ∷ []) so_far in
      ap (λ (es : List RtEntry). single (filter p es)) (sym (take-append-drop (i + 1) entries))
      ∙ ap single (filter-append p (take (i + 1) entries) (drop (i + 1) entries))
      ∙ ap (λ (es : List RtEntry). single (es ++ filter p (drop (i + 1) entries))) more

pub found-all : (name : List ℕ) (entries : List RtEntry) (i : ℕ) (found : Option RtEntry) → length entries ≤ i
    → filter (is_sound_file_named name) (take i entries) ≡ listed found
    → found ≡ single (filter (is_sound_file_named name) entries)
found-all name entries i found all so_far =
    by found ∙ ap single (sym so_far) ∙ ap (λ (es : List RtEntry). single (filter (is_sound_file_named name) es)) (take_all i entries all)
  where
    by : (o : Option RtEntry) → o ≡ single (listed o)
    by None = refl
    by (Some x) = refl

-- the one entry of a list
pub single-one : (es : List RtEntry) (e : RtEntry) → single es ≡ Some e → es ≡ e ∷ []
single-one [] e is = absurd (cc)
single-one (x ∷ []) e is = let same : x ≡ e = ap (λ (o : Option RtEntry). unwrap_or o e) is in ap (λ (y : RtEntry). y ∷ []) same
single-one (x ∷ (y ∷ es)) e is = absurd (cc)

-- a proper name with the type of a copy is one, too
pub scratch-proper : (words : List ℕ) → IsRtName words → IsRtName (scratch_of words)
unfolding rt_words_of radix50 code_of is_name_character
scratch-proper words is =
    IsRtName-from_parts (scratch_of words) (rt_name_of words) (codes "SQZ")
    (record {
      name_characters = is.proper.name_characters;
      name_some = is.proper.name_some;
      name_length = is.proper.name_length;
      type_characters = AllPass-from_list_all is_name_character (codes "SQZ") refl;
      type_length = omega arith;
    })
    (λ t. ap (λ (w : List ℕ). get_or w 0 0) is.same_words t ∷ ap (λ (w : List ℕ). get_or w 1 0) is.same_words t ∷ scratch_type ∷ [])

pub some-of : (r : Option (List ℕ)) (P : Type 0) (words : List ℕ) → SomeIff r P words → P → r ≡ Some words
some-of None P words iff is = absurd (iff is)
some-of (Some w) P words iff is = ap (λ (x : List ℕ). Some x) iff.1

-- what is told of an entry is the file that it tells
pub told-exact : (image : Image) (entries : List RtEntry) (e file : RtEntry) (told : FileToMove) → e.name ≡ Some told.name
    → Some file ≡ entry_to_move entries e → told.scratch ≡ scratch_of told.name → told.blocks ≡ file.blocks
    → told.protected ≡ file.protected → told.date ≡ date_told image file
    → Some told ≡ file_to_move image entries e
told-exact image entries e file told named is scratch blocks protected dated =
    let same : told ≡ file_as_told image told.name file =
    λ t. record { name = told.name; scratch = scratch t; blocks = blocks t; date = dated t; protected = protected t } in
    (λ t. Some (same t)) ∙ ap (option_map (file_as_told image told.name)) is
    ∙ ap (λ (o : Option (List ℕ)). option_map (file_as_told image (unwrap_or o [])) (entry_to_move entries e)) (sym named)

-- each of those that are told so far is as it is told
abbrev pub AllTold : List RtEntry → Disk → List FileToMove → Type 0
AllTold entries disk files = All (TellsFile entries disk) files

pub told-none : (entries : List RtEntry) (disk : Disk) → AllTold entries disk []
told-none entries disk = All-nil (TellsFile entries disk)

told-one : (entries : List RtEntry) (disk : Disk) (told : FileToMove) → TellsFile entries disk told → AllTold entries disk (told ∷ [])
told-one entries disk told tells zero d within = tells
told-one entries disk told tells (suc k) d within = absurd (omega arith)

-- an entry that was read of an image that is the same
pub told-same : (entries : List RtEntry) (a b : Disk) (told : FileToMove) (most faults : ℕ) → Looked a b most faults
    → TellsFile entries b told → TellsFile entries a told
told-same entries a b told most faults looked tells = record {
  movable = tells.movable;
  is_told = λ s are.
      subst (λ (i : Image). IsTold told (rt_store_of i)) looked.image
      (tells.is_told (sound-looked looked s) (are ∙ ap directory_entries (sym looked.image)));
}

pub told-more : (entries : List RtEntry) (old now : Disk) (files : List FileToMove) (found : Option FileToMove) (most : ℕ)
    → Looked old now most 0 → AllTold entries old files → IfSome found (TellsFile entries now)
    → AllTold entries old (files ++ as_list found)
told-more entries old now files None most looked all tells = subst (AllTold entries old) (sym (append-nil files)) all
told-more entries old now files (Some told) most looked all tells =
    All-append (TellsFile entries old) files (told ∷ []) all
    (told-one entries old told (told-same entries old now told most 0 looked tells))

-- an entry of an image that is the same
pub entry-same : (entries : List RtEntry) (e : RtEntry) (a b : Disk) (found : Option FileToMove) (most faults : ℕ)
    → Looked a b most faults → TellsEntry entries e b found → TellsEntry entries e a found
entry-same entries e a b found most faults looked tells s are =
    tells (sound-looked looked s) (are ∙ ap directory_entries (sym looked.image))
    ∙ ap (λ (i : Image). file_to_move i entries e) looked.image

-- the files of so many entries
abbrev pub TellsSoFar : List RtEntry → ℕ → Disk → List FileToMove → Type 0
TellsSoFar entries i disk files =
    IsSoundDisk disk → entries ≡ directory_entries disk.image
    → files ≡ filter_map (file_to_move disk.image entries) (take i entries)

cons-list : (o : Option FileToMove) → cons_option o [] ≡ as_list o
cons-list None = refl
cons-list (Some told) = refl

pub so-far-more : (entries : List RtEntry) (i : ℕ) (e : RtEntry) (old now : Disk) (files : List FileToMove) (found : Option FileToMove)
    (most : ℕ) → i < length entries → e ≡ get_or entries i e → Looked old now most 0 → TellsSoFar entries i old files
    → TellsEntry entries e now found → TellsSoFar entries (i + 1) old (files ++ as_list found)
so-far-more entries i e old now files found most inside is looked so-far tells s are =
    let f : RtEntry → Option FileToMove = file_to_move old.image entries in
    let one : found ≡ f e = entry-same entries e old now found most 0 looked tells s are in
    (λ t. so-far s are t ++ as_list (one t))
    ∙ ap (λ (fs : List FileToMove). filter_map f (take i entries) ++ fs) (sym (cons-list (f e)))
    ∙ ap (λ (x : RtEntry). filter_map f (take i entries) ++ filter_map f (x ∷ [])) is
    ∙ sym (filter_map-append f (take i entries) (get_or entries i e ∷ []))
    ∙ ap (filter_map f) (sym (take_more entries i e inside))

pub so-far-all : (entries : List RtEntry) (i : ℕ) (disk : Disk) (files : List FileToMove) → length entries ≤ i
    → TellsSoFar entries i disk files → TellsEntries entries disk files
so-far-all entries i disk files all so-far s are =
    so-far s are ∙ ap (filter_map (file_to_move disk.image entries)) (take_all i entries all)

-- on a sound disk of which these are the entries all are
pub all-told : (entries : List RtEntry) (disk : Disk) (files : List FileToMove) → AllTold entries disk files
    → (IsTrue disk.honest → entries ≡ directory_entries disk.image) → TellsFiles files disk
all-told entries disk files all are k told at =
    let inside = slice_get_within files k told at in
    let one = subst (TellsFile entries disk) (get_or_from_slice_get files k told told at) (all k told inside) in
    (one.movable, λ s. one.is_told s (are s.honest))

pub are-told : (files : List FileToMove) (disk : Disk) → TellsFiles files disk → IsSoundDisk disk → AreTold files (rt_store_of disk.image)
are-told files disk tells s k told at = (tells k told at).1 s

-- what was told of a directory that was read before
pub tells-all : (entries : List RtEntry) (a b c : Disk) (result : Result (Vec FileToMove Global) RtRefusal) → Looked a b 62 0
    → (IsTrue a.honest → entries ≡ directory_entries a.image) → Looked b c (2 * length entries) (faults_in result)
    → IfOk result (λ files. AllTold entries b files.items) → IfOk result (λ files. TellsEntries entries b files.items)
    → IfOk result (λ files. TellsAll files.items a c)
tells-all entries a b c (Ok files) read are looked all exact = record {
  entries = length entries;
  entries_are = λ honest. ap (λ (es : List RtEntry). length es) (are honest);
  exact = λ s.
      exact (sound-looked read s) (are s.honest ∙ ap directory_entries (sym read.image))
      ∙ (λ t. filter_map (file_to_move (read.image t) (are s.honest t)) (are s.honest t));
  looked = looked_more read looked;
  tells = λ k told at.
      let r = all-told entries b files.items all
      (λ honest. are (sym read.honest ∙ honest) ∙ ap directory_entries (sym read.image)) k told at in (
        r.0,
        λ s. subst (λ (i : Image). IsTold told (rt_store_of i)) read.image (r.1 (sound-looked read s)),
      );
}
tells-all entries a b c (Err e) read are looked all exact = tt

-- a directory that can't be read is none of a sound disk
pub tells-none : (a b : Disk) → (IsTrue a.honest → ¬ IsSized a.image) → Looked a b 62 0 → TellsAll [] a b
tells-none a b unsized looked = record {
  entries = length (directory_entries a.image);
  entries_are = λ honest. refl;
  exact = λ s. absurd (unsized s.honest (sound_from a.image s.accepted).sized);
  looked = looked_within looked (omega arith);
  tells = λ k told at. absurd (cc);
}

-- none was read
pub untold : (e : RtRefusal) (a b : Disk) → Looked a b 62 (faults_in {T = Unit} (Err e)) → (is_fault e ≡ false → e ≡ NoMemory)
    → FailsToTell e a b
untold e a b looked why = record {
  entries = length (directory_entries a.image);
  entries_are = λ honest. refl;
  looked = looked_within looked (omega arith);
  why = why;
}
