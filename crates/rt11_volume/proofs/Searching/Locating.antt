-- Where the file of a name lies, as it was found.
use Rattle.std.proofs.Common.{◌≡◌, ◌⊎◌, inl, inr, ℕ, zero, suc, ◌+◌, ◌<◌, ◌≤◌, Bool, true, false, List, [], ◌∷◌, length, map, filter, min}
use Rattle.std.proofs.Common.{Option, Some, None, refl, sym, ◌∙◌, ap, subst, arith}
use Rattle.std.specs.List.{All, slice_get}
use Rattle.std.proofs.lemmas.Bool.{cases_Bool}
use Rattle.std.proofs.lemmas.List.{length-set}
use Rattle.std.proofs.lemmas.Option.{slice_get_within}
use Rattle.f11_dev.specs.Disk.{Disk}
use Rattle.f11_dev.specs.Image.{Image}
use Rattle.rt11_volume.specs.Entry.{area_length, is_file_named}
use Rattle.rt11_volume.specs.Files.{HasFile, file_area, HasNoFile, IsFileAt, HasBlockWritten, IsBlockAt, IsLocated, IsPastEnd}
use Rattle.rt11_volume.specs.Named.{Placed, area_of, files_named, placed_in}
use Rattle.rt11_volume.specs.Operations.{with_block}
use Rattle.rt11_volume.specs.Searching.Locating.{IsPlaceOf, LiesThere}
use Rattle.rt11_volume.specs.Searching.Looking.{found_segment, found_entry, IsFirstFound}
use Rattle.rt11_volume.specs.Searching.Search.{IsFirst, HasNone}
use Rattle.rt11_volume.specs.Segment.{Segment, area_start}
use Rattle.rt11_volume.specs.Store.{RtStore, Area, rt_store_of}
use Rattle.rt11_volume.specs.declared.lookup.entry.Found.{Found}
use Rattle.rt11_volume.specs.declared.lookup.file.Located.{Located}
use Rattle.rt11_volume.proofs.Named.Laws.{file-first, no-file}
use Rattle.rt11_volume.proofs.Searching.File.{file-found, file-start, file-length, file-ends}
use Rattle.rt11_volume.proofs.Verifying.Sound.{IsSoundImage}

some-same : {X : Type 0} (o : Option X) (x y : X) → o ≡ Some x → o ≡ Some y → x ≡ y
some-same o x y is also = let both : Some x ≡ Some y = sym is ∙ also in cc

-- The first entry that passes.
record First (test : List ℕ → Bool) (es : List (List ℕ)) : Type 0 where
  i : ℕ
  entry : List ℕ
  at : slice_get es i ≡ Some entry
  passes : test entry ≡ true
  before : (j : ℕ) (e : List ℕ) → j < i → slice_get es j ≡ Some e → test e ≡ false

-- there is one, or none passes
first-more : (test : List ℕ → Bool) (e : List ℕ) (es : List (List ℕ)) → test e ≡ false → First test es → First test (e ∷ es)
first-more test e es fails f = record {
  i = suc f.i;
  entry = f.entry;
  at = f.at;
  passes = f.passes;
  before = earlier;
} where
  earlier : (j : ℕ) (d : List ℕ) → j < suc f.i → slice_get (e ∷ es) j ≡ Some d → test d ≡ false
  earlier zero d less is = ap test (sym (some-same _ _ _ refl is)) ∙ fails
  earlier (suc j) d less is = f.before j d (omega (arith, less)) is

none-more : (test : List ℕ → Bool) (e : List ℕ) (es : List (List ℕ)) → test e ≡ false → All (λ d. test d ≡ false) es
    → All (λ d. test d ≡ false) (e ∷ es)
none-more test e es fails none zero d within = fails
none-more test e es fails none (suc i) d within = none i d (omega (arith, within))

first-or-none : (test : List ℕ → Bool) (es : List (List ℕ)) → First test es ⊎ All (λ e. test e ≡ false) es
first-or-none test [] = inr (λ i d within. absurd (omega (arith, within)))
first-or-none test (e ∷ es) = elim (cases_Bool (test e)) [
  | inl passes ↦ inl (record {
    i = zero;
    entry = e;
    at = refl;
    passes = passes;
    before = λ j d less is. absurd (omega (arith, less));
  })
  | inr fails ↦ elim (first-or-none test es) [
    | inl f ↦ inl (first-more test e es fails f)
    | inr none ↦ inr (none-more test e es fails none)
  ]
]

-- The same of the segments.
record FirstIn (test : List ℕ → Bool) (segments : List Segment) : Type 0 where
  place : ℕ
  i : ℕ
  segment : Segment
  entry : List ℕ
  first : IsFirst test segments place i segment entry

first-behind : (test : List ℕ → Bool) (s : Segment) (segments : List Segment) → All (λ e. test e ≡ false) s.entries
    → FirstIn test segments → FirstIn test (s ∷ segments)
first-behind test s segments none f = record {
  place = suc f.place;
  i = f.i;
  segment = f.segment;
  entry = f.entry;
  first = record {
    segment_is = f.first.segment_is;
    entry_is = f.first.entry_is;
    passes = f.first.passes;
    none_before = f.first.none_before;
    none_earlier = earlier;
  };
} where
  earlier : (l : ℕ) (t : Segment) → l < suc f.place → slice_get (s ∷ segments) l ≡ Some t → All (λ e. test e ≡ false) t.entries
  earlier zero t less is =
      subst (λ (x : Segment). All (λ e. test e ≡ false) x.entries) (some-same _ _ _ refl is) none
  earlier (suc l) t less is = f.first.none_earlier l t (omega (arith, less)) is

none-behind : (test : List ℕ → Bool) (s : Segment) (segments : List Segment) → All (λ e. test e ≡ false) s.entries
    → HasNone test segments → HasNone test (s ∷ segments)
none-behind test s segments none more zero d within = none
none-behind test s segments none more (suc l) d within = more l d (omega (arith, within))

first-in : (test : List ℕ → Bool) (segments : List Segment) → FirstIn test segments ⊎ HasNone test segments
first-in test [] = inr (λ l d within. absurd (omega (arith, within)))
first-in test (s ∷ segments) = elim (first-or-none test s.entries) [
  | inl f ↦ inl (record {
    place = zero;
    i = f.i;
    segment = s;
    entry = f.entry;
    first = record {
      segment_is = refl;
      entry_is = f.at;
      passes = f.passes;
      none_before = f.before;
      none_earlier = λ l t less is. absurd (omega (arith, less));
    };
  })
  | inr none ↦ elim (first-in test segments) [
    | inl f ↦ inl (first-behind test s segments none f)
    | inr more ↦ inr (none-behind test s segments none more)
  ]
]

-- there is a file of a name, or none
file-or-none : (name : List ℕ) (store : RtStore) → HasFile name store ⊎ HasNoFile name store
file-or-none name store = elim (first-in (is_file_named name) store.segments) [
  | inl f ↦ inl (record { place = f.place; i = f.i; segment = f.segment; entry = f.entry; first = f.first })
  | inr none ↦ inr none
]

-- what the first of a name is, is that of its file
first-is : {X : Type 0} (f : Area → X) (name : List ℕ) (store : RtStore) (file : HasFile name store)
    → slice_get (map f (files_named name store)) 0 ≡ Some (f (file_area file))
first-is f name store file =
    let first = file-first name store file in
    subst (λ (areas : List Area). slice_get (map f areas) 0 ≡ Some (f (file_area file))) (sym first.named) refl

-- so it is where it is said to be
pub file-at : (file : Located) (image : Image) → IsLocated file image → IsFileAt file.name (rt_store_of image) file.start file.length
file-at file image lies = elim (file-or-none file.name (rt_store_of image)) [
  | inl is ↦ record {
    file = is;
    start_is = some-same _ _ _ lies.0 (first-is (λ (a : Area). a.start) file.name (rt_store_of image) is);
    length_is = some-same _ _ _ lies.1 (first-is (λ (a : Area). a.length) file.name (rt_store_of image) is);
  }
  | inr none ↦ absurd (no-first file.start (subst (λ (areas : List Area). slice_get (map (λ (a : Area). a.start) areas) 0 ≡ Some file.start)
      (no-file file.name (rt_store_of image) none) lies.0))
] where
  no-first : (n : ℕ) → slice_get (map (λ (a : Area). a.start) []) 0 ≡ Some n → ⊥
  no-first n is = omega (arith, slice_get_within [] 0 n is)

-- the place of the file that was found, in words
pub located : (image : Image) (found : Found) (file : Located) → IsSoundImage image → IsFirstFound (is_file_named file.name) image found
    → file.start ≡ min (area_start (found_segment found) found.i) 65535 → file.length ≡ area_length (found_entry found)
    → IsLocated file image
located image found file sound is begins long =
    let ends = file-ends file.name image found sound is in
    let low : file.start ≡ area_start (found_segment found) found.i = omega (arith, begins, ends) in
    let here = file-found file.name image found is in (
      first-is (λ (a : Area). a.start) file.name (rt_store_of image) here
          ∙ ap Some (sym (low ∙ file-start file.name image found is)),
      first-is (λ (a : Area). a.length) file.name (rt_store_of image) here
          ∙ ap Some (sym (long ∙ file-length file.name image found is)),
      omega (arith, low, long, ends),
    )

-- a block of it, or none
pub reached : (name : List ℕ) (image : Image) (file : Located) (place lbn blocks : ℕ) → file.name ≡ name → IsLocated file image
    → IsPlaceOf file place lbn blocks → IsBlockAt name (rt_store_of image) place lbn
reached name image file place lbn blocks named lies at =
    let is = file-at file image lies in
    subst (λ n. IsBlockAt n (rt_store_of image) place lbn) named (record {
      file = is.file;
      inside = omega (arith, at.inside, is.length_is);
      lbn_is = omega (arith, at.lbn_is, is.start_is);
    })

pub not-reached : (name : List ℕ) (image : Image) (file : Located) (place blocks : ℕ) → file.name ≡ name → IsLocated file image
    → blocks ≡ length image → (file.length ≤ place) ⊎ (blocks ≤ file.start + place) → IsPastEnd name (rt_store_of image) place
not-reached name image file place blocks named lies size none =
    let is = file-at file image lies in
    subst (λ n. IsPastEnd n (rt_store_of image) place) named (record {
      file = is.file;
      past = elim none [
        | inl past ↦ omega (arith, past, is.length_is)
        | inr off ↦ omega (arith, off, size, lies.2, is.length_is)
      ];
    })

-- a block that is written moves no file
first-still : {X : Type 0} (f : Area → X) (g : Placed → X) (name : List ℕ) (store : RtStore) (lbn : ℕ) (block : List ℕ)
    → ((b : ℕ → List ℕ) (p : Placed) → f (area_of b p) ≡ g p)
    → map f (files_named name (with_block store lbn block)) ≡ map f (files_named name store)
unfolding with_block files_named
first-still f g name store lbn block is =
    let ps = filter (λ (p : Placed). is_file_named name p.entry) (placed_in store.segments) in
    same (with_block store lbn block).block ps ∙ sym (same store.block ps)
  where
    same : (b : ℕ → List ℕ) (ps : List Placed) → map f (map (area_of b) ps) ≡ map g ps
    same b [] = refl
    same b (p ∷ ps) = λ t. is b p t ∷ same b ps t

pub lies-still : (file : Located) (old new : Image) (lbn : ℕ) (block : List ℕ)
    → rt_store_of new ≡ with_block (rt_store_of old) lbn block → length new ≡ length old → IsLocated file old → IsLocated file new
lies-still file old new lbn block store size lies = (
  ap (λ (s : RtStore). slice_get (map (λ (a : Area). a.start) (files_named file.name s)) 0) store
      ∙ ap (λ (ns : List ℕ). slice_get ns 0)
      (first-still (λ (a : Area). a.start) (λ (p : Placed). p.start) file.name (rt_store_of old) lbn block
      (λ b p. refl)) ∙ lies.0,
  ap (λ (s : RtStore). slice_get (map (λ (a : Area). a.length) (files_named file.name s)) 0) store
      ∙ ap (λ (ns : List ℕ). slice_get ns 0) (first-still (λ (a : Area). a.length) (λ (p : Placed). area_length p.entry) file.name
      (rt_store_of old) lbn block (λ b p. refl)) ∙ lies.1,
  omega (arith, size, lies.2),
)

pub lies-written : (name : List ℕ) (place : ℕ) (block : List ℕ) (last : Option Located) (old : Disk) (new : Image)
    → HasBlockWritten name place block old new → LiesThere last old old.image → LiesThere last old new
lies-written name place block None old new writes lies = tt
lies-written name place block (Some file) old new writes lies = λ sound.
    let w = writes sound in
    lies-still file old.image new _ block w.store_is (ap (λ (i : Image). length i) w.image_is ∙ length-set old.image _ block)
    (lies sound)
