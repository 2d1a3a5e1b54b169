-- Blocks of files that stand on an image.
use Rattle.std.proofs.Common.{◌≡◌, inr, ℕ, zero, suc, ◌+◌, ◌≤◌, ◌==◌, ◌&&◌, Bool, true, false, if◌then◌else◌, nat_le}
use Rattle.std.proofs.Common.{List, [], ◌∷◌, ◌++◌, append_assoc, length, map, filter, get_or, Some, refl, sym, ap, ◌∙◌, subst, arith}
use Rattle.std.specs.List.{slice_get, range_with_len}
use Rattle.std.proofs.lemmas.Bool.{and_parts, eqb-true}
use Rattle.std.proofs.lemmas.Bool.Decides.{nat_tests}
use Rattle.std.proofs.lemmas.List.FromFn.{length-map-range_with_len}
use Rattle.f11_dev.specs.Image.{Image, image_block}
use Rattle.rt11_volume.specs.Directory.{KeepsData, count_of, data_start, segment_of, start_of, visited}
use Rattle.rt11_volume.specs.Entry.{is_file_named, is_permanent, is_same_name}
use Rattle.rt11_volume.specs.Laws.{KeepsOtherNames}
use Rattle.rt11_volume.specs.Named.{Placed, area_of, files_named, placed_in}
use Rattle.rt11_volume.specs.Operations.{with_entry}
use Rattle.rt11_volume.specs.Segment.{Segment}
use Rattle.rt11_volume.specs.Store.{Area, RtStore, rt_store_of}
use Rattle.rt11_volume.specs.Verifying.Verdict.{IsRtAccepted}
use Rattle.rt11_volume.proofs.Named.Ascending.{Ascends, begins-behind, image-ascends}
use Rattle.rt11_volume.proofs.Verifying.Sound.{sound_from}
use Rattle.rt11_squeeze.specs.Kept.{HasBlocksOf, KeepsBehind, StandOn}

-- blocks that are the same from one on
maps-same : (f g : ℕ → List ℕ) (a n : ℕ) → ((lbn : ℕ) → a ≤ lbn → f lbn ≡ g lbn)
    → map f (range_with_len a n) ≡ map g (range_with_len a n)
maps-same f g a zero same = refl
maps-same f g a (suc n) same =
    let first = same a (omega arith) in
    let rest = maps-same f g (a + 1) n (λ lbn low. same lbn (omega (arith, low))) in
    λ t. first t ∷ rest t

-- A file's blocks lie behind the directory.
record LiesBehind (start : ℕ) (block : ℕ → List ℕ) (file : Area) : Type 0 where
  contents : file.contents ≡ map block (range_with_len file.start file.length)
  behind : start ≤ file.start

-- the first of a list, or one of those behind it
first-behind : (start : ℕ) (block : ℕ → List ℕ) (test : Placed → Bool) (before ps : List Placed) (p : Placed) (file : Area) (b : Bool)
    → Ascends start (before ++ (p ∷ ps)) → test p ≡ b
    → ((j : ℕ) → slice_get (map (area_of block) (filter test ps)) j ≡ Some file → LiesBehind start block file)
    → (k : ℕ) → slice_get (map (area_of block) (filter test (p ∷ ps))) k ≡ Some file → LiesBehind start block file
first-behind start block test before ps p file true up this rest zero here =
    let now : slice_get (map (area_of block) (p ∷ filter test ps)) 0 ≡ Some file =
    sym (ap (λ (b : Bool). slice_get (map (area_of block) (if b then p ∷ filter test ps else filter test ps)) 0) this) ∙ here in
    let same : area_of block p ≡ file = cc in
    subst (LiesBehind start block) same (record { contents = refl; behind = begins-behind start before p ps up })
first-behind start block test before ps p file true up this rest (suc k) here =
    rest k (sym (ap (λ (b : Bool). slice_get (map (area_of block) (if b then p ∷ filter test ps else filter test ps)) (suc k)) this) ∙ here)
first-behind start block test before ps p file false up other rest k here =
    rest k (sym (ap (λ (b : Bool). slice_get (map (area_of block) (if b then p ∷ filter test ps else filter test ps)) k) other) ∙ here)

files-behind : (start : ℕ) (block : ℕ → List ℕ) (test : Placed → Bool) (before ps : List Placed) → Ascends start (before ++ ps)
    → (k : ℕ) (file : Area) → slice_get (map (area_of block) (filter test ps)) k ≡ Some file → LiesBehind start block file
files-behind start block test before [] up k file is = absurd (cc)
files-behind start block test before (p ∷ ps) up k file is =
    first-behind start block test before ps p file (test p) up refl
    (λ j at. files-behind start block test (before ++ p ∷ []) ps (subst (Ascends start) (sym (append_assoc before (p ∷ []) ps)) up) j file
    at)
    k is

-- they stand where the blocks behind the directory are the same
file-stands : (start : ℕ) (block : ℕ → List ℕ) (file : Area) (image : Image) → LiesBehind start block file
    → ((lbn : ℕ) → start ≤ lbn → image_block image lbn ≡ block lbn) → StandOn file.contents image
file-stands start block file image lies same = record {
  start = file.start;
  blocks_are =
      ap (λ n. map (image_block image) (range_with_len file.start n))
      (ap (λ (c : List (List ℕ)). length c) lies.contents ∙ length-map-range_with_len block file.start file.length)
      ∙ maps-same (image_block image) block file.start file.length (λ lbn low. same lbn (omega (arith, low, lies.behind)))
      ∙ sym lies.contents;
}

-- each file of an accepted volume stands where the blocks behind its directory are as they were
pub behind-stand : (old image : Image) → IsRtAccepted old → KeepsBehind old image → HasBlocksOf (rt_store_of old) image
unfolding rt_store_of files_named
behind-stand old image accepted keeps name k file is =
    file-stands (data_start old) (λ lbn. if nat_le (data_start old) lbn then image_block old lbn else []) file image
    (files-behind (data_start old) (λ lbn. if nat_le (data_start old) lbn then image_block old lbn else [])
    (λ (p : Placed). is_file_named name p.entry) [] (placed_in (map (segment_of old) (visited old)))
    (image-ascends old (sound_from old accepted)) k file is)
    (λ lbn low.
    let high : nat_le (data_start old) lbn ≡ true = grind (arith, nat_tests) in
    keeps lbn low ∙ sym (ap (λ (b : Bool). if b then image_block old lbn else []) high))

-- as they are where a directory was written
pub data-behind : (old image : Image) → KeepsData (count_of old) old image → KeepsBehind old image
data-behind old image keeps lbn low = keeps lbn (inr low)

pub same-behind : (old image : Image) → image ≡ old → KeepsBehind old image
same-behind old image is lbn low = ap (λ (i : Image). image_block i lbn) is

-- Another entry leaves them, and where they begin.
pub record KeepsStart (old image : Image) : Type 0 where
  pub start : data_start image ≡ data_start old
  pub behind : KeepsBehind old image

pub entry-behind : (old image : Image) (place i : ℕ) (seg : Segment) (e : List ℕ)
    → rt_store_of image ≡ with_entry (rt_store_of old) place i seg e → KeepsStart old image
unfolding rt_store_of with_entry
entry-behind old image place i seg e is =
    let start : data_start image ≡ data_start old = ap (λ (s : RtStore). start_of s.count) is in
    record {
      start = start;
      behind = λ lbn low.
          let high : nat_le (data_start old) lbn ≡ true = grind (arith, nat_tests) in
          let there : nat_le (data_start image) lbn ≡ true = ap (λ n. nat_le n lbn) start ∙ high in
          sym (ap (λ (b : Bool). if b then image_block image lbn else []) there)
          ∙ ap (λ (s : RtStore). s.block lbn) is
          ∙ ap (λ (b : Bool). if b then image_block old lbn else []) high;
    }

-- one write behind another
pub behind-then : (old middle image : Image) → KeepsStart old middle → KeepsBehind middle image → KeepsBehind old image
behind-then old middle image first next lbn low =
    next lbn (subst (λ n. n ≤ lbn) (sym first.start) low) ∙ first.behind lbn low

-- two names that are the same mean the same files
pub same-files : (name other : List ℕ) (store : RtStore) → is_same_name name other ≡ true
    → files_named other store ≡ files_named name store
unfolding files_named
same-files name other store is =
    let a = and_parts (get_or name 0 0 == get_or other 0 0)
    (get_or name 1 0 == get_or other 1 0 && get_or name 2 0 == get_or other 2 0) is in
    let b = and_parts (get_or name 1 0 == get_or other 1 0) (get_or name 2 0 == get_or other 2 0) a.1 in
    let zeroth : get_or name 0 0 ≡ get_or other 0 0 = eqb-true (get_or name 0 0) (get_or other 0 0) a.0 in
    let first : get_or name 1 0 ≡ get_or other 1 0 = eqb-true (get_or name 1 0) (get_or other 1 0) b.0 in
    let second : get_or name 2 0 ≡ get_or other 2 0 = eqb-true (get_or name 2 0) (get_or other 2 0) b.1 in
    sym (λ t. map (area_of store.block) (filter (λ (p : Placed). is_permanent p.entry
    && (get_or p.entry 1 0 == zeroth t && (get_or p.entry 2 0 == first t && get_or p.entry 3 0 == second t)))
    (placed_in store.segments)))

-- a name with no file is another than that of one
pub names-apart : (name other : List ℕ) (store : RtStore) (file : Area) (more : List Area) → files_named name store ≡ []
    → files_named other store ≡ file ∷ more → is_same_name name other ≡ false
names-apart name other store file more none is = by (is_same_name name other) refl
  where
    by : (b : Bool) → is_same_name name other ≡ b → b ≡ false
    by false same = refl
    by true same = let clash : file ∷ more ≡ [] = sym is ∙ same-files name other store same ∙ none in absurd (cc)

-- nor is that one the other
pub names-apart-back : (name other : List ℕ) (store : RtStore) (file : Area) (more : List Area) → files_named name store ≡ []
    → files_named other store ≡ file ∷ more → is_same_name other name ≡ false
names-apart-back name other store file more none is = by (is_same_name other name) refl
  where
    by : (b : Bool) → is_same_name other name ≡ b → b ≡ false
    by false same = refl
    by true same = let clash : file ∷ more ≡ [] = sym is ∙ sym (same-files other name store same) ∙ none in absurd (cc)

-- Blocks of a file are those of one of a store.
pub record IsCarried (blocks : List (List ℕ)) (store : RtStore) : Type 0 where
  pub name : List ℕ
  pub place : ℕ
  pub file : Area
  pub at : slice_get (files_named name store) place ≡ Some file
  pub blocks_are : file.contents ≡ blocks

-- those of each file are
abbrev pub CarriesFiles : RtStore → RtStore → Type 0
CarriesFiles old new =
    (name : List ℕ) (k : ℕ) (file : Area) → slice_get (files_named name old) k ≡ Some file → IsCarried file.contents new

pub carried-stand : (old new : RtStore) (image : Image) → CarriesFiles old new → HasBlocksOf new image → HasBlocksOf old image
carried-stand old new image carries has name k file is =
    let c = carries name k file is in
    subst (λ (blocks : List (List ℕ)). StandOn blocks image) c.blocks_are (has c.name c.place c.file c.at)

pub carried-then : (a b c : RtStore) → CarriesFiles a b → CarriesFiles b c → CarriesFiles a c
carried-then a b c first next name k file is =
    let one = first name k file is in
    let two = next one.name one.place one.file one.at in
    record { name = two.name; place = two.place; file = two.file; at = two.at; blocks_are = two.blocks_are ∙ one.blocks_are }

-- none is of no name
no-file-there : {A : Type 0} (name other : List ℕ) (store : RtStore) (k : ℕ) (file : Area) → files_named name store ≡ []
    → is_same_name name other ≡ true → slice_get (files_named other store) k ≡ Some file → A
no-file-there name other store k file none same is =
    let now : slice_get {X = Area} [] k ≡ Some file =
    sym (ap (λ (fs : List Area). slice_get fs k) (same-files name other store same ∙ none)) ∙ is in absurd (cc)

-- where one name had no file, and those of all others are as they were
pub others-carried : (name : List ℕ) (old new : RtStore) → files_named name old ≡ [] → KeepsOtherNames name old new → CarriesFiles old new
others-carried name old new none others other k file is = by (is_same_name name other) refl
  where
    by : (b : Bool) → is_same_name name other ≡ b → IsCarried file.contents new
    by true same = no-file-there name other old k file none same is
    by false apart = record {
      name = other;
      place = k;
      file = file;
      at = ap (λ (fs : List Area). slice_get fs k) (others other apart) ∙ is;
      blocks_are = refl;
    }

-- where the only file of one name is gone, another name has its blocks, and those of a third one had none
pub moved-carried : (name scratch : List ℕ) (file copy : Area) (old new : RtStore) → files_named name old ≡ file ∷ []
    → files_named scratch old ≡ [] → files_named scratch new ≡ copy ∷ [] → copy.contents ≡ file.contents
    → ((third : List ℕ) → is_same_name name third ≡ false → is_same_name scratch third ≡ false
    → files_named third new ≡ files_named third old) → CarriesFiles old new
moved-carried name scratch file copy old new was none is blocks others other k found there =
    by (is_same_name name other) (is_same_name scratch other) refl refl
  where
    first : (j : ℕ) → slice_get (file ∷ []) j ≡ Some found → found ≡ file
    first zero at = cc
    first (suc j) at = absurd (cc)

    by : (b c : Bool) → is_same_name name other ≡ b → is_same_name scratch other ≡ c → IsCarried found.contents new
    by b true same also = no-file-there scratch other old k found none also there
    by true false same apart = record {
      name = scratch;
      place = 0;
      file = copy;
      at = ap (λ (fs : List Area). slice_get fs 0) is;
      blocks_are =
          blocks ∙ ap (λ (f : Area). f.contents)
          (sym (first k (sym (ap (λ (fs : List Area). slice_get fs k) (same-files name other old same ∙ was)) ∙ there)));
    }
    by false false apart also = record {
      name = other;
      place = k;
      file = found;
      at = ap (λ (fs : List Area). slice_get fs k) (others other apart also) ∙ there;
      blocks_are = refl;
    }
