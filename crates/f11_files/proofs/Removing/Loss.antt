-- Blocks that are free once others were marked so, and what headers name once some are gone or name less.
use Rattle.std.proofs.Common.{◌≡◌, ◌≢◌, ◌⊎◌, ◌+◌, ◌-◌, ◌<◌, ◌≤◌, ◌==◌, ◌||◌, ℕ, zero, suc, Bool, true, false, cond, if◌then◌else◌, List, []}
use Rattle.std.proofs.Common.{◌∷◌, ◌++◌, Some, None, length, take, drop, inl, inr, refl, sym, ap, subst, ◌∙◌, append_assoc, arith}
use Rattle.std.specs.List.{range_with_len, slice_get}
use Rattle.std.proofs.Math.Bool.{or_assoc, or-false, or-true}
use Rattle.std.proofs.Math.Seq.{drop-append-add, drop-append_seam, take-append_seam}
use Rattle.std.proofs.lemmas.Bool.{cases_Bool, cases_eq, cases_lt, eq-eqb, false≢true, ne_eqb}
use Rattle.std.proofs.lemmas.Grind.{flat_map-append}
use Rattle.std.proofs.lemmas.List.{append-nil, drop-append-le, length-append, take-append-drop}
use Rattle.std.proofs.lemmas.List.Folds.{list_any-append}
use Rattle.std.proofs.lemmas.Option.{none-some, same_Some, slice_get_within}
use Rattle.f11_bits.specs.Bitmap.{Marks}
use Rattle.f11_dev.specs.Image.{Image}
use Rattle.f11_header.specs.Writing.{dead_header}
use Rattle.f11_home.specs.Home.{HomeFields}
use Rattle.f11_map.proofs.MapLemmas.{slice_get-append_back}
use Rattle.f11_map.specs.HeaderBlock.{segment_number, blocks_named}
use Rattle.f11_index.specs.Headers.{headers_from, headers_of}
use Rattle.f11_index.specs.Sound.{AreApart}
use Rattle.f11_index.specs.Table.{Table, table_of, IsLive, IsFile, IsHeaderOf, IsWholeFile}
use Rattle.f11_index.proofs.ChainLemmas.{live_of-header}
use Rattle.f11_index.proofs.HeadersLemmas.{Comes, Comes-header, Comes-split, headers-apart, link_number, live-some, place-has}
use Rattle.f11_index.proofs.PlaceLemmas.{slice_get-append_front}
use Rattle.f11_chain.specs.FileHeaders.{blocks_by, blocks_before, file_blocks}
use Rattle.f11_chain.specs.Laws.{EndsWith}
use Rattle.f11_chain.proofs.ChangeLemmas.{ends-with, is-cut}
use Rattle.f11_store.specs.Changes.{is_in}
use Rattle.f11_store.specs.File.{File}
use Rattle.f11_volume.specs.Sound.{HasSoundVolume}
use Rattle.f11_volume.specs.Space.{storage_bitmap}
use Rattle.f11_volume.specs.Volume.{Volume, volume_of}
use Rattle.f11_volume.proofs.FileLemmas.{image-files, file-headers-are}
use Rattle.f11_writes.specs.Kept.{file_in, KeepsButFree}
use Rattle.f11_writes.specs.OtherSlots.{KeepsOtherSlots}
use Rattle.f11_writes.proofs.OtherSlotLemmas.{live-was, stay-before, turned}
use Rattle.f11_image_store.specs.Allocation.{named_by, BeginsWith, IsEnd, FreesBlocks, Kills, LosesHeaders, LosesBlocks}
use Rattle.f11_image_store.specs.StoreOf.{as_seen, is_first, store_of}
use Rattle.f11_image_store.proofs.AllocationLemmas.{named-live, named-others, named-unused}
use Rattle.f11_files.proofs.Finding.Named.{file-stored, seen-same}
use Rattle.f11_image_store.proofs.StoreLemmas.{file-at, first-is-tested}

-- what stands in two lists, one behind the other
pub in-append : (xs ys : List ℕ) (n : ℕ) → is_in (xs ++ ys) n ≡ (is_in xs n || is_in ys n)
in-append xs ys n = list_any-append (λ m. m == n) xs ys

pub in-front : (xs ys : List ℕ) (n : ℕ) → is_in xs n ≡ true → is_in (xs ++ ys) n ≡ true
in-front xs ys n is = in-append xs ys n ∙ ap (λ (b : Bool). b || is_in ys n) is

pub in-behind : (xs ys : List ℕ) (n : ℕ) → is_in ys n ≡ true → is_in (xs ++ ys) n ≡ true
in-behind xs ys n is = in-append xs ys n ∙ ap (λ (b : Bool). is_in xs n || b) is ∙ or-true (is_in xs n)

pub in-first : (n : ℕ) (ns : List ℕ) → is_in (n ∷ ns) n ≡ true
in-first n ns = ap (λ (b : Bool). b || is_in ns n) (eq-eqb n n refl)

-- what stands among numbers in a row
pub in-run : (a count k : ℕ) → a ≤ k → k < a + count → is_in (range_with_len a count) k ≡ true
in-run a zero k low high = absurd (omega (arith, low, high))
in-run a (suc count) k low high = elim (cases_eq a k) [
  | inl here ↦ ap (λ (b : Bool). b || is_in (range_with_len (a + 1) count) k) (eq-eqb a k here)
  | inr away ↦
      ap (λ (b : Bool). (a == k) || b) (in-run (a + 1) count k (omega (arith, low, away)) (omega (arith, high))) ∙ or-true (a == k)
]

pub out-run : (a count k : ℕ) → (k < a) ⊎ (a + count ≤ k) → is_in (range_with_len a count) k ≡ false
out-run a zero k out = refl
out-run a (suc count) k out =
    let away : a ≢ k = λ same. elim out [ inl below ↦ omega (arith, same, below) | inr above ↦ omega (arith, same, above) ] in
    let rest : (k < a + 1) ⊎ (a + 1 + count ≤ k) =
    elim out [ inl below ↦ inl (omega (arith, below)) | inr above ↦ inr (omega (arith, above)) ] in
    ap (λ (b : Bool). b || is_in (range_with_len (a + 1) count) k) (ne_eqb a k away) ∙ out-run (a + 1) count k rest

-- a run was marked free
pub frees-run : (old new : Image) (home : HomeFields) (lbn count : ℕ) → KeepsButFree home old new
    → Marks true (storage_bitmap old home) lbn count old new
    → FreesBlocks (range_with_len lbn count) (volume_of old home) (volume_of new home)
unfolding volume_of
frees-run old new home lbn count kept marks = record { size = ap (λ (v : Volume). v.size) kept.volume; free = now-free }
  where
    now-free : (k : ℕ) → (volume_of new home).free k ≡ ((volume_of old home).free k || is_in (range_with_len lbn count) k)
    now-free k =
        let was : Bool = (volume_of old home).free k in
        let now = ap (λ (v : Volume). v.free k) kept.volume in
        let out : (k < lbn) ⊎ (lbn + count ≤ k) → was ≡ (was || is_in (range_with_len lbn count) k) =
        λ is. sym (or-false was) ∙ ap (λ (b : Bool). was || b) (sym (out-run lbn count k is)) in
        elim (cases_lt k lbn) [
          | inl below ↦ now ∙ marks.before k below ∙ out (inl below)
          | inr low ↦ elim (cases_lt k (lbn + count)) [
            | inl inside ↦ now ∙ marks.inside k low inside ∙ sym (ap (λ (b : Bool). was || b) (in-run lbn count k low inside) ∙ or-true was)
            | inr past ↦ now ∙ marks.after k past ∙ out (inr past)
          ]
        ]

-- none was
pub frees-nothing : (v : Volume) → FreesBlocks [] v v
frees-nothing v = record { size = refl; free = λ k. sym (or-false (v.free k)) }

-- With these blocks free in one volume the same are free as with those in another, and that has the same size.
pub record FreeAlike (xs ys : List ℕ) (v w : Volume) : Type 0 where
  pub size : w.size ≡ v.size
  pub free : (k : ℕ) → (w.free k || is_in ys k) ≡ (v.free k || is_in xs k)

pub alike-same : (xs : List ℕ) (v : Volume) → FreeAlike xs xs v v
alike-same xs v = record { size = refl; free = λ k. refl }

pub alike-then : (xs ys zs : List ℕ) (u v w : Volume) → FreeAlike xs ys u v → FreeAlike ys zs v w → FreeAlike xs zs u w
alike-then xs ys zs u v w one two = record { size = two.size ∙ one.size; free = λ k. two.free k ∙ one.free k }

-- of all that are to be marked free the first were
pub first-freed : (xs rest : List ℕ) (v w : Volume) → FreesBlocks xs v w → FreeAlike (xs ++ rest) rest v w
first-freed xs rest v w frees = record {
  size = frees.size;
  free = λ k.
      ap (λ (b : Bool). b || is_in rest k) (frees.free k) ∙ or_assoc (v.free k) (is_in xs k) (is_in rest k)
      ∙ ap (λ (b : Bool). v.free k || b) (sym (in-append xs rest k));
}

-- all were
pub all-freed : (xs : List ℕ) (v w : Volume) → FreeAlike xs [] v w → FreesBlocks xs v w
all-freed xs v w alike = record { size = alike.size; free = λ k. sym (or-false (w.free k)) ∙ alike.free k }

-- some were, and then others
frees-both : (xs ys : List ℕ) (u v w : Volume) → FreesBlocks xs u v → FreesBlocks ys v w → FreesBlocks (xs ++ ys) u w
frees-both xs ys u v w one two = record { size = two.size ∙ one.size; free = λ k. two.free k ∙ (first-freed xs ys u v one).free k }

-- With these headers gone from one volume, the others name there what they name in another with those gone, and the same blocks are free.
pub record LosesAlike (xs ys : List ℕ) (v w : Volume) : Type 0 where
  pub names : (n : ℕ) → (if is_in ys n then [] else named_by w.table n) ≡ (if is_in xs n then [] else named_by v.table n)
  pub free : FreeAlike (blocks_by v.table xs) (blocks_by w.table ys) v w

pub loses-same : (xs : List ℕ) (v : Volume) → LosesAlike xs xs v v
loses-same xs v = record { names = λ n. refl; free = alike-same (blocks_by v.table xs) v }

pub loses-then : (xs ys zs : List ℕ) (u v w : Volume) → LosesAlike xs ys u v → LosesAlike ys zs v w → LosesAlike xs zs u w
loses-then xs ys zs u v w one two = record {
  names = λ n. two.names n ∙ one.names n;
  free = alike-then (blocks_by u.table xs) (blocks_by v.table ys) (blocks_by w.table zs) u v w one.free two.free;
}

-- all of them went
pub loses-all : (xs : List ℕ) (v w : Volume) → LosesAlike xs [] v w → ((n : ℕ) → is_in xs n ≡ true → Kills n v.table w.table)
    → LosesHeaders xs v w
loses-all xs v w loses killed = record { names = loses.names; killed = killed; free = all-freed (blocks_by v.table xs) v w loses.free }

pub lost-all : (xs : List ℕ) (v w : Volume) → LosesHeaders xs v w → LosesAlike xs [] v w
lost-all xs v w loses = record {
  names = loses.names;
  free = record { size = loses.free.size; free = λ k. or-false (w.free k) ∙ loses.free.free k };
}

-- the first of them did
pub loses-first : (n : ℕ) (ns : List ℕ) (v w : Volume) → KeepsOtherSlots n v.table w.table → w.table.in_use n ≡ false
    → FreesBlocks (blocks_named (v.table.header n)) v w → blocks_by w.table ns ≡ blocks_by v.table ns → LosesAlike (n ∷ ns) ns v w
loses-first n ns v w others unused frees blocks = record {
  names = λ m. ap (λ (l : List ℕ). cond (is_in ns m) [] l) (one m) ∙ both (is_in ns m) (n == m) (named_by v.table m);
  free = record {
    size = frees.size;
    free = λ k.
        ap (λ (l : List ℕ). w.free k || is_in l k) blocks
        ∙ (first-freed (blocks_named (v.table.header n)) (blocks_by v.table ns) v w frees).free k;
  };
}
  where
    one : (m : ℕ) → named_by w.table m ≡ cond (n == m) [] (named_by v.table m)
    one m = elim (cases_eq n m) [
      | inl here ↦
          named-unused w.table m (subst (λ (k : ℕ). w.table.in_use k ≡ false) here unused)
          ∙ ap (λ (b : Bool). cond b [] (named_by v.table m)) (sym (eq-eqb n m here))
      | inr away ↦
          named-others v.table w.table n m others (λ same. away (sym same))
          ∙ ap (λ (b : Bool). cond b [] (named_by v.table m)) (sym (ne_eqb n m away))
    ]

    both : (a b : Bool) (l : List ℕ) → cond a [] (cond b [] l) ≡ cond (b || a) [] l
    both true true l = refl
    both true false l = refl
    both false true l = refl
    both false false l = refl

-- what is in a list stands at a place of it, and is in none behind it where none stands twice
pub in-at : (xs : List ℕ) (n : ℕ) → is_in xs n ≡ true → (i : ℕ) × (slice_get xs i ≡ Some n)
in-at [] n is = absurd (false≢true is)
in-at (x ∷ xs) n is = elim (cases_eq x n) [
  | inl here ↦ (0, ap Some here)
  | inr away ↦
      let rest = in-at xs n (ap (λ (b : Bool). b || is_in xs n) (sym (ne_eqb x n away)) ∙ is) in
      (suc rest.0, rest.1)
]

parts-apart : (xs ys : List ℕ) (i n : ℕ) → AreApart (xs ++ ys) → slice_get xs i ≡ Some n → is_in ys n ≡ false
parts-apart xs ys i n apart at = elim (cases_Bool (is_in ys n)) [
  | inl is ↦
      let there = in-at ys n is in
      let place : length xs + there.0 - length xs ≡ there.0 = omega arith in
      let behind = slice_get-append_back xs ys (length xs + there.0) (length xs) refl (omega arith) ∙ ap (slice_get ys) place ∙ there.1 in
      let same = apart i (length xs + there.0) n (slice_get-append_front xs ys i n at) behind in
      let within = slice_get_within xs i n at in
      absurd (omega (arith, same, within))
  | inr none ↦ none
]

-- headers that name what they named
blocks-same : (t u : Table) (hs : List ℕ) → ((i n : ℕ) → slice_get hs i ≡ Some n → blocks_named (u.header n) ≡ blocks_named (t.header n))
    → blocks_by u hs ≡ blocks_by t hs
blocks-same t u [] same = refl
blocks-same t u (h ∷ hs) same =
    ap (λ (l : List ℕ). l ++ blocks_by u hs) (same 0 h refl)
    ∙ ap (λ (l : List ℕ). blocks_named (t.header h) ++ l) (blocks-same t u hs (λ i n at. same (suc i) n at))

-- a file of which the store says what it said of it has the headers that it had
module _ (old new : Image) (home : HomeFields) (f : ℕ) (whole : IsWholeFile (table_of old home) f) (sound : HasSoundVolume new home)
    (same : (store_of new home).file f ≡ (store_of old home).file f) where
  abbrev p : Table
  p = table_of old home

  abbrev q : Table
  q = table_of new home

  file-is : (image : Image) → IsFile (table_of image home) f → (store_of image home).file f ≡ Some (as_seen f (file_in home f image))
  file-is image file =
      file-stored image home f
      ∙ file-at image (table_of image home) f (Some (as_seen f (file_in home f image))) (λ _. refl) (λ none. absurd (none file))

  held-as : IsFile q f → IsWholeFile q f × (headers_of q f ≡ headers_of p f)
  held-as file =
      let seen = same_Some _ _ (sym (file-is new file) ∙ same ∙ file-is old whole.file) in
      let whole_now = ((image-files new home sound).each f file).whole in (
        whole_now,
        sym (file-headers-are new q f whole_now) ∙ sym (seen-same (λ (g : File). g.held) (λ g. refl) f (file_in home f new))
            ∙ ap (λ (g : File). g.held) seen
            ∙ seen-same (λ (g : File). g.held) (λ g. refl) f (file_in home f old) ∙ file-headers-are old p f whole,
      )

  pub held-same : IsWholeFile q f × (headers_of q f ≡ headers_of p f)
  held-same = go (is_first q f) refl
    where
      go : (b : Bool) → is_first q f ≡ b → IsWholeFile q f × (headers_of q f ≡ headers_of p f)
      go true is = held-as ((first-is-tested q f).0 is)
      go false is =
          let none : ¬ IsFile q f = λ file. let no : true ≡ false = sym ((first-is-tested q f).1 file) ∙ is in cc in
          let now = file-stored new home f ∙ file-at new q f None (λ file. absurd (none file)) (λ _. refl) in
          absurd (none-some _ (sym now ∙ same ∙ file-is old whole.file))

-- Header n of file f was written as its last, which names so many of its blocks, up to the file's `to`; the others that it named are free.
pub record CutsThere (f n keep to : ℕ) (old new : Volume) : Type 0 where
  pub of : IsHeaderOf old.table f n
  pub whole : IsWholeFile old.table f
  pub few : segment_number (old.table.header n) < 256
  pub others : KeepsOtherSlots n old.table new.table
  pub live : IsLive new.table n
  pub no_link : link_number new.table n ≡ 0
  pub ends : IsEnd (old.table.header n) (new.table.header n)
  pub blocks : blocks_named (new.table.header n) ≡ take keep (blocks_named (old.table.header n))
  pub within : keep ≤ length (blocks_named (old.table.header n))
  pub to_is : to ≡ blocks_before old.table f n + keep
  pub needed : (segment_number (old.table.header n) ≡ 0) ⊎ (0 < keep)
  pub free : FreesBlocks (drop keep (blocks_named (old.table.header n))) old new

-- and then the headers behind it go
module _ (f n keep to : ℕ) (v w x : Volume) (cut : CutsThere f n keep to v w) where
  abbrev t : Table
  t = v.table

  abbrev u : Table
  u = w.table

  abbrev now : Table
  now = x.table

  abbrev k : ℕ
  k = segment_number (t.header n)

  abbrev hs : List ℕ
  hs = headers_from (255 - k) t (link_number t n)

  abbrev own : List ℕ
  own = blocks_named (t.header n)

  comes : (behind : List ℕ) × Comes t f n k behind
  comes = Comes-header cut.of cut.few

  abbrev behind : List ℕ
  behind = comes.0

  abbrev front : List ℕ
  front = behind ++ n ∷ []

  list : headers_of t f ≡ front ++ hs
  list = Comes-split t f n k behind comes.1 (live-some (live_of-header cut.of)) cut.few

  counted : length front ≡ k + 1
  counted = length-append behind (n ∷ []) ∙ ap (λ (c : ℕ). c + 1) comes.1.count

  up-taken : take (k + 1) (headers_of t f) ≡ front
  up-taken = ap (take (k + 1)) list ∙ ap (λ (c : ℕ). take c (front ++ hs)) (sym counted) ∙ take-append_seam front hs

  rest-left : drop (suc k) (headers_of t f) ≡ hs
  rest-left =
      let count : suc k ≡ length front = omega (arith, counted) in
      ap (drop (suc k)) list ∙ ap (λ (c : ℕ). drop c (front ++ hs)) count ∙ drop-append_seam front hs

  taken : take k (headers_of t f) ≡ behind
  taken =
      ap (take k) (list ∙ append_assoc behind (n ∷ []) hs) ∙ ap (λ (c : ℕ). take c (behind ++ n ∷ hs)) (sym comes.1.count)
      ∙ take-append_seam behind (n ∷ hs)

  ends : EndsWith f n k t u
  ends = ends-with t u f n cut.of cut.few (stay-before t u f n cut.others) cut.no_link

  -- its blocks, with those before them and those behind
  all-blocks : file_blocks t f ≡ blocks_by t behind ++ (own ++ blocks_by t hs)
  unfolding file_blocks
  all-blocks =
      let named : ℕ → List ℕ = λ m. blocks_named (t.header m) in
      ap (blocks_by t) (list ∙ append_assoc behind (n ∷ []) hs) ∙ flat_map-append named behind (n ∷ hs)

  lost-blocks : drop to (file_blocks t f) ≡ drop keep own ++ blocks_by t hs
  lost-blocks =
      let count : to ≡ length (blocks_by t behind) + keep = cut.to_is ∙ ap (λ (ms : List ℕ). length (blocks_by t ms) + keep) taken in
      ap (drop to) all-blocks ∙ ap (λ (c : ℕ). drop c (blocks_by t behind ++ (own ++ blocks_by t hs))) count
      ∙ drop-append-add (blocks_by t behind) (own ++ blocks_by t hs) keep ∙ drop-append-le keep own (blocks_by t hs) cut.within

  -- a header that is listed still
  listed-live : (i m : ℕ) → slice_get front i ≡ Some m → IsLive u m
  listed-live i m at =
      let was = live_of-header
      (place-has t f m i cut.whole (ap (λ (l : List ℕ). slice_get l i) list ∙ slice_get-append_front front hs i m at)).of in
      elim (cases_eq m n) [
        | inl here ↦ subst (IsLive u) (sym here) cut.live
        | inr away ↦ live-was u t n (turned t u n cut.others) m away was
      ]

  -- where it is
  own-place : slice_get front (length behind) ≡ Some n
  own-place =
      let none : length behind - length behind ≡ 0 = omega arith in
      slice_get-append_back behind (n ∷ []) (length behind) (length behind) refl (omega arith) ∙ ap (slice_get (n ∷ [])) none

  listed-at : (i m : ℕ) → slice_get front i ≡ Some m → slice_get (headers_of t f) i ≡ Some m
  listed-at i m at = ap (λ (l : List ℕ). slice_get l i) list ∙ slice_get-append_front front hs i m at

  listed-out : (i m : ℕ) → slice_get front i ≡ Some m → is_in hs m ≡ false
  listed-out i m at = parts-apart front hs i m (subst AreApart list (headers-apart t f cut.whole)) at

  module _ (loses : LosesHeaders hs w x) (same : blocks_by u hs ≡ blocks_by t hs) (whole_now : IsWholeFile now f)
      (held : headers_of now f ≡ headers_of u f) (rest : (m : ℕ) → is_in hs m ≡ false → IsLive u m → now.header m ≡ u.header m) where
    front-now : headers_of now f ≡ front
    front-now = held ∙ ends.headers ∙ up-taken

    stays : (m : ℕ) → is_in hs m ≡ false → named_by now m ≡ named_by u m
    stays m out = loses.names m ∙ ap (λ (b : Bool). cond b [] (named_by u m)) out

    goes : (m : ℕ) → is_in hs m ≡ true → named_by now m ≡ []
    goes m is = loses.names m ∙ ap (λ (b : Bool). cond b [] (named_by u m)) is

    -- each header that is listed names what it did once it was cut
    same-names : (i m : ℕ) → slice_get front i ≡ Some m → blocks_named (now.header m) ≡ blocks_named (u.header m)
    same-names i m at =
        let live = live_of-header (place-has now f m i whole_now (ap (λ (l : List ℕ). slice_get l i) front-now ∙ at)).of in
        sym (named-live now m live) ∙ stays m (listed-out i m at) ∙ named-live u m (listed-live i m at)

    blocks-now : file_blocks now f ≡ take to (file_blocks t f)
    unfolding file_blocks
    blocks-now =
        ap (blocks_by now) front-now ∙ blocks-same u now front same-names ∙ ap (blocks_by u) (sym (ends.headers ∙ up-taken))
        ∙ is-cut t u f n cut.of cut.few (stay-before t u f n cut.others) keep cut.no_link cut.blocks cut.within
        ∙ ap (λ (c : ℕ). take c (file_blocks t f)) (sym cut.to_is)

    begins : (m : ℕ) → BeginsWith (named_by t m) (named_by now m)
    begins m = elim (cases_Bool (is_in hs m)) [
      | inl gone ↦ (named_by t m, ap (λ (l : List ℕ). l ++ named_by t m) (sym (goes m gone)))
      | inr out ↦ subst (BeginsWith (named_by t m)) (sym (stays m out)) (elim (cases_eq m n) [
        | inl here ↦
            subst (λ (j : ℕ). BeginsWith (named_by t j) (named_by u j)) (sym here) (
              drop keep own,
              named-live t n (live_of-header cut.of) ∙ sym (take-append-drop keep own)
                  ∙ ap (λ (l : List ℕ). l ++ drop keep own) (sym (named-live u n cut.live ∙ cut.blocks)),
            )
        | inr away ↦ ([], sym (named-others t u n m cut.others away) ∙ sym (append-nil (named_by u m)))
      ])
    ]

    -- one that went was a header of the file, which the cut let be
    was-header : (m : ℕ) → is_in hs m ≡ true → u.header m ≡ t.header m
    was-header m is =
        let there = in-at hs m is in
        let place : length front + there.0 - length front ≡ there.0 = omega arith in
        let at = slice_get-append_back front hs (length front + there.0) (length front) refl (omega arith) ∙ ap (slice_get hs) place
        ∙ there.1 in
        let of = (place-has t f m (length front + there.0) cut.whole
        (ap (λ (l : List ℕ). slice_get l (length front + there.0)) list ∙ at)).of in
        cut.others.header m (λ same_one. false≢true (sym (listed-out (length behind) n own-place) ∙ ap (is_in hs) (sym same_one) ∙ is))
        (live_of-header of).in_use

    -- those before it stay as they were
    before-same : (m : ℕ) → is_in (take k (headers_of t f)) m ≡ true → now.header m ≡ t.header m
    before-same m is =
        let there = in-at behind m (ap (λ (l : List ℕ). is_in l m) (sym taken) ∙ is) in
        let at : slice_get front there.0 ≡ Some m = slice_get-append_front behind (n ∷ []) there.0 m there.1 in
        let early : there.0 < length behind = slice_get_within behind there.0 m there.1 in
        let away : m ≢ n =
        λ same_one.
        let one_place = headers-apart t f cut.whole there.0 (length behind) n (listed-at there.0 m at ∙ ap Some same_one)
        (listed-at (length behind) n own-place) in
        omega (arith, one_place, early) in
        rest m (listed-out there.0 m at) (listed-live there.0 m at)
        ∙ cut.others.header m away (live_of-header (place-has t f m there.0 cut.whole (listed-at there.0 m at)).of).in_use

    -- and it is the end
    is-end : (m : ℕ) → slice_get (headers_of t f) k ≡ Some m → IsEnd (t.header m) (now.header m)
    is-end m at =
        let place : slice_get (headers_of t f) k ≡ Some n = ap (slice_get (headers_of t f)) (sym comes.1.count)
        ∙ listed-at (length behind) n own-place in
        let same_one : n ≡ m = same_Some n m (sym place ∙ at) in
        subst (λ (j : ℕ). IsEnd (t.header j) (now.header j)) same_one
        (subst (IsEnd (t.header n)) (sym (rest n (listed-out (length behind) n own-place) cut.live)) cut.ends)

    -- a header of none of the file's
    away-from : (m : ℕ) → ¬ IsHeaderOf t f m → named_by now m ≡ named_by t m
    away-from m none = elim (cases_Bool (is_in hs m)) [
      | inl is ↦
          let there = in-at hs m is in
          let place : length front + there.0 - length front ≡ there.0 = omega arith in
          let at = slice_get-append_back front hs (length front + there.0) (length front) refl (omega arith) ∙ ap (slice_get hs) place
          ∙ there.1 in
          absurd (none (place-has t f m (length front + there.0) cut.whole
          (ap (λ (l : List ℕ). slice_get l (length front + there.0)) list ∙ at)).of)
      | inr out ↦ stays m out ∙ named-others t u n m cut.others (λ same_one. none (subst (IsHeaderOf t f) (sym same_one) cut.of))
    ]

    pub loses-blocks : LosesBlocks f to v x
    loses-blocks = record {
      blocks = blocks-now;
      more = k;
      headers = let next_one : k + 1 ≡ suc k = omega arith in held ∙ ends.headers ∙ ap (λ (c : ℕ). take c (headers_of t f)) next_one;
      needed = elim cut.needed [ inl none ↦ inl none | inr some ↦ inr (let to_is = cut.to_is in omega (arith, some, to_is)) ];
      own = begins;
      same = before-same;
      ends = is-end;
      gone = λ m is. goes m (ap (λ (l : List ℕ). is_in l m) (sym rest-left) ∙ is);
      killed = λ m is. let gone = ap (λ (l : List ℕ). is_in l m) (sym rest-left) ∙ is in loses.killed m gone
          ∙ ap dead_header (was-header m gone);
      others = away-from;
      free =
          subst (λ (l : List ℕ). FreesBlocks l v x) (sym lost-blocks)
          (frees-both (drop keep own) (blocks_by t hs) v w x cut.free (subst (λ (l : List ℕ). FreesBlocks l w x) same loses.free));
    }
