-- The files of a sound volume.
use Rattle.std.proofs.Common.{map, drop, slice_index, zero, Option, None, ◌≡◌, ◌<◌, ◌≤◌, ◌+◌, ◌-◌, ℕ, suc, List, [], ◌∷◌, length, take}
use Rattle.std.proofs.Common.{Some, refl, sym, ap, subst, ◌∙◌, inl, inr, arith}
use Rattle.std.specs.List.{slice_get, flat_map}
use Rattle.std.proofs.lemmas.Bool.{cases_eq, cases_lt}
use Rattle.std.proofs.lemmas.List.{length-append, length-take, length-drop}
use Rattle.std.proofs.lemmas.Option.{slice_get-get_or}
use Rattle.f11_dev.specs.Image.{Image}
use Rattle.f11_chain.specs.home.Home.{HomeFields}
use Rattle.f11_chain.specs.map.HeaderBlock.{segment_number, link_of, blocks_named}
use Rattle.f11_chain.specs.index.Headers.{next_of, headers_from, headers_of, IsChained}
use Rattle.f11_chain.specs.index.IndexFile.{index_file_blocks}
use Rattle.f11_chain.specs.index.Sound.{AreApart}
use Rattle.f11_chain.specs.index.Table.{Table, table_of, IsFile, IsHeaderOf, first, next, IsWholeFile}
use Rattle.f11_chain.proofs.index.ChainLemmas.{live_of-header}
use Rattle.f11_chain.proofs.index.NextLemmas.{next-found}
use Rattle.f11_chain.proofs.index.HeadersLemmas.{live-some, headers_from-some, headers_from-none, place-has, chained-whole, chained-apart}
use Rattle.f11_chain.specs.FileHeaders.{blocks_by, file_blocks, IsSoundFile}
use Rattle.f11_chain.proofs.FileOneLemmas.{file-one}
use Rattle.f11_volume.specs.FileLaws.{HasOneOwner, AreSoundFiles}
use Rattle.f11_volume.specs.Sound.{IsSoundVolume, HasSoundVolume}
use Rattle.f11_volume.specs.Volume.{Volume, volume_of, IsCell}
use Rattle.f11_volume.specs.Contents.{following, block_or_zeros, file_of}
use Rattle.f11_volume.specs.Space.{bitmap_count, bitmap_file, control_block, storage_bitmap}
use Rattle.f11_volume.proofs.MemberLemmas.{contained, all-from, all-each, at-place}
use Rattle.f11_chain.proofs.index.PlaceLemmas.{slice_get-append_front, slice_get-header}
use Rattle.f11_chain.specs.bits.Bitmap.{IsBitmap, LiesWithin}
use Rattle.f11_chain.proofs.map.MapLemmas.{slice_get-append_back}

-- Element i of lists laid end to end is one of the list of this number, at this place.
pub record IsPiece (f : ℕ → List ℕ) (xs : List ℕ) (i x : ℕ) : Type 0 where
  pub which : ℕ
  pub of : ℕ
  pub place : ℕ
  pub of_at : slice_get xs which ≡ Some of
  pub at : slice_get (f of) place ≡ Some x
  pub sum : i ≡ length (flat_map f (take which xs)) + place

later : (f : ℕ → List ℕ) (y : ℕ) (xs : List ℕ) (i x : ℕ) → length (f y) ≤ i → IsPiece f xs (i - length (f y)) x → IsPiece f (y ∷ xs) i x
later f y xs i x behind p = record {
  which = suc p.which;
  of = p.of;
  place = p.place;
  of_at = p.of_at;
  at = p.at;
  sum = omega (arith, behind, p.sum, length-append (f y) (flat_map f (take p.which xs)));
}

pub piece : (f : ℕ → List ℕ) (xs : List ℕ) (i x : ℕ) → slice_get (flat_map f xs) i ≡ Some x → IsPiece f xs i x
piece f [] i x at = cc
piece f (y ∷ xs) i x at = elim (cases_lt i (length (f y))) [
  | inl front ↦ record {
    which = 0;
    of = y;
    place = i;
    of_at = refl;
    at =
        let here = slice_get-get_or (f y) i x front in
        here ∙ sym (slice_get-append_front (f y) (flat_map f xs) i _ here) ∙ at;
    sum = omega arith;
  }
  | inr behind ↦ later f y xs i x behind
      (piece f xs (i - length (f y)) x (sym (slice_get-append_back (f y) (flat_map f xs) i (length (f y)) refl behind) ∙ at))
]

-- Block i of file f is the one that this header of it names, at this place.
pub record IsCellOf (t : Table) (f i lbn : ℕ) : Type 0 where
  pub header : ℕ
  pub place : ℕ
  pub of : IsHeaderOf t f header
  pub cell : IsCell t header place lbn
  pub sum : i ≡ length (flat_map (λ n. blocks_named (t.header n)) (take (segment_number (t.header header)) (headers_of t f))) + place

module _ (v : Volume) (sound : IsSoundVolume v) where
  abbrev t : Table
  t = v.table

  pub sound-chained : IsChained t
  sound-chained = record {
    links = λ n in_file. elim (cases_eq (link_of (t.header n)).number 0) [
      | inl none ↦ inl none
      | inr some ↦ inr (sound.links n (record { in_file = in_file; link = some })).next
    ];
    one = λ n m to of also goes comes. sound.once to n m of also goes comes;
  }

  pub cell-of : (f i lbn : ℕ) → IsFile t f → slice_get (file_blocks t f) i ≡ Some lbn → IsCellOf t f i lbn
  unfolding file_blocks
  cell-of f i lbn file at =
      let p = piece (λ n. blocks_named (t.header n)) (headers_of t f) i lbn at in
      let is = place-has t f p.of p.which (chained-whole t f sound-chained file) p.of_at in
      record {
        header = p.of;
        place = p.place;
        of = is.of;
        cell = record { live = live_of-header is.of; names = p.at };
        sum = p.sum ∙ ap (λ k. length (flat_map (λ n. blocks_named (t.header n)) (take k (headers_of t f))) + p.place) (sym is.number);
      }

  one-owner : HasOneOwner t
  one-owner f g i j lbn file also one other =
      let p = cell-of f i lbn file one in
      let q = cell-of g j lbn also other in
      let same = sound.apart p.header p.place q.header q.place lbn p.cell q.cell in
      let here : f ≡ g = chained-apart sound-chained p.of (subst (IsHeaderOf t g) (sym same.0) q.of) in
      let named : ℕ → List ℕ = λ n. blocks_named (t.header n) in (
        here,
        p.sum ∙ ap (λ k. length (flat_map named (take (segment_number (t.header p.header)) (headers_of t k))) + p.place) here
            ∙ ap (λ n. length (flat_map named (take (segment_number (t.header n)) (headers_of t g))) + p.place) same.0
            ∙ ap (λ k. length (flat_map named (take (segment_number (t.header q.header)) (headers_of t g))) + k) same.1 ∙ sym q.sum,
      )

  sound-file : (blocks f : ℕ) → v.size ≤ blocks → IsFile t f → IsSoundFile t f blocks
  sound-file blocks f room file = record {
    whole = chained-whole t f sound-chained file;
    within = all-from (λ lbn. lbn < blocks) (file_blocks t f) (λ lbn has.
        let c = cell-of f has.0 lbn file (at-place (file_blocks t f) lbn has) in
        omega (arith, sound.inside c.header c.place lbn c.cell, room));
  }

  files-on : (blocks : ℕ) → v.size ≤ blocks → AreSoundFiles t blocks
  files-on blocks room = record { chained = sound-chained; each = λ f. sound-file blocks f room; one_owner = one-owner }

pub volume-files : (v : Volume) → IsSoundVolume v → AreSoundFiles v.table v.size
volume-files v sound = files-on v sound v.size (omega arith)

-- a volume is no larger than its device
pub volume-within : (image : Image) (home : HomeFields) → HasSoundVolume image home → (volume_of image home).size ≤ length image
unfolding volume_of storage_bitmap
volume-within image home is = is.framed.control.on_device

pub image-files : (image : Image) (home : HomeFields) → HasSoundVolume image home → AreSoundFiles (table_of image home) (length image)
unfolding volume_of
image-files image home is = files-on (volume_of image home) is.sound (length image) (volume-within image home is)

pub index-apart : (image : Image) (home : HomeFields) → HasSoundVolume image home → AreApart (index_file_blocks image home)
index-apart image home is =
    let files = image-files image home is in
    let file = is.framed.indexed.file.whole.file in
    subst AreApart (file-one image home is.framed.indexed.file) (λ i j lbn one other. (files.one_owner 1 1 i j lbn file file one other).1)

-- the blocks of the storage bitmap stand behind the control block
pub place-at : (image : Image) (home : HomeFields) (i : ℕ) → i < length (storage_bitmap image home).places
    → slice_get (bitmap_file (table_of image home)) (1 + i) ≡ Some (slice_index (storage_bitmap image home).places i)
unfolding storage_bitmap
place-at image home i within =
    let t = table_of image home in
    slice_get-header (bitmap_file t) 1 (bitmap_count (control_block image t)) i _ 0 within refl

pub bitmap-is : (image : Image) (home : HomeFields) → HasSoundVolume image home
    → IsBitmap (storage_bitmap image home) × LiesWithin (storage_bitmap image home) (length image)
unfolding storage_bitmap
bitmap-is image home is =
    let t = table_of image home in
    let files = image-files image home is in
    let two = is.framed.bitmap.sound.whole.file in
    let control = is.framed.control in
    let count : length (storage_bitmap image home).places ≡ bitmap_count (control_block image t) =
    omega (
      arith,
      control.in_file,
      length-take (bitmap_count (control_block image t)) (drop 1 (bitmap_file t)),
      length-drop 1 (bitmap_file t),
    ) in (
      record {
        some = omega (arith, count, control.some_bitmap);
        few = omega (arith, count, control.few_bitmap);
        apart = λ i j one other same.
            let there : slice_get (bitmap_file t) (1 + j) ≡ Some (slice_index (storage_bitmap image home).places i) =
            place-at image home j other ∙ ap Some (sym same) in
            let places = (files.one_owner 2 2 (1 + i) (1 + j) _ two two (place-at image home i one) there).1 in
            omega (arith, places);
        sized = control.some_blocks;
        covered = omega (arith, count, control.covered);
      },
      λ i within.
          let at = place-at image home i within in
          all-each (λ lbn. lbn < length image) (bitmap_file t) is.framed.bitmap.sound.within _ (contained (bitmap_file t) (1 + i) _ at),
    )

-- a header's next one is the one that its link names
next-none : (t : Table) (n : ℕ) → (link_of (t.header n)).number ≡ 0 → next_of t n ≡ None
next-none t n none = go (next_of t n) refl
  where
    go : (o : Option ℕ) → next_of t n ≡ o → o ≡ None
    go None is = refl
    go (Some m) is = let goes = (next-found t n m).0 is in absurd (omega (arith, none, goes.number, live-some goes.to))

pub following-none : (t : Table) (most : ℕ) → following most t None ≡ []
unfolding following
following-none t zero = refl
following-none t (suc most) = refl

following-some : (most : ℕ) (t : Table) (n : ℕ) → following (suc most) t (Some n) ≡ n ∷ following most t (next_of t n)
unfolding following
following-some most t n = refl

pub reached-are : (most : ℕ) (t : Table) (f : ℕ) {n : ℕ} → IsWholeFile t f → IsHeaderOf t f n
    → following most t (Some n) ≡ headers_from most t n
unfolding following headers_from
reached-are zero t f {n} whole of = refl
reached-are (suc most) t f {n} whole of =
    let to = (link_of (t.header n)).number in
    let some : 0 < n = live-some (live_of-header of) in
    let rest : following most t (next_of t n) ≡ headers_from most t to = elim (whole.links n of) [
      | inl none ↦ ap (following most t) (next-none t n none) ∙ following-none t most
          ∙ sym (ap (headers_from most t) none ∙ headers_from-none most t)
      | inr goes ↦ ap (following most t) ((next-found t n to).1 goes) ∙ reached-are most t f whole (next of goes)
    ] in
    ap (λ hs. n ∷ hs) rest ∙ sym (headers_from-some most t n some)

pub file-headers-are : (image : Image) (t : Table) (f : ℕ) → IsWholeFile t f → (file_of image t f).held ≡ headers_of t f
unfolding file_of
file-headers-are image t f whole = reached-are 256 t f whole (first whole.file)

pub file-blocks-are : (image : Image) (t : Table) (f : ℕ) → IsWholeFile t f
    → (file_of image t f).blocks ≡ map (block_or_zeros image) (file_blocks t f)
unfolding file_of file_blocks
file-blocks-are image t f whole =
    ap (λ (hs : List ℕ). map (block_or_zeros image) (blocks_by t hs)) (reached-are 256 t f whole (first whole.file))
