-- A write of blocks of the storage bitmap.
use Rattle.std.proofs.Common.{◌≡◌, ◌≢◌, ◌⊎◌, ℕ, ◌+◌, ◌<◌, ◌≤◌, Bool, true, false, [], length, slice_index, Some, refl, sym, ap, subst, ◌∙◌}
use Rattle.std.proofs.Common.{inl, inr, arith}
use Rattle.std.proofs.lemmas.Bool.{cases_eq, cases_lt}
use Rattle.f11_bits.specs.Bitmap.{Bitmap, is_free, KeepsOthers, Marks}
use Rattle.f11_dev.specs.Image.{Image, image_block}
use Rattle.f11_volume.specs.home.Home.{HomeFields, candidate}
use Rattle.f11_index.specs.Laws.{KeepsIndexFile}
use Rattle.f11_index.specs.Table.{Table, table_of}
use Rattle.f11_index.proofs.LawLemmas.{other_images}
use Rattle.f11_volume.specs.Contents.{file_of}
use Rattle.f11_volume.specs.Earlier.{IsNamedIn}
use Rattle.f11_volume.specs.Sound.{IsSoundVolume, HasSoundVolume}
use Rattle.f11_volume.specs.Space.{storage_bitmap}
use Rattle.f11_volume.specs.Volume.{Volume, volume_of, IsNamed}
use Rattle.f11_volume.proofs.FileLemmas.{image-files, place-at}
use Rattle.f11_writes.specs.Kept.{said_of, KeepsButFree}
use Rattle.f11_writes.specs.Volumes.{Shrinks}
use Rattle.f11_writes.proofs.ContentLemmas.{file-stays-in}
use Rattle.f11_writes.proofs.FrameLemmas.{CandidatesStay, ControlStays, framed-kept, bitmap-kept, volume-with-free}
use Rattle.f11_writes.proofs.ImageLemmas.{same-or}
use Rattle.f11_writes.proofs.OtherLemmas.{control-at}
use Rattle.f11_writes.proofs.OwnerLemmas.{in-file, owned-once, in-index-file, in-bitmap-file}
use Rattle.f11_writes.proofs.ShrinkLemmas.{shrunk-sound}

module _ (old new : Image) (home : HomeFields) (is : HasSoundVolume old home) (others : KeepsOthers (storage_bitmap old home) old new) where
  abbrev t : Table
  t = table_of old home

  abbrev bitmap : Bitmap
  bitmap = storage_bitmap old home

  stays : (lbn : ℕ) → ((i : ℕ) → i < length bitmap.places → slice_index bitmap.places i ≢ lbn) → image_block new lbn ≡ image_block old lbn
  stays lbn away = same-or old new lbn [] (others.others lbn away)

  -- a block of another file than that of the bitmap
  stays-of : (f lbn : ℕ) → f ≢ 2 → IsNamedIn t f lbn → image_block new lbn ≡ image_block old lbn
  stays-of f lbn other named = stays lbn (λ i within same.
      other (owned-once old home is f 2 lbn named (in-bitmap-file old home is (1 + i) lbn (place-at old home i within ∙ ap Some same))))

  control : ControlStays home old new
  control =
      let files = image-files old home is in
      let two = is.framed.bitmap.sound.whole.file in
      stays _ (λ i within same.
      let place = (files.one_owner 2 2 (1 + i) 0 _ two two (place-at old home i within ∙ ap Some same) (control-at old home is)).1 in
      omega (arith, place))

  candidates : CandidatesStay home old new
  candidates k low = elim (cases_eq (candidate k) home.lbn) [
    | inl here ↦
        let placed = is.framed.indexed.file.placed.home_block ∙ ap Some (sym here) in
        stays-of 1 (candidate k) (λ same. omega (arith, same)) (in-index-file old home is 1 (candidate k) placed)
    | inr before ↦ stays-of 3 (candidate k) (λ same. omega (arith, same)) (is.framed.indexed.earlier k (omega (arith, low, before)))
  ]

  keeps : KeepsIndexFile home old new
  keeps =
      other_images old home is.framed.indexed.file new others.size
      (λ i lbn at. stays-of 1 lbn (λ same. omega (arith, same)) (in-index-file old home is i lbn at))

  -- no block that is named becomes free
  abbrev OnlyUnnamed : Type 0
  OnlyUnnamed = (lbn : ℕ) → is_free new bitmap lbn ≡ true → (is_free old bitmap lbn ≡ true) ⊎ (¬ IsNamed t lbn)

  abbrev after : Volume
  after = record (volume_of old home) { free = is_free new bitmap }

  shrinks : OnlyUnnamed → Shrinks (volume_of old home) after
  unfolding volume_of
  shrinks only = record {
    size = refl;
    headers = is.sound.headers;
    live = λ n live. live;
    same = λ n live. refl;
    next = λ n m in_file live goes. goes.to;
    taken = λ n place lbn cell free. elim (only lbn free) [
      | inl was ↦ was
      | inr none ↦ absurd (none (record { header = n; place = place; cell = cell }))
    ];
  }

  said-kept : table_of new home ≡ t → said_of home 2 new ≡ said_of home 2 old
  unfolding file_of
  said-kept same = ap (λ (u : Table). record (file_of new u 2) { blocks = [] }) same

  pub bitmap-keeps : OnlyUnnamed → KeepsButFree home old new
  bitmap-keeps only =
      let volume = volume-with-free old new home is others.size control keeps in
      record {
        sound = record {
          framed = framed-kept old new home is others.size control keeps candidates;
          sound = subst IsSoundVolume (sym volume) (shrunk-sound (volume_of old home) after (shrinks only) is.sound);
        };
        index_file = keeps;
        bitmap = bitmap-kept old new home is others.size control keeps;
        volume = volume;
        said = said-kept keeps.table;
        files = λ f file other.
            let sound = (image-files old home is).each f file in
            ap (λ (u : Table). file_of new u f) keeps.table
            ∙ file-stays-in old new t f sound.whole others.size sound
            (λ i lbn at. stays-of f lbn other (in-file old home is f i lbn file at));
      }

-- a block outside those that are marked is free where it was
pub outside : (free : Bool) (b : Bitmap) (lbn count k : ℕ) (old new : Image) → Marks free b lbn count old new → is_free new b k ≡ true
    → (is_free old b k ≡ true) ⊎ (lbn ≤ k) × (k < lbn + count)
outside free b lbn count k old new marks is = elim (cases_lt k lbn) [
  | inl before ↦ inl (sym (marks.before k before) ∙ is)
  | inr from ↦ elim (cases_lt k (lbn + count)) [
    | inl inside ↦ inr (from, inside)
    | inr after ↦ inl (sym (marks.after k after) ∙ is)
  ]
]

pub used-keeps : (old new : Image) (home : HomeFields) (lbn count : ℕ) → HasSoundVolume old home
    → Marks false (storage_bitmap old home) lbn count old new → KeepsButFree home old new
used-keeps old new home lbn count is marks =
    bitmap-keeps old new home is marks.keeps (λ k free. elim (outside false (storage_bitmap old home) lbn count k old new marks free) [
      | inl was ↦ inl was
      | inr here ↦ let used = sym (marks.inside k here.0 here.1) ∙ free in cc
    ])

pub free-keeps : (old new : Image) (home : HomeFields) (lbn count : ℕ) → HasSoundVolume old home
    → Marks true (storage_bitmap old home) lbn count old new
    → ((k : ℕ) → lbn ≤ k → k < lbn + count → ¬ IsNamed (table_of old home) k) → KeepsButFree home old new
free-keeps old new home lbn count is marks none =
    bitmap-keeps old new home is marks.keeps (λ k free. elim (outside true (storage_bitmap old home) lbn count k old new marks free) [
      | inl was ↦ inl was
      | inr here ↦ inr (none k here.0 here.1)
    ])
