-- A write of one block of the index file that leaves all slots but one.
use Rattle.std.proofs.Common.{◌≡◌, ◌≢◌, ℕ, ◌-◌, ◌+◌, ◌<◌, ◌≤◌, List, length, map, Some, sym, ap, subst, ◌∙◌, inl, inr, arith, All}
use Rattle.std.proofs.Math.ListN.{set}
use Rattle.std.specs.List.{slice_get}
use Rattle.std.proofs.lemmas.Bool.{cases_eq}
use Rattle.std.proofs.lemmas.List.{length-set}
use Rattle.f11_bits.specs.Bitmap.{KeepsBitmap}
use Rattle.f11_bits.proofs.LawLemmas.{KeepsBitmap-write}
use Rattle.f11_dev.specs.Image.{Image, image_block}
use Rattle.f11_dev.proofs.ImageLemmas.{image_block-other}
use Rattle.f11_volume.specs.home.Home.{HomeFields, candidate}
use Rattle.f11_index.specs.IndexFile.{index_of, index_file_blocks, slots, header_lbn, HasNonePast}
use Rattle.f11_index.proofs.LawLemmas.{header_at}
use Rattle.f11_index.specs.Sound.{IsIndexFile}
use Rattle.f11_index.specs.Table.{Table, table_of, IsFile, IsHeaderOf, IsWholeFile}
use Rattle.f11_volume.specs.chain.FileHeaders.{file_blocks}
use Rattle.f11_volume.specs.Contents.{block_or_zeros}
use Rattle.f11_volume.specs.Earlier.{IsNamedIn}
use Rattle.f11_volume.specs.Faults.{IsOwnFile, IsFramed}
use Rattle.f11_volume.specs.Sound.{IsSoundVolume, HasSoundVolume}
use Rattle.f11_volume.specs.Space.{bitmap_file, storage_bitmap}
use Rattle.f11_volume.specs.Volume.{Volume, volume_of}
use Rattle.f11_volume.proofs.FileLemmas.{image-files, index-apart, place-at, file-blocks-are}
use Rattle.f11_writes.specs.Kept.{file_in, said_of, KeepsButSlot}
use Rattle.f11_writes.specs.OtherSlots.{KeepsOtherSlots}
use Rattle.f11_writes.proofs.ContentLemmas.{said-alike, file-alike, blocks-alike}
use Rattle.f11_writes.proofs.FrameLemmas.{CandidatesStay, ControlStays, bitmap-stays, framed, free-stays, volume-with-headers}
use Rattle.f11_writes.proofs.OtherLemmas.{control-at}
use Rattle.f11_writes.proofs.OtherSlotLemmas.{own-kept, file-kept, listed-same, headers-kept, blocks-kept, named-kept, turned}
use Rattle.f11_writes.proofs.OwnerLemmas.{in-file, owned-once, in-index-file, in-bitmap-file}

-- Header n's slot is none of the storage bitmap's and the bad block file's headers, and file 4 is its own still.
pub record SparesOwn (n : ℕ) (old new : Table) : Type 0 where
  pub others : KeepsOtherSlots n old new
  pub two : ¬ IsHeaderOf old 2 n
  pub three : ¬ IsHeaderOf old 3 n
  pub four : IsOwnFile new 4

-- Where a block is in the index file: it isn't the home block.
pub record IsPlacedAt (image : Image) (home : HomeFields) (lbn : ℕ) : Type 0 where
  pub place : ℕ
  pub at : slice_get (index_file_blocks image home) place ≡ Some lbn
  pub not_home : place ≢ 1

pub header-placed-at : (image : Image) (home : HomeFields) (n : ℕ) → IsIndexFile image home → 0 < n → n ≤ slots (index_of image home)
    → IsPlacedAt image home (header_lbn (index_of image home) n)
header-placed-at image home n good some few = record {
  place = 2 + home.index_blocks + (n - 1);
  at = header_at image home good n some few;
  not_home = λ same. omega (arith, same);
}

module _ (image : Image) (home : HomeFields) (is : HasSoundVolume image home) (lbn : ℕ) (block : List ℕ)
    (placed : IsPlacedAt image home lbn) where
  abbrev new : Image
  new = set image lbn block

  abbrev t : Table
  t = table_of image home

  abbrev u : Table
  u = table_of new home

  pub size : length new ≡ length image
  size = length-set image lbn block

  owned : IsNamedIn t 1 lbn
  owned = in-index-file image home is placed.place lbn placed.at

  -- a block of another file than the index file
  elsewhere : (f l : ℕ) → f ≢ 1 → IsNamedIn t f l → l ≢ lbn
  elsewhere f l other named same = other (owned-once image home is f 1 lbn (subst (IsNamedIn t f) same named) owned)

  stays-of : (f l : ℕ) → f ≢ 1 → IsNamedIn t f l → image_block new l ≡ image_block image l
  stays-of f l other named = image_block-other image lbn l block (elsewhere f l other named)

  control : ControlStays home image new
  control = stays-of 2 _ (λ same. omega (arith, same)) (in-bitmap-file image home is 0 _ (control-at image home is))

  candidates : CandidatesStay home image new
  candidates k low = elim (cases_eq (candidate k) home.lbn) [
    | inl here ↦ image_block-other image lbn (candidate k) block (λ same.
        placed.not_home (index-apart image home is placed.place 1 lbn placed.at
        (is.framed.indexed.file.placed.home_block ∙ ap Some (sym here ∙ same))))
    | inr before ↦ stays-of 3 (candidate k) (λ same. omega (arith, same)) (is.framed.indexed.earlier k (omega (arith, low, before)))
  ]

  blocks : KeepsBitmap (storage_bitmap image home) image new
  blocks = KeepsBitmap-write (storage_bitmap image home) image lbn block (λ i within.
      elsewhere 2 _ (λ same. omega (arith, same)) (in-bitmap-file image home is (1 + i) _ (place-at image home i within)))

  module _ (n : ℕ) (spares : SparesOwn n t u) where
    file : bitmap_file u ≡ bitmap_file t
    file = blocks-kept t u n 2 spares.others is.framed.bitmap.sound.whole spares.two

    three-whole : IsWholeFile t 3
    three-whole = ((image-files image home is).each 3 (is.framed.own_files 3 (omega arith) (omega arith)).file).whole

    own-blocks : (f : ℕ) → 2 ≤ f → f ≤ 3 → file_blocks u f ≡ file_blocks t f
    own-blocks f low high = elim (cases_eq f 2) [
      | inl is_two ↦ subst (λ (g : ℕ). file_blocks u g ≡ file_blocks t g) (sym is_two) file
      | inr more ↦
          let is_three : f ≡ 3 = omega (arith, low, high, more) in
          subst (λ (g : ℕ). file_blocks u g ≡ file_blocks t g) (sym is_three) (blocks-kept t u n 3 spares.others three-whole spares.three)
    ]

    own-files : (m : ℕ) → 2 ≤ m → m ≤ 4 → IsOwnFile u m
    own-files m low high = elim (cases_eq m 2) [
      | inl two ↦ subst (IsOwnFile u) (sym two)
          (own-kept t u n 2 spares.others is.framed.bitmap.sound.whole spares.two (is.framed.own_files 2 (omega arith) (omega arith)))
      | inr more ↦ elim (cases_eq m 3) [
        | inl three ↦ subst (IsOwnFile u) (sym three)
            (own-kept t u n 3 spares.others three-whole spares.three (is.framed.own_files 3 (omega arith) (omega arith)))
        | inr last ↦ let four : m ≡ 4 = omega (arith, low, high, more, last) in subst (IsOwnFile u) (sym four) spares.four
      ]
    ]

    framed-slot : IsIndexFile new home → HasNonePast (index_of new home) → IsFramed new home
    framed-slot indexed past =
        framed image new home is size control file candidates indexed
        (λ k below. named-kept t u n 3 spares.others three-whole spares.three (candidate k) (is.framed.indexed.earlier k below))
        own-files
        (file-kept t u n 2 spares.others is.framed.bitmap.sound.whole spares.two).0
        past

    volume-slot : volume_of new home ≡ record (volume_of image home) { table = table_of new home }
    unfolding volume_of
    volume-slot =
        volume-with-headers image new home is size control file
        ∙ (λ i. record { table = u; size = (volume_of image home).size; free = free-stays image new home is blocks i })

    -- once the volume is sound, which files are as they were
    module _ (sound : HasSoundVolume new home) (there : slice_get (index_file_blocks new home) placed.place ≡ Some lbn) where
      module _ (f : ℕ) (is_file : IsFile u f) where
        now-whole : IsWholeFile u f
        now-whole = ((image-files new home sound).each f is_file).whole

        contents : f ≢ 1 → (file_in home f new).blocks ≡ map (block_or_zeros image) (file_blocks u f)
        contents other =
            let within = ((image-files new home sound).each f is_file).within in
            file-blocks-are new u f now-whole
            ∙ blocks-alike image new (file_blocks u f) size (subst (λ (k : ℕ). All (λ l. l < k) (file_blocks u f)) size within) (λ i l here.
            image_block-other image lbn l block (λ same.
            other (owned-once new home sound f 1 lbn (subst (IsNamedIn u f) same (in-file new home sound f i l is_file here))
            (in-index-file new home sound placed.place lbn there))))

        module _ (away : ¬ IsHeaderOf u f n) where
          back : KeepsOtherSlots n u t
          back = turned t u n spares.others

          was-whole : IsWholeFile t f
          was-whole = (file-kept u t n f back now-whole away).0

          said : said_of home f new ≡ said_of home f image
          said =
              sym (said-alike new image u t f now-whole was-whole (headers-kept u t n f back now-whole away)
              (listed-same u t n f back now-whole away))

          same-file : f ≢ 1 → file_in home f new ≡ file_in home f image
          same-file other =
              let was = file-blocks-are image t f was-whole ∙ ap (map (block_or_zeros image)) (blocks-kept u t n f back now-whole away) in
              sym (file-alike new image u t f now-whole was-whole (headers-kept u t n f back now-whole away)
              (listed-same u t n f back now-whole away) (was ∙ sym (contents other)))

      slot-kept : KeepsButSlot n home image new
      slot-kept = record {
        sound = sound;
        bitmap = bitmap-stays image new home is size control file;
        bitmap_blocks = blocks;
        volume = volume-slot;
        others = spares.others;
        own_blocks = own-blocks;
        files = λ f is_file other away. same-file f is_file away other;
        said = λ f is_file away. said f is_file away;
        contents = contents;
      }

    -- the volume with the headers that there are now
    abbrev pub with-table : Volume
    with-table = record (volume_of image home) { table = u }

    pub slot-keeps : IsIndexFile new home → HasNonePast (index_of new home) → slice_get (index_file_blocks new home) placed.place ≡ Some lbn
        → IsSoundVolume with-table
        → KeepsButSlot n home image new
    slot-keeps indexed past there sound =
        slot-kept (record { framed = framed-slot indexed past; sound = subst IsSoundVolume (sym volume-slot) sound }) there
