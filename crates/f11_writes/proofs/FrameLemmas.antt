-- The frame of a volume, in an image that has what it is read from.
use Rattle.std.proofs.Common.{◌≡◌, ℕ, zero, suc, ◌<◌, ◌≤◌, List, length, take, drop, slice_index, sym, ap, subst, ◌∙◌, arith}
use Rattle.std.specs.Prelude.{All}
use Rattle.f11_bits.specs.Bitmap.{is_free, KeepsBitmap}
use Rattle.f11_bits.proofs.LawLemmas.{is_free-kept}
use Rattle.f11_dev.specs.Image.{Image, image_block}
use Rattle.f11_volume.specs.home.Home.{HomeFields, candidate, fields_of, IsCandidate, IsHomeOf}
use Rattle.f11_volume.specs.home.HomeBlock.{IsHomeBlock}
use Rattle.f11_index.specs.IndexFile.{index_of, HasNonePast}
use Rattle.f11_index.specs.Laws.{KeepsIndexFile}
use Rattle.f11_index.specs.Sound.{IsIndexFile}
use Rattle.f11_index.specs.Table.{Table, table_of, IsWholeFile}
use Rattle.f11_volume.specs.Earlier.{AreNamedBefore}
use Rattle.f11_volume.specs.Faults.{IsOwnFile, IsFramed}
use Rattle.f11_volume.specs.Sound.{HasSoundVolume}
use Rattle.f11_volume.specs.Space.{bitmap_count, stated_size, bitmap_file, control_block, IsControlBlock, storage_bitmap}
use Rattle.f11_volume.specs.Volume.{volume_of}
use Rattle.f11_volume.proofs.FileLemmas.{bitmap-is}

-- the candidates up to the home block are as they were
abbrev pub CandidatesStay : HomeFields → Image → Image → Type 0
CandidatesStay home old new = (k : ℕ) → candidate k ≤ home.lbn → image_block new (candidate k) ≡ image_block old (candidate k)

-- the control block is
abbrev pub ControlStays : HomeFields → Image → Image → Type 0
ControlStays home old new =
    let lbn = slice_index (bitmap_file (table_of old home)) 0 in image_block new lbn ≡ image_block old lbn

candidate-lower : (k place : ℕ) → k < place → candidate k < candidate place
candidate-lower zero zero below = absurd (omega (arith, below))
candidate-lower zero (suc place) below = omega arith
candidate-lower (suc k) zero below = absurd (omega (arith, below))
candidate-lower (suc k) (suc place) below = omega (arith, below)

module _ (old new : Image) (home : HomeFields) (size : length new ≡ length old) (candidates : CandidatesStay home old new) where
  candidate-was : (k : ℕ) → candidate k ≤ home.lbn → IsCandidate new k → IsCandidate old k
  candidate-was k low is = record {
    within = subst (λ (n : ℕ). candidate k < n) size is.within;
    valid = subst (λ (b : List ℕ). IsHomeBlock b (length old)) (candidates k low)
        (subst (IsHomeBlock (image_block new (candidate k))) size is.valid);
  }

  candidate-is : (k : ℕ) → candidate k ≤ home.lbn → IsCandidate old k → IsCandidate new k
  candidate-is k low is = record {
    within = subst (λ (n : ℕ). candidate k < n) (sym size) is.within;
    valid = subst (λ (b : List ℕ). IsHomeBlock b (length new)) (sym (candidates k low))
        (subst (IsHomeBlock (image_block old (candidate k))) (sym size) is.valid);
  }

  pub home-stays : IsHomeOf old home → IsHomeOf new home
  home-stays is =
      let at : home.lbn ≡ candidate is.place = ap (λ (h : HomeFields). h.lbn) is.fields in
      let here : candidate is.place ≤ home.lbn = omega (arith, at) in
      record {
        place = is.place;
        found = candidate-is is.place here is.found;
        first = λ k below found. is.first k below (candidate-was k (omega (arith, at, candidate-lower k is.place below)) found);
        fields = is.fields ∙ ap (fields_of (candidate is.place)) (sym (candidates is.place here));
      }

-- the same blocks are free where the bitmap stays
pub free-stays : (old new : Image) (home : HomeFields) → HasSoundVolume old home → KeepsBitmap (storage_bitmap old home) old new
    → is_free new (storage_bitmap old home) ≡ is_free old (storage_bitmap old home)
free-stays old new home is blocks = λ i lbn. is_free-kept (storage_bitmap old home) old new lbn (bitmap-is old home is).0 blocks i

-- an image whose headers may be others
module _ (old new : Image) (home : HomeFields) (is : HasSoundVolume old home) (size : length new ≡ length old)
    (control : ControlStays home old new)
    (file : bitmap_file (table_of new home) ≡ bitmap_file (table_of old home)) where
  control-same : control_block new (table_of new home) ≡ control_block old (table_of old home)
  unfolding control_block
  control-same = ap (λ (xs : List ℕ). image_block new (slice_index xs 0)) file ∙ control

  pub bitmap-stays : storage_bitmap new home ≡ storage_bitmap old home
  unfolding storage_bitmap
  bitmap-stays = λ i. record { places = take (bitmap_count (control-same i)) (drop 1 (file i)); size = stated_size (control-same i) }

  pub volume-with-headers : volume_of new home ≡ record (volume_of old home)
      { table = table_of new home; free = is_free new (storage_bitmap old home) }
  unfolding volume_of
  volume-with-headers = λ i. record { table = table_of new home; size = (bitmap-stays i).size; free = is_free new (bitmap-stays i) }

  pub framed : CandidatesStay home old new → IsIndexFile new home → AreNamedBefore (table_of new home) home.lbn
      → ((n : ℕ) → 2 ≤ n → n ≤ 4 → IsOwnFile (table_of new home) n) → IsWholeFile (table_of new home) 2 → HasNonePast (index_of new home)
      → IsFramed new home
  framed candidates indexed earlier own whole past =
      let was = is.framed in
      record {
        home_is = home-stays old new home size candidates was.home_is;
        indexed = record { file = indexed; earlier = earlier };
        own_files = own;
        bitmap = record {
          sound = record {
            whole = whole;
            within = subst (λ (xs : List ℕ). All (λ lbn. lbn < length new) xs) (sym file)
                (subst (λ (n : ℕ). All (λ lbn. lbn < n) (bitmap_file (table_of old home))) (sym size) was.bitmap.sound.within);
          };
          some = λ none. was.bitmap.some (sym file ∙ none);
        };
        control = subst (λ (b : List ℕ). IsControlBlock b (length (bitmap_file (table_of new home))) (length new)) (sym control-same)
            (subst (λ (xs : List ℕ). IsControlBlock (control_block old (table_of old home)) (length xs) (length new)) (sym file)
            (subst (IsControlBlock (control_block old (table_of old home)) (length (bitmap_file (table_of old home)))) (sym size)
            was.control));
        none_past = past;
      }

-- an image that keeps the index file, and with it the headers
module _ (old new : Image) (home : HomeFields) (is : HasSoundVolume old home) (size : length new ≡ length old)
    (control : ControlStays home old new)
    (keeps : KeepsIndexFile home old new) where
  file-kept : bitmap_file (table_of new home) ≡ bitmap_file (table_of old home)
  file-kept = ap (λ (t : Table). bitmap_file t) keeps.table

  pub bitmap-kept : storage_bitmap new home ≡ storage_bitmap old home
  bitmap-kept = bitmap-stays old new home is size control file-kept

  pub framed-kept : CandidatesStay home old new → IsFramed new home
  framed-kept candidates =
      let was = is.framed in
      framed old new home is size control file-kept candidates keeps.sound
      (subst (λ (t : Table). AreNamedBefore t home.lbn) (sym keeps.table) was.indexed.earlier)
      (λ n low high. subst (λ (t : Table). IsOwnFile t n) (sym keeps.table) (was.own_files n low high))
      (subst (λ (t : Table). IsWholeFile t 2) (sym keeps.table) was.bitmap.sound.whole)
      (subst HasNonePast (sym keeps.index) was.none_past)

  pub volume-with-free : volume_of new home ≡ record (volume_of old home) { free = is_free new (storage_bitmap old home) }
  unfolding volume_of
  volume-with-free =
      volume-with-headers old new home is size control file-kept
      ∙ (λ i. record (volume_of old home) { table = keeps.table i; free = is_free new (storage_bitmap old home) })

  pub volume-kept : KeepsBitmap (storage_bitmap old home) old new → volume_of new home ≡ volume_of old home
  unfolding volume_of
  volume-kept blocks = volume-with-free ∙ (λ i. record (volume_of old home) { free = free-stays old new home is blocks i })
