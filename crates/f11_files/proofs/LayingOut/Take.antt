-- A whole run of free blocks that is marked used, for a file that is to have it.
use Rattle.std.proofs.Common.{◌≡◌, ◌+◌, ◌<◌, ◌&&◌, ℕ, Bool, true, false, not, IsTrue, length, inl, inr, refl, sym, ap, subst, ◌∙◌, arith}
use Rattle.std.specs.List.{range_with_len}
use Rattle.std.proofs.lemmas.Bool.{cases_lt}
use Rattle.f11_bits.specs.Bitmap.{Bitmap, is_free}
use Rattle.f11_bits.specs.Calls.{FindsNoRun, FailsToTakeRun as FailsToTakeBits, TakesRun as TakesBits}
use Rattle.f11_bits.specs.Changes.{Changing, TakingRun}
use Rattle.f11_bits.specs.Run.{IsFirstRunOf, NoRunOf}
use Rattle.f11_bits.specs.Storage.{bitmap_of}
use Rattle.f11_bits.specs.Storage as storage
use Rattle.f11_bits.specs.Transfers.{run_transfers}
use Rattle.f11_bits.specs.declared.storage.Storage.{Storage}
use Rattle.f11_dev.specs.Disk.{Disk}
use Rattle.f11_dev.specs.Image.{Image}
use Rattle.f11_dev.specs.Went.{Went}
use Rattle.f11_dev.proofs.WentLemmas.{went_weaker}
use Rattle.f11_home.specs.Home.{HomeFields}
use Rattle.f11_index.specs.IndexFile.{index_of}
use Rattle.f11_index.specs.Kept.{IndexLiesWithin, room}
use Rattle.f11_store.specs.Changes.{is_in}
use Rattle.f11_store.specs.Store.{Store}
use Rattle.f11_volume.specs.Sound.{HasSoundVolume}
use Rattle.f11_volume.specs.Space.{storage_bitmap}
use Rattle.f11_volume.specs.Volume.{volume_of}
use Rattle.f11_writes.specs.Kept.{KeepsButFree}
use Rattle.f11_files.specs.Extending.Growing.{WhileTaking}
use Rattle.f11_files.specs.LayingOut.Take.{FailsToTakeWholeRun, HasNoRun, TakesWholeRun, UsesRun}
use Rattle.f11_files.specs.Structure.{index_in, bitmap_in, home_of, store_on, IsStructureFor, StaysFor}
use Rattle.f11_files.specs.declared.structure.Structure.{Structure}
use Rattle.f11_files.proofs.Extending.Growing.{sound-growing, taking-sound, went-writes}
use Rattle.f11_files.proofs.Extending.Take.{front-keeps, front-store, front-unreferenced, run-moment}
use Rattle.f11_files.proofs.Removing.Loss.{in-run, out-run}

module _ (s : Structure) (n : ℕ) (old : Disk) (for : IsStructureFor s old) where
  abbrev home : HomeFields
  home = home_of s

  abbrev st : Store
  st = store_on s old

  bitmap : IsTrue old.honest → bitmap_in s ≡ storage_bitmap old.image home
  bitmap honest = (for.keeps honest).bitmap_is

  moment : (lbn : ℕ) → (IsTrue old.honest → IsFirstRunOf (is_free old.image (bitmap_in s)) n lbn) → (image : Image)
      → Changing old.honest false (bitmap_in s) lbn n old.image image
      → WhileTaking home n 0 st old image
  moment lbn first = run-moment s 0 n old for lbn n (omega arith) (λ honest. (first honest).each)

  pub fails-run : (new : Disk) → FailsToTakeBits (bitmap_in s) n old new → FailsToTakeWholeRun s n old new
  fails-run new fails =
      went_weaker (TakingRun old.honest (bitmap_in s) n old.image) (WhileTaking home n 0 st old)
      (λ image is. moment is.lbn is.run image is.changing) fails

  -- nowhere are so many
  pub no-run : (new : Disk) → FindsNoRun (bitmap_in s) n old new → HasNoRun s n old new
  unfolding volume_of
  no-run new finds = record {
    none = λ honest. subst (λ (b : Bitmap). NoRunOf (is_free old.image b) n) (bitmap honest) (finds.none honest);
    looked = finds.looked;
  }

  pub no-run-stays : (new : Disk) (t : Storage) → FindsNoRun (bitmap_in s) n old new → bitmap_of t ≡ bitmap_in s → storage.IsFor t new
      → StaysFor false s (record s { storage = t }) new
  no-run-stays new t finds same is =
      let size = ap (λ (i : Image). length i) finds.looked.image in
      let was : IsTrue new.honest → IsTrue old.honest = λ honest. sym finds.looked.honest ∙ honest in
      record {
        home = refl;
        lies = λ _. record {
          index = subst (λ (k : ℕ). IndexLiesWithin (index_in s) k) (sym size) for.lies.index;
          bitmap = is.within;
          volume = let long = ap (λ (b : Bitmap). b.size) same in let fits = for.lies.volume in omega (arith, size, long, fits);
        };
        sound = λ honest. subst (λ (i : Image). HasSoundVolume i home) (sym finds.looked.image) (for.sound (was honest));
        keeps = λ _ honest. record {
          index_is = subst (λ (i : Image). index_in s ≡ index_of i home) (sym finds.looked.image) (for.keeps (was honest)).index_is;
          bitmap_is = same ∙ subst (λ (i : Image). bitmap_in s ≡ storage_bitmap i home) (sym finds.looked.image) (bitmap (was honest));
          storage = is.keeps honest;
        };
      }

  module _ (lbn : ℕ) (new : Disk) (some : 0 < n) (takes : TakesBits (bitmap_in s) n lbn old new) where
    went : Went (WhileTaking home n 0 st old) old new (run_transfers lbn n) 0
    went =
        went_weaker (Changing old.honest false (bitmap_in s) lbn n old.image) (WhileTaking home n 0 st old) (moment lbn takes.first)
        takes.marked.went

    module _ (honest : IsTrue old.honest) where
      kept : KeepsButFree home old.image new.image
      kept =
          front-keeps s 0 n old for lbn n n new.image some (omega arith) (omega arith) honest (takes.first honest).each
          (takes.marked.marks honest)

      -- a block of the run, or another
      used : (k : ℕ) → is_free new.image (bitmap_in s) k ≡ (is_free old.image (bitmap_in s) k && not (is_in (range_with_len lbn n) k))
      used k = elim (cases_lt k lbn) [
        | inl low ↦ (takes.marked.marks honest).before k low
            ∙ left (is_free old.image (bitmap_in s) k) (is_in (range_with_len lbn n) k) (out-run lbn n k (inl low))
        | inr high ↦ elim (cases_lt k (lbn + n)) [
          | inl inside ↦ (takes.marked.marks honest).inside k high inside
              ∙ gone (is_free old.image (bitmap_in s) k) (is_in (range_with_len lbn n) k) (in-run lbn n k high inside)
          | inr past ↦ (takes.marked.marks honest).after k past
              ∙ left (is_free old.image (bitmap_in s) k) (is_in (range_with_len lbn n) k) (out-run lbn n k (inr past))
        ]
      ]
        where
          left : (a b : Bool) → b ≡ false → a ≡ (a && not b)
          left true false is = refl
          left true true is = absurd cc
          left false b is = refl

          gone : (a b : Bool) → b ≡ true → false ≡ (a && not b)
          gone true true is = refl
          gone true false is = absurd cc
          gone false b is = refl

      uses-run : UsesRun lbn n (volume_of old.image home) (volume_of new.image home)
      unfolding volume_of
      uses-run = record {
        size = ap (λ (b : Bitmap). b.size) kept.bitmap;
        free = λ k.
            ap (λ (b : Bitmap). is_free new.image b k) (kept.bitmap ∙ sym (bitmap honest)) ∙ used k
            ∙ ap (λ (b : Bitmap). is_free old.image b k && not (is_in (range_with_len lbn n) k)) (bitmap honest);
      }

      first-run : IsFirstRunOf (volume_of old.image home).free n lbn
      unfolding volume_of
      first-run = subst (λ (b : Bitmap). IsFirstRunOf (is_free old.image b) n lbn) (bitmap honest) (takes.first honest)

    pub takes-whole : (t : Structure) → index_in t ≡ index_in s → bitmap_in t ≡ bitmap_in s → room t.index ≡ room s.index
        → TakesWholeRun s t n lbn old new
    takes-whole t index bitmaps left = record {
      index = index;
      bitmap = bitmaps;
      left = left;
      within = takes.within;
      first = first-run;
      uses = uses-run;
      keeps = kept;
      unreferenced = λ honest. front-unreferenced s 0 n old for lbn n n new.image some (omega arith) (omega arith) honest
          (takes.first honest).each (takes.marked.marks honest);
      store = λ honest. front-store s 0 n old for lbn n n new.image some (omega arith) (omega arith) honest (takes.first honest).each
          (takes.marked.marks honest);
      writes = went-writes went;
    }

    pub whole-stays : (t : Storage) → bitmap_of t ≡ bitmap_in s → storage.IsFor t new → StaysFor false s (record s { storage = t }) new
    whole-stays t same is = record {
      home = refl;
      lies = λ _. record {
        index = subst (λ (k : ℕ). IndexLiesWithin (index_in s) k) (sym went.size) for.lies.index;
        bitmap = is.within;
        volume = let size = ap (λ (b : Bitmap). b.size) same in let device = went.size in let was = for.lies.volume in
            omega (arith, size, device, was);
      };
      sound = sound-growing (taking-sound home n 0 st old) for.sound (went-writes went);
      keeps = λ _ honest.
          let was = sym went.honest ∙ honest in
          record {
            index_is = (for.keeps was).index_is ∙ sym (kept was).index_file.index;
            bitmap_is = same ∙ bitmap was ∙ sym (kept was).bitmap;
            storage = is.keeps honest;
          };
    }
