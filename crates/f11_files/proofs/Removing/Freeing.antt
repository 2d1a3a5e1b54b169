-- What carries `FreesMore`, `Freeing` and `WritesAtMost` from call to call, and one run of blocks that is marked free.
use Rattle.std.proofs.Common.{◌≡◌, ◌+◌, ◌*◌, ◌<◌, ◌≤◌, ℕ, Bool, true, false, IsTrue, Result, Ok, Err, refl, sym, ap, subst, ◌∙◌, arith, inl}
use Rattle.std.proofs.Common.{inr}
use Rattle.std.specs.Prelude.{IsErrAnd}
use Rattle.f11_bits.specs.Bitmap.{Bitmap, is_free, Marks, KeepsOthers}
use Rattle.f11_bits.specs.Calls.{Gives, FailsToGive}
use Rattle.f11_bits.specs.Changes.{Changing}
use Rattle.f11_bits.specs.Storage.{bitmap_of}
use Rattle.f11_bits.specs.Transfers.{blocks_touched}
use Rattle.f11_bits.specs.Storage as storage
use Rattle.f11_bits.specs.declared.storage.Storage.{Storage}
use Rattle.f11_bits.proofs.BitmapLemmas.{KeepsOthers-refl}
use Rattle.f11_dev.specs.Disk.{Disk}
use Rattle.f11_dev.specs.Image.{Image}
use Rattle.f11_dev.proofs.LookedLemmas.{looked_none}
use Rattle.f11_dev.specs.Went.{Went}
use Rattle.f11_dev.proofs.WentLemmas.{went_looked, went_more, went_weaker, went_last}
use Rattle.f11_home.specs.Home.{HomeFields}
use Rattle.f11_index.specs.Kept.{IndexLiesWithin}
use Rattle.f11_store.specs.Refusal.{refusal_number}
use Rattle.f11_store.specs.Store.{Store}
use Rattle.f11_store.specs.declared.refusals.Refusal.TheVariants.{DeviceFault, Damaged}
use Rattle.f11_store.specs.declared.refusals.Refusal.{Refusal}
use Rattle.f11_volume.specs.Sound.{HasSoundVolume}
use Rattle.f11_volume.specs.Space.{storage_bitmap}
use Rattle.f11_volume.specs.Volume.{volume_of}
use Rattle.f11_writes.specs.Kept.{KeepsButFree}
use Rattle.f11_writes.specs.NameLaws.{AreUnreferenced}
use Rattle.f11_writes.proofs.BitmapLemmas.{free-keeps, outside}
use Rattle.f11_writes.proofs.NameLemmas.{part-unreferenced}
use Rattle.f11_writes.specs.Order.{WritesInOrder}
use Rattle.f11_writes.proofs.InOrderLemmas.{order-marked}
use Rattle.f11_files.specs.Answers.{WritesAtMost, Breaks, is_fatal, is_refused}
use Rattle.f11_files.specs.Removing.Drops.{BreaksOff, GivesRun}
use Rattle.f11_image_store.specs.Freeing.{FreesMore, Freeing}
use Rattle.f11_store.specs.Pieces.{with_more_free}
use Rattle.f11_image_store.specs.StoreOf.{store_of}
use Rattle.f11_files.specs.Structure.{index_in, bitmap_in, home_of, IsStructureFor, StaysFor}
use Rattle.f11_files.specs.declared.structure.Structure.{Structure}
use Rattle.f11_image_store.proofs.StoreLemmas.{more-free}
use Rattle.f11_image_store.proofs.FreeingLemmas.{frees-blocks, freeing-more}

-- one call that writes after another
pub writes-then : {P Q : Image → Type 0} {a b c : Disk} {m n faults : ℕ} → ((image : Image) → Q image → P image) → WritesAtMost P m a b 0
    → WritesAtMost Q n b c faults → WritesAtMost P (m + n) a c faults
writes-then {P = P} {Q = Q} weaker one two = record {
  transfers = one.transfers + two.transfers;
  went = went_more P one.went (went_weaker Q P weaker two.went);
  few = λ honest. let first = one.few honest in let then = two.few (one.went.honest ∙ honest) in omega (arith, first, then);
}

pub writes-within : {P : Image → Type 0} {old new : Disk} {m n faults : ℕ} → (IsTrue old.honest → m ≤ n) → WritesAtMost P m old new faults
    → WritesAtMost P n old new faults
writes-within fewer writes =
    record {
      transfers = writes.transfers;
      went = writes.went;
      few = λ honest. let few = writes.few honest in
          omega (arith, few, fewer honest);
    }

pub writes-none : (P : Image → Type 0) (n : ℕ) (disk : Disk) → WritesAtMost P n disk disk 0
writes-none P n disk = record { transfers = 0; went = went_looked P (looked_none disk); few = λ _. omega arith }

-- what is broken off after more was done
pub breaks-behind : {P Q : Image → Type 0} {a b c : Disk} {m n : ℕ} {r : Refusal} → ((image : Image) → Q image → P image)
    → WritesAtMost P m a b 0 → Breaks Q n r b c → Breaks P (m + n) r a c
breaks-behind weaker one breaks = record {
  fatal = breaks.fatal;
  undamaged = λ honest. breaks.undamaged (one.went.honest ∙ honest);
  writes = writes-then weaker one breaks.writes;
}

pub breaks-then : {home : HomeFields} {s t : Store} {m n : ℕ} {a b c : Disk} {r : Refusal} → (IsTrue a.honest → FreesMore s t)
    → WritesAtMost (Freeing home s a) m a b 0 → BreaksOff home t n r b c → BreaksOff home s (m + n) r a c
breaks-then {home = home} {s = s} {t = t} {a = a} {b = b} frees one breaks =
    breaks-behind (freeing-more home s t a b one.went.honest frees) one breaks

pub breaks-within : {P : Image → Type 0} {m n : ℕ} {old new : Disk} {r : Refusal} → (IsTrue old.honest → m ≤ n) → Breaks P m r old new
    → Breaks P n r old new
breaks-within fewer breaks = record { fatal = breaks.fatal; undamaged = breaks.undamaged; writes = writes-within fewer breaks.writes }

-- a volume that was sound at each moment is sound at the end
pub sound-freed : (home : HomeFields) (s : Store) (old new : Disk) {most faults : ℕ} → (IsTrue old.honest → HasSoundVolume old.image home)
    → WritesAtMost (Freeing home s old) most old new faults
    → IsTrue new.honest → HasSoundVolume new.image home
sound-freed home s old new sound writes honest =
    let P : Image → Type 0 = λ image. IsTrue old.honest → HasSoundVolume image home in
    went_last P (went_weaker (Freeing home s old) P (λ image is sure. (is sure).sound) writes.went) sound (sym writes.went.honest ∙ honest)

-- so where it was broken off
pub broken-stays : (s t : Structure) (from : Store) (old new : Disk) {most : ℕ} {r : Refusal} → home_of t ≡ home_of s → IsStructureFor s old
    → BreaksOff (home_of s) from most r old new → StaysFor true s t new
broken-stays s t from old new same for breaks = record {
  home = same;
  lies = λ not. absurd cc;
  sound = subst (λ (h : HomeFields). IsTrue new.honest → HasSoundVolume new.image h) (sym same)
      (sound-freed (home_of s) from old new for.sound breaks.writes);
  keeps = λ not. absurd cc;
}

-- an error that is handed on
pub handed-stays : {T : Type 0} (result : Result T Refusal) (r : Refusal) (s t : Structure) (disk : Disk) → IsErrAnd result (λ y. y ≡ r)
    → is_fatal r ≡ true → StaysFor true s t disk
    → StaysFor (is_refused is_fatal result) s t disk
handed-stays (Ok x) r s t disk is fatal stays = absurd is
handed-stays (Err y) r s t disk is fatal stays = subst (λ (b : Bool). StaysFor b s t disk) (sym (ap is_fatal is ∙ fatal)) stays

-- and where it was not
pub stays-for : {s t : Structure} {disk : Disk} → StaysFor false s t disk → IsStructureFor t disk
stays-for stays = record { lies = stays.lies refl; sound = stays.sound; keeps = stays.keeps refl }

-- what one call leaves after another
pub stays-then : {failed : Bool} {s c e : Structure} {disk : Disk} → home_of c ≡ home_of s → StaysFor failed c e disk
    → StaysFor failed s e disk
stays-then same stays = record { home = stays.home ∙ same; lies = stays.lies; sound = stays.sound; keeps = stays.keeps }

-- one run of unreferenced blocks was marked free
pub run-keeps : (old new : Image) (home : HomeFields) (lbn count : ℕ) → HasSoundVolume old home
    → AreUnreferenced (volume_of old home) lbn count → Marks true (storage_bitmap old home) lbn count old new
    → KeepsButFree home old new
unfolding volume_of
run-keeps old new home lbn count sound unreferenced marks = free-keeps old new home lbn count sound marks unreferenced.unnamed

pub run-store : (old new : Image) (home : HomeFields) (lbn count : ℕ) → HasSoundVolume old home
    → AreUnreferenced (volume_of old home) lbn count → Marks true (storage_bitmap old home) lbn count old new
    → store_of new home ≡ with_more_free (store_of old home) count
unfolding volume_of
run-store old new home lbn count sound unreferenced marks =
    more-free old new home lbn count (run-keeps old new home lbn count sound unreferenced marks) marks unreferenced.inside unreferenced.used

module _ (s : Structure) (lbn count : ℕ) (old : Disk) (for : IsStructureFor s old)
    (unreferenced : IsTrue old.honest → AreUnreferenced (volume_of old.image (home_of s)) lbn count) where
  abbrev home : HomeFields
  home = home_of s

  bitmap : IsTrue old.honest → bitmap_in s ≡ storage_bitmap old.image home
  bitmap honest = (for.keeps honest).bitmap_is

  pub run-within : IsTrue old.honest → lbn + count ≤ (bitmap_in s).size
  unfolding volume_of
  run-within honest =
      let size = ap (λ (b : Bitmap). b.size) (bitmap honest) in let inside = (unreferenced honest).inside in omega (arith, size, inside)

  pub run-used : IsTrue old.honest → (k : ℕ) → lbn ≤ k → k < lbn + count → is_free old.image (bitmap_in s) k ≡ false
  unfolding volume_of
  run-used honest k low high = ap (λ (b : Bitmap). is_free old.image b k) (bitmap honest) ∙ (unreferenced honest).used k low high

  run-moment : (image : Image) → Changing old.honest true (bitmap_in s) lbn count old.image image
      → Freeing home (store_of old.image home) old image
  run-moment image is honest =
      let marking = is.marking honest in
      let marks : Marks true (storage_bitmap old.image home) lbn marking.part old.image image =
      subst (λ (b : Bitmap). Marks true b lbn marking.part old.image image) (bitmap honest) marking.marks in
      let some = part-unreferenced (volume_of old.image home) lbn count lbn marking.part (unreferenced honest) (omega arith)
      (omega (arith, marking.within)) in
      let sound = for.sound honest in
      record {
        sound = (run-keeps old.image image home lbn marking.part sound some marks).sound;
        frees = subst (FreesMore (store_of old.image home)) (sym (run-store old.image image home lbn marking.part sound some marks))
            (frees-blocks (store_of old.image home) marking.part);
      }

  -- the writes are in order
  pub run-order : (new : Disk) {most faults : ℕ} → Went (Changing old.honest true (bitmap_in s) lbn count old.image) old new most faults
      → WritesInOrder old new
  unfolding volume_of
  run-order new went =
      order-marked (Changing old.honest true (bitmap_in s) lbn count old.image) old new home for.sound
      (λ honest image is.
      let marking = is.marking honest in
      record {
        keeps = subst (λ (b : Bitmap). KeepsOthers b old.image image) (bitmap honest) is.keeps;
        only = λ k here. elim (outside true (storage_bitmap old.image home) lbn marking.part k old.image image
            (subst (λ (b : Bitmap). Marks true b lbn marking.part old.image image) (bitmap honest) marking.marks) here) [
              | inl was ↦ inl was
              | inr row ↦ inr ((unreferenced honest).unnamed k row.0 (let part = marking.within in omega (arith, row.1, part)))
            ];
      }) went

  few-touched : count ≤ 256 → 2 * blocks_touched lbn count ≤ 4
  few-touched few = omega (arith, few)

  pub gives-run : (new : Disk) → ¬ (count ≡ 0) → count ≤ 256 → Gives (bitmap_in s) lbn count old new → GivesRun home lbn count old new
  gives-run new some few gives = record {
    none = λ is. absurd (some is);
    marks = λ honest. subst (λ (b : Bitmap). Marks true b lbn count old.image new.image) (bitmap honest) (gives.marks honest);
    writes = record {
      transfers = 2 * blocks_touched lbn count;
      went = went_weaker (Changing old.honest true (bitmap_in s) lbn count old.image) (Freeing home (store_of old.image home) old)
          run-moment gives.went;
      few = λ _. few-touched few;
    };
  }

  pub fails-run : (new : Disk) → count ≤ 256 → FailsToGive (bitmap_in s) lbn count old new
      → BreaksOff home (store_of old.image home) 4 DeviceFault old new
  fails-run new few fails = record {
    fatal = refl;
    undamaged = λ _ is. let no : 19 ≡ 20 = ap refusal_number is in omega (arith, no);
    writes = record {
      transfers = 2 * blocks_touched lbn count;
      went = went_weaker (Changing old.honest true (bitmap_in s) lbn count old.image) (Freeing home (store_of old.image home) old)
          run-moment fails;
      few = λ _. few-touched few;
    };
  }

  pub outside-run : ¬ (lbn + count ≤ (bitmap_in s).size) → BreaksOff home (store_of old.image home) 4 Damaged old old
  outside-run outside = record { fatal = refl; undamaged = λ honest. absurd (outside (run-within honest)); writes = writes-none _ 4 old }

  pub run-stays : (t : Storage) (new : Disk) → bitmap_of t ≡ bitmap_in s → storage.IsFor t new → GivesRun home lbn count old new
      → StaysFor false s (record s { storage = t }) new
  run-stays t new same is gives = record {
    home = refl;
    lies = λ _. record {
      index = subst (λ (n : ℕ). IndexLiesWithin (index_in s) n) (sym gives.writes.went.size) for.lies.index;
      bitmap = is.within;
      volume = let size = ap (λ (b : Bitmap). b.size) same in let device = gives.writes.went.size in let was = for.lies.volume in
          omega (arith, size, device, was);
    };
    sound = sound-freed home (store_of old.image home) old new for.sound gives.writes;
    keeps = λ _ honest.
        let was = sym gives.writes.went.honest ∙ honest in
        let kept = run-keeps old.image new.image home lbn count (for.sound was) (unreferenced was) (gives.marks was) in
        record {
          index_is = (for.keeps was).index_is ∙ sym kept.index_file.index;
          bitmap_is = same ∙ bitmap was ∙ sym kept.bitmap;
          storage = is.keeps honest;
        };
  }

-- none was
pub no-run : (home : HomeFields) (lbn count : ℕ) (disk : Disk) → count ≡ 0 → GivesRun home lbn count disk disk
no-run home lbn count disk none = record {
  none = λ _. refl;
  marks = λ _. record {
    keeps = KeepsOthers-refl (storage_bitmap disk.image home) disk.image;
    inside = λ k low high. absurd (omega (arith, none, low, high));
    before = λ k low. refl;
    after = λ k high. refl;
    past = λ k low high. refl;
  };
  writes = writes-none _ 4 disk;
}
