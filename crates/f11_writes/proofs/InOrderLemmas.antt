-- What carries `WritesInOrder` from call to call.
use Rattle.std.proofs.Common.{◌≡◌, ◌⊎◌, ℕ, zero, suc, ◌<◌, ◌≤◌, length, Bool, true, false, IsTrue, List, [], ◌∷◌, ◌++◌, All, refl, sym, ap}
use Rattle.std.proofs.Common.{subst, ◌∙◌, append_assoc, inl, inr, set, arith}
use Rattle.std.proofs.lemmas.List.{append_cancel_right}
use Rattle.std.proofs.lemmas.List.Elements.{All-cons, All-nil}
use Rattle.std.specs.List.{slice_get}
use Rattle.f11_dev.specs.Disk.{Disk, with_transfer, with_block_at}
use Rattle.f11_dev.specs.Image.{Image, IsImage}
use Rattle.f11_dev.specs.Looked.{Looked}
use Rattle.f11_dev.specs.Went.{Went, newest}
use Rattle.f11_bits.specs.Bitmap.{Bitmap, is_free, KeepsOthers}
use Rattle.f11_volume.specs.home.Home.{HomeFields}
use Rattle.f11_index.specs.Calls.{SetsBit, HasBitWritten, with_bitmap_block}
use Rattle.f11_index.specs.IndexFile.{Index, index_of, slots}
use Rattle.f11_index.specs.Table.{Table, table_of}
use Rattle.f11_volume.proofs.AcceptedLemmas.{accepted-from, accepted-sound}
use Rattle.f11_volume.specs.Space.{storage_bitmap}
use Rattle.f11_volume.specs.Verdict.{IsAccepted}
use Rattle.f11_volume.specs.Volume.{volume_of, IsNamed}
use Rattle.f11_writes.specs.Fixed.{IsFixed, KeepsFixed}
use Rattle.f11_writes.specs.Kept.{WritesSlotBit}
use Rattle.f11_writes.specs.Moments.{StandsAccepted}
use Rattle.f11_writes.proofs.BitmapLemmas.{bitmap-keeps}
use Rattle.f11_writes.proofs.NameLemmas.{free-unnamed}
use Rattle.f11_writes.proofs.OrderLemmas.{bitmap-orderly, bit-again-orderly}
use Rattle.f11_volume.proofs.home.HomeLemmas.{home-unique}
use Rattle.f11_volume.specs.Sound.{HasSoundVolume}
use Rattle.f11_writes.specs.Order.{AreInOrder, IsInOrder, IsOrderlyWrite, MadeInOrder, WritesInOrder, image_before}

-- no write was made
pub unwritten : (home : HomeFields) (old : Image) → AreInOrder home old []
unwritten home old k within = absurd (omega (arith, within))

-- or one more
written : {home : HomeFields} {old image : Image} {earlier : List Image} → AreInOrder home old earlier
    → IsInOrder home (newest earlier old) image → AreInOrder home old (image ∷ earlier)
written before last zero within = last
written before last (suc k) within = before k (omega (arith, within))

earlier-written : {home : HomeFields} {old image : Image} {earlier : List Image} → AreInOrder home old (image ∷ earlier)
    → AreInOrder home old earlier
earlier-written each k within = each (suc k) (omega (arith, within))

pub order-none : (disk : Disk) → WritesInOrder disk disk
order-none disk = record {
  ordered = λ _. record { since = []; history = refl; image = refl; honest = refl; each = λ home. unwritten home disk.image };
}

pub order-looked : (old new : Disk) (most faults : ℕ) → Looked old new most faults → WritesInOrder old new
order-looked old new most faults looked = record {
  ordered = λ _. record {
    since = [];
    history = looked.history;
    image = looked.image;
    honest = looked.honest;
    each = λ home. unwritten home old.image;
  };
}

-- an image has one home block
pub at-home : (home other : HomeFields) (image : Image) → HasSoundVolume image home → HasSoundVolume image other → home ≡ other
at-home home other image one two = home-unique image home other one.framed.home_is two.framed.home_is

-- a write of one block
module _ (old : Disk) (home : HomeFields) (sound : IsTrue old.honest → HasSoundVolume old.image home) (lbn : ℕ) (block : List ℕ)
    (orderly : IsTrue old.honest → IsOrderlyWrite home old.image (set old.image lbn block)) where
  landed : (passed : Bool) → WritesInOrder old (with_transfer passed (with_block_at lbn block old))
  landed passed = record {
    ordered = λ honest. record {
      since = set old.image lbn block ∷ [];
      history = refl;
      image = refl;
      honest = refl;
      each = λ other. written (unwritten other old.image) (record {
        orderly = λ is. subst (λ (h : HomeFields). IsOrderlyWrite h old.image (set old.image lbn block))
            (at-home home other old.image (sound honest) is) (orderly honest);
      });
    };
  }

  pub order-write : (new : Disk) → new ≡ with_transfer true (with_block_at lbn block old) → WritesInOrder old new
  order-write new is = subst (WritesInOrder old) (sym is) (landed true)

  pub order-failed : (new : Disk) → (new ≡ with_transfer false old) ⊎ (new ≡ with_transfer false (with_block_at lbn block old))
      → WritesInOrder old new
  order-failed new (inl none) = subst (WritesInOrder old) (sym none) (record {
    ordered = λ _. record { since = []; history = refl; image = refl; honest = refl; each = λ home. unwritten home old.image };
  })
  order-failed new (inr is) = subst (WritesInOrder old) (sym is) (landed false)

pub newest-append : (later earlier : List Image) (image : Image) → newest (later ++ earlier) image ≡ newest later (newest earlier image)
newest-append [] earlier image = refl
newest-append (last ∷ later) earlier image = refl

order-append : (home : HomeFields) (old : Image) (later earlier : List Image) → AreInOrder home old earlier
    → AreInOrder home (newest earlier old) later → AreInOrder home old (later ++ earlier)
order-append home old [] earlier one two = one
order-append home old (image ∷ later) earlier one two =
    written (order-append home old later earlier one (earlier-written two))
    (subst (λ (i : Image). IsInOrder home i image) (sym (newest-append later earlier old)) (two zero (omega arith)))

made-then : (a b c : Disk) → MadeInOrder a b → MadeInOrder b c → MadeInOrder a c
made-then a b c one two = record {
  since = two.since ++ one.since;
  history = two.history ∙ ap (λ (h : List Image). two.since ++ h) one.history ∙ sym (append_assoc two.since one.since a.history);
  image = two.image ∙ ap (newest two.since) one.image ∙ sym (newest-append two.since one.since a.image);
  honest = two.honest ∙ one.honest;
  each = λ home.
      order-append home a.image two.since one.since (one.each home)
      (subst (λ (i : Image). AreInOrder home i two.since) one.image (two.each home));
}

pub order-then : (a b c : Disk) → WritesInOrder a b → WritesInOrder b c → WritesInOrder a c
order-then a b c one two = record {
  ordered = λ honest.
      let first = one.ordered honest in made-then a b c first (two.ordered (subst IsTrue (sym first.honest) honest));
}

-- where the old one is sound, so is each
pub each-sound : (home : HomeFields) (old : Image) (since : List Image) → HasSoundVolume old home → AreInOrder home old since
    → HasSoundVolume (newest since old) home
each-sound home old [] sound each = sound
each-sound home old (image ∷ earlier) sound each =
    ((each zero (omega arith)).orderly (each-sound home old earlier sound (earlier-written each))).sound

-- and accepted
pub each-accepted : (home : HomeFields) (old : Image) (since : List Image) → HasSoundVolume old home → AreInOrder home old since
    → All IsAccepted since
each-accepted home old [] sound each = All-nil IsAccepted
each-accepted home old (image ∷ earlier) sound each =
    All-cons IsAccepted image earlier
    (accepted-from image (record { home = home; volume = each-sound home old (image ∷ earlier) sound each }))
    (each-accepted home old earlier sound (earlier-written each))

-- and keeps the fixed blocks of the first, which are fixed in it, too
pub fixed-still : (home : HomeFields) (old : Image) (since : List Image) → HasSoundVolume old home → AreInOrder home old since → (lbn : ℕ)
    → IsFixed old home lbn → (slice_get (newest since old) lbn ≡ slice_get old lbn) × IsFixed (newest since old) home lbn
fixed-still home old [] sound each lbn fixed = (refl, fixed)
fixed-still home old (image ∷ earlier) sound each lbn fixed =
    let before = fixed-still home old earlier sound (earlier-written each) lbn fixed in
    let write = (each zero (omega arith)).orderly (each-sound home old earlier sound (earlier-written each)) in
    let now = write.fixed lbn before.1 in
    (now.0 ∙ before.0, now.1)

pub each-fixed : (home : HomeFields) (old : Image) (since : List Image) → HasSoundVolume old home → AreInOrder home old since
    → All (KeepsFixed home old) since
each-fixed home old [] sound each = All-nil (KeepsFixed home old)
each-fixed home old (image ∷ earlier) sound each =
    All-cons (KeepsFixed home old) image earlier (λ lbn fixed. (fixed-still home old (image ∷ earlier) sound each lbn fixed).0)
    (each-fixed home old earlier sound (earlier-written each))

-- and each write is orderly
pub each-orderly : (home : HomeFields) (old : Image) (since : List Image) → HasSoundVolume old home → AreInOrder home old since → (k : ℕ)
    → k < length since → IsOrderlyWrite home (image_before (suc k) since old) (image_before k since old)
each-orderly home old [] sound each k within = absurd (omega (arith, within))
each-orderly home old (image ∷ earlier) sound each zero within =
    (each zero within).orderly (each-sound home old earlier sound (earlier-written each))
each-orderly home old (image ∷ earlier) sound each (suc k) within =
    each-orderly home old earlier sound (earlier-written each) k (omega (arith, within))

-- images of which each is in order behind the first one, and behind each other
module _ (P : Image → Type 0) (home : HomeFields) (old : Image) (first : (image : Image) → P image → IsInOrder home old image)
    (more : (one other : Image) → P one → P other → IsInOrder home one other) where
  each-order : (since : List Image) → All P since → AreInOrder home old since
  each-order [] all = unwritten home old
  each-order (image ∷ []) all = written (unwritten home old) (first image (all zero image (omega arith)))
  each-order (image ∷ before ∷ earlier) all =
      written (each-order (before ∷ earlier) (λ k d within. all (suc k) d (omega (arith, within))))
      (more before image (all (suc zero) image (omega arith)) (all zero image (omega arith)))

pub order-went : (P : Image → Type 0) (old new : Disk) (home : HomeFields) {most faults : ℕ}
    → (IsTrue old.honest → HasSoundVolume old.image home)
    → (IsTrue old.honest → (image : Image) → P image → IsOrderlyWrite home old.image image)
    → (IsTrue old.honest → (one other : Image) → P one → P other → IsOrderlyWrite home one other)
    → Went P old new most faults → WritesInOrder old new
order-went P old new home sound first more went = record {
  ordered = λ honest. record {
    since = went.since;
    history = went.history;
    image = went.image;
    honest = went.honest;
    each = λ other.
        each-order P other old.image
        (λ image is. record {
          orderly =
              λ there. subst (λ (h : HomeFields). IsOrderlyWrite h old.image image) (at-home home other old.image (sound honest) there)
              (first honest image is);
        })
        (λ one later is also. record {
          orderly = λ there. subst (λ (h : HomeFields). IsOrderlyWrite h one later)
              (at-home home other one (first honest one is).sound there) (more honest one later is also);
        }) went.since went.each;
  };
}

-- blocks of the storage bitmap, while no block that a header names comes to be free
module _ (old : Image) (home : HomeFields) (is : HasSoundVolume old home) where
  -- an image in which only those were written
  pub record IsMarked (image : Image) : Type 0 where
    pub keeps : KeepsOthers (storage_bitmap old home) old image
    pub only : (lbn : ℕ) → is_free image (storage_bitmap old home) lbn ≡ true
        → (is_free old (storage_bitmap old home) lbn ≡ true) ⊎ (¬ IsNamed (table_of old home) lbn)

  marked-again : (one other : Image) → IsMarked one → IsMarked other → IsOrderlyWrite home one other
  unfolding volume_of
  marked-again one other first then =
      let kept = bitmap-keeps old one home is first.keeps first.only in
      let unnamed : (lbn : ℕ) → is_free other (storage_bitmap old home) lbn ≡ true → ¬ IsNamed (table_of one home) lbn = λ lbn here.
      subst (λ (t : Table). ¬ IsNamed t lbn) (sym kept.index_file.table) (elim (then.only lbn here) [
        | inl free ↦ free-unnamed (volume_of old home) lbn is.sound free
        | inr none ↦ none
      ]) in
      bitmap-orderly one home kept.sound other
      (subst (λ (b : Bitmap). KeepsOthers b one other) (sym kept.bitmap) (record {
        size = then.keeps.size ∙ sym first.keeps.size;
        others = λ lbn away. then.keeps.others lbn away ∙ sym (first.keeps.others lbn away);
      }))
      (subst (λ (b : Bitmap). (lbn : ℕ) → is_free other b lbn ≡ true → (is_free one b lbn ≡ true) ⊎ (¬ IsNamed (table_of one home) lbn))
      (sym kept.bitmap) (λ lbn here. inr (unnamed lbn here)))

  first-marked : (image : Image) → IsMarked image → IsOrderlyWrite home old image
  first-marked image marked = bitmap-orderly old home is image marked.keeps marked.only

pub order-marked : (P : Image → Type 0) (old new : Disk) (home : HomeFields) {most faults : ℕ}
    (sound : IsTrue old.honest → HasSoundVolume old.image home)
    → ((honest : IsTrue old.honest) (image : Image) → P image → IsMarked old.image home (sound honest) image)
    → Went P old new most faults → WritesInOrder old new
order-marked P old new home sound marked =
    order-went P old new home sound
    (λ honest image is. first-marked old.image home (sound honest) image (marked honest image is))
    (λ honest one other first then.
    marked-again old.image home (sound honest) one other (marked honest one first) (marked honest other then))

-- the bit of a slot
pub order-bit : (value : Bool) (n : ℕ) (index : Index) (old new : Disk) (home : HomeFields) {most faults : ℕ}
    (sound : IsTrue old.honest → HasSoundVolume old.image home) (is : IsTrue old.honest → index ≡ index_of old.image home)
    → 0 < n → n ≤ slots index
    → ((honest : IsTrue old.honest) (after : Index) → SetsBit value n (index_of old.image home) after
    → WritesSlotBit n after home old.image (with_bitmap_block old.image after n)
    × IsOrderlyWrite home old.image (with_bitmap_block old.image after n))
    → Went (HasBitWritten value n index old.image) old new most faults → WritesInOrder old new
order-bit value n index old new home sound is some few writes =
    let bit : (honest : IsTrue old.honest) (image : Image) (w : HasBitWritten value n index old.image image)
    → SetsBit value n (index_of old.image home) w.written =
    λ honest image w. subst (λ (x : Index). SetsBit value n x w.written) (is honest) w.bit in
    order-went (HasBitWritten value n index old.image) old new home sound
    (λ honest image w. subst (IsOrderlyWrite home old.image) (sym w.image_is) (writes honest w.written (bit honest image w)).1)
    (λ honest one other w v.
    subst (λ (i : Image). IsOrderlyWrite home i other) (sym w.image_is)
    (subst (IsOrderlyWrite home (with_bitmap_block old.image w.written n)) (sym v.image_is)
    (bit-again-orderly old.image home (sound honest) value n w.written v.written some (subst (λ (x : Index). n ≤ slots x) (is honest) few)
    (bit honest one w) (bit honest other v) (writes honest w.written (bit honest one w)).0
    (writes honest v.written (bit honest other v)).0)))
