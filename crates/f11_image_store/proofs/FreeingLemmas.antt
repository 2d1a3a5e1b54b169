-- What carries `FreesMore` from image to image, and what is freed without touching a file.
use Rattle.std.proofs.Common.{◌≡◌, ◌⊎◌, ◌<◌, ◌≤◌, ℕ, zero, suc, IsTrue, List, refl, sym, ap, subst, ◌∙◌, inl, inr, arith, Bool, true, false}
use Rattle.std.proofs.Common.{cond, if◌then◌else◌, eqb}
use Rattle.std.proofs.lemmas.Bool.{cases_eq, cases_lt}
use Rattle.f11_bits.specs.Bitmap.{Bitmap, count_below, free_blocks, is_free, KeepsOthers}
use Rattle.f11_bits.proofs.CountLemmas.{count_below-zero, count_below-suc}
use Rattle.f11_bytes.specs.Words.{with_word}
use Rattle.f11_dev.specs.Disk.{Disk}
use Rattle.f11_dev.specs.Image.{Image}
use Rattle.f11_header.specs.Fields.{file_sequence}
use Rattle.f11_header.specs.Header.{IsDead, IsHeader}
use Rattle.f11_header.specs.Writing.{dead_header}
use Rattle.f11_header.proofs.AreaLemmas.{changes-with_word, word-kept}
use Rattle.f11_header.proofs.HeaderFacts.{dead-not-valid}
use Rattle.f11_volume.specs.home.Home.{HomeFields}
use Rattle.f11_index.specs.Calls.{SetsBit, with_bitmap_block}
use Rattle.f11_index.specs.Growth.{with_header}
use Rattle.f11_index.specs.Headers.{IsInFile}
use Rattle.f11_index.specs.IndexFile.{Index, index_of, slots}
use Rattle.f11_index.specs.Table.{Table, table_in, table_of, last_sequence, IsLive, IsFile, IsDeadSlot, IsNext, first, next}
use Rattle.f11_index.proofs.BitLemmas.{SetsBit-in_use}
use Rattle.f11_index.proofs.InUseLemmas.{in_use-some, in_use-slot}
use Rattle.f11_store.specs.Pieces.{with_more_free}
use Rattle.f11_store.specs.Store.{Store}
use Rattle.f11_volume.specs.Sound.{HasSoundVolume}
use Rattle.f11_volume.specs.Space.{storage_bitmap}
use Rattle.f11_volume.specs.Volume.{IsNamed}
use Rattle.f11_writes.specs.Kept.{WritesHeader, WritesSlotBit}
use Rattle.f11_writes.proofs.BitLemmas.{clear-keeps}
use Rattle.f11_writes.proofs.BitmapLemmas.{bitmap-keeps}
use Rattle.f11_writes.proofs.HeaderLemmas.{kill-keeps}
use Rattle.f11_image_store.specs.Freeing.{FreesMore, IsFreeing, Freeing}
use Rattle.f11_image_store.specs.SlotLaws.{IsFileless, with_use}
use Rattle.f11_image_store.specs.StoreOf.{store_of}
use Rattle.f11_image_store.proofs.InstanceLemmas.{unlive-fileless, fileless-written, fileless-set}
use Rattle.f11_image_store.proofs.StoreLemmas.{marks-counted}

-- a header that is killed keeps its sequence number
pub dead-sequence : (b : List ℕ) → file_sequence (dead_header b) ≡ file_sequence b
dead-sequence b =
    word-kept {old = with_word b 2 0} {new = dead_header b} (changes-with_word (with_word b 2 0) 510 0) 4 (inl (omega arith))
    ∙ word-kept {old = b} {new = with_word b 2 0} (changes-with_word b 2 0) 4 (inr (omega arith))

pub frees-none : (s : Store) → FreesMore s s
frees-none s = record {
  files = λ n. refl;
  free = omega arith;
  unused = λ n unused. unused;
  last = λ n. refl;
  slots = refl;
  limits = record { bitmap_blocks = refl; index_bitmap_blocks = refl; limit = refl };
}

pub frees-then : (s t u : Store) → FreesMore s t → FreesMore t u → FreesMore s u
frees-then s t u one two = record {
  files = λ n. two.files n ∙ one.files n;
  free = omega (arith, one.free, two.free);
  unused = λ n unused. two.unused n (one.unused n unused);
  last = λ n. two.last n ∙ one.last n;
  slots = two.slots ∙ one.slots;
  limits = record {
    bitmap_blocks = two.limits.bitmap_blocks ∙ one.limits.bitmap_blocks;
    index_bitmap_blocks = two.limits.index_bitmap_blocks ∙ one.limits.index_bitmap_blocks;
    limit = two.limits.limit ∙ one.limits.limit;
  };
}

pub frees-blocks : (s : Store) (count : ℕ) → FreesMore s (with_more_free s count)
frees-blocks s count = record {
  files = λ n. refl;
  free = omega arith;
  unused = λ n unused. unused;
  last = λ n. refl;
  slots = refl;
  limits = record { bitmap_blocks = refl; index_bitmap_blocks = refl; limit = refl };
}

-- images that stand after one that has freed something
pub freeing-more : (home : HomeFields) (s t : Store) (a b : Disk) → b.honest ≡ a.honest → (IsTrue a.honest → FreesMore s t)
    → (image : Image) → Freeing home t b image → Freeing home s a image
freeing-more home s t a b same frees image is honest =
    let there = is (same ∙ honest) in
    record { sound = there.sound; frees = frees-then s t (store_of image home) (frees honest) there.frees }

-- a slot that leaves use
pub frees-slot : (s : Store) (n : ℕ) → FreesMore s (with_use s n false)
frees-slot s n = record {
  files = λ m. refl;
  free = omega arith;
  unused = λ m unused. go (eqb m n) (s.in_use m) unused;
  last = λ m. refl;
  slots = refl;
  limits = record { bitmap_blocks = refl; index_bitmap_blocks = refl; limit = refl };
}
  where
    go : (b used : Bool) → used ≡ false → cond b false used ≡ false
    go true used is = refl
    go false used is = is

-- where each number that passes one test passes another, no fewer pass that
count-no-less : (p q : ℕ → Bool) (n : ℕ) → ((k : ℕ) → p k ≡ true → q k ≡ true) → count_below p n ≤ count_below q n
count-no-less p q zero more = omega (arith, count_below-zero p, count_below-zero q)
count-no-less p q (suc n) more = omega (arith, count-no-less p q n more, count_below-suc p n, count_below-suc q n, one (p n) (q n) (more n))
  where
    one : (a b : Bool) → (a ≡ true → b ≡ true) → (if a then 1 else 0) ≤ (if b then 1 else 0)
    one false b holds = omega arith
    one true b holds = subst (λ (x : Bool). 1 ≤ (if x then 1 else 0)) (sym (holds refl)) (omega arith)

-- a store with the same of all but what is free
frees-count : (s : Store) (n : ℕ) → s.free ≤ n → FreesMore s (record s { free = n })
frees-count s n more = record {
  files = λ k. refl;
  free = more;
  unused = λ k unused. unused;
  last = λ k. refl;
  slots = refl;
  limits = record { bitmap_blocks = refl; index_bitmap_blocks = refl; limit = refl };
}

-- of the volume's own headers each is one of a file
own-in-file : (image : Image) (home : HomeFields) (n : ℕ) → HasSoundVolume image home → 0 < n → n < 5 → IsFile (table_of image home) n
own-in-file image home n is some few = elim (cases_eq n 1) [
  | inl one ↦ subst (IsFile (table_of image home)) (sym one) is.framed.indexed.file.whole.file
  | inr other ↦ (is.framed.own_files n (omega (arith, some, other)) (omega (arith, few))).file
]

module _ (image : Image) (home : HomeFields) (n : ℕ) (is : HasSoundVolume image home) where
  abbrev t : Table
  t = table_of image home

  -- a slot in use is one
  slot-of : t.in_use n ≡ true → (0 < n) × (n ≤ slots (index_of image home))
  unfolding table_in
  slot-of used = (in_use-some (index_of image home) n used, in_use-slot (index_of image home) n used)

  module _ (block : List ℕ) (live : IsLive t n) (fileless : IsFileless t n) (dead : IsDead block)
      (sequence : file_sequence block ≡ last_sequence t n) where
    abbrev killed : Image
    killed = with_header image home n block

    late : 5 ≤ n
    late = elim (cases_lt n 5) [
      | inl few ↦ absurd (fileless n (first (own-in-file image home n is (slot-of live.in_use).0 few)))
      | inr above ↦ above
    ]

    unlinked : (m : ℕ) → IsInFile t m → ¬ IsNext t m n
    unlinked m in_file goes = fileless in_file.file (next in_file.of goes)

    pub wrote : WritesHeader n block home image killed
    wrote = kill-keeps image home is n block late (slot-of live.in_use).1 dead unlinked

    not-live : ¬ IsLive (table_of killed home) n
    not-live now = dead-not-valid block n dead (subst (λ (b : List ℕ). IsHeader b n) wrote.index_file.header now.valid)

    pub orphan-killed : IsFreeing home (store_of image home) killed
    orphan-killed = record {
      sound = wrote.slot.sound;
      frees =
          subst (FreesMore (store_of image home))
          (sym (fileless-written image killed home n block wrote sequence fileless (unlive-fileless (table_of killed home) n not-live)))
          (frees-none (store_of image home));
    }

  module _ (after : Index) (dead : IsDeadSlot t n) (bit : SetsBit false n (index_of image home) after) where
    abbrev cleared : Image
    cleared = with_bitmap_block image after n

    some : 0 < n
    some = (slot-of dead.in_use).0

    pub bit-wrote : WritesSlotBit n after home image cleared
    bit-wrote = clear-keeps image home n after is dead bit

    unused-now : (table_of cleared home).in_use n ≡ false
    unused-now =
        ap (λ (u : Table). u.in_use n) bit-wrote.index_file.table
        ∙ SetsBit-in_use false n (index_of image home) after some (slot-of dead.in_use).1 bit

    dead-unlive : ¬ IsLive t n
    dead-unlive live = let number = live.valid.number in omega (arith, dead.dead, number, some)

    store-cleared : store_of cleared home ≡ with_use (store_of image home) n false
    store-cleared =
        fileless-set image cleared home n after bit-wrote (unlive-fileless t n dead-unlive)
        (unlive-fileless (table_of cleared home) n (λ now. let used = sym unused-now ∙ now.in_use in cc))
        ∙ ap (with_use (store_of image home) n) unused-now

    pub dead-freed : IsFreeing home (store_of image home) cleared
    dead-freed =
        record {
          sound = bit-wrote.slot.sound;
          frees = subst (FreesMore (store_of image home)) (sym store-cleared)
              (frees-slot (store_of image home) n);
        }

pub unnamed-freed : (old new : Image) (home : HomeFields) → HasSoundVolume old home → KeepsOthers (storage_bitmap old home) old new
    → ((lbn : ℕ) → is_free new (storage_bitmap old home) lbn ≡ true → (is_free old (storage_bitmap old home) lbn ≡ true)
    ⊎ (¬ IsNamed (table_of old home) lbn))
    → ((lbn : ℕ) → is_free old (storage_bitmap old home) lbn ≡ true → is_free new (storage_bitmap old home) lbn ≡ true)
    → IsFreeing home (store_of old home) new
unfolding store_of
unnamed-freed old new home is others only stays =
    let kept = bitmap-keeps old new home is others only in
    let b : Bitmap = storage_bitmap old home in
    record {
      sound = kept.sound;
      frees = subst (FreesMore (store_of old home)) (sym (marks-counted old new home (free_blocks new b) kept refl))
          (frees-count (store_of old home) (free_blocks new b) (count-no-less (is_free old b) (is_free new b) b.size stays));
    }
