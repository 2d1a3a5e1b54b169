-- The store of an image one of whose slots was written.
use Rattle.std.proofs.Common.{◌≡◌, ◌≢◌, ◌⊎◌, ◌≤◌, ◌<◌, ◌&&◌, inl, inr, ℕ, Bool, false, cond, Some, None, List, refl, ap, sym, subst, ◌∙◌}
use Rattle.std.proofs.Common.{length, eqb, ltb, leb}
use Rattle.std.proofs.lemmas.Bool.{cases_lt, cases_eq, eq-eqb, ne_eqb, and_left, and_right, lt-leb, le-ltb}
use Rattle.f11_bits.specs.Bitmap.{Bitmap, count_below, free_blocks}
use Rattle.f11_dev.specs.Image.{Image}
use Rattle.f11_header.specs.Fields.{file_sequence}
use Rattle.f11_volume.specs.home.Home.{HomeFields}
use Rattle.f11_index.specs.Table.{Table, table_of, last_sequence, IsFile, IsHeaderOf}
use Rattle.f11_store.specs.Changes.{with_file}
use Rattle.f11_volume.specs.Contents.{file_of}
use Rattle.f11_volume.specs.Space.{storage_bitmap}
use Rattle.f11_volume.specs.Volume.{Volume}
use Rattle.f11_writes.specs.Kept.{KeepsButSlot}
use Rattle.f11_writes.proofs.OtherSlotLemmas.{turned, file-was}
use Rattle.f11_image_store.specs.StoreOf.{as_seen, file_at, last_given, store_of}
use Rattle.f11_image_store.specs.SlotLaws.{with_use, with_last, KeepsOtherBlocks, ConcernsFile}
use Rattle.f11_image_store.proofs.StoreLemmas.{file-at, free-count}
use Rattle.f11_store.proofs.StoreLemmas.{same-store}

module _ (old new : Image) (home : HomeFields) (n : ℕ) (slot : KeepsButSlot n home old new) where
  abbrev t : Table
  t = table_of old home

  abbrev u : Table
  u = table_of new home

  -- a file that header n isn't one of
  module _ (f : ℕ) (apart : (f ≢ n) ⊎ (¬ IsFile t f × ¬ IsFile u f)) where
    was : (f ≢ n) ⊎ (¬ IsFile t f × ¬ IsFile u f) → IsFile u f → IsFile t f
    was (inl away) file = file-was t u n slot.others f away file
    was (inr none) file = absurd (none.1 file)

    now : (f ≢ n) ⊎ (¬ IsFile t f × ¬ IsFile u f) → IsFile t f → IsFile u f
    now (inl away) file = file-was u t n (turned t u n slot.others) f away file
    now (inr none) file = absurd (none.0 file)

    seen : ¬ IsHeaderOf u f n → IsFile u f → (f ≡ 1) ⊎ (f ≢ 1) → as_seen f (file_of new u f) ≡ as_seen f (file_of old t f)
    seen none file (inl first) =
        subst (λ (k : ℕ). as_seen k (file_of new u k) ≡ as_seen k (file_of old t k)) (sym first)
        (slot.said 1 (subst (λ (k : ℕ). IsFile u k) first file) (subst (λ (k : ℕ). ¬ IsHeaderOf u k n) first none))
    seen none file (inr other) = ap (as_seen f) (slot.files f file other none)

    pub other-file : ¬ IsHeaderOf u f n → file_at new u f ≡ file_at old t f
    other-file none = file-at new u f (file_at old t f)
        (λ file. ap Some (seen none file (cases_eq f 1)) ∙ sym (file-at old t f _ (λ _. refl) (λ no. absurd (no (was apart file)))))
        (λ no. sym (file-at old t f None (λ file. absurd (no (now apart file))) (λ _. refl)))

  pub free-stays : free_blocks new (storage_bitmap new home) ≡ free_blocks old (storage_bitmap old home)
  free-stays = free-count new home ∙ ap (λ (v : Volume). count_below v.free v.size) slot.volume ∙ sym (free-count old home)

  -- the sequence number of another slot
  other-last : KeepsOtherBlocks n t u → (m : ℕ) → m ≢ n → last_given u m ≡ last_given t m
  unfolding last_given
  other-last blocks m apart =
      ap (λ (k : ℕ). cond (ltb 0 m && leb m k) (last_sequence u m) 0) blocks.slots ∙ go (cases_lt 0 m) (cases_lt t.slots m)
    where
      go : (0 < m) ⊎ (m ≤ 0) → (t.slots < m) ⊎ (m ≤ t.slots)
          → cond (ltb 0 m && leb m t.slots) (last_sequence u m) 0 ≡ cond (ltb 0 m && leb m t.slots) (last_sequence t m) 0
      go (inl some) (inr within) =
          ap (λ (h : List ℕ). cond (ltb 0 m && leb m t.slots) (file_sequence h) 0) (blocks.header m some within apart)
      go (inl some) (inl past) =
          let no : (ltb 0 m && leb m t.slots) ≡ false = and_right (ltb 0 m) (leb m t.slots) (lt-leb m t.slots past) in
          ap (λ (b : Bool). cond b (last_sequence u m) 0) no ∙ sym (ap (λ (b : Bool). cond b (last_sequence t m) 0) no)
      go (inr none) within =
          let no : (ltb 0 m && leb m t.slots) ≡ false = and_left (ltb 0 m) (leb m t.slots) (le-ltb 0 m none) in
          ap (λ (b : Bool). cond b (last_sequence u m) 0) no ∙ sym (ap (λ (b : Bool). cond b (last_sequence t m) 0) no)

  pub slot-stored : (f : ℕ) → KeepsOtherBlocks n t u → ConcernsFile n f t u
      → store_of new home ≡ with_last (with_use (with_file (store_of old home) f (file_at new u f)) n (u.in_use n)) n (last_given u n)
  unfolding store_of
  slot-stored f blocks concerns =
      same-store (store_of new home)
      (with_last (with_use (with_file (store_of old home) f (file_at new u f)) n (u.in_use n)) n (last_given u n))
      (λ g. file g (cases_eq g f)) free-stays blocks.slots (λ m. used m (cases_eq m n)) (λ m. last m (cases_eq m n))
      refl (ap (λ (b : Bitmap). length b.places) slot.bitmap) refl refl
    where
      which : (g : ℕ) → g ≢ f → (g ≡ n) ⊎ (g ≢ n) → (g ≢ n) ⊎ (¬ IsFile t g × ¬ IsFile u g)
      which g apart (inl same) =
          inr (subst (λ (k : ℕ). ¬ IsFile t k × ¬ IsFile u k) (sym same) (concerns.not_first (λ is. apart (same ∙ is))))
      which g apart (inr away) = inl away

      file : (g : ℕ) → (g ≡ f) ⊎ (g ≢ f) → file_at new u g ≡ cond (eqb g f) (file_at new u f) (file_at old t g)
      file g (inl same) = ap (file_at new u) same ∙ ap (λ (b : Bool). cond b (file_at new u f) (file_at old t g)) (sym (eq-eqb g f same))
      file g (inr apart) =
          other-file g (which g apart (cases_eq g n)) (concerns.no_other g apart)
          ∙ ap (λ (b : Bool). cond b (file_at new u f) (file_at old t g)) (sym (ne_eqb g f apart))

      used : (m : ℕ) → (m ≡ n) ⊎ (m ≢ n) → u.in_use m ≡ cond (eqb m n) (u.in_use n) (t.in_use m)
      used m (inl same) = ap u.in_use same ∙ ap (λ (b : Bool). cond b (u.in_use n) (t.in_use m)) (sym (eq-eqb m n same))
      used m (inr apart) = slot.others.in_use m apart ∙ ap (λ (b : Bool). cond b (u.in_use n) (t.in_use m)) (sym (ne_eqb m n apart))

      last : (m : ℕ) → (m ≡ n) ⊎ (m ≢ n) → last_given u m ≡ cond (eqb m n) (last_given u n) (last_given t m)
      last m (inl same) = ap (last_given u) same ∙ ap (λ (b : Bool). cond b (last_given u n) (last_given t m)) (sym (eq-eqb m n same))
      last m (inr apart) = other-last blocks m apart ∙ ap (λ (b : Bool). cond b (last_given u n) (last_given t m)) (sym (ne_eqb m n apart))
