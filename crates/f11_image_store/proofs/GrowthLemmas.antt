-- The store of an image whose index file has grown.
use Rattle.std.proofs.Common.{◌≡◌, ◌≢◌, ◌⊎◌, ◌≤◌, ◌<◌, ◌+◌, ◌&&◌, inl, inr, ℕ, Bool, false, cond, List, [], Some, refl, ap, sym, subst, ◌∙◌}
use Rattle.std.proofs.Common.{length, eqb, ltb, leb, arith}
use Rattle.std.proofs.lemmas.Bool.{and_right, cases_lt, cases_eq, eq-eqb, ne_eqb, lt-leb, le-leb, lt-ltb, le-ltb}
use Rattle.f11_bits.specs.Bitmap.{Bitmap}
use Rattle.f11_dev.specs.Image.{Image}
use Rattle.f11_header.specs.Fields.{file_sequence}
use Rattle.f11_volume.specs.home.Home.{HomeFields}
use Rattle.f11_index.specs.Table.{Table, table_in, table_of, last_sequence, IsFile, IsHeaderOf}
use Rattle.f11_index.proofs.ChainLemmas.{file_of-header, live_of-header}
use Rattle.f11_index.proofs.HeadersLemmas.{chained-apart}
use Rattle.f11_store.specs.Changes.{with_change, with_file, with_more_slots}
use Rattle.f11_store.specs.File.{File}
use Rattle.f11_store.specs.Store.{Store}
use Rattle.f11_volume.proofs.FileLemmas.{image-files}
use Rattle.f11_writes.specs.Kept.{file_in, said_of, WritesGrowth}
use Rattle.f11_image_store.specs.StoreOf.{as_seen, file_at, last_given, store_of}
use Rattle.f11_image_store.specs.SlotLaws.{GivesSlots}
use Rattle.f11_image_store.specs.FileLaws.{MayStand, NamesMoreOf, LinksOnTo, HasSlotsMore, with_header_linked}
use Rattle.f11_store.specs.Pieces.{with_more_blocks}
use Rattle.f11_image_store.proofs.StoreLemmas.{file-at}
use Rattle.f11_store.proofs.StoreLemmas.{same-store}
use Rattle.f11_image_store.proofs.SlotLemmas.{other-file, free-stays}
use Rattle.f11_image_store.proofs.InstanceLemmas.{first-alone, last-at, seen-changed}
use Rattle.f11_image_store.proofs.FileLemmas.{as-growth, of-now, more-said, linked-said}

-- where there is no such slot
last-none : (v : Table) (m : ℕ) → m ≤ 0 → last_given v m ≡ 0
unfolding last_given
last-none v m none = ap (λ (b : Bool). cond (b && leb m v.slots) (last_sequence v m) 0) (le-ltb 0 m none)

last-past : (v : Table) (m : ℕ) → v.slots < m → last_given v m ≡ 0
unfolding last_given
last-past v m past =
    ap (λ (b : Bool). cond (ltb 0 m && b) (last_sequence v m) 0) (lt-leb m v.slots past)
    ∙ ap (λ (b : Bool). cond b (last_sequence v m) 0) (and_right (ltb 0 m) false refl)

module _ (old new : Image) (home : HomeFields) (n : ℕ) (block : List ℕ) (lbn count : ℕ)
    (wrote : WritesGrowth n block lbn count home old new)
    (gives : GivesSlots n count (table_of old home) (table_of new home)) where
  abbrev t : Table
  t = table_of old home

  abbrev u : Table
  u = table_of new home

  used : (m : ℕ) → (m ≡ n) ⊎ (m ≢ n) → u.in_use m ≡ t.in_use m
  used m (inl same) =
      ap u.in_use same ∙ (live_of-header gives.of_new).in_use ∙ sym (ap t.in_use same ∙ (live_of-header gives.of_old).in_use)
  used m (inr apart) = wrote.slot.others.in_use m apart

  -- a slot that there was
  sequence-stays : (m : ℕ) → 0 < m → m ≤ t.slots → (m ≡ n) ⊎ (m ≢ n) → last_sequence u m ≡ last_sequence t m
  unfolding table_in
  sequence-stays m some within (inl same) = ap (last_sequence u) same ∙ gives.sequence ∙ ap (last_sequence t) (sym same)
  sequence-stays m some within (inr apart) = ap file_sequence (wrote.index_file.others m some within apart)

  last : (m : ℕ) → (0 < m) ⊎ (m ≤ 0) → (t.slots < m) ⊎ (m ≤ t.slots) → (t.slots + count < m) ⊎ (m ≤ t.slots + count)
      → last_given u m ≡ cond (ltb t.slots m && leb m (t.slots + count)) 0 (last_given t m)
  last m (inr none) within end =
      last-none u m none ∙ sym
      (ap (λ (b : Bool). cond (b && leb m (t.slots + count)) 0 (last_given t m)) (le-ltb t.slots m (omega (arith, none)))
      ∙ last-none t m none)
  last m (inl some) (inr within) end =
      last-at u m some (omega (arith, gives.slots, within)) ∙ sequence-stays m some within (cases_eq m n) ∙ sym (last-at t m some within)
      ∙ sym (ap (λ (b : Bool). cond (b && leb m (t.slots + count)) 0 (last_given t m)) (le-ltb t.slots m within))
  last m (inl some) (inl past) (inr within) =
      last-at u m some (omega (arith, gives.slots, within)) ∙ gives.unnumbered m past within
      ∙ sym (ap (λ (b : Bool). cond (b && leb m (t.slots + count)) 0 (last_given t m)) (lt-ltb t.slots m past)
      ∙ ap (λ (b : Bool). cond b 0 (last_given t m)) (le-leb m (t.slots + count) within))
  last m (inl some) (inl past) (inl beyond) =
      last-past u m (omega (arith, gives.slots, beyond))
      ∙ sym (ap (λ (b : Bool). cond (b && leb m (t.slots + count)) 0 (last_given t m)) (lt-ltb t.slots m past)
      ∙ ap (λ (b : Bool). cond b 0 (last_given t m)) (lt-leb m (t.slots + count) beyond) ∙ last-past t m past)

  pub index-stored : store_of new home ≡ with_more_slots (with_file (store_of old home) 1 (Some (as_seen 1 (file_in home 1 new)))) count
  unfolding store_of
  index-stored =
      same-store (store_of new home) (with_more_slots (with_file (store_of old home) 1 (Some (as_seen 1 (file_in home 1 new)))) count)
      (λ g. file g (cases_eq g 1)) (free-stays old new home n wrote.slot) gives.slots (λ m. used m (cases_eq m n))
      (λ m. last m (cases_lt 0 m) (cases_lt t.slots m) (cases_lt (t.slots + count) m))
      refl (ap (λ (b : Bitmap). length b.places) wrote.slot.bitmap) refl refl
    where
      file : (g : ℕ) → (g ≡ 1) ⊎ (g ≢ 1) → file_at new u g ≡ cond (eqb g 1) (Some (as_seen 1 (file_in home 1 new))) (file_at old t g)
      file g (inl same) =
          ap (file_at new u) same ∙ file-at new u 1 (Some (as_seen 1 (file_in home 1 new))) (λ _. refl)
          (λ none. absurd (none (file_of-header gives.of_new)))
          ∙ ap (λ (b : Bool). cond b (Some (as_seen 1 (file_in home 1 new))) (file_at old t g)) (sym (eq-eqb g 1 same))
      file g (inr apart) =
          other-file old new home n wrote.slot g (which g apart (cases_eq g n))
          (λ of. apart (chained-apart (image-files new home wrote.slot.sound).chained of gives.of_new))
          ∙ ap (λ (b : Bool). cond b (Some (as_seen 1 (file_in home 1 new))) (file_at old t g)) (sym (ne_eqb g 1 apart))
        where
          which : (g : ℕ) → g ≢ 1 → (g ≡ n) ⊎ (g ≢ n) → (g ≢ n) ⊎ (¬ IsFile t g × ¬ IsFile u g)
          which g apart (inr away) = inl away
          which g apart (inl same) = inr (
            λ is. first-alone t 1 g (λ e. apart (sym e)) is (subst (λ (k : ℕ). IsHeaderOf t 1 k) (sym same) gives.of_old),
            λ is. first-alone u 1 g (λ e. apart (sym e)) is (subst (λ (k : ℕ). IsHeaderOf u 1 k) (sym same) gives.of_new),
          )

-- file 1 as it is seen has changed so
grown-so : (old new : Image) (home : HomeFields) (n : ℕ) (block : List ℕ) (lbn count : ℕ) (change : File → File)
    → WritesGrowth n block lbn count home old new
    → HasSlotsMore count (table_of old home) (table_of new home) → MayStand (table_of old home) 1 n block
    → said_of home 1 new ≡ change (said_of home 1 old)
    → store_of new home ≡ with_more_slots (with_change (store_of old home) 1 change) count
grown-so old new home n block lbn count change wrote slots stands changed =
    let written = as-growth n block lbn count home old new (live_of-header stands.of) wrote in
    index-stored old new home n block lbn count wrote (record {
      of_old = stands.of;
      of_new = of-now old new home 1 n block written stands;
      sequence = ap file_sequence wrote.index_file.header ∙ stands.good.sequence;
      slots = slots.slots;
      unnumbered = slots.unnumbered;
    })
    ∙ ap (λ (s : Store). with_more_slots s count) (seen-changed old new home n 1 change (file_of-header stands.of) changed)

pub index-more : (old new : Image) (home : HomeFields) (n : ℕ) (block : List ℕ) (more lbn count : ℕ)
    → WritesGrowth n block lbn count home old new
    → HasSlotsMore count (table_of old home) (table_of new home) → NamesMoreOf (table_of old home) 1 n block more lbn count
    → store_of new home ≡ with_more_slots (with_change (store_of old home) 1 (with_more_blocks more [])) count
index-more old new home n block more lbn count wrote slots may =
    let written = as-growth n block lbn count home old new (live_of-header may.stands.of) wrote in
    grown-so old new home n block lbn count (with_more_blocks more []) wrote slots may.stands
    (more-said old new home 1 n block more lbn count written may)

pub index-linked : (old new : Image) (home : HomeFields) (n m : ℕ) (block : List ℕ) (lbn count : ℕ)
    → WritesGrowth n block lbn count home old new
    → HasSlotsMore count (table_of old home) (table_of new home) → LinksOnTo (table_of old home) 1 n m block
    → store_of new home ≡ with_more_slots (with_change (store_of old home) 1 (with_header_linked (table_of old home) m)) count
index-linked old new home n m block lbn count wrote slots may =
    let written = as-growth n block lbn count home old new (live_of-header may.stands.of) wrote in
    grown-so old new home n block lbn count (with_header_linked (table_of old home) m) wrote slots may.stands
    (linked-said old new home 1 n m block written may)
