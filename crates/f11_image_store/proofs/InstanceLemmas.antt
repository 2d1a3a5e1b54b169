-- The kinds of write of a slot, each as the plain store has it.
use Rattle.std.proofs.Common.{◌≡◌, ◌≢◌, ◌⊎◌, ◌≤◌, ◌<◌, inl, inr, ℕ, Bool, true, false, cond, List, Option, Some, None, option_map, refl, ap}
use Rattle.std.proofs.Common.{sym, subst, ◌∙◌, ◌&&◌, eqb, leb, ltb, arith}
use Rattle.std.proofs.lemmas.Bool.{both_ways, cases_eq, eq-eqb, ne_eqb, le-leb, lt-ltb}
use Rattle.f11_dev.specs.Image.{Image}
use Rattle.f11_header.specs.Fields.{file_sequence}
use Rattle.f11_header.specs.Header.{IsDead, IsHeader}
use Rattle.f11_volume.specs.home.Home.{HomeFields}
use Rattle.f11_index.specs.IndexFile.{Index, slots}
use Rattle.f11_index.specs.Table.{Table, table_in, table_of, last_sequence, IsLive, IsFile, IsHeaderOf, first, next}
use Rattle.f11_index.proofs.ChainLemmas.{file_of-header, live_of-header}
use Rattle.f11_index.proofs.HeadersLemmas.{chained-apart}
use Rattle.f11_store.specs.Changes.{with_file, with_change}
use Rattle.f11_store.specs.File.{File}
use Rattle.f11_store.specs.Store.{Store}
use Rattle.f11_volume.proofs.FileLemmas.{image-files}
use Rattle.f11_header.proofs.HeaderFacts.{dead-not-valid}
use Rattle.f11_writes.specs.Kept.{file_in, WritesHeader, WritesSlotBit}
use Rattle.f11_image_store.specs.StoreOf.{as_seen, file_at, last_given, store_of}
use Rattle.f11_image_store.specs.SlotLaws.{with_use, with_last, KeepsOtherBlocks, ConcernsFile, IsFileless}
use Rattle.f11_image_store.proofs.StoreLemmas.{file-at, seen-own}
use Rattle.f11_image_store.proofs.SlotLemmas.{slot-stored}

-- a change to what is there is none
set-same : {A : Type 0} (f : ℕ → A) (k : ℕ) (x : A) → f k ≡ x → (m : ℕ) → cond (eqb m k) x (f m) ≡ f m
set-same f k x is m = go (cases_eq m k)
  where
    go : (m ≡ k) ⊎ (m ≢ k) → cond (eqb m k) x (f m) ≡ f m
    go (inl same) = ap (λ (b : Bool). cond b x (f m)) (eq-eqb m k same) ∙ sym is ∙ ap f (sym same)
    go (inr apart) = ap (λ (b : Bool). cond b x (f m)) (ne_eqb m k apart)

pub with_file-same : (s : Store) (k : ℕ) (f : Option File) → s.file k ≡ f → with_file s k f ≡ s
with_file-same s k f is = λ i. record s { file = λ m. set-same s.file k f is m i }

with_use-same : (s : Store) (n : ℕ) (used : Bool) → s.in_use n ≡ used → with_use s n used ≡ s
with_use-same s n used is = λ i. record s { in_use = λ m. set-same s.in_use n used is m i }

with_last-same : (s : Store) (n sequence : ℕ) → s.last n ≡ sequence → with_last s n sequence ≡ s
with_last-same s n sequence is = λ i. record s { last = λ m. set-same s.last n sequence is m i }

-- the sequence number of a slot that there is
pub last-at : (t : Table) (n : ℕ) → 0 < n → n ≤ t.slots → last_given t n ≡ last_sequence t n
unfolding last_given
last-at t n some within =
    ap (λ (b : Bool). cond (b && leb n t.slots) (last_sequence t n) 0) (lt-ltb 0 n some)
    ∙ ap (λ (b : Bool). cond b (last_sequence t n) 0) (le-leb n t.slots within)

-- a first header is one of its own file alone
pub first-alone : (v : Table) (g n : ℕ) → g ≢ n → IsFile v n → ¬ IsHeaderOf v g n
first-alone v g n apart file (first own) = apart refl
first-alone v g n apart file (next of goes) = let segment = goes.segment in omega (arith, segment, file.first)

-- a header of another file's is no first one
not-first : (v : Table) (f n : ℕ) → n ≢ f → IsHeaderOf v f n → ¬ IsFile v n
not-first v f n apart of file = first-alone v f n (λ same. apart (sym same)) file of

-- a header out of use, or a dead one, is one of no file
pub unlive-fileless : (v : Table) (n : ℕ) → ¬ IsLive v n → IsFileless v n
unlive-fileless v n none f of = none (live_of-header of)

module _ (old new : Image) (home : HomeFields) (n : ℕ) where
  abbrev t : Table
  t = table_of old home

  abbrev u : Table
  u = table_of new home

  abbrev s : Store
  s = store_of old home

  -- the store with file f as it is now, and the slot
  abbrev stored : ℕ → Store
  stored f = with_last (with_use (with_file s f (file_at new u f)) n (u.in_use n)) n (last_given u n)

  -- where header n is one of no file before and after
  module _ (before : IsFileless t n) (now : IsFileless u n) where
    fileless-concerns : ConcernsFile n n t u
    fileless-concerns = record { no_other = λ g apart. now g; not_first = λ apart. absurd (apart refl) }

    fileless-file : with_file s n (file_at new u n) ≡ s
    unfolding store_of
    fileless-file = with_file-same s n (file_at new u n)
        (file-at old t n _ (λ file. absurd (before n (first file))) (λ _. refl)
        ∙ sym (file-at new u n None (λ file. absurd (now n (first file))) (λ _. refl)))

  -- a file that has changed so
  pub seen-changed : (f : ℕ) (change : File → File) → IsFile t f → as_seen f (file_in home f new) ≡ change (as_seen f (file_in home f old))
      → with_file s f (Some (as_seen f (file_in home f new))) ≡ with_change s f change
  unfolding store_of
  seen-changed f change file changed =
      ap (with_file s f) (ap Some changed ∙ sym (ap (option_map change) (file-at old t f _ (λ _. refl) (λ none. absurd (none file)))))

  -- the sequence number that the slot was last given stays
  last-kept : u.slots ≡ t.slots → last_sequence u n ≡ last_sequence t n → last_given u n ≡ last_given t n
  unfolding last_given
  last-kept slots sequence =
      ap (λ (k : ℕ). cond (ltb 0 n && leb n k) (last_sequence u n) 0) slots ∙ ap (λ (q : ℕ). cond (ltb 0 n && leb n t.slots) q 0) sequence

  -- a header was written
  module _ (block : List ℕ) (wrote : WritesHeader n block home old new) where
    pub blocks-but : KeepsOtherBlocks n t u
    unfolding table_in
    blocks-but = record { slots = ap slots wrote.index_file.index; header = wrote.index_file.others }

    used-stays : t.in_use n ≡ u.in_use n
    used-stays = ap (λ (f : ℕ → Bool). f n) (sym wrote.in_use)

    sequence-is : last_sequence u n ≡ file_sequence block
    sequence-is = ap file_sequence wrote.index_file.header

    -- the slot is in use as it was
    header-stored : (f : ℕ) → ConcernsFile n f t u → store_of new home ≡ with_last (with_file s f (file_at new u f)) n (last_given u n)
    unfolding store_of
    header-stored f concerns =
        slot-stored old new home n wrote.slot f blocks-but concerns
        ∙ ap (λ (x : Store). with_last x n (last_given u n)) (with_use-same (with_file s f (file_at new u f)) n (u.in_use n) used-stays)

    pub unused-given : 0 < n → n ≤ t.slots → t.in_use n ≡ false → store_of new home ≡ with_last s n (file_sequence block)
    unused-given some within unused =
        let before = unlive-fileless t n (λ live. both_ways _ unused live.in_use) in
        let now = unlive-fileless u n (λ live. both_ways _ unused (used-stays ∙ live.in_use)) in
        header-stored n (fileless-concerns before now) ∙ ap (λ (x : Store). with_last x n (last_given u n)) (fileless-file before now)
        ∙ ap (with_last s n) (last-at u n some (omega (arith, within, blocks-but.slots)) ∙ sequence-is)

    module _ (sequence : file_sequence block ≡ last_sequence t n) where
      -- and so is its sequence number
      file-changed : (f : ℕ) → ConcernsFile n f t u → store_of new home ≡ with_file s f (file_at new u f)
      unfolding store_of
      file-changed f concerns =
          header-stored f concerns
          ∙ with_last-same (with_file s f (file_at new u f)) n (last_given u n)
          (sym (last-kept blocks-but.slots (sequence-is ∙ sequence)))

      pub fileless-written : IsFileless t n → IsFileless u n → store_of new home ≡ s
      fileless-written before now = file-changed n (fileless-concerns before now) ∙ fileless-file before now

      pub file-killed : IsFile t n → IsDead block → store_of new home ≡ with_file s n None
      file-killed file dead =
          let gone : ¬ IsLive u n = λ live.
          dead-not-valid block n dead (subst (λ (b : List ℕ). IsHeader b n) wrote.index_file.header live.valid) in
          file-changed n (record { no_other = λ g apart. unlive-fileless u n gone g; not_first = λ apart. absurd (apart refl) })
          ∙ ap (with_file s n) (file-at new u n None (λ is. absurd (gone is.live)) (λ _. refl))

      pub file-rewritten : (f : ℕ) → IsHeaderOf t f n → IsHeaderOf u f n
          → store_of new home ≡ with_file s f (Some (as_seen f (file_in home f new)))
      file-rewritten f of is =
          file-changed f (record {
            no_other = λ g apart other. apart (chained-apart (image-files new home wrote.slot.sound).chained other is);
            not_first = λ apart. (not-first t f n apart of, not-first u f n apart is);
          })
          ∙ ap (with_file s f) (file-at new u f _ (λ _. refl) (λ none. absurd (none (file_of-header is))))

      -- where it has changed so, it has in the store
      pub seen-stored : (f : ℕ) (change : File → File) → IsHeaderOf t f n → IsHeaderOf u f n
          → as_seen f (file_in home f new) ≡ change (as_seen f (file_in home f old))
          → store_of new home ≡ with_change (store_of old home) f change
      seen-stored f change of is changed = file-rewritten f of is ∙ seen-changed f change (file_of-header of) changed

      pub file-stored : (f : ℕ) (change : File → File) → 4 ≤ f → IsHeaderOf t f n → IsHeaderOf u f n
          → file_in home f new ≡ change (file_in home f old)
          → store_of new home ≡ with_change (store_of old home) f change
      file-stored f change late of is changed =
          seen-stored f change of is
          (seen-own f (file_in home f new) late ∙ changed ∙ ap change (sym (seen-own f (file_in home f old) late)))

  -- a bit was written
  module _ (after : Index) (wrote : WritesSlotBit n after home old new) where
    pub headers-stay : KeepsOtherBlocks n t u
    headers-stay =
        record {
          slots = ap (λ (v : Table). v.slots) wrote.index_file.table;
          header = λ m some within apart.
              ap (λ (v : Table). v.header m) wrote.index_file.table;
        }

    last-stays : last_given t n ≡ last_given u n
    last-stays = sym (last-kept headers-stay.slots (ap (λ (v : Table). last_sequence v n) wrote.index_file.table))

    -- the sequence number of the slot is as it was
    bit-stored : (f : ℕ) → ConcernsFile n f t u → store_of new home ≡ with_use (with_file s f (file_at new u f)) n (u.in_use n)
    unfolding store_of
    bit-stored f concerns =
        slot-stored old new home n wrote.slot f headers-stay concerns
        ∙ with_last-same (with_use (with_file s f (file_at new u f)) n (u.in_use n)) n (last_given u n) last-stays

    pub file-entered : IsFile u n → store_of new home ≡ with_use (with_file s n (Some (as_seen n (file_in home n new)))) n true
    file-entered file =
        bit-stored n (record { no_other = λ g apart. first-alone u g n apart file; not_first = λ apart. absurd (apart refl) })
        ∙ ap (λ (f : Option File). with_use (with_file s n f) n (u.in_use n)) (file-at new u n _ (λ _. refl) (λ none. absurd (none file)))
        ∙ ap (with_use (with_file s n (Some (as_seen n (file_in home n new)))) n) file.live.in_use

    pub fileless-set : IsFileless t n → IsFileless u n → store_of new home ≡ with_use s n (u.in_use n)
    fileless-set before now =
        bit-stored n (fileless-concerns before now) ∙ ap (λ (x : Store). with_use x n (u.in_use n)) (fileless-file before now)
