-- A file that grows, in one go and part by part.
use Rattle.std.proofs.Common.{◌≡◌, ◌≢◌, ℕ, zero, suc, ◌+◌, ◌-◌, ◌*◌, ◌≤◌, ◌==◌, ◌||◌, Bool, true, false, not, List, [], ◌∷◌, ◌++◌, Option}
use Rattle.std.proofs.Common.{Some, None, length, replicate, unwrap_or, option_map, if◌then◌else◌, refl, sym, ◌∙◌, ap, subst, arith, inl}
use Rattle.std.proofs.Common.{inr, ◌⊎◌, append_assoc}
use Rattle.std.proofs.lemmas.List.{append-nil}
use Rattle.std.proofs.lemmas.Bool.Decides.{eqb_tells}
use Rattle.f11_store.specs.declared.files.FileId.{FileId}
use Rattle.f11_store.specs.File.{File, no_file, zero_blocks, zero_block}
use Rattle.f11_store.specs.Store.{Store, file_named, free_slots, free_headers}
use Rattle.f11_store.specs.Directory.{with_record, with_end}
use Rattle.f11_store.specs.Changes.{with_change, is_in, next_sequence, grown_file, with_grown_file, with_entry, with_end_after}
use Rattle.f11_store.specs.Changes.{with_entry_at_end}
use Rattle.f11_store.specs.Lags.{file_changes, slot_appears, with_no_mark, with_zero_block, extend_parts, with_parts, AreLike}
use Rattle.f11_store.proofs.StoreLemmas.{same_number}
use Rattle.f11_store.proofs.SlotLemmas.{filter_but, filter_more}

-- a file is like itself
pub alike : (o : Option File) → AreLike o o
alike None = tt
alike (Some f) =
    record { sequence = refl; owner = refl; protection = refl; characteristics = refl; ident = refl; attr = refl; blocks = refl }

-- as many fewer headers are free as slots come into use
pub headers_taken :
    (s t : Store) (slots : List ℕ) → ((n : ℕ) → is_in slots n ≡ false → s.in_use n ≡ false → t.in_use n ≡ false) →
    s.slots ≤ t.slots → free_headers s ≤ free_headers t + length slots
unfolding free_slots
headers_taken s t slots h more =
    let e : t.slots - 5 ≡ (s.slots - 5) + ((t.slots - 5) - (s.slots - 5)) = omega arith in
    rw e (omega (
      arith,
      filter_but slots (λ n. not (s.in_use n)) (λ n. not (t.in_use n)) 6 (s.slots - 5)
          (λ n out free. not_in_use (t.in_use n) (h n out (in_use_not (s.in_use n) free))),
      filter_more (λ n. not (t.in_use n)) 6 (s.slots - 5) ((t.slots - 5) - (s.slots - 5)),
    ))
  where
    not_in_use : (b : Bool) → b ≡ false → not b ≡ true
    not_in_use false k = refl
    not_in_use true k = absurd (cc)

    in_use_not : (b : Bool) → not b ≡ true → b ≡ false
    in_use_not false k = refl
    in_use_not true k = absurd (cc)

-- a slot that comes into use, or doesn't
pub last_or_next : (b : Bool) (n : ℕ) → ((if b then next_sequence n else n) ≡ n) ⊎ ((if b then next_sequence n else n) ≡ next_sequence n)
last_or_next true n = inr refl
last_or_next false n = inl refl

-- a slot that doesn't come into use stays free
pub stays_unused : (b c : Bool) → b ≡ false → c ≡ false → (b || c) ≡ false
stays_unused false c h k = k
stays_unused true c h k = absurd (cc)

-- n blocks of zeros one by one
pub blocks_one_by_one :
    (n : ℕ) (t : Store) (k : ℕ) (f : File) → t.file k ≡ Some f →
    (with_parts t (replicate n (file_changes k with_zero_block))).file k ≡ Some (record f { blocks = f.blocks ++ zero_blocks n })
unfolding zero_blocks
blocks_one_by_one zero t k f h = h ∙ ap (λ b. Some (record f { blocks = b })) (sym (append-nil f.blocks))
blocks_one_by_one (suc n) t k f h =
    blocks_one_by_one n (with_change t k with_zero_block) k (with_zero_block f) (rw (same_number k, h) refl)
    ∙ ap (λ b. Some (record f { blocks = b })) (append_assoc f.blocks (zero_block ∷ []) (zero_blocks n))

-- they leave every other file
pub blocks_elsewhere :
    (n : ℕ) (t : Store) (k m : ℕ) → (m == k) ≡ false →
    (with_parts t (replicate n (file_changes k with_zero_block))).file m ≡ t.file m
blocks_elsewhere zero t k m h = refl
blocks_elsewhere (suc n) t k m h = blocks_elsewhere n (with_change t k with_zero_block) k m h ∙ rw h refl

-- they leave the number of slots
pub blocks_and_slots : (n : ℕ) (t : Store) (k : ℕ) → (with_parts t (replicate n (file_changes k with_zero_block))).slots ≡ t.slots
blocks_and_slots zero t k = refl
blocks_and_slots (suc n) t k = blocks_and_slots n (with_change t k with_zero_block) k

-- the files of two stores are alike
abbrev pub StoresAlike : Store → Store → Type 0
StoresAlike t u = (m : ℕ) → AreLike (t.file m) (u.file m)

-- a file that grew is like one that grew part by part
pub grown_alike :
    (s : Store) (k n : ℕ) (f : File) (added pointers room : ℕ) → s.file k ≡ Some f →
    StoresAlike (with_grown_file s k f n (zero_blocks n) added pointers room) (with_parts s (extend_parts k n))
unfolding extend_parts
grown_alike s k n f added pointers room was m = by_number (eqb_tells m k)
  where
    here : (with_parts s (extend_parts k n)).file k ≡ Some (record (with_no_mark f) { blocks = f.blocks ++ zero_blocks n })
    here = blocks_one_by_one n (with_change s k with_no_mark) k (with_no_mark f) (rw (same_number k, was) refl)

    at_k : AreLike ((with_grown_file s k f n (zero_blocks n) added pointers room).file k) ((with_parts s (extend_parts k n)).file k)
    at_k = rw (same_number k) (subst (λ (o : Option File). AreLike (Some (grown_file s f (zero_blocks n) added pointers room)) o) (sym here)
        (record { sequence = refl; owner = refl; protection = refl; characteristics = refl; ident = refl; attr = refl; blocks = refl }))

    elsewhere : (m == k) ≡ false → (with_parts s (extend_parts k n)).file m ≡ s.file m
    elsewhere h = blocks_elsewhere n (with_change s k with_no_mark) k m h ∙ rw h refl

    by_number : ((m == k) ≡ true) × (m ≡ k) ⊎ ((m == k) ≡ false) × (m ≢ k) →
        AreLike ((with_grown_file s k f n (zero_blocks n) added pointers room).file m) ((with_parts s (extend_parts k n)).file m)
    by_number (inl w) =
        subst (λ (i : ℕ). AreLike ((with_grown_file s k f n (zero_blocks n) added pointers room).file i)
        ((with_parts s (extend_parts k n)).file i)) (sym w.1) at_k
    by_number (inr w) =
        subst (λ (o : Option File). AreLike ((with_grown_file s k f n (zero_blocks n) added pointers room).file m) o) (sym (elsewhere w.0))
        (rw w.0 (alike (s.file m)))

-- the parts of Extend leave the number of slots
pub extend_and_slots : (s : Store) (k n : ℕ) → (with_parts s (extend_parts k n)).slots ≡ s.slots
unfolding extend_parts
extend_and_slots s k n = blocks_and_slots n (with_change s k with_no_mark) k

-- slots one by one
pub slots_one_by_one :
    (n : ℕ) (t : Store) → with_parts t (replicate n slot_appears) ≡ record t { slots = t.slots + n }
slots_one_by_one zero t = ap (λ m. record t { slots = m }) (let e : t.slots ≡ t.slots + 0 = omega arith in e)
slots_one_by_one (suc n) t =
    slots_one_by_one n (record t { slots = t.slots + 1 })
    ∙ ap (λ m. record t { slots = m }) (let e : t.slots + 1 + n ≡ t.slots + suc n = omega arith in e)

-- the file that an identification names has no more room than that of its number
pub room-file_named : (s : Store) (id : FileId) (f : File) → s.file id.number ≡ Some f → (file_named s id).room ≤ f.room
room-file_named s id f h = rw h (by_test (f.sequence == id.sequence))
  where
    by_test : (b : Bool) → (unwrap_or (if b then Some f else None) no_file).room ≤ f.room
    by_test true = omega arith
    by_test false = omega arith

-- two files are alike after a record was put and the end moved, where they were before
pub entry_at_end_alike :
    (t u : Store) (k i : ℕ) (r : List ℕ) → StoresAlike t u →
    StoresAlike (with_entry_at_end t k i r) (with_change (with_change u k (with_entry i r)) k (with_end_after i))
entry_at_end_alike t u k i r h m =
    rw (same_number k) (by_test (m == k) (t.file k) (u.file k) (h k) (t.file m) (u.file m) (h m))
  where
    by_test : (b : Bool) (o p : Option File) → AreLike o p → (v w : Option File) → AreLike v w →
        AreLike (if b then option_map (λ f. with_end_after i (with_entry i r f)) o else v)
        (if b then option_map (with_end_after i) (option_map (with_entry i r) p) else if b then option_map (with_entry i r) p else w)
    by_test false o p l v w l' = l'
    by_test true None None l v w l' = tt
    by_test true (Some f) None l v w l' = absurd l
    by_test true None (Some g) l v w l' = absurd l
    by_test true (Some f) (Some g) l v w l' = record {
      sequence = l.sequence;
      owner = l.owner;
      protection = l.protection;
      characteristics = l.characteristics;
      ident = l.ident;
      attr = ap (λ a. with_end a (length (with_record f.blocks i r)) (16 * (i + 1))) l.attr
          ∙ ap (λ b. with_end g.attr (length (with_record b i r)) (16 * (i + 1))) l.blocks;
      blocks = ap (λ b. with_record b i r) l.blocks;
    }
