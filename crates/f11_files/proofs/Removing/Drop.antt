-- A header that goes, and the store without it.
use Rattle.std.proofs.Common.{◌≡◌, ◌≢◌, ◌⊎◌, ◌+◌, ◌*◌, ◌&&◌, ◌||◌, ℕ, Bool, true, false, cond, not, IsTrue, List, ◌∷◌, None, eqb, length}
use Rattle.std.proofs.Common.{inl, inr, refl, sym, ap, subst, ◌∙◌, arith}
use Rattle.std.proofs.lemmas.Bool.{cases_eq, eq-eqb, ne_eqb}
use Rattle.f11_dev.specs.Disk.{Disk}
use Rattle.f11_home.specs.Home.{HomeFields}
use Rattle.f11_map.specs.HeaderBlock.{blocks_named}
use Rattle.f11_index.specs.Table.{Table, table_of}
use Rattle.f11_store.specs.Changes.{is_in, with_file, without_slots}
use Rattle.f11_store.specs.Store.{Store}
use Rattle.f11_store.specs.declared.refusals.Refusal.{Refusal}
use Rattle.f11_writes.specs.OtherSlots.{KeepsOtherSlots}
use Rattle.f11_files.specs.Removing.Drops.{BreaksOff, FreesSlot, GivesBlocks, DropsHeader, without_header, drop_cost}
use Rattle.f11_image_store.specs.Freeing.{FreesMore}
use Rattle.f11_store.specs.Pieces.{with_more_free}
use Rattle.f11_image_store.specs.FileLaws.{pointers_in}
use Rattle.f11_image_store.specs.SlotLaws.{KeepsOtherBlocks}
use Rattle.f11_image_store.specs.StoreOf.{store_of}
use Rattle.f11_image_store.proofs.FreeingLemmas.{frees-slot, freeing-more}
use Rattle.f11_files.proofs.Removing.Freeing.{writes-then, breaks-then}

module _ (home at : HomeFields) (n : ℕ) (block : List ℕ) (old now new : Disk) (same : at ≡ home)
    (frees_slot : FreesSlot home n block old now) where
  frees-now : IsTrue old.honest → FreesMore (with_file (store_of old.image home) n None) (store_of now.image home)
  frees-now honest =
      subst (FreesMore (with_file (store_of old.image home) n None)) (sym (frees_slot.store honest))
      (frees-slot (with_file (store_of old.image home) n None) n)

  pub drops-header : GivesBlocks at (blocks_named block) (pointers_in block) now new → DropsHeader home n block old new
  drops-header given =
      let gives : GivesBlocks home (blocks_named block) (pointers_in block) now new =
      subst (λ (h : HomeFields). GivesBlocks h (blocks_named block) (pointers_in block) now new) same given in
      let now_honest : IsTrue old.honest → IsTrue now.honest = λ honest. frees_slot.writes.went.honest ∙ honest in
      record {
        others = λ honest. subst (KeepsOtherSlots n (table_of old.image home)) (sym (gives.table (now_honest honest)))
            (frees_slot.others honest);
        unused = λ honest. ap (λ (t : Table). t.in_use n) (gives.table (now_honest honest)) ∙ frees_slot.unused honest;
        dead = λ honest. ap (λ (t : Table). t.header n) (gives.table (now_honest honest)) ∙ frees_slot.dead honest;
        blocks = λ honest. subst (KeepsOtherBlocks n (table_of old.image home)) (sym (gives.table (now_honest honest)))
            (frees_slot.blocks honest);
        frees = λ honest. record {
          size = (gives.frees (now_honest honest)).size ∙ frees_slot.size honest;
          free = λ k. (gives.frees (now_honest honest)).free k
              ∙ ap (λ (free : ℕ → Bool). free k || is_in (blocks_named block) k) (frees_slot.free honest);
        };
        store = λ honest. gives.store (now_honest honest)
            ∙ ap (λ (s : Store). with_more_free s (length (blocks_named block))) (frees_slot.store honest);
        writes = writes-then (freeing-more home (with_file (store_of old.image home) n None) (store_of now.image home) old now
            frees_slot.writes.went.honest frees-now) frees_slot.writes gives.writes;
      }

  pub drop-breaks : (r : Refusal) → BreaksOff at (store_of now.image at) (4 * pointers_in block) r now new
      → BreaksOff home (with_file (store_of old.image home) n None) (drop_cost block) r old new
  drop-breaks r breaks =
      breaks-then frees-now frees_slot.writes
      (subst (λ (h : HomeFields). BreaksOff h (store_of now.image h) (4 * pointers_in block) r now new) same breaks)

-- slots that leave use, one of them first
out-of-use : (n : ℕ) (ns : List ℕ) (used : ℕ → Bool) (m : ℕ) → (m ≡ n) ⊎ (m ≢ n)
    → (not (is_in ns m) && cond (eqb m n) false (used m)) ≡ (not (is_in (n ∷ ns) m) && used m)
out-of-use n ns used m which =
    ap (λ (b : Bool). not (is_in ns m) && cond b false (used m)) (turned which) ∙ both (is_in ns m) (used m) (eqb n m)
  where
    turned : (m ≡ n) ⊎ (m ≢ n) → eqb m n ≡ eqb n m
    turned (inl same) = eq-eqb m n same ∙ sym (eq-eqb n m (sym same))
    turned (inr apart) = ne_eqb m n apart ∙ sym (ne_eqb n m (λ same. apart (sym same)))

    both : (a c b : Bool) → (not a && cond b false c) ≡ (not (b || a) && c)
    both true c true = refl
    both false c true = refl
    both true c false = refl
    both false c false = refl

-- so the store is that without the file, and all its slots
pub drop-store : (s : Store) (n blocks more : ℕ) (ns : List ℕ)
    → with_more_free (without_slots (without_header s n blocks) ns) more ≡ with_more_free (with_file (without_slots s (n ∷ ns)) n None)
    (blocks + more)
drop-store s n blocks more ns =
    let sum : s.free + blocks + more ≡ s.free + (blocks + more) = omega arith in
    λ i. record (with_file s n None) { in_use = λ m. out-of-use n ns s.in_use m (cases_eq m n) i; free = sum i }
