-- The slots that come first, with any accesses beside.
use Rattle.std.proofs.Common.{◌≡◌, ℕ, zero, suc, ◌+◌, Bool, true, false, List, Option, Some, None, refl, ◌∙◌, ap}
use Rattle.f11_store.specs.Changes.{with_slots_first, with_slots_added}
use Rattle.f11_store.specs.Cost.{growth_cost, lengthen_cost, slots_cost}
use Rattle.f11_store.specs.Directory.{entry_count, needs_block}
use Rattle.f11_store.specs.File.{File, need}
use Rattle.f11_store.specs.Headroom.{slots_first}
use Rattle.f11_store.specs.Lags.{Work, and_then, append_work, end_work, enter_work}
use Rattle.f11_store.specs.Step.{gets_slots, next_id}
use Rattle.f11_store.specs.Store.{Store, Access, file_named, free_slots}
use Rattle.f11_store.specs.Accesses.{with_accesses}
use Rattle.f11_store.specs.declared.files.FileId.{FileId}
use Rattle.f11_store.proofs.HeldLaws.{lengthen-work-held, slots-held}

module _ (a : ℕ → ℕ → Option Access) where
  -- whether there are some
  pub gets-held : (s : Store) (headers : ℕ) → gets_slots (slots_first (with_accesses a s) headers) ≡ gets_slots (slots_first s headers)
  gets-held s headers = ap gets_slots (slots-held a s headers)

  -- their cost
  pub slots-cost-held : (s : Store) (headers : ℕ) → slots_cost (with_accesses a s) headers ≡ slots_cost s headers
  unfolding free_slots
  slots-cost-held s headers = refl

  pub lengthen-cost-held : (s : Store) (f : File) (n : ℕ) → lengthen_cost (with_accesses a s) f n ≡ lengthen_cost s f n
  lengthen-cost-held s f n = ap (λ (k : ℕ). k + growth_cost s f n) (slots-cost-held s (need f.room n))

  -- the next file's identification
  next-after : (n : ℕ) (s : Store) → next_id (with_slots_added n (with_accesses a s)) ≡ next_id (with_slots_added n s)
  unfolding free_slots
  next-after zero s = refl
  next-after (suc n) s = refl

  pub next-held : (s : Store) → next_id (with_slots_first (with_accesses a s) 1) ≡ next_id (with_slots_first s 1)
  next-held s = ap (λ (n : ℕ). next_id (with_slots_added n (with_accesses a s))) (slots-held a s 1) ∙ next-after (slots_first s 1) s

  -- the work of a record that is entered
  append-work-held : (b : Bool) (s : Store) (d : FileId) (i : ℕ) (r : List ℕ)
      → append_work b (with_accesses a s) d i r ≡ append_work b s d i r
  append-work-held true s d i r = ap (λ (w : Work). and_then w (end_work d.number i r)) (lengthen-work-held a s d 1)
  append-work-held false s d i r = refl

  pub enter-work-held : (o : Option ℕ) (s : Store) (d : FileId) (r : List ℕ) → enter_work o (with_accesses a s) d r ≡ enter_work o s d r
  enter-work-held (Some i) s d r = refl
  enter-work-held None s d r = append-work-held (needs_block (file_named s d)) s d (entry_count (file_named s d)) r
