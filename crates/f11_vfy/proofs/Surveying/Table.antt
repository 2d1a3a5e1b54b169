-- What one slot read tells of the table of headers.
use Rattle.std.proofs.Common.{◌≡◌, ◌≢◌, ◌↔◌, ℕ, ◌+◌, ◌≤◌, true, false, IsTrue, List, Some, refl, sym, ap, subst, ◌∙◌, arith}
use Rattle.std.specs.List.{slice_get}
use Rattle.std.proofs.lemmas.Bool.{cond-true}
use Rattle.f11_dev.specs.Disk.{Disk, with_transfer}
use Rattle.f11_dev.specs.Looked.{Looked}
use Rattle.f11_dev.proofs.LookedLemmas.{looked_none, looked_read, looked_within, looked_more}
use Rattle.f11_chain.proofs.StepLemmas.{table-in_use, table-header}
use Rattle.f11_header.specs.Header.{IsHeader, IsDead}
use Rattle.f11_index.specs.IndexFile.{Index, is_in_use, header_lbn, slots}
use Rattle.f11_index.proofs.InUseLemmas.{in_use-some}
use Rattle.f11_index.specs.Table.{Table, table_in, IsLive}
use Rattle.f11_vfy.specs.Surveying.Slot.{HasState, unused, dead, bad, live}
use Rattle.f11_vfy.specs.Surveying.Headers.{ReadsSlot, reads_of, used_of, used_slots}
use Rattle.f11_vfy.proofs.Surveying.Sums.{sum_to-more, sum_to-le}
use Rattle.f11_dev.specs.Image.{Image}
use Rattle.f11_vfy.specs.declared.survey.slot.State.{State}
use Rattle.f11_vfy.specs.declared.survey.slot.State.TheVariants.{Unused, Dead, Bad, Live}

reads-one : (index : Index) (n : ℕ) → is_in_use index n ≡ true → reads_of index n ≡ 1
reads-one index n used = cond-true (is_in_use index n) _ _ used

-- slot n isn't in use, so nothing is read
pub ReadsSlot-none : (index : Index) (n : ℕ) (block : List ℕ) (disk : Disk) → is_in_use index n ≡ false
    → ReadsSlot index n Unused block disk disk
ReadsSlot-none index n block disk none = record {
  valid = λ is. absurd cc;
  state_is = λ honest. unused (table-in_use index disk n ∙ none);
  block_is = λ honest is. absurd cc;
  looked = looked_within (looked_none disk) (omega arith);
}

-- the state by what was judged
state-read : (t : Table) (n : ℕ) (s : State) → t.in_use n ≡ true → (s ≡ Live) ↔ IsHeader (t.header n) n → (s ≡ Dead) ↔ IsDead (t.header n)
    → s ≢ Unused → HasState t n s
state-read t n Live used valid none some = live (record { in_use = used; valid = valid.0 refl })
state-read t n Dead used valid none some = dead (record { in_use = used; dead = none.0 refl })
state-read t n Unused used valid none some = absurd (some refl)
state-read t n Bad used valid none some = bad (record {
  in_use = used;
  not_dead = λ is. let no : Bad ≡ Dead = none.1 is in cc;
  not_valid = λ is. let no : Bad ≡ Live = valid.1 is in cc;
})

-- its header was read
pub ReadsSlot-read : (index : Index) (n lbn : ℕ) (s : State) (block : List ℕ) (old new : Disk) → is_in_use index n ≡ true
    → lbn ≡ header_lbn index n
    → new ≡ with_transfer true old → (IsTrue old.honest → slice_get old.image lbn ≡ Some block)
    → (s ≡ Live) ↔ IsHeader block n → (s ≡ Dead) ↔ IsDead block → s ≢ Unused → ReadsSlot index n s block old new
ReadsSlot-read index n lbn s block old new used at counts gives valid none some = record {
  valid = valid.0;
  state_is = λ honest.
      let t : Table = table_in old.image index in
      state-read t n s (table-in_use index old n ∙ used)
      (subst (λ (b : List ℕ). (s ≡ Live) ↔ IsHeader b n) (block_is honest) valid)
      (subst (λ (b : List ℕ). (s ≡ Dead) ↔ IsDead b) (block_is honest) none) some;
  block_is = λ honest _. block_is honest;
  looked = subst (λ (m : ℕ). Looked old new m 0) (sym (reads-one index n used)) (looked_read old new counts);
}
  where
    block_is : IsTrue old.honest → block ≡ (table_in old.image index).header n
    block_is honest = table-header index old n lbn block at (gives honest)

-- the reads of one slot more, and of all
pub used-more : (index : Index) (k : ℕ) → used_of index (k + 1) ≡ used_of index k + reads_of index (k + 1)
used-more index k = sum_to-more (λ i. reads_of index (i + 1)) k

pub used-within : (index : Index) (k : ℕ) → k ≤ slots index → used_of index k ≤ used_slots index
used-within index k below = sum_to-le (λ i. reads_of index (i + 1)) k (slots index) below

-- a live header has a number
pub live-low : (index : Index) (disk : Disk) (n : ℕ) → IsLive (table_in disk.image index) n → 1 ≤ n
live-low index disk n is = in_use-some index n (sym (table-in_use index disk n) ∙ is.in_use)

-- the headers so far were read, and then one more
pub looked-slot : (index : Index) (k : ℕ) {old now new : Disk} {faults : ℕ} → Looked old now (used_of index k) 0
    → Looked now new (reads_of index (k + 1)) faults → Looked old new (used_of index (k + 1)) faults
looked-slot index k {old} {now} {new} {faults} one other =
    subst (λ m. Looked old new m faults) (sym (used-more index k)) (looked_more one other)

pub looked-slots : (index : Index) (k : ℕ) {old new : Disk} {faults : ℕ} → k ≤ slots index → Looked old new (used_of index k) faults
    → Looked old new (used_slots index) faults
looked-slots index k below looked = looked_within looked (used-within index k below)

-- what was read of a slot after others is the old disk's
pub state-stays : (index : Index) (old now new : Disk) (most n : ℕ) (s : State) (block : List ℕ) → Looked old now most 0
    → ReadsSlot index n s block now new → IsTrue old.honest
    → HasState (table_in old.image index) n s × (s ≡ Live → block ≡ (table_in old.image index).header n)
state-stays index old now new most n s block looked reads honest =
    let same : table_in now.image index ≡ table_in old.image index = ap (λ (i : Image). table_in i index) looked.image in
    let still : IsTrue now.honest = looked.honest ∙ honest in
    (subst (λ (t : Table). HasState t n s) same (reads.state_is still), λ is. reads.block_is still is ∙ ap (λ (t : Table). t.header n) same)
