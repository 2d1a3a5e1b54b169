-- Slots that come as blocks of zeros, and slots that aren't in use, which keep what they hold.
use Rattle.std.proofs.Common.{◌≡◌, ◌≢◌, ◌+◌, ◌<◌, ◌≤◌, ℕ, zero, suc, true, false, List, inl, inr, refl, sym, ap, subst, ◌∙◌, arith}
use Rattle.std.proofs.lemmas.Bool.{both_ways, cases_lt}
use Rattle.f11_bytes.specs.Block.{zero_block}
use Rattle.f11_dev.specs.Image.{Image}
use Rattle.f11_home.specs.Home.{HomeFields}
use Rattle.f11_index.specs.IndexFile.{Index, slots}
use Rattle.f11_index.specs.Table.{Table, table_in, table_of}
use Rattle.f11_writes.specs.Kept.{WritesHeader, WritesGrowth, WritesSlotBit}
use Rattle.f11_image_store.specs.Allocation.{AddsZeroSlots}
use Rattle.f11_volume.specs.Volume.{Volume, volume_of}
use Rattle.f11_files.specs.Answers.{KeepsUnused}
use Rattle.f11_files.specs.GrowingIndex.Headroom.{AllotsSlots}
use Rattle.f11_files.specs.Overall.{AllotsAfter}

pub zero-same : (t : Table) → AddsZeroSlots t t
zero-same t = record {
  no_fewer = omega arith;
  zeros = λ n past within. absurd (omega (arith, past, within));
  unused = λ n some within unused. unused;
  held = λ n some within unused. refl;
}

-- more slots come, and then more
pub zero-then : (t u w : Table) → AddsZeroSlots t u → AddsZeroSlots u w → AddsZeroSlots t w
zero-then t u w one two = record {
  no_fewer = omega (arith, one.no_fewer, two.no_fewer);
  zeros = λ n past within unused. elim (cases_lt u.slots n) [
    | inl later ↦ two.zeros n later within unused
    | inr early ↦
        let some : 0 < n = omega (arith, past) in
        two.held n some early unused ∙ one.zeros n past early (two.unused n some early unused)
  ];
  unused = λ n some within unused. one.unused n some within (two.unused n some (omega (arith, within, one.no_fewer)) unused);
  held = λ n some within unused.
      let there : n ≤ u.slots = omega (arith, within, one.no_fewer) in
      two.held n some there unused ∙ one.held n some within (two.unused n some there unused);
}

-- a header that is in use was written
pub zero-header : (old new : Image) (home : HomeFields) (n : ℕ) (block : List ℕ) → WritesHeader n block home old new
    → (table_of old home).in_use n ≡ true
    → AddsZeroSlots (table_of old home) (table_of new home)
unfolding table_in
zero-header old new home n block wrote used =
    let same = ap slots wrote.index_file.index in
    record {
      no_fewer = omega (arith, same);
      zeros = λ m past within. absurd (omega (arith, past, within, same));
      unused = λ m some within unused. sym (λ i. wrote.in_use i m) ∙ unused;
      held = λ m some within unused.
          wrote.index_file.others m some within
          (λ here. both_ways _ unused ((λ i. wrote.in_use i m) ∙ ap (table_of old home).in_use here ∙ used));
    }

-- a header was written and entered
pub zero-entered : (n : ℕ) (block : List ℕ) (after : Index) (home : HomeFields) (old first second : Image)
    → WritesHeader n block home old first → WritesSlotBit n after home first second → (table_of second home).in_use n ≡ true
    → AddsZeroSlots (table_of old home) (table_of second home)
unfolding table_in
zero-entered n block after home old first second header bit used =
    let t : Table = table_of old home in
    let u : Table = table_of second home in
    let same : u.slots ≡ t.slots = ap (λ (x : Table). x.slots) bit.index_file.table ∙ ap slots header.index_file.index in
    let away : (m : ℕ) → u.in_use m ≡ false → m ≢ n = λ m unused here. both_ways _ unused (ap u.in_use here ∙ used) in
    record {
      no_fewer = omega (arith, same);
      zeros = λ m past within. absurd (omega (arith, past, within, same));
      unused = λ m some within unused.
          sym (header.slot.others.in_use m (away m unused)) ∙ sym (bit.slot.others.in_use m (away m unused)) ∙ unused;
      held = λ m some within unused.
          ap (λ (x : Table). x.header m) bit.index_file.table ∙ header.index_file.others m some within (away m unused);
    }

-- blocks of zeros became slots
pub zero-grown : (old new : Image) (home : HomeFields) (n : ℕ) (block : List ℕ) (lbn count : ℕ)
    → WritesGrowth n block lbn count home old new → (table_of old home).in_use n ≡ true
    → (table_of new home).slots ≡ (table_of old home).slots + count
    → ((m : ℕ) → (table_of old home).slots < m → m ≤ (table_of old home).slots + count → (table_of new home).header m ≡ zero_block)
    → AddsZeroSlots (table_of old home) (table_of new home)
unfolding table_in
zero-grown old new home n block lbn count wrote used more zeros = record {
  no_fewer = omega (arith, more);
  zeros = λ m past within unused. zeros m past (omega (arith, within, more));
  unused = λ m some within unused. sym (wrote.index_file.in_use m within) ∙ unused;
  held = λ m some within unused.
      wrote.index_file.others m some within
      (λ here. both_ways _ unused (wrote.index_file.in_use m within ∙ ap (table_of old home).in_use here ∙ used));
}

-- beside which blocks are named and free
pub with-unused : (Allots : Volume → Volume → Type 0) (home : HomeFields) (old new : Image)
    → Allots (volume_of old home) (volume_of new home)
    → AddsZeroSlots (table_of old home) (table_of new home) → KeepsUnused Allots (volume_of old home) (volume_of new home)
unfolding volume_of
with-unused Allots home old new allots keeps = record { allots = allots; slots = keeps }

-- where slots come first
first-slots : (n : ℕ) (old new : Volume) → AllotsSlots n old new → AddsZeroSlots old.table new.table
first-slots zero old new same = subst (λ (v : Volume). AddsZeroSlots old.table v.table) (sym same) (zero-same old.table)
first-slots (suc n) old new gains = gains.slots

pub unused-after : (n : ℕ) (Rest : Volume → Volume → Type 0) (old ready new : Volume) → AllotsSlots n old ready → KeepsUnused Rest ready new
    → KeepsUnused (AllotsAfter n Rest) old new
unused-after n Rest old ready new slots rest = record {
  allots = record { ready = ready; slots = slots; rest = rest.allots };
  slots = zero-then old.table ready.table new.table (first-slots n old ready slots) rest.slots;
}
