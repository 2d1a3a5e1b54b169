-- Slots that the index file gets in its last header, before headers are taken: room and blocks for them.
use Rattle.std.proofs.Common.{◌≡◌, ◌≢◌, ◌≤◌, ◌<◌, ◌+◌, ◌-◌, ◌&&◌, ℕ, zero, suc, Bool, true, false, nat_le, nat_lt, IsTrue, List, [], ◌∷◌}
use Rattle.std.proofs.Common.{Some, None, length, refl, sym, ap, subst, ◌∙◌, arith}
use Rattle.std.proofs.lemmas.Bool.Decides.{nat_tests}
use Rattle.f11_dev.specs.Disk.{Disk}
use Rattle.f11_dev.specs.Looked.{Looked}
use Rattle.f11_chain.specs.declared.blocks.FileEnd.{FileEnd}
use Rattle.f11_home.specs.Home.{HomeFields}
use Rattle.f11_image_store.specs.Allocation.{free_list}
use Rattle.f11_image_store.specs.Confines.{either, new_header, no_header}
use Rattle.f11_image_store.specs.FileLaws.{room_in}
use Rattle.f11_image_store.specs.StoreOf.{slot_limit}
use Rattle.f11_index.specs.Headers.{headers_of}
use Rattle.f11_index.specs.IndexFile.{index_of, slots, free_slots_in}
use Rattle.f11_index.specs.Table.{table_of}
use Rattle.f11_store.specs.Causes.{◌⇐◌, first_of}
use Rattle.f11_store.specs.Changes.{is_in}
use Rattle.f11_store.specs.Cost.{header_count}
use Rattle.f11_store.specs.File.{File, need}
use Rattle.f11_store.specs.Headroom.{may_get_slots}
use Rattle.f11_store.specs.Refusal.{refusal_number}
use Rattle.f11_store.specs.Store.{Store, index_file}
use Rattle.f11_store.specs.declared.refusals.Refusal.{Refusal}
use Rattle.f11_store.specs.declared.refusals.Refusal.TheVariants.{DeviceFull, NoHeader}
use Rattle.f11_files.specs.Answers.{is_among, faults_of, ReadsAtMost, WritesMoreOf}
use Rattle.f11_files.specs.Extending.Room.{room_causes, FindsFileEnd}
use Rattle.f11_files.specs.GrowingIndex.First.{fit_causes, if_fit, slots_causes, FailsToGetSlots, GetsSlotsFirst}
use Rattle.f11_files.specs.GrowingIndex.Headroom.{ConfinesSlots}
use Rattle.f11_files.specs.GrowingIndex.Runs.{index_id, FailsToGrowHeld, GrowsHeld, HoldsIndexRoom}
use Rattle.f11_files.specs.Operations.{IsSpaceOf}
use Rattle.f11_files.specs.Structure.{home_of, index_in, store_on, ConfinesTo, IsStructureFor}
use Rattle.f11_volume.specs.Space.{storage_bitmap}
use Rattle.f11_volume.specs.Volume.{volume_of}
use Rattle.f11_files.specs.declared.structure.Structure.{Structure}
use Rattle.f11_files.proofs.AnswerLemmas.{right-cause}
use Rattle.f11_files.proofs.Behind.{confined-read, more-looked, more-of}
use Rattle.f11_files.proofs.Confining.Confines.{confines-looked}
use Rattle.f11_files.proofs.Extending.Room.{ends-then, has-room, room-named}
use Rattle.f11_files.proofs.GrowingIndex.Grow.{fails-then, grows-then}
use Rattle.f11_files.proofs.GrowingIndex.IndexFile.{index-is, index-named}
use Rattle.f11_files.proofs.GrowingIndex.Room.{finds-reads, has-slots, limit-of, slots-are}
use Rattle.f11_files.proofs.WriteLemmas.{as-wanting, fails-unread}

-- what is answered where they don't fit, or where there are too few blocks
record IsClean (r : Refusal) : Type 0 where
  pub not_failed : refusal_number r ≢ 1
  pub not_damaged : refusal_number r ≢ 20
  pub not_wanting : refusal_number r ≢ 18
  pub no_fault : faults_of r ≡ 0
  pub among : (fit : Bool) (free slots n : ℕ) → is_among (fit_causes fit free slots n) r ≡ true

clean : (a b : Bool) (r : Refusal) → first_of ((DeviceFull ⇐ a) ∷ (NoHeader ⇐ b) ∷ []) ≡ Some r → IsClean r
clean true b r is =
    let same : DeviceFull ≡ r = cc in
    subst IsClean same record {
      not_failed = λ no. omega (arith, no);
      not_damaged = λ no. omega (arith, no);
      not_wanting = λ no.
          omega (arith, no);
      no_fault = refl;
      among = λ fit free slots n. refl;
    }
clean false true r is =
    let same : NoHeader ≡ r = cc in
    subst IsClean same record {
      not_failed = λ no. omega (arith, no);
      not_damaged = λ no. omega (arith, no);
      not_wanting = λ no.
          omega (arith, no);
      no_fault = refl;
      among = λ fit free slots n. refl;
    }
clean false false r is = absurd cc

-- they fit, and there are blocks for them
pub record Fit (fit : Bool) (free slots n : ℕ) : Type 0 where
  pub fits : fit ≡ true
  pub blocks : n + slots ≤ free

pub fit-of : (fit : Bool) (free slots n : ℕ) → first_of (fit_causes fit free slots n) ≡ None → Fit fit free slots n
fit-of true free slots n none = by_test (nat_lt free (n + slots)) refl none
  where
    by_test : (full : Bool) → nat_lt free (n + slots) ≡ full → first_of ((DeviceFull ⇐ full) ∷ (NoHeader ⇐ false) ∷ []) ≡ None
        → Fit true free slots n
    by_test true is none = absurd cc
    by_test false is none = record { fits = refl; blocks = grind (arith, nat_tests, is) }
fit-of false free slots n none = by_test (nat_lt free (n + 0)) none
  where
    by_test : (full : Bool) → first_of ((DeviceFull ⇐ full) ∷ (NoHeader ⇐ true) ∷ []) ≡ None → Fit false free slots n
    by_test true none = absurd cc
    by_test false none = absurd cc

-- slots that have places in the last header need no other
no-header-needed : (headers room free more n : ℕ) → headers ≤ 256 → n ≤ room → n ≤ free
    → first_of (room_causes headers room free more n) ≡ None
no-header-needed headers room free more n few places blocks =
    let none : need room n ≡ 0 = omega (arith, places) in
    let one : nat_lt 256 (headers + need room n) ≡ false = grind (arith, nat_tests, few, none) in
    let two : nat_lt free n ≡ false = grind (arith, nat_tests, blocks) in
    let three : nat_lt more (need room n) ≡ false = grind (arith, nat_tests, none) in
    rw (one, two, three) refl

-- fewer than are left may be
left-fit : (count limit left n : ℕ) → 0 < n → left ≡ limit - count → nat_le (count + n) limit ≡ nat_le n left
left-fit count limit left n some is = by_test (nat_le n left) refl
  where
    by_test : (fit : Bool) → nat_le n left ≡ fit → nat_le (count + n) limit ≡ fit
    by_test true fit = grind (arith, nat_tests, some, is, fit)
    by_test false fit = grind (arith, nat_tests, some, is, fit)

module _ (s : Structure) (n slots_more : ℕ) (old : Disk) (for : IsStructureFor s old) (some : 0 < slots_more) (end : FileEnd)
    (was last : List ℕ) (read : Disk) (finds : FindsFileEnd s index_id end was last old read)
    (fit : Bool) (room left free : ℕ) (room_is : room ≡ room_in last) (left_is : left ≡ slot_limit (home_of s) - slots (index_in s))
    (fit_is : fit ≡ (nat_le slots_more room && nat_le slots_more left))
    (space : IsTrue old.honest → IsSpaceOf (store_on s old) free (length (free_slots_in (index_in s))) (slots (index_in s))) where
  abbrev st : Store
  st = store_on s old

  pub may-is : IsTrue old.honest → may_get_slots st slots_more ≡ fit
  may-is honest =
      let named : (index_file st).room ≡ room = ap (λ (g : File). g.room) (sym (index-is s old for honest index_id refl refl).1)
      ∙ room-named s index_id was old for finds.holds end last read finds.ends honest ∙ sym room_is in
      let left_now : left ≡ st.limit - st.slots = left_is ∙ ap (λ (k : ℕ). k - slots (index_in s)) (sym (limit-of old.image (home_of s)))
      ∙ ap (λ (k : ℕ). st.limit - k) (sym (slots-are s slots_more old for honest)) in
      ap (λ (k : ℕ). nat_le slots_more k && nat_le (st.slots + slots_more) st.limit) named
      ∙ ap (λ (b : Bool). nat_le slots_more room && b) (left-fit st.slots st.limit left slots_more some left_now) ∙ sym fit_is

  causes-are : IsTrue old.honest → first_of (slots_causes st slots_more n) ≡ first_of (fit_causes fit free slots_more n)
  causes-are honest =
      ap (λ (b : Bool). first_of (fit_causes b st.free slots_more n)) (may-is honest)
      ∙ ap (λ (k : ℕ). first_of (fit_causes fit k slots_more n)) (sym (space honest).blocks_are)

  pub lacks-fit : (r : Refusal) → first_of (fit_causes fit free slots_more n) ≡ Some r → FailsToGetSlots (home_of s) slots_more n r old read
  lacks-fit r is =
      let cause = clean _ _ r is in
      as-wanting cause.not_wanting (fails-unread (omega arith) record {
        right = right-cause _ _ r cause.not_failed cause.not_damaged (cause.among (may_get_slots st slots_more) st.free slots_more n)
            (λ honest. causes-are honest ∙ is);
        reads = subst (λ (k : ℕ). ReadsAtMost (header_count (index_file st)) old read k) (sym cause.no_fault)
            (finds-reads s old for end was last read finds);
      })

  module _ (none : first_of (fit_causes fit free slots_more n) ≡ None) where
    has : Fit fit free slots_more n
    has = fit-of fit free slots_more n none

    places : (slots_more ≤ room) × (slots_more ≤ left)
    places = both (nat_le slots_more room) (nat_le slots_more left) refl refl (sym fit_is ∙ has.fits)
      where
        both : (a b : Bool) → nat_le slots_more room ≡ a → nat_le slots_more left ≡ b → (a && b) ≡ true
            → (slots_more ≤ room) × (slots_more ≤ left)
        both true true one two is = (grind (arith, nat_tests, one), grind (arith, nat_tests, two))
        both true false one two is = absurd cc
        both false b one two is = absurd cc

    pub room-first : HoldsIndexRoom s slots_more end was last read
    room-first =
        let blocks = has.blocks in
        has-slots s slots_more old for _ _ _ refl refl left_is places.1 some end was last read finds
        (has-room s index_id was old for finds.holds end last read finds.ends room free _ (slots (index_in s)) slots_more room_is space
        (no-header-needed _ _ _ _ slots_more (ends-then s index_id end was last old read finds).few places.0 (omega (arith, blocks))))

    no-cause : IsTrue old.honest → first_of (slots_causes st slots_more n) ≡ None
    no-cause honest = causes-are honest ∙ none

    reads : ReadsAtMost (header_count (index_file st)) old read 0
    reads = finds-reads s old for end was last read finds

    pub got-first : (new : Disk) → GrowsHeld (home_of s) slots_more read new → GetsSlotsFirst (home_of s) slots_more n old new
    got-first new grows =
        let grown = grows-then (home_of s) slots_more old read reads new grows in
        record { no_cause = no-cause; makes = grown.makes; allots = grown.allots; writes = grown.writes }

    pub fails-first : (r : Refusal) (new : Disk) → FailsToGrowHeld (home_of s) slots_more r read new
        → FailsToGetSlots (home_of s) slots_more n r old new
    fails-first = fails-then (home_of s) slots_more old read reads (slots_causes st slots_more n) no-cause

    -- headers of the index file alone are written, new ones, and free blocks
    pub confined-first : {new : Disk} → IsTrue old.honest
        → (IsTrue read.honest → ConfinesTo s (either (is_in (headers_of (table_of read.image (home_of s)) 1)) (new_header (index_in s)))
        (free_list (volume_of read.image (home_of s))) read new)
        → ConfinesSlots (if_fit (may_get_slots st slots_more) slots_more) (home_of s) old new
    confined-first {new = new} honest one =
        subst (λ (k : ℕ). ConfinesSlots k (home_of s) old new) (sym (ap (λ (b : Bool). if_fit b slots_more) (may-is honest ∙ has.fits)))
        (of-some slots_more some (more-of s (home_of s) 1 old new refl for (λ sure. (index-named old.image (home_of s) (for.sound sure)).0)
        (confined-read reads (home_of s) s 1 refl one)))
      where
        of-some : (k : ℕ) → 0 < k → WritesMoreOf 1 (home_of s) old new → ConfinesSlots k (home_of s) old new
        of-some zero more writes = absurd (omega (arith, more))
        of-some (suc m) more writes = writes

-- nothing is written
pub confined-looked : (k : ℕ) (home : HomeFields) (old new : Disk) {most faults : ℕ} → Looked old new most faults
    → ConfinesSlots k home old new
confined-looked zero home old new looked =
    λ honest. confines-looked no_header (index_of old.image home) (storage_bitmap old.image home) [] looked
confined-looked (suc n) home old new looked = more-looked home 1 looked
