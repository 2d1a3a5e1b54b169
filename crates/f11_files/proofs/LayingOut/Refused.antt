-- A file that isn't laid out though its headers are in hand: nowhere is room for the run, or it broke off.
use Rattle.std.proofs.Common.{◌≡◌, ◌≢◌, ◌+◌, ◌-◌, ◌*◌, ◌<◌, ◌≤◌, ◌==◌, ◌||◌, ◌&&◌, not, eqb, ltb, if◌then◌else◌, ℕ, Bool, true, false}
use Rattle.std.proofs.Common.{IsTrue, List, [], length, Option, Some, None, is_none, option_and_then, inl, inr, refl, sym, ap, subst, ◌∙◌}
use Rattle.std.proofs.Common.{arith}
use Rattle.std.proofs.lemmas.Bool.{cases_eq, eqb-true}
use Rattle.std.proofs.lemmas.Option.{none-some}
use Rattle.f11_bits.specs.Bitmap.{Bitmap}
use Rattle.f11_bits.specs.Transfers.{run_transfers}
use Rattle.f11_chain.specs.declared.blocks.FileEnd.{FileEnd}
use Rattle.f11_dev.specs.Disk.{Disk}
use Rattle.f11_dev.specs.Image.{Image, IsImage}
use Rattle.f11_dev.proofs.WentLemmas.{went_looked, went_weaker}
use Rattle.f11_home.specs.Home.{HomeFields}
use Rattle.f11_store.specs.Causes.{first_of, is_missing}
use Rattle.f11_store.specs.Cost.{contiguous_cost, header_count}
use Rattle.f11_store.specs.File.{File, run_need, run_pointers, zero_blocks}
use Rattle.f11_store.specs.Lags.{Work, contiguous_work, file_changes, one_part, with_contiguous_mark, work_if}
use Rattle.f11_store.specs.Pieces.{longer_file, AddsBlocks}
use Rattle.f11_store.specs.Refusal.{refusal_number}
use Rattle.f11_store.specs.Store.{Store, file_named, of_sequence}
use Rattle.f11_store.specs.declared.files.FileId.{FileId}
use Rattle.f11_store.specs.declared.refusals.Refusal.{Refusal}
use Rattle.f11_store.specs.declared.refusals.Refusal.TheVariants.{Damaged, DeviceFault, NoRun, NoSuchFile}
use Rattle.f11_store.proofs.StoreLemmas.{same_number}
use Rattle.f11_image_store.specs.StoreOf.{store_of}
use Rattle.f11_files.specs.Answers.{faults_of, is_clean, is_fatal, Breaks, IsRight, IsUnderWay, Meanwhile, WritesAtMost}
use Rattle.f11_files.specs.Changing.Fields.{FailsToAlter}
use Rattle.f11_files.specs.Extending.Growing.{WhileTaking}
use Rattle.f11_files.specs.Extending.Runs.{IsTailOf}
use Rattle.f11_files.specs.LayingOut.Lay.{laying_cost, LayingRun, LaysRun}
use Rattle.f11_files.specs.LayingOut.Take.{FailsToTakeWholeRun, HasNoRun, TakesWholeRun}
use Rattle.f11_files.specs.LayingOut.Whole.{lost, FailsToLayOutHeld, HoldsRunRoom}
use Rattle.f11_files.specs.Operations.{file_causes}
use Rattle.f11_files.specs.Structure.{bitmap_in, home_of, store_on, IsStructureFor, StaysFor}
use Rattle.f11_files.specs.declared.structure.Structure.{Structure}
use Rattle.f11_files.specs.declared.extend.tail.Tail.{Tail}
use Rattle.f11_files.proofs.Extending.Cleared.{covered, enough, store-bitmap}
use Rattle.f11_files.proofs.Extending.Growing.{breaks-fault, breaks-stays}
use Rattle.f11_files.proofs.Extending.Whole.{fatal-none}
use Rattle.f11_files.proofs.Finding.Named.{found-named, is-file}
use Rattle.f11_files.proofs.LayingOut.Made.{adds, home-now, laid-honest, lay-moment, mark-moment, room-mid, take-moment}
use Rattle.f11_files.proofs.Removing.Freeing.{breaks-behind, breaks-within, writes-none, writes-then}

-- a file that has blocks more is there
still-there : (s t : Store) (f : FileId) (n p : ℕ) (blocks : List (List ℕ)) → AddsBlocks s f.number n p blocks t → is_missing s f ≡ false
    → is_missing t f ≡ false
still-there s t f n p blocks adds there =
    let longer : File = longer_file s adds.before blocks adds.added adds.pointers adds.room in
    let now : t.file f.number ≡ Some longer = ap (λ (x : Store). x.file f.number) adds.store_is
    ∙ ap (λ (b : Bool). if b then Some longer else s.file f.number) (same_number f.number) in
    let was : is_none (of_sequence f.sequence adds.before) ≡ false =
    ap (λ (o : Option File). is_none (option_and_then (of_sequence f.sequence) o)) (sym adds.was) ∙ there in
    ap (λ (o : Option File). is_none (option_and_then (of_sequence f.sequence) o)) now
    ∙ by_test (adds.before.sequence == f.sequence) adds.before longer was
  where
    by_test : (b : Bool) (x y : File) → is_none (if b then Some x else None) ≡ false → is_none (if b then Some y else None) ≡ false
    by_test true x y is = refl
    by_test false x y is = absurd cc

-- a refusal for a file that was found
none-else : (honest : Bool) (s : Store) (f : FileId) (r : Refusal) → refusal_number r ≢ 6 → IsRight false honest (file_causes s f) r
    → IsRight false honest [] r
none-else honest s f r other right = record {
  volume = right.volume;
  among = λ is. absurd (other (six (6 == refusal_number r) refl (right.among is)));
  cause = λ _ is. absurd (other (six (6 == refusal_number r) refl (right.among is)));
  undamaged = right.undamaged;
}
  where
    six : (b : Bool) → (6 == refusal_number r) ≡ b → (b || false) ≡ true → refusal_number r ≡ 6
    six true same is = sym (eqb-true 6 (refusal_number r) same)
    six false same is = absurd cc

lost-is : (r : Refusal) → refusal_number r ≡ 6 → lost r ≡ Damaged
lost-is r is = ap (λ (k : ℕ). if k == 6 then Damaged else r) is

lost-other : (r : Refusal) → (b : Bool) → (refusal_number r == 6) ≡ b → refusal_number r ≢ 6 → lost r ≡ r
lost-other r true same other = absurd (other (eqb-true (refusal_number r) 6 same))
lost-other r false same other = ap (λ (b : Bool). if b then Damaged else r) same

fatal-lost : (honest : Bool) (s : Store) (f : FileId) (r : Refusal) → IsRight false honest (file_causes s f) r → is_fatal (lost r) ≡ true
fatal-lost honest s f r right = elim (cases_eq (refusal_number r) 6) [
  | inl is ↦ ap is_fatal (lost-is r is)
  | inr other ↦ ap is_fatal (lost-other r (refusal_number r == 6) refl other) ∙ fatal-none honest s r (none-else honest s f r other right)
]

faults-lost : (r : Refusal) → faults_of (lost r) ≡ faults_of r
faults-lost r = elim (cases_eq (refusal_number r) 6) [
  | inl is ↦ ap faults_of (lost-is r is) ∙ sym (ap (λ (k : ℕ). if k == 19 then 1 else 0) is)
  | inr other ↦ ap faults_of (lost-other r (refusal_number r == 6) refl other)
]

-- a refusal that fails the volume is no clean one
pub fatal-unclean : {A : Type 0} (r : Refusal) → is_fatal r ≡ true → is_clean r ≡ true → A
fatal-unclean r fatal clean = let no : true ≡ false = sym clean ∙ ap not fatal in absurd cc

module _ (s : Structure) (f : FileId) (n : ℕ) (end : FileEnd) (was last : List ℕ) (old : Disk) (for : IsStructureFor s old)
    (own : 4 ≤ f.number) (some : 0 < n) (room : HoldsRunRoom s f n end was last old) (is_image : IsImage old.image) where
  abbrev home : HomeFields
  home = home_of s

  abbrev st : Store
  st = store_on s old

  abbrev named : File
  named = file_named st f

  abbrev P : Image → Type 0
  P = Meanwhile (contiguous_work f.number named.room n) home old

  abbrev most : ℕ
  most = contiguous_cost st named n - 1 - header_count named

  places-are : IsTrue old.honest → length (bitmap_in s).places ≡ st.bitmap_blocks
  places-are honest =
      let count = ap (λ (b : Bitmap). length b.places) (for.keeps honest).bitmap_is in let blocks = store-bitmap old.image home in
      omega (arith, count, blocks)

  -- nowhere are so many free
  pub finds-no-run : (mid : Disk) → HasNoRun s n old mid → FailsToLayOutHeld s f n NoRun old mid
  finds-no-run mid has = record {
    right = λ other. absurd (other refl);
    undamaged = λ _ is. let no : 22 ≡ 20 = ap refusal_number is in omega (arith, no);
    no_run = λ _. has.none;
    writes = record { transfers = length (bitmap_in s).places; went = went_looked P has.looked; few = few };
    unchanged = λ _. record { reads = length (bitmap_in s).places; looked = has.looked; few = few };
  }
    where
      few : IsTrue old.honest → length (bitmap_in s).places ≤ most
      few honest =
          let places = places-are honest in let many = enough st.index_bitmap_blocks (run_need named.room n) in omega (arith, places, many)

  -- it broke off
  broken : (r : Refusal) (new : Disk) → is_fatal r ≡ true → (IsTrue old.honest → r ≢ Damaged) → WritesAtMost P most old new (faults_of r)
      → FailsToLayOutHeld s f n r old new
  broken r new fatal undamaged writes = record {
    right = λ _. fatal;
    undamaged = undamaged;
    no_run = λ is. let no : true ≡ false = sym fatal ∙ ap is_fatal is in absurd cc;
    writes = writes;
    unchanged = λ clean. let no : true ≡ false = sym fatal ∙ clean in absurd cc;
  }

  pub fails-held : (r : Refusal) (new : Disk) → Breaks P most r old new → FailsToLayOutHeld s f n r old new
  fails-held r new breaks = broken r new breaks.fatal breaks.undamaged breaks.writes

  pub held-stays : (u : Structure) (r : Refusal) (new : Disk) → home_of u ≡ home → Breaks P most r old new → StaysFor true s u new
  held-stays u r new same breaks = breaks-stays (λ image is honest. (is honest).sound) same for breaks

  pub broken-stays : (u : Structure) (r : Refusal) (new : Disk) → home_of u ≡ home → Breaks P most r old new → StaysFor (is_fatal r) s u new
  broken-stays u r new same breaks = subst (λ (b : Bool). StaysFor b s u new) (sym breaks.fatal) (held-stays u r new same breaks)

  -- as the run was being marked used
  pub breaks-take : (mid : Disk) → FailsToTakeWholeRun s n old mid → Breaks P most DeviceFault old mid
  breaks-take mid went =
      breaks-fault (record {
        transfers = 3 * length (bitmap_in s).places;
        went = went_weaker (WhileTaking home n 0 st old) P (take-moment s f n end was last old for own room is_image) went;
        few = λ honest. let places = places-are honest in let many = enough st.index_bitmap_blocks (run_need named.room n) in
            omega (arith, places, many, some);
      })

  module _ (tail : Tail) (of : IsTailOf f was end.number last tail) (t : Structure) (lbn : ℕ) (mid : Disk)
      (takes : TakesWholeRun s t n lbn old mid) (stays : StaysFor false s t mid) where
    taken : WritesAtMost P (0 + run_transfers lbn n) old mid 0
    taken = writes-then (take-moment s f n end was last old for own room is_image) (writes-none P 0 old) takes.writes

    -- as its blocks came
    pub breaks-lay : (r : Refusal) (new : Disk)
        → Breaks (LayingRun t tail.file.number n mid) (laying_cost t tail.file.number n mid + 4) r mid new → Breaks P most r old new
    breaks-lay r new breaks =
        breaks-within (λ honest.
        let same = room-mid s f n end was last old for own room is_image tail of t lbn mid takes stays honest in
        let size = covered s old for honest in
        let many = enough st.index_bitmap_blocks (run_need named.room n) in
        let inside = takes.within in
        omega (arith, same, size, many, inside, some))
        (breaks-behind (lay-moment s f n end was last old for own room is_image tail of t lbn mid takes stays) taken breaks)

    -- or the mark wasn't set
    module _ (u : Structure) (laid : Disk) (lays : LaysRun t u tail lbn n mid laid) (kept : StaysFor false t u laid)
        (laid_image : IsImage laid.image) where
      missing : IsTrue old.honest → first_of (file_causes (store_of laid.image (home_of u)) f) ≡ None
      missing honest =
          let added = adds s f n end was last old for own room is_image tail of t lbn mid takes stays u laid lays kept laid_image in
          let same = home-now s f n end was last old for own room is_image tail of t lbn mid takes stays u laid lays kept laid_image in
          let there = still-there st (store_of laid.image home) f n (run_pointers n) (zero_blocks n) (added honest)
          (found-named s f old for honest (is-file s f was old for room.ends.holds honest)).0 in
          ap (λ (b : Bool). if b then Some NoSuchFile else None)
          (ap (λ (h : HomeFields). is_missing (store_of laid.image h) f) same ∙ there)

      pub breaks-mark : (r : Refusal) (new : Disk) → FailsToAlter false with_contiguous_mark (home_of u) f r laid new
          → Breaks P most (lost r) old new
      breaks-mark r new fails =
          let there : IsTrue old.honest
          → IsTrue laid.honest = laid-honest s f n end was last old for own room is_image tail of t lbn mid takes stays u laid lays kept
          laid_image in
          let was_honest : IsTrue laid.honest → IsTrue old.honest = λ honest. sym takes.writes.went.honest ∙ sym lays.writes.went.honest
          ∙ honest in
          let work : Work = one_part f.number (file_changes f.number with_contiguous_mark) in
          let moment : (image : Image)
          → Meanwhile (work_if (first_of (file_causes (store_of laid.image (home_of u)) f)) work) (home_of u) laid image → P image =
          λ image is. mark-moment s f n end was last old for own room is_image tail of t lbn mid takes stays u laid lays kept laid_image
          image
          (λ honest. subst (λ (o : Option Refusal). IsUnderWay (work_if o work) (home_of u) laid.image image) (missing (was_honest honest))
          (is honest)) in
          breaks-within {m = 0 + run_transfers lbn n + laying_cost t tail.file.number n mid + 2} (λ honest.
          let same = room-mid s f n end was last old for own room is_image tail of t lbn mid takes stays honest in
          let size = covered s old for honest in
          let many = enough st.index_bitmap_blocks (run_need named.room n) in
          let inside = takes.within in
          omega (arith, same, size, many, inside, some))
          (record {
            fatal = fatal-lost laid.honest (store_of laid.image (home_of u)) f r fails.right;
            undamaged = λ honest is. elim (cases_eq (refusal_number r) 6) [
              | inl six ↦ none-some r (sym (missing honest)
                  ∙ fails.right.cause (there honest) (ap (λ (k : ℕ). ltb 1 k && not (eqb k 19 || eqb k 20)) six))
              | inr other ↦ fails.right.undamaged (there honest) (sym (lost-other r (refusal_number r == 6) refl other) ∙ is)
            ];
            writes =
                subst (λ (k : ℕ). WritesAtMost P (0 + run_transfers lbn n + laying_cost t tail.file.number n mid + 2) old new k)
                (sym (faults-lost r))
                (writes-then moment (writes-then (lay-moment s f n end was last old for own room is_image tail of t lbn mid takes stays)
                taken lays.writes) fails.writes);
          })
