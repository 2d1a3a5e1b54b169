-- The lowest run of free blocks, which a file gets.
use Rattle.std.proofs.Common.{◌+◌, ◌*◌, ◌≤◌, ◌==◌, ◌⊎◌, ℕ, zero, suc, Bool, false, IsTrue, if◌then◌else◌, inl, inr, sym, ap, subst, ◌∙◌}
use Rattle.std.proofs.Common.{arith}
use Rattle.f11_bits.specs.Transfers.{blocks_from, blocks_to, blocks_touched}
use Rattle.f11_dev.specs.Disk.{Disk}
use Rattle.f11_dev.specs.Image.{Image}
use Rattle.f11_dev.proofs.WentLemmas.{went_weaker}
use Rattle.f11_home.specs.Home.{HomeFields}
use Rattle.f11_store.specs.File.{need, run_pointers}
use Rattle.f11_store.specs.Store.{Store}
use Rattle.f11_store.specs.declared.refusals.Refusal.{Refusal}
use Rattle.f11_files.specs.Answers.{WritesAtMost, Breaks}
use Rattle.f11_store.specs.Pieces.{with_more_free, file_numbered, TakesSome, GrowsAs, MayGrowAs, GrowsSome}
use Rattle.f11_files.specs.Extending.Runs.{AddsRun}
use Rattle.f11_files.specs.Extending.Header.{AppendingRun, AppendsRun}
use Rattle.f11_files.specs.Extending.Growing.{WhileTaking, IsGrowing, GrowingBy, Grew}
use Rattle.f11_image_store.specs.StoreOf.{store_of}
use Rattle.f11_files.specs.Structure.{bitmap_in, home_of, store_on, IsStructureFor, StaysFor}
use Rattle.f11_files.specs.Extending.Tail.{HoldsLast, ownership_of}
use Rattle.f11_files.specs.Extending.Take.{TakesNextRun}
use Rattle.f11_files.specs.declared.structure.Structure.{Structure}
use Rattle.f11_files.specs.declared.extend.tail.Tail.{Tail}
use Rattle.f11_files.proofs.Removing.Freeing.{breaks-behind, breaks-within, writes-none, writes-then, writes-within}
use Rattle.f11_files.proofs.Extending.Growing.{takes-within, grew-behind, grew-in, grew-within}
use Rattle.f11_store.proofs.PieceLemmas.{taking-adds}
use Rattle.f11_store.proofs.StoreLemmas.{other_number}
use Rattle.f11_files.proofs.Extending.Take.{takes-blocks}
use Rattle.f11_files.proofs.Extending.TakenRun.{run-cost, break-cost, store-mid, store-free, none-left, run-gained, slots-gained}
use Rattle.f11_store.proofs.GrowsLemmas.{fewer-may-grow, grows-within}

-- there is always a place for one pointer more
pub fits-one : (room count : ℕ) → count ≤ 256 → run_pointers count ≤ (if room == 0 then 102 else room)
fits-one zero count short = omega (arith, short)
fits-one (suc room) count short =
    subst (λ (b : Bool). run_pointers count ≤ (if b then 102 else suc room)) (sym (other_number (suc room) 0 (λ none. omega (arith, none))))
    (omega (arith, short))

-- what stands while a run is taken
taking-grows : (s : Structure) (tail : Tail) (most : ℕ) (old : Disk) (image : Image)
    → WhileTaking (home_of s) most 0 (store_on s old) old image
    → GrowingBy (home_of s) (store_on s old) tail.file.number most most old image
taking-grows s tail most old image is honest =
    let here = is honest in
    let headers = need (file_numbered (store_on s old) tail.file.number).room most in
    record {
      sound = here.sound;
      stage = inl (takes-within most most 0 headers (store_on s old) (store_of image (home_of s)) (omega arith) (omega arith)
          here.takes);
    }

-- no run could be taken
pub fails-take : (s : Structure) (tail : Tail) (from most : ℕ) (old new : Disk) (r : Refusal)
    → Breaks (WhileTaking (home_of s) most 0 (store_on s old) old) (blocks_from (bitmap_in s) from + 2) r old new
    → Breaks (GrowingBy (home_of s) (store_on s old) tail.file.number most most old) (blocks_from (bitmap_in s) from + 5 * most + 3) r old
    new
fails-take s tail from most old new r breaks = record {
  fatal = breaks.fatal;
  undamaged = breaks.undamaged;
  writes = writes-within (λ _. omega arith) (writes-then (taking-grows s tail most old) (writes-none _ 0 old) breaks.writes);
}

module _ (s t : Structure) (tail : Tail) (from most lbn count : ℕ) (old mid : Disk) (for : IsStructureFor s old)
    (last : HoldsLast s tail old)
    (may : IsTrue old.honest → MayGrowAs (store_on s old) tail.file.number most most) (takes : TakesNextRun s t from most lbn count old mid)
    (stays : StaysFor false s t mid) where
  abbrev home : HomeFields
  home = home_of s

  abbrev k : ℕ
  k = tail.file.number

  abbrev st : Store
  st = store_on s old

  abbrev P : Image → Type 0
  P = GrowingBy home st k most most old

  abbrev now : Store
  now = store_on t mid

  was-honest : IsTrue mid.honest → IsTrue old.honest
  was-honest honest = sym takes.writes.went.honest ∙ honest

  few : count ≤ most
  few = takes.within.asked

  enough : IsTrue old.honest → most ≤ st.free
  enough honest = (may honest).places.has_room.blocks

  -- it takes a pointer
  fewer : run_pointers count ≤ most
  fewer = let some = takes.within.some in omega (arith, some, few)

  in-count : run_pointers count ≤ count
  in-count = let some = takes.within.some in omega (arith, some)

  pub run-may : IsTrue mid.honest → MayGrowAs (with_more_free now count) k count (run_pointers count)
  run-may honest =
      let before = was-honest honest in
      subst (λ (x : Store). MayGrowAs x k count (run_pointers count))
      (sym (store-free s t tail from most lbn count old mid for last enough takes stays before))
      (fewer-may-grow st k most count most (run_pointers count) (may before) few fewer)

  -- images that stand meanwhile
  abbrev headers : ℕ
  headers = need (file_numbered st k).room most

  taken : WritesAtMost P (blocks_to (bitmap_in s) from (lbn + count) + blocks_touched lbn count) old mid 0
  taken =
      record {
        transfers = takes.writes.transfers;
        went = went_weaker (WhileTaking home most 0 st old) P (taking-grows s tail most old)
            takes.writes.went;
        few = takes.writes.few;
      }

  appending-moment : (image : Image) → AppendingRun t tail count mid image → P image
  appending-moment image is honest =
      let here = subst (λ (h : HomeFields). IsGrowing h 0 (need (file_numbered now k).room (run_pointers count))
      (GrowsAs (with_more_free now count) k count (run_pointers count)) now image) stays.home (is (takes.writes.went.honest ∙ honest))
      in
      record { sound = here.sound; stage = stages honest (store_of image home) here.stage }
    where
      stages : IsTrue old.honest → (u : Store)
          → TakesSome 0 (need (file_numbered now k).room (run_pointers count)) now u
          ⊎ GrowsAs (with_more_free now count) k count (run_pointers count) u
          → TakesSome most headers st u ⊎ GrowsSome st k most most u
      stages honest u (inl some) =
          let both = taking-adds st now u count 0 (need (file_numbered now k).room (run_pointers count))
          (subst (TakesSome count 0 st) (sym (store-mid s t tail from most lbn count old mid for last enough takes stays honest))
          (takes-blocks st count count (omega arith))) some in
          let room = ap (λ (x : Store). (file_numbered x k).room)
          (store-mid s t tail from most lbn count old mid for last enough takes stays honest) in
          inl (takes-within (count + 0) most (need (file_numbered now k).room (run_pointers count)) headers st u (omega (arith, few))
          (omega (arith, fewer, room)) both)
      stages honest u (inr grew) =
          inr (
            count,
            few,
            (grows-within st u k count (run_pointers count) most fewer
                (subst (λ (x : Store). GrowsAs x k count (run_pointers count) u)
                (store-free s t tail from most lbn count old mid for last enough takes stays honest) grew)).0,
          )

  pub fails-append : (new : Disk) (r : Refusal) → Breaks (AppendingRun t tail count mid) (count + 4) r mid new
      → Breaks P (blocks_from (bitmap_in s) from + 5 * most + 3) r old new
  fails-append new r breaks =
      breaks-within (λ _. break-cost (bitmap_in s) from most lbn count takes.within.above takes.within.some takes.within.short few)
      (breaks-behind appending-moment taken breaks)

  pub adds-run : (u : Structure) (later : Tail) (new : Disk) → AppendsRun t u tail later lbn count (count + 1) mid new
      → StaysFor false t u new → AddsRun s u tail later from most (lbn + count) count old new
  adds-run u later new given kept = record {
    file = given.file;
    last = given.last;
    bitmap = given.bitmap ∙ takes.bitmap;
    left = let one = given.left in let two = takes.left in omega (arith, one, two);
    some = takes.within.some;
    asked = few;
    above = let above = takes.within.above in omega (arith, above);
    within = takes.within.within;
    none_below = none-left s t tail from most lbn count old mid for last enough takes stays u new given.bitmap given.grew.went.honest
        given.free kept;
    gains =
        run-gained s t tail from most lbn count old mid for last enough takes stays u new k (ownership_of tail) given.bitmap
        given.grew.went.honest
        given.free given.names kept;
    slots = slots-gained s t tail from most lbn count old mid for last enough takes stays new given.slots;
    grew = grew-within (λ _. run-cost (bitmap_in s) from lbn count takes.within.above takes.within.some takes.within.short)
        (grew-in in-count
        (grew-behind appending-moment (store-free s t tail from most lbn count old mid for last enough takes stays) taken
        (subst (λ (h : HomeFields). Grew (AppendingRun t tail count mid) h (with_more_free now count) k count (run_pointers count)
        (count + 1) mid new) stays.home given.grew)));
  }
