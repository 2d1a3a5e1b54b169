-- More slots for the index file: its room, memory for them, its contiguous mark, and then run by run.
use Rattle.std.proofs.Common.{◌-◌, ◌≡◌, ◌+◌, ◌*◌, ◌||◌, ℕ, Bool, true, false, cond, IsTrue, List, [], Some, None, eqb, refl, sym, ap, subst}
use Rattle.std.proofs.Common.{◌∙◌, arith}
use Rattle.std.proofs.lemmas.Bool.{le-ltb}
use Rattle.f11_dev.specs.Disk.{Disk}
use Rattle.f11_dev.specs.Went.{Went}
use Rattle.f11_dev.proofs.WentLemmas.{went_looked}
use Rattle.f11_home.specs.Home.{HomeFields}
use Rattle.f11_chain.specs.Calls.{table, HoldsHeader}
use Rattle.f11_index.specs.Headers.{IsLastOf}
use Rattle.f11_dev.proofs.LookedLemmas.{looked_none}
use Rattle.f11_index.specs.IndexFile.{Index, slots}
use Rattle.f11_index.specs.Kept.{index_kept}
use Rattle.f11_index.specs.declared.index_file.IndexFile.{IndexFile}
use Rattle.f11_chain.specs.declared.blocks.FileEnd.{FileEnd}
use Rattle.f11_store.specs.Causes.{first_of, growth_causes}
use Rattle.f11_store.specs.Changes.{with_more_slots, GrowsIndex}
use Rattle.f11_store.specs.Cost.{growth_cost, header_count}
use Rattle.f11_store.specs.File.{File, need}
use Rattle.f11_store.specs.Lags.{Work, grow_work}
use Rattle.f11_store.specs.Store.{Store, file_named, index_file}
use Rattle.f11_store.specs.declared.refusals.Refusal.TheVariants.{NoSuchFile, IndexLimit, NoMemory, DeviceFault}
use Rattle.f11_store.specs.declared.refusals.Refusal.{Refusal}
use Rattle.f11_volume.specs.Volume.{volume_of}
use Rattle.f11_image_store.specs.Allocation.{GainsSlots}
use Rattle.f11_files.specs.Answers.{Breaks, Meanwhile, WritesAtMost}
use Rattle.f11_files.specs.Extending.Mark.{Clearing, ClearsMark}
use Rattle.f11_files.specs.GrowingIndex.Runs.{index_id, FailsToGrowHeld, GrowsHeld, GrowsIndexFile, HoldsIndexRoom, IsSlotsAfter}
use Rattle.f11_files.specs.Finding.First.{HoldsFile}
use Rattle.f11_files.specs.Operations.{grow_causes}
use Rattle.f11_image_store.specs.StoreOf.{store_of}
use Rattle.f11_files.specs.Structure.{index_in, home_of, store_on, IsStructureFor, StaysFor}
use Rattle.f11_files.specs.declared.structure.Structure.{Structure}
use Rattle.f11_files.proofs.AnswerLemmas.{right-fault}
use Rattle.f11_files.proofs.Extending.Cleared.{fatal-right}
use Rattle.f11_files.proofs.GrowingIndex.IndexFile.{index-is}
use Rattle.f11_files.proofs.Opening.Space.{slots-of}
use Rattle.f11_files.proofs.WriteLemmas.{as-wanting, breaks-off, failed-stays, writes-within}
use Rattle.f11_files.specs.Extending.Runs.{IsTailOf, GrowingByRuns, GrowsByRuns}
use Rattle.f11_files.specs.Extending.Tail.{ownership_of}
use Rattle.f11_store.proofs.GrowsLemmas.{grows-as-index}
use Rattle.f11_store.specs.Pieces.{MayGrowAs}
use Rattle.f11_files.proofs.Extending.ClearAndGrow.{HasRoomFor, breaks-clearing, breaks-growing, gains-all, has-grown, may-grow}
use Rattle.f11_files.proofs.Extending.ClearAndGrow.{writes-grown, zeros-all}
use Rattle.f11_files.specs.declared.extend.tail.Tail.{Tail}

-- there is room for more slots
pub reserved-room : (s : Structure) (index : IndexFile) → index_kept index ≡ index_in s
    → (n : ℕ) (end : FileEnd) (was last : List ℕ) (disk : Disk) → HoldsIndexRoom s n end was last disk
    → HoldsIndexRoom (record s { index = index }) n end was last disk
reserved-room s index kept n end was last disk has = record {
  within = has.within;
  room = record {
    no_cause = has.room.no_cause;
    ends = record {
      holds = subst (λ (x : Index). HoldsFile x index_id was disk) (sym kept) has.room.ends.holds;
      header = subst (λ (x : Index). HoldsHeader x end.number last disk) (sym kept) has.room.ends.header;
      no_link = has.room.ends.no_link;
      segment = has.room.ends.segment;
      few = has.room.ends.few;
      is_last = λ honest. subst (λ (x : Index). IsLastOf (table x disk) 1 end.number) (sym kept) (has.room.ends.is_last honest);
    };
  };
}

module _ (s : Structure) (n : ℕ) (end : FileEnd) (was last : List ℕ) (old : Disk) (for : IsStructureFor s old)
    (room : HoldsIndexRoom s n end was last old) where
  abbrev home : HomeFields
  home = home_of s

  abbrev st : Store
  st = store_on s old

  abbrev file : File
  file = index_file st

  abbrev work : Work
  work = grow_work file.room n

  -- what is left of the cost
  abbrev most : ℕ
  most = growth_cost st file n - header_count file

  module _ (honest : IsTrue old.honest) where
    named : file_named st index_id ≡ file
    named = (index-is s old for honest index_id refl refl).1

    no-growth-cause : first_of (growth_causes st file n) ≡ None
    no-growth-cause =
        ap (λ (g : File). first_of (growth_causes st g n)) (sym named)
        ∙ ap (λ (b : Bool). cond b (Some NoSuchFile) (first_of (growth_causes st (file_named st index_id) n)))
        (sym (index-is s old for honest index_id refl refl).0)
        ∙ room.room.no_cause honest

    pub may-grow-slots : first_of (grow_causes st n) ≡ None
    may-grow-slots =
        ap (λ (b : Bool). cond b (Some IndexLimit) (first_of (growth_causes st file n)))
        (le-ltb st.limit (st.slots + n) (room.within honest)) ∙ no-growth-cause

  -- there is no memory for them
  pub wants-memory : FailsToGrowHeld home n NoMemory old old
  wants-memory = record {
    right = λ not. absurd (not refl);
    wanting = λ _. (refl, λ _. (refl, refl));
    writes = record { transfers = 0; went = went_looked (Meanwhile work home old) (looked_none old); few = λ _. omega arith };
    unchanged = λ _. record { reads = 0; looked = looked_none old; few = λ _. omega arith };
  }

  has : HasRoomFor s 1 n file old
  has =
      record {
        is_file = λ honest. (index-is s old for honest index_id refl refl).2;
        no_cause = no-growth-cause;
        within = λ honest _.
            room.within honest;
      }

  -- in no more transfers than the cost
  as-whole : {new : Disk} {faults : ℕ}
      → WritesAtMost (Meanwhile work home old) (growth_cost st file n - 1 - header_count file - 2) old new faults
      → WritesAtMost (Meanwhile work home old) most old new faults
  as-whole = writes-within (omega arith)

  -- the mark is cleared
  pub fails-clearing : (new : Disk) → Went (Clearing s index_id old) old new 1 1 → FailsToGrowHeld home n DeviceFault old new
  fails-clearing new went =
      as-wanting (λ is. omega (arith, is))
      (breaks-off (λ _. refl) refl (right-fault _ _)
      (as-whole (breaks-clearing s index_id n end was last old for room.room.ends file has went)))

  pub stays-clearing : (new : Disk) → Went (Clearing s index_id old) old new 1 1 → StaysFor true s s new
  stays-clearing new went = failed-stays s s _ old new for refl (fails-clearing new went).writes.went

  module _ (block : List ℕ) (cleared : Disk) (clears : ClearsMark s index_id was block old cleared) where
    pub may-grow-index : IsTrue cleared.honest → MayGrowAs (store_on s cleared) 1 n n
    may-grow-index = may-grow s index_id n end was last old for room.room.ends file has block cleared clears

    pub fails-growing : (r : Refusal) (new : Disk)
        → Breaks (GrowingByRuns s 1 n cleared)
        ((store_on s cleared).bitmap_blocks + 5 * n + 3 * need (index_file (store_on s cleared)).room n + 3) r cleared new
        → FailsToGrowHeld home n r old new
    fails-growing r new breaks =
        as-wanting (λ is. let no : true ≡ false = sym breaks.fatal ∙ ap (λ (k : ℕ). eqb k 19 || eqb k 20) is in absurd cc)
        (breaks-off (λ _. refl) breaks.fatal
        (fatal-right [] r old.honest breaks.fatal (λ honest. breaks.undamaged (clears.went.honest ∙ honest)))
        (as-whole (breaks-growing s index_id n end was last old for room.room.ends file has block cleared clears breaks)))

    module _ (tail : Tail) (of : IsTailOf index_id block end.number last tail) (new : Disk)
        (grows : GrowsByRuns s 1 (ownership_of tail) n cleared new) where
      grown : IsTrue old.honest → GrowsIndex st n (store_of new.image home)
      grown honest =
          grows-as-index st (store_of new.image home) n
          (has-grown s index_id n end was last old for room.room.ends file has block cleared clears tail of new grows honest)

      -- it has the lowest free blocks more, which hold zeros
      slots-gained : IsTrue old.honest → GainsSlots n (volume_of old.image home) (volume_of new.image home)
      unfolding volume_of
      slots-gained honest = record {
        blocks = gains-all s index_id n end was last old for room.room.ends file has block cleared clears tail of new grows honest;
        slots = zeros-all s index_id n end was last old for room.room.ends file has block cleared clears tail of new grows honest;
      }

      pub grows-held : GrowsHeld home n old new
      grows-held = record {
        no_cause = may-grow-slots;
        makes = grown;
        allots = slots-gained;
        writes = as-whole (writes-grown s index_id n end was last old for room.room.ends file has block cleared clears tail of new grows);
      }

-- so many slots there are then
pub slots-after : (s t : Structure) (n count : ℕ) (old new : Disk) → GrowsIndexFile (home_of s) n old new → StaysFor false s t new
    → count ≡ slots (index_in t) → IsSlotsAfter (home_of s) n old count
slots-after s t n count old new grows stays is honest =
    let made = grows.makes honest in
    is ∙ ap slots (stays.keeps refl (grows.writes.went.honest ∙ honest)).index_is ∙ sym (slots-of new.image (home_of t))
    ∙ ap (λ (h : HomeFields). (store_of new.image h).slots) stays.home
    ∙ ap (λ (x : Store). x.slots) (made.store_is ∙ ap (λ (x : Store). with_more_slots x n) made.grows.store_is)
