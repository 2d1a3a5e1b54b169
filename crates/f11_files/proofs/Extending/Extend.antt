-- A file that is extended, once its contiguous mark is cleared.
use Rattle.std.proofs.Common.{arith, ◌≡◌, ◌+◌, ◌-◌, ◌*◌, ◌≤◌, ◌==◌, ℕ, Bool, true, cond, IsTrue, [], List, Some, None, refl, sym, ap, subst}
use Rattle.std.proofs.Common.{◌∙◌}
use Rattle.f11_dev.specs.Disk.{Disk}
use Rattle.f11_dev.specs.Went.{Went}
use Rattle.f11_home.specs.Home.{HomeFields}
use Rattle.f11_chain.specs.declared.blocks.FileEnd.{FileEnd}
use Rattle.f11_store.specs.Causes.{first_of, growth_causes}
use Rattle.f11_store.specs.Cost.{growth_cost, header_count}
use Rattle.f11_store.specs.File.{File, need}
use Rattle.f11_store.specs.Lags.{Work, extend_work}
use Rattle.f11_store.specs.Store.{Store, file_named}
use Rattle.f11_store.specs.declared.files.FileId.{FileId}
use Rattle.f11_store.specs.declared.refusals.Refusal.TheVariants.{NoSuchFile, DeviceFault}
use Rattle.f11_store.specs.declared.refusals.Refusal.{Refusal}
use Rattle.f11_files.specs.Answers.{Breaks, Meanwhile, WritesAtMost}
use Rattle.f11_files.specs.Extending.Mark.{Clearing, ClearsMark}
use Rattle.f11_files.specs.Extending.Runs.{ExtendsInHand, FailsToExtendHeld, GrowingByRuns, GrowsByRuns, IsTailOf}
use Rattle.f11_store.specs.Pieces.{file_numbered, MayGrowAs, grow_work_if, grow_work_of}
use Rattle.f11_files.specs.Extending.Room.{HoldsRoom}
use Rattle.f11_image_store.specs.StoreOf.{store_of}
use Rattle.f11_files.specs.Structure.{home_of, store_on, IsStructureFor, StaysFor}
use Rattle.f11_files.specs.declared.structure.Structure.{Structure}
use Rattle.f11_files.proofs.AnswerLemmas.{right-fault}
use Rattle.f11_files.proofs.Extending.Clear.{stored}
use Rattle.f11_files.proofs.Extending.Cleared.{fatal-right}
use Rattle.f11_files.proofs.Finding.Named.{found-named, held-named, is-file}
use Rattle.f11_files.proofs.WriteLemmas.{breaks-off, failed-stays}
use Rattle.f11_files.specs.Extending.Tail.{ownership_of}
use Rattle.std.proofs.lemmas.Bool.{false≢true}
use Rattle.f11_store.proofs.GrowsLemmas.{grows-as-extends}
use Rattle.f11_files.proofs.Extending.Written.{are-none}
use Rattle.f11_files.proofs.Extending.ClearAndGrow.{HasRoomFor, breaks-clearing, breaks-growing, gains-all, has-grown, may-grow}
use Rattle.f11_files.proofs.Extending.ClearAndGrow.{writes-grown, zeros-all}
use Rattle.f11_files.proofs.GrowingIndex.ZeroSlots.{with-unused}
use Rattle.f11_image_store.specs.Allocation.{GainsBlocks}
use Rattle.f11_files.specs.declared.extend.tail.Tail.{Tail}

module _ (s : Structure) (f : FileId) (n : ℕ) (end : FileEnd) (was last : List ℕ) (old : Disk) (for : IsStructureFor s old)
    (own : 4 ≤ f.number) (room : HoldsRoom s f n end was last old) where
  abbrev home : HomeFields
  home = home_of s

  abbrev st : Store
  st = store_on s old

  abbrev k : ℕ
  k = f.number

  abbrev named : File
  named = file_named st f

  abbrev most : ℕ
  most = growth_cost st named n - 1 - header_count named - 2

  -- it is no index file
  as-extend : {new : Disk} {faults : ℕ} → WritesAtMost (Meanwhile (grow_work_of k named.room n) home old) most old new faults
      → WritesAtMost (Meanwhile (extend_work k named.room n) home old) most old new faults
  as-extend {new = new} {faults = faults} =
      subst (λ (w : Work). WritesAtMost (Meanwhile w home old) most old new faults)
      (ap (λ (slots : Bool). grow_work_if slots k named.room n) (are-none own))

  no-slots : IsTrue old.honest → IsTrue (k == 1) → st.slots + n ≤ st.limit
  no-slots honest is = absurd (false≢true (sym (are-none own) ∙ is))

  is-named : IsTrue old.honest → st.file k ≡ Some named
  is-named honest = stored s f was old for room.ends.holds honest ∙ ap Some (sym (held-named s f was old for room.ends.holds honest))

  no-growth-cause : IsTrue old.honest → first_of (growth_causes st named n) ≡ None
  no-growth-cause honest =
      ap (λ (b : Bool). cond b (Some NoSuchFile) (first_of (growth_causes st named n)))
      (sym (found-named s f old for honest (is-file s f was old for room.ends.holds honest)).0)
      ∙ room.no_cause honest

  has : HasRoomFor s k n named old
  has = record { is_file = is-named; no_cause = no-growth-cause; within = no-slots }

  -- the mark is cleared
  pub fails-clearing : (new : Disk) → Went (Clearing s f old) old new 1 1 → FailsToExtendHeld home f n DeviceFault old new
  fails-clearing new went =
      breaks-off (λ _. refl) refl (right-fault _ _) (as-extend (breaks-clearing s f n end was last old for room.ends named has went))

  pub stays-clearing : (new : Disk) → Went (Clearing s f old) old new 1 1 → StaysFor true s s new
  stays-clearing new went = failed-stays s s _ old new for refl (fails-clearing new went).writes.went

  module _ (block : List ℕ) (cleared : Disk) (clears : ClearsMark s f was block old cleared) where
    pub may-extend : IsTrue cleared.honest → MayGrowAs (store_on s cleared) k n n
    may-extend = may-grow s f n end was last old for room.ends named has block cleared clears

    pub fails-growing : (r : Refusal) (new : Disk)
        → Breaks (GrowingByRuns s k n cleared)
        ((store_on s cleared).bitmap_blocks + 5 * n + 3 * need (file_numbered (store_on s cleared) k).room n + 3) r cleared new
        → FailsToExtendHeld home f n r old new
    fails-growing r new breaks =
        breaks-off (λ _. refl) breaks.fatal
        (fatal-right [] r old.honest breaks.fatal (λ honest. breaks.undamaged (clears.went.honest ∙ honest)))
        (as-extend (breaks-growing s f n end was last old for room.ends named has block cleared clears breaks))

    pub extends-held : (tail : Tail) → IsTailOf f block end.number last tail → (new : Disk)
        → GrowsByRuns s k (ownership_of tail) n cleared new
        → ExtendsInHand home f n old new
    extends-held tail of new grows = record {
      no_cause = room.no_cause;
      makes = λ honest.
          (grows-as-extends st (store_of new.image home) k n (λ is. omega (arith, own, is))
          (has-grown s f n end was last old for room.ends named has block cleared clears tail of new grows honest)).0;
      allots = λ honest.
          with-unused (GainsBlocks k n) home old.image new.image
          (gains-all s f n end was last old for room.ends named has block cleared clears tail of new grows honest)
          (zeros-all s f n end was last old for room.ends named has block cleared clears tail of new grows honest);
      writes = as-extend (writes-grown s f n end was last old for room.ends named has block cleared clears tail of new grows);
    }
