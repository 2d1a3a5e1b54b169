-- A file that grows, the index file or another, once its contiguous mark is cleared, and what stands meanwhile.
use Rattle.std.proofs.Common.{◌≡◌, ◌+◌, ◌-◌, ◌*◌, ◌/◌, ◌≤◌, ◌==◌, ℕ, Bool, true, false, cond, IsTrue, List, Option, Some, None, option_map}
use Rattle.std.proofs.Common.{unwrap_or, refl, sym, ap, subst, ◌∙◌, eqb, arith}
use Rattle.f11_dev.specs.Disk.{Disk}
use Rattle.f11_dev.specs.Image.{Image}
use Rattle.f11_dev.specs.Went.{Went}
use Rattle.f11_dev.proofs.WentLemmas.{went_more, went_weaker}
use Rattle.f11_home.specs.Home.{HomeFields}
use Rattle.f11_index.specs.Table.{table_of}
use Rattle.f11_chain.specs.declared.blocks.FileEnd.{FileEnd}
use Rattle.f11_store.specs.Causes.{first_of, growth_causes}
use Rattle.f11_store.specs.Changes.{with_change}
use Rattle.f11_store.specs.Cost.{growth_cost, header_count}
use Rattle.f11_store.specs.File.{File, no_file, need}
use Rattle.f11_store.specs.Lags.{Work, LagsBy, with_no_mark}
use Rattle.f11_store.specs.Pieces.{GrowsAs, GrowsUnmarked, MayGrowAs, file_numbered, grow_work_of, piece_work_of}
use Rattle.f11_store.specs.Store.{Store}
use Rattle.f11_store.specs.declared.callers.Uic.{Uic}
use Rattle.f11_store.specs.declared.files.FileId.{FileId}
use Rattle.f11_store.specs.declared.refusals.Refusal.{Refusal}
use Rattle.f11_store.proofs.GrowsLagLemmas.{growth-cleared-lags}
use Rattle.f11_store.proofs.GrowsLemmas.{cleared-grows, cleared-may-grow}
use Rattle.f11_store.proofs.LagLaws.{lags_itself}
use Rattle.f11_volume.specs.Volume.{volume_of}
use Rattle.f11_image_store.specs.Allocation.{AddsZeroSlots, GainsBlocks, GainsBlocksAs, ownership_in}
use Rattle.f11_image_store.specs.StoreOf.{store_of}
use Rattle.f11_image_store.proofs.AllocationLemmas.{gains-add}
use Rattle.f11_files.specs.Answers.{Breaks, Meanwhile, WritesAtMost, faults_of}
use Rattle.f11_files.specs.Extending.Mark.{Clearing, ClearsMark}
use Rattle.f11_files.specs.Extending.Room.{HoldsEnd}
use Rattle.f11_files.specs.Extending.Runs.{GrowingByRuns, GrowsByRuns, IsTailOf}
use Rattle.f11_files.specs.Extending.Tail.{ownership_of}
use Rattle.f11_files.specs.Structure.{home_of, store_on, IsStructureFor}
use Rattle.f11_files.specs.declared.extend.tail.Tail.{Tail}
use Rattle.f11_files.specs.declared.structure.Structure.{Structure}
use Rattle.f11_files.proofs.Extending.Cleared.{enough, fewer-needed, covered, tail-ownership}
use Rattle.f11_files.proofs.GrowingIndex.ZeroSlots.{zero-then}

-- a file has the room that it had where its mark is cleared
cleared-room : (s : Store) (k : ℕ) → (file_numbered (with_change s k with_no_mark) k).room ≡ (file_numbered s k).room
cleared-room s k = go (eqb k k) (s.file k)
  where
    go : (here : Bool) (o : Option File) → (unwrap_or (cond here (option_map with_no_mark o) o) no_file).room ≡ (unwrap_or o no_file).room
    go true None = refl
    go true (Some f) = refl
    go false o = refl

-- File k, which is this one in the store, has room for n blocks more, and nothing is against them.
pub record HasRoomFor (s : Structure) (k n : ℕ) (file : File) (old : Disk) : Type 0 where
  pub is_file : IsTrue old.honest → (store_on s old).file k ≡ Some file
  pub no_cause : IsTrue old.honest → first_of (growth_causes (store_on s old) file n) ≡ None
  pub within : IsTrue old.honest → IsTrue (k == 1) → (store_on s old).slots + n ≤ (store_on s old).limit

module _ (s : Structure) (f : FileId) (n : ℕ) (end : FileEnd) (was last : List ℕ) (old : Disk) (for : IsStructureFor s old)
    (ends : HoldsEnd s f end was last old) (file : File)
    (has : HasRoomFor s f.number n file old) where
  abbrev home : HomeFields
  home = home_of s

  abbrev st : Store
  st = store_on s old

  abbrev k : ℕ
  k = f.number

  abbrev work : Work
  work = grow_work_of k file.room n

  abbrev P : Image → Type 0
  P = Meanwhile work home old

  abbrev cleared_store : Store
  cleared_store = with_change st k with_no_mark

  -- what is left of the cost: but for a look at the file's right, at each of its headers, and again at the first and the last
  abbrev most : ℕ
  most = growth_cost st file n - 1 - header_count file - 2

  module _ (honest : IsTrue old.honest) where
    numbered : file_numbered st k ≡ file
    numbered = ap (λ (o : Option File). unwrap_or o no_file) (has.is_file honest)

    is-numbered : st.file k ≡ Some (file_numbered st k)
    is-numbered = has.is_file honest ∙ ap Some (sym numbered)

  -- the mark is cleared
  clear-moment : (image : Image) → Clearing s f old image → P image
  clear-moment image is honest =
      let there = is honest in
      record {
        sound = there.sound;
        lags = subst (λ (x : Store). LagsBy work x st) (sym there.store)
            (growth-cleared-lags st cleared_store k file.room n (lags_itself (piece_work_of k file.room n n) cleared_store));
      }

  pub breaks-clearing : {faults : ℕ} {new : Disk} → Went (Clearing s f old) old new 1 faults → WritesAtMost P most old new faults
  breaks-clearing went = record {
    transfers = 1;
    went = went_weaker (Clearing s f old) P clear-moment went;
    few = λ honest. let many = enough st.index_bitmap_blocks ((n + 101) / 102) in omega (arith, many);
  }

  module _ (block : List ℕ) (cleared : Disk) (clears : ClearsMark s f was block old cleared) where
    still-honest : cleared.honest ≡ old.honest
    still-honest = clears.went.honest

    abbrev after : Store
    after = store_on s cleared

    store-cleared : IsTrue old.honest → after ≡ cleared_store
    store-cleared honest = (clears.store honest).store

    room-cleared : IsTrue old.honest → (file_numbered after k).room ≡ file.room
    room-cleared honest =
        ap (λ (x : Store). (file_numbered x k).room) (store-cleared honest) ∙ cleared-room st k
        ∙ ap (λ (g : File). g.room) (numbered honest)

    cleared-went : Went P old cleared 1 0
    cleared-went = went_weaker (Clearing s f old) P clear-moment clears.went

    pub may-grow : IsTrue cleared.honest → MayGrowAs after k n n
    may-grow there =
        let honest = sym still-honest ∙ there in
        subst (λ (x : Store). MayGrowAs x k n n) (sym (store-cleared honest))
        (cleared-may-grow st k n (is-numbered honest)
        (ap (λ (g : File). first_of (growth_causes st g n)) (numbered honest) ∙ has.no_cause honest) (has.within honest))

    -- the images that stand while the file grows
    grown-moment : (image : Image) → GrowingByRuns s k n cleared image → P image
    grown-moment image is honest =
        let there = is (still-honest ∙ honest) in
        let lags = subst (λ (x : Store). LagsBy (piece_work_of k (file_numbered after k).room n n) (store_of image home) x)
        (store-cleared honest) there.lags in
        record {
          sound = there.sound;
          lags = growth-cleared-lags st (store_of image home) k file.room n
              (subst (λ (room : ℕ). LagsBy (piece_work_of k room n n) (store_of image home) cleared_store) (room-cleared honest) lags);
        }

    pub breaks-growing : {r : Refusal} {new : Disk}
        → Breaks (GrowingByRuns s k n cleared) (after.bitmap_blocks + 5 * n + 3 * need (file_numbered after k).room n + 3) r cleared new
        → WritesAtMost P most old new (faults_of r)
    breaks-growing breaks = record {
      transfers = 1 + breaks.writes.transfers;
      went = went_more P cleared-went (went_weaker (GrowingByRuns s k n cleared) P grown-moment breaks.writes.went);
      few = λ honest.
          let then = breaks.writes.few (still-honest ∙ honest) in
          let blocks = ap (λ (x : Store). x.bitmap_blocks) (store-cleared honest) in
          let many = enough st.index_bitmap_blocks ((n + 101) / 102) in
          let headers : need (file_numbered after k).room n ≤ (n + 101) / 102 = fewer-needed (file_numbered after k).room n in
          omega (arith, then, blocks, many, headers);
    }

    module _ (tail : Tail) (of : IsTailOf f block end.number last tail) (new : Disk)
        (grows : GrowsByRuns s k (ownership_of tail) n cleared new) where
      pub has-grown : IsTrue old.honest → GrowsUnmarked (k == 1) st k n (store_of new.image home)
      has-grown honest =
          (cleared-grows st (store_of new.image home) k n (is-numbered honest)
          (subst (λ (x : Store). GrowsAs x k n n (store_of new.image home)) (store-cleared honest)
          (grows.grew.grows (still-honest ∙ honest)))).0

      -- it has the lowest free blocks more
      abbrev ownership : Uic × ℕ
      ownership = ownership_in ((volume_of old.image home).table.header k)

      pub gains-all : IsTrue old.honest → GainsBlocks k n (volume_of old.image home) (volume_of new.image home)
      gains-all honest =
          let none : 0 + n ≡ n = omega arith in
          subst (λ (m : ℕ). GainsBlocks k m (volume_of old.image home) (volume_of new.image home)) none
          (gains-add k ownership 0 n (volume_of old.image home) (volume_of cleared.image home) (volume_of new.image home)
          (clears.gains honest)
          (subst (λ (r : Uic × ℕ). GainsBlocksAs k r n (volume_of cleared.image home) (volume_of new.image home))
          (tail-ownership s f end was last old for ends block cleared clears tail of honest) (grows.gains (still-honest ∙ honest))))

      -- and slots that came are zeros
      pub zeros-all : IsTrue old.honest → AddsZeroSlots (table_of old.image home) (table_of new.image home)
      zeros-all honest =
          zero-then (table_of old.image home) (table_of cleared.image home) (table_of new.image home)
          (clears.zeros honest) (grows.slots (still-honest ∙ honest))

      pub writes-grown : WritesAtMost P most old new 0
      writes-grown = let grew = grows.grew in record {
        transfers = 1 + grew.transfers;
        went = went_more P cleared-went (went_weaker (GrowingByRuns s k n cleared) P grown-moment grew.went);
        few = λ honest.
            let then = grew.few (still-honest ∙ honest) in
            let size = covered s old for honest in
            let added = (grew.grows (still-honest ∙ honest)).grows.may_grow.headers in
            let headers = fewer-needed (grew.grows (still-honest ∙ honest)).grows.before.room n in
            let many = enough st.index_bitmap_blocks ((n + 101) / 102) in
            omega (arith, then, size, added, headers, many);
      }
