-- Blocks that are reached by the windows that accesses keep.
use Rattle.std.proofs.Common.{◌≡◌, ◌+◌, ◌-◌, ◌≤◌, ℕ, Bool, true, false, IsTrue, List, length, Some, None, inl, inr, ◌⊎◌, refl, sym, ◌∙◌, ap}
use Rattle.std.proofs.Common.{subst, arith}
use Rattle.std.specs.List.{slice_get}
use Rattle.f11_chain.specs.Windows.{HoldsBlock, IsWindowOf, LiesOn}
use Rattle.f11_chain.specs.declared.windows.Window.{Window}
use Rattle.f11_dev.specs.Disk.{Disk, with_block_at, with_transfer}
use Rattle.f11_dev.specs.Image.{Image}
use Rattle.f11_dev.specs.Went.{Went}
use Rattle.f11_dev.proofs.LookedLemmas.{looked_none, looked_read}
use Rattle.f11_dev.proofs.WentLemmas.{went_weaker}
use Rattle.f11_home.specs.Home.{HomeFields}
use Rattle.f11_files.specs.index.Table.{table_of}
use Rattle.f11_store.specs.Causes.{Cause, first_of}
use Rattle.f11_store.specs.Changes.{with_block, with_change}
use Rattle.f11_store.specs.Cost.{header_count}
use Rattle.f11_store.specs.Lags.{work_if}
use Rattle.f11_store.specs.Store.{Store, file_named}
use Rattle.f11_store.specs.declared.refusals.Refusal.{Refusal}
use Rattle.f11_store.specs.declared.refusals.Refusal.TheVariants.{DeviceFault, VolumeFailed}
use Rattle.f11_files.specs.volume.Volume.{volume_of}
use Rattle.f11_files.specs.Answers.{FailsToRead, IsRight, IsUnderWay, Meanwhile, is_fatal}
use Rattle.f11_files.specs.Finding.Blocks.{FailsToStore, ReadsBlock, StoresBlock, block_work}
use Rattle.f11_files.specs.Finding.Windows.{FailsToReadBy, HasWindow, IsOfFailure, IsWindowOn, ReadsBy}
use Rattle.f11_files.specs.Open.{IsIdFrom, disk_in, home_in, is_honest, store_in}
use Rattle.f11_files.specs.Operations.{length_causes}
use Rattle.f11_files.proofs.AnswerLemmas.{reads-looked, reads-more, right-fault}
use Rattle.f11_files.proofs.WriteLemmas.{fails-unread, writes-behind}
use Rattle.f11_files.specs.image_store.Allocation.{KeepsBlocks}
use Rattle.f11_files.specs.image_store.StoreOf.{store_of}
use Rattle.f11_fcp.specs.Accesses.{Entry, with_window}
use Rattle.f11_fcp.specs.Windows.{FindsNext, KeepsWindow, LeavesRows}
use Rattle.f11_fcp.proofs.WindowLemmas.{as-slice, begins-at, window-kept}
use Rattle.f11_dev.specs.declared.device.Device.{Ghosts}
use Rattle.f11_files.specs.declared.files.Files.{Files}
use Rattle.f11_files.proofs.Finding.Windows.{is-there}
use Rattle.f11_store.specs.Causes.{is_missing}

-- the access keeps the window in which the block stands
pub next-kept : (home : HomeFields) (e : Entry) (vbn : ℕ) (disk : Disk) → HoldsBlock e.window vbn → LiesOn e.window (length disk.image)
    → (IsTrue disk.honest → HasWindow home e.file e.window disk.image)
    → FindsNext home e vbn e.window disk disk
next-kept home e vbn disk holds on has = record {
  next = record { stays = λ _. refl; filled = λ other. absurd (other holds) };
  holds = holds;
  on = on;
  has = has;
  reads = record { reads = 0; looked = looked_none disk; few = λ _. omega arith };
}

pub once-none : (old mid : Disk) → mid ≡ old → mid.transfers ≤ old.transfers + 1
once-none old mid same = let none = ap (λ (d : Disk). d.transfers) same in omega (arith, none)

-- a block that was written was written in one
pub one-written : (old new : Disk) (lbn : ℕ) (block : List ℕ) → new ≡ with_transfer true (with_block_at lbn block old)
    → new.transfers ≤ old.transfers + 1
one-written old new lbn block is = let one = ap (λ (d : Disk). d.transfers) is in omega (arith, one)

-- where no window was found nothing was written
pub unread-stored : {failed : Bool} (home : HomeFields) (e : Entry) (vbn : ℕ) (block : List ℕ) (old new : Disk) (refusal : Refusal)
    → failed ≡ false
    → FailsToRead failed (length_causes (store_of old.image home) e.file vbn) (header_count (file_named (store_of old.image home) e.file))
    refusal old new → FailsToStore failed home e.file vbn block refusal old new
unread-stored {failed} home e vbn block old new refusal alive fails =
    subst (λ (b : Bool). FailsToStore b home e.file vbn block refusal old new) (sym alive)
    (fails-unread (omega arith)
    (subst (λ (b : Bool). FailsToRead b (length_causes (store_of old.image home) e.file vbn)
    (header_count (file_named (store_of old.image home) e.file)) refusal old new) alive fails))

-- of at most so many transfers, at most one was made
once-went : {P : Image → Type 0} {old new : Disk} {most faults : ℕ} → new.transfers ≤ old.transfers + 1 → Went P old new most faults
    → Went P old new 1 faults
once-went few went = record {
  since = went.since;
  history = went.history;
  image = went.image;
  each = went.each;
  size = went.size;
  honest = went.honest;
  transfers = few;
  failures = went.failures;
  quiet = went.quiet;
}

module _ (home : HomeFields) (e : Entry) (vbn : ℕ) (w : Window) (old mid : Disk) (id : IsIdFrom 4 e.file)
    (finds : FindsNext home e vbn w old mid) where
  abbrev named : Image → Store
  named image = store_of image home

  abbrev causes : Image → List Cause
  causes image = length_causes (named image) e.file vbn

  same : mid.image ≡ old.image
  same = finds.reads.looked.image

  sure : IsTrue old.honest → IsTrue mid.honest
  sure honest = finds.reads.looked.honest ∙ honest

  pub on-mid : IsWindowOn home e.file w mid
  on-mid =
      record { id = id; has = λ honest. subst (HasWindow home e.file w) (sym same) (finds.has (sym finds.reads.looked.honest ∙ honest)) }

  pub on-here : (here : HomeFields) → here ≡ home → IsWindowOn here e.file w mid
  on-here here at = subst (λ (h : HomeFields). IsWindowOn h e.file w mid) (sym at) on-mid

  -- the block was read
  pub read-through : (block : List ℕ) (new : Disk) → ReadsBy home w vbn block mid new → ReadsBlock home e.file vbn block old new
  read-through block new by =
      let reads = by.of_file e.file on-mid in
      record {
        no_cause = λ honest. subst (λ (i : Image). first_of (causes i) ≡ None) same (reads.no_cause (sure honest));
        block_is = λ honest. subst (λ (i : Image). slice_get (file_named (named i) e.file).blocks (vbn - 1) ≡ Some block) same
            (reads.block_is (sure honest));
        reads = reads-more finds.reads (reads-looked (looked_read mid new by.once));
      }

  -- the refusal is that of a transfer
  pub is-fault : {failed : Bool} (refusal : Refusal) → failed ≡ false → IsOfFailure failed refusal → refusal ≡ DeviceFault
  is-fault refusal alive why = go why.only
    where
      go : (refusal ≡ VolumeFailed) ⊎ (refusal ≡ DeviceFault) → refusal ≡ DeviceFault
      go (inl is) = absurd (let no : true ≡ false = sym (why.volume is) ∙ alive in cc)
      go (inr is) = is

  right : {failed : Bool} (refusal : Refusal) → failed ≡ false → refusal ≡ DeviceFault
      → IsRight failed old.honest (causes old.image) refusal
  right {failed} refusal alive is =
      subst (λ (b : Bool). IsRight b old.honest (causes old.image) refusal) (sym alive)
      (subst (λ (r : Refusal). IsRight false old.honest (causes old.image) r) (sym is) (right-fault old.honest (causes old.image)))

  -- it wasn't read
  pub unread-through : {failed was : Bool} (refusal : Refusal) (new : Disk) → was ≡ false → failed ≡ false
      → FailsToReadBy failed refusal mid new
      → FailsToRead was (causes old.image) (header_count (file_named (named old.image) e.file) + 1) refusal old new
  unread-through refusal new alive still by = record {
    right = right refusal alive (is-fault refusal still by.why);
    reads = reads-more finds.reads (reads-looked by.looked);
  }

  module _ (block : List ℕ) (new : Disk) where
    during : (image : Image) → Meanwhile (block_work e.file vbn block) home mid image
        → Meanwhile (block_work e.file vbn block) home old image
    during image stands honest = subst (λ (i : Image). IsUnderWay (block_work e.file vbn block) home i image) same (stands (sure honest))

    -- it was written
    pub store-through : StoresBlock home e.file vbn block mid new → new.transfers ≤ mid.transfers + 1
        → StoresBlock home e.file vbn block old new
    store-through stores few = record {
      no_cause = λ honest. subst (λ (i : Image). first_of (causes i) ≡ None) same (stores.no_cause (sure honest));
      makes = λ honest. subst (λ (i : Image). store_of new.image home ≡ with_change (named i) e.file.number (with_block vbn block)) same
          (stores.makes (sure honest));
      allots = λ honest. subst (λ (i : Image). KeepsBlocks (volume_of i home) (volume_of new.image home)) same
          (stores.allots (sure honest));
      writes = writes-behind finds.reads (once-went few (went_weaker _ _ during stores.writes.went));
    }

    -- or not
    pub unstored-through : {failed was : Bool} (refusal : Refusal) → was ≡ false → failed ≡ false → IsOfFailure failed refusal
        → new.transfers ≤ mid.transfers + 1
        → FailsToStore failed home e.file vbn block refusal mid new → FailsToStore was home e.file vbn block refusal old new
    unstored-through {failed} {was} refusal alive still why few fails = record {
      right = right refusal alive (is-fault refusal still why);
      writes = writes-behind finds.reads (once-went few (went_weaker _ _ unless-during fails.writes.went));
      unchanged = λ clean. absurd (let fault = ap is_fatal (is-fault refusal still why) in let no : false ≡ true = sym clean ∙ fault in cc);
    }
      where
        unless-during : (image : Image) → Meanwhile (work_if (first_of (causes mid.image)) (block_work e.file vbn block)) home mid image
            → Meanwhile (work_if (first_of (causes old.image)) (block_work e.file vbn block)) home old image
        unless-during image stands honest =
            subst (λ (i : Image). IsUnderWay (work_if (first_of (causes i)) (block_work e.file vbn block)) home i image) same
            (stands (sure honest))

-- the access may keep the window behind a look
pub reached-keeps : {D : Type 0} {met : Ghosts D} (e : Entry) (w : Window) (old new : Files D met)
    → (disk_in new).image ≡ (disk_in old).image → home_in new ≡ home_in old → (is_honest new → is_honest old)
    → LiesOn w (length (disk_in old).image) → (is_honest old → HasWindow (home_in old) e.file w (disk_in old).image)
    → KeepsWindow (with_window w e) new
reached-keeps e w old new image home back on has = record {
  on = subst (λ (i : Image). LiesOn w (length i)) (sym image) on;
  of_file = λ honest.
      as-slice (table_of (disk_in new).image (home_in new)) e.file.number w
      (subst (λ (i : Image). IsWindowOf (table_of i (home_in new)) e.file.number w) (sym image)
      (subst (λ (h : HomeFields). IsWindowOf (table_of (disk_in old).image h) e.file.number w) (sym home) (has (back honest)).window));
}

-- and after a write of one of its file's blocks
pub written-keeps : {D : Type 0} {met : Ghosts D} (e : Entry) (w : Window) (mid new : Files D met)
    → length (disk_in new).image ≡ length (disk_in mid).image → home_in new ≡ home_in mid → (is_honest new → is_honest mid)
    → (is_honest mid → is_missing (store_in mid) e.file ≡ false) → LeavesRows mid new → KeepsWindow (with_window w e) mid
    → KeepsWindow (with_window w e) new
written-keeps e w mid new size home back there rows keeps =
    window-kept (with_window w e) mid new size back
    (λ honest. let was = back honest in
    begins-at mid new e.file.number home
    ((rows was).rows e.file.number refl (is-there (disk_in mid).image (home_in mid) e.file (there was)).0)) keeps
