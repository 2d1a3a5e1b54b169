-- A block of a file that is written.
use Rattle.std.proofs.Common.{◌≡◌, ◌⊎◌, ◌-◌, ◌≤◌, ℕ, Bool, true, false, cond, IsTrue, List, [], Some, refl, sym, ap, subst, ◌∙◌}
use Rattle.std.proofs.Math.ListN.{set}
use Rattle.f11_chain.specs.FileHeaders.{block_by_vbn, file_blocks}
use Rattle.f11_dev.specs.Disk.{Disk, with_transfer, with_block_at}
use Rattle.f11_dev.specs.Image.{Image}
use Rattle.f11_dev.proofs.WentLemmas.{went_write, went_failed_write}
use Rattle.f11_home.specs.Home.{HomeFields}
use Rattle.f11_index.specs.Table.{table_of}
use Rattle.f11_store.specs.Causes.{is_missing}
use Rattle.f11_store.specs.Changes.{is_in, with_block, with_change}
use Rattle.f11_store.specs.declared.files.FileId.{FileId}
use Rattle.f11_store.specs.declared.refusals.Refusal.TheVariants.{DeviceFault}
use Rattle.f11_store.specs.Lags.{LagsBy}
use Rattle.f11_store.proofs.LagLaws.{change_lags}
use Rattle.f11_volume.specs.Volume.{Volume, volume_of}
use Rattle.f11_writes.specs.Kept.{WritesBlock}
use Rattle.f11_writes.proofs.OtherLemmas.{file-keeps}
use Rattle.f11_image_store.specs.Allocation.{KeepsBlocks}
use Rattle.f11_files.specs.Answers.{Meanwhile, blocks_of}
use Rattle.f11_files.specs.Finding.Blocks.{FindsBlock, StoresBlock, FailsToStore, block_work}
use Rattle.f11_image_store.specs.StoreOf.{store_of}
use Rattle.f11_files.specs.Structure.{home_of, store_on, IsStructureOf, IsStructureFor, StaysFor}
use Rattle.f11_files.specs.declared.structure.Structure.{Structure}
use Rattle.f11_image_store.proofs.AllocationLemmas.{keeps-same}
use Rattle.f11_writes.specs.Order.{IsOrderlyWrite, WritesInOrder}
use Rattle.f11_writes.proofs.OrderLemmas.{file-orderly}
use Rattle.f11_files.proofs.Confining.InOrder.{block-failed-order, block-order}
use Rattle.f11_files.proofs.Confining.Parts.{at-in}
use Rattle.f11_files.proofs.AnswerLemmas.{right-fault}
use Rattle.f11_image_store.proofs.StoreLemmas.{block-stored}
use Rattle.f11_files.proofs.WriteLemmas.{breaks-off, keeps-volume, failed-stays, served-stays, writes-behind}

-- a block of a file is among its blocks
pub in-blocks : (home : HomeFields) (f : FileId) (image : Image) (vbn lbn : ℕ) → is_missing (store_of image home) f ≡ false
    → block_by_vbn (table_of image home) f.number vbn ≡ Some lbn → is_in (blocks_of home f image) lbn ≡ true
in-blocks home f image vbn lbn there at =
    ap (λ (b : Bool). is_in (cond b [] (file_blocks (table_of image home) f.number)) lbn) there
    ∙ at-in (file_blocks (table_of image home) f.number) (vbn - 1) lbn at

-- the block was found, and is written there
module _ (s : Structure) (f : FileId) (vbn lbn : ℕ) (block : List ℕ) (old now : Disk) (for : IsStructureFor s old) (own : 4 ≤ f.number)
    (finds : FindsBlock (home_of s) f vbn lbn old now) where
  abbrev written : Image
  written = set now.image lbn block

  abbrev P : Image → Type 0
  P = Meanwhile (block_work f vbn block) (home_of s) old

  same : now.image ≡ old.image
  same = finds.reads.looked.image

  writes : IsTrue old.honest → WritesBlock f.number vbn block (home_of s) old.image written
  writes honest = subst (λ (i : Image). WritesBlock f.number vbn block (home_of s) old.image (set i lbn block)) (sym same)
      (file-keeps old.image (home_of s) (for.sound honest) lbn block f.number vbn (finds.file honest) own (finds.block_is honest))

  makes : IsTrue old.honest → store_of written (home_of s) ≡ with_change (store_on s old) f.number (with_block vbn block)
  makes honest = block-stored old.image written (home_of s) f.number vbn block own (writes honest)

  keeps : IsTrue old.honest → KeepsBlocks (volume_of old.image (home_of s)) (volume_of written (home_of s))
  keeps honest = keeps-same (volume_of old.image (home_of s)) (volume_of written (home_of s)) (writes honest).keeps.volume

  moment : P written
  moment honest = record {
    sound = (writes honest).keeps.sound;
    lags = subst (λ t. LagsBy (block_work f vbn block) t (store_on s old)) (sym (makes honest))
        (change_lags (store_on s old) f.number (with_block vbn block));
  }

  -- the write is in order
  orderly : IsTrue old.honest → IsOrderlyWrite (home_of s) old.image written
  orderly honest = subst (λ (i : Image). IsOrderlyWrite (home_of s) old.image (set i lbn block)) (sym same)
      (file-orderly old.image (home_of s) (for.sound honest) f.number vbn lbn block (finds.file honest) own (finds.block_is honest))

  module _ (new : Disk) where
    pub stored-order : new ≡ with_transfer true (with_block_at lbn block now) → WritesInOrder now new
    stored-order = block-order (home_of s) old now finds.reads.looked for.sound lbn block orderly new

    pub unstored-order : (new ≡ with_transfer false now) ⊎ (new ≡ with_transfer false (with_block_at lbn block now)) → WritesInOrder now new
    unstored-order = block-failed-order (home_of s) old now finds.reads.looked for.sound lbn block orderly new

    pub stores-block : new ≡ with_transfer true (with_block_at lbn block now) → StoresBlock (home_of s) f vbn block old new
    stores-block is = record {
      no_cause = finds.no_cause;
      makes = λ honest. ap (λ (d : Disk). store_of d.image (home_of s)) is ∙ makes honest;
      allots = λ honest. subst (λ (d : Disk). KeepsBlocks (volume_of old.image (home_of s)) (volume_of d.image (home_of s))) (sym is)
          (keeps honest);
      writes = writes-behind finds.reads (went_write P now new lbn block is moment);
    }

    -- no header is another
    pub stored-table : new ≡ with_transfer true (with_block_at lbn block now) → IsTrue old.honest
        → table_of new.image (home_of s) ≡ table_of old.image (home_of s)
    unfolding volume_of
    stored-table is honest =
        ap (λ (d : Disk). table_of d.image (home_of s)) is ∙ ap (λ (v : Volume). v.table) (writes honest).keeps.volume

    pub stored-stays : new ≡ with_transfer true (with_block_at lbn block now) → StaysFor false s s new
    stored-stays is = served-stays s (block_work f vbn block) old new false for (stores-block is).writes.went
        (λ honest. subst (IsStructureOf s) (ap (λ (d : Disk). d.image) (sym is))
        (keeps-volume s old.image written (writes honest).keeps (for.keeps honest)))

    pub fails-store : (new ≡ with_transfer false now) ⊎ (new ≡ with_transfer false (with_block_at lbn block now))
        → FailsToStore false (home_of s) f vbn block DeviceFault old new
    fails-store is =
        breaks-off finds.no_cause refl (right-fault _ _) (writes-behind finds.reads (went_failed_write P now new lbn block is moment))

    pub fails-stays : (new ≡ with_transfer false now) ⊎ (new ≡ with_transfer false (with_block_at lbn block now)) → StaysFor true s s new
    fails-stays is = failed-stays s s _ old new for refl (fails-store is).writes.went
