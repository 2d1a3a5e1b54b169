-- A file's first header that is read, changed and written.
use Rattle.std.proofs.Common.{◌≡◌, ◌⊎◌, ◌≤◌, ℕ, true, false, IsTrue, List, refl, sym, ap, subst, ◌∙◌}
use Rattle.std.proofs.Math.ListN.{set}
use Rattle.f11_dev.specs.Disk.{Disk, with_transfer, with_block_at}
use Rattle.f11_dev.specs.Image.{Image}
use Rattle.f11_dev.proofs.WentLemmas.{went_write, went_failed_write}
use Rattle.f11_index.specs.Growth.{with_header}
use Rattle.f11_index.specs.IndexFile.{Index, header_lbn}
use Rattle.f11_index.specs.Table.{Table, table_of, IsFile}
use Rattle.f11_store.specs.File.{File}
use Rattle.f11_store.specs.Lags.{Work, LagsBy, one_part, file_changes}
use Rattle.f11_store.specs.Store.{Store}
use Rattle.f11_store.specs.declared.files.FileId.{FileId}
use Rattle.f11_store.specs.declared.refusals.Refusal.TheVariants.{DeviceFault}
use Rattle.f11_store.proofs.LagLaws.{change_lags}
use Rattle.f11_volume.specs.Volume.{volume_of}
use Rattle.f11_writes.specs.Kept.{WritesHeader}
use Rattle.f11_image_store.specs.Allocation.{KeepsBlocks}
use Rattle.f11_files.specs.Answers.{Meanwhile}
use Rattle.f11_image_store.specs.FieldLaws.{SaysBut, ChangesFile}
use Rattle.f11_files.specs.Changing.Fields.{Alters, FailsToAlter}
use Rattle.f11_files.specs.Finding.First.{FindsFile}
use Rattle.f11_image_store.specs.StoreOf.{store_of}
use Rattle.f11_files.specs.Structure.{index_in, home_of, store_on, IsStructureOf, IsStructureFor, StaysFor}
use Rattle.f11_files.specs.declared.structure.Structure.{Structure}
use Rattle.f11_writes.specs.Order.{IsOrderlyWrite, WritesInOrder}
use Rattle.f11_files.proofs.Confining.InOrder.{field-orderly, header-failed-order, header-order}
use Rattle.f11_files.proofs.AnswerLemmas.{right-fault, reads-looked}
use Rattle.f11_image_store.proofs.FieldLemmas.{changes-file, field-keeps}
use Rattle.f11_files.proofs.Finding.First.{table-of}
use Rattle.f11_files.proofs.Finding.Named.{is-file, block-is, no-file-cause}
use Rattle.f11_files.proofs.WriteLemmas.{keeps-storage, breaks-off, failed-stays, served-stays, writes-behind}

-- where a header was written, what is kept stays
pub keeps-header : (s : Structure) (n : ℕ) (block : List ℕ) (old new : Image) → WritesHeader n block (home_of s) old new
    → IsStructureOf s old → IsStructureOf s new
keeps-header s n block old new wrote keeps = record {
  index_is = keeps.index_is ∙ sym wrote.index_file.index;
  bitmap_is = keeps.bitmap_is ∙ sym wrote.slot.bitmap;
  storage = keeps-storage s old new wrote.slot.bitmap_blocks keeps;
}

-- the header was read, and is written with the change
module _ (s : Structure) (f : FileId) (change : File → File) (was block : List ℕ) (old now : Disk) (lbn : ℕ) (for : IsStructureFor s old)
    (own : 4 ≤ f.number) (finds : FindsFile (index_in s) f was old now)
    (says : SaysBut change was block) (at : lbn ≡ header_lbn (index_in s) f.number) where
  abbrev work : Work
  work = one_part f.number (file_changes f.number change)

  abbrev written : Image
  written = set now.image lbn block

  abbrev P : Image → Type 0
  P = Meanwhile work (home_of s) old

  pub is-written : IsTrue old.honest → written ≡ with_header old.image (home_of s) f.number block
  is-written honest = ap (λ (i : Image). set i lbn block) finds.looked.image
      ∙ ap (λ (l : ℕ). set old.image l block) (at ∙ ap (λ (x : Index). header_lbn x f.number) (for.keeps honest).index_is)

  pub file-here : IsTrue old.honest → IsFile (table_of old.image (home_of s)) f.number
  file-here honest = subst (λ (t : Table). IsFile t f.number) (table-of s old for honest) (is-file s f was old for finds.holds honest).file

  pub says-here : IsTrue old.honest → SaysBut change ((table_of old.image (home_of s)).header f.number) block
  says-here honest = subst (λ (b : List ℕ). SaysBut change b block) (block-is s f was old for finds.holds honest) says

  pub changes : IsTrue old.honest → ChangesFile f.number block change (home_of s) old.image written
  changes honest =
      subst (ChangesFile f.number block change (home_of s) old.image) (sym (is-written honest))
      (changes-file old.image (home_of s) f.number block change (for.sound honest) own (file-here honest) (says-here honest))

  -- and the header names what it named
  keeps : IsTrue old.honest → KeepsBlocks (volume_of old.image (home_of s)) (volume_of written (home_of s))
  keeps honest =
      subst (λ (i : Image). KeepsBlocks (volume_of old.image (home_of s)) (volume_of i (home_of s))) (sym (is-written honest))
      (field-keeps old.image (home_of s) f.number block change (for.sound honest) (file-here honest) (says-here honest)
      (subst (λ (i : Image). WritesHeader f.number block (home_of s) old.image i) (is-written honest) (changes honest).header))

  moment : P written
  moment honest = record {
    sound = (changes honest).header.slot.sound;
    lags = subst (λ (t : Store). LagsBy work t (store_on s old)) (sym (changes honest).store)
        (change_lags (store_on s old) f.number change);
  }

  -- the write is in order
  orderly : IsTrue old.honest → IsOrderlyWrite (home_of s) old.image (with_header old.image (home_of s) f.number block)
  orderly honest =
      field-orderly old.image (home_of s) f.number block change (for.sound honest) (file-here honest) (says-here honest)
      (subst (λ (i : Image). WritesHeader f.number block (home_of s) old.image i) (is-written honest) (changes honest).header)

  module _ (new : Disk) where
    pub altered-order : new ≡ with_transfer true (with_block_at lbn block now) → WritesInOrder now new
    altered-order = header-order s f.number lbn block old now finds.looked for at orderly new

    pub unaltered-order : (new ≡ with_transfer false now) ⊎ (new ≡ with_transfer false (with_block_at lbn block now))
        → WritesInOrder now new
    unaltered-order = header-failed-order s f.number lbn block old now finds.looked for at orderly new

    pub alters : new ≡ with_transfer true (with_block_at lbn block now) → Alters change (home_of s) f old new
    alters is = record {
      no_cause = λ honest. no-file-cause s f was old for finds.holds honest;
      makes = λ honest. ap (λ (d : Disk). store_of d.image (home_of s)) is ∙ (changes honest).store;
      allots = λ honest. subst (λ (d : Disk). KeepsBlocks (volume_of old.image (home_of s)) (volume_of d.image (home_of s))) (sym is)
          (keeps honest);
      writes = writes-behind (reads-looked finds.looked) (went_write P now new lbn block is moment);
    }

    pub altered-stays : new ≡ with_transfer true (with_block_at lbn block now) → StaysFor false s s new
    altered-stays is = served-stays s work old new false for (alters is).writes.went
        (λ honest. subst (IsStructureOf s) (ap (λ (d : Disk). d.image) (sym is))
        (keeps-header s f.number block old.image written (changes honest).header (for.keeps honest)))

    pub fails-alter : (new ≡ with_transfer false now) ⊎ (new ≡ with_transfer false (with_block_at lbn block now))
        → FailsToAlter false change (home_of s) f DeviceFault old new
    fails-alter is =
        breaks-off (λ honest. no-file-cause s f was old for finds.holds honest) refl (right-fault _ _)
        (writes-behind (reads-looked finds.looked) (went_failed_write P now new lbn block is moment))

    pub fails-altered : (new ≡ with_transfer false now) ⊎ (new ≡ with_transfer false (with_block_at lbn block now)) → StaysFor true s s new
    fails-altered is = failed-stays s s _ old new for refl (fails-alter is).writes.went
