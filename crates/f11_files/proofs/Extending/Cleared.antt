-- A file that is about to grow, or the index file, whose contiguous mark was cleared: its last header is in hand still.
use Rattle.std.proofs.Common.{◌≡◌, ◌≢◌, ◌+◌, ◌*◌, ◌/◌, ◌≤◌, ℕ, Bool, true, false, IsTrue, List, length, refl, sym, ap, subst, ◌∙◌, inl, inr}
use Rattle.std.proofs.Common.{arith}
use Rattle.std.proofs.lemmas.Bool.{cases_eq}
use Rattle.f11_bits.specs.Bitmap.{Bitmap}
use Rattle.f11_dev.specs.Disk.{Disk}
use Rattle.f11_dev.specs.Image.{Image}
use Rattle.f11_home.specs.Home.{HomeFields}
use Rattle.f11_map.specs.HeaderBlock.{segment_number, link_of}
use Rattle.f11_index.specs.Headers.{IsLastOf}
use Rattle.f11_index.specs.Table.{Table, table_of, IsFile, first}
use Rattle.f11_index.proofs.ChainLemmas.{live_of-header}
use Rattle.f11_chain.specs.Calls.{HoldsHeader}
use Rattle.f11_chain.specs.declared.blocks.FileEnd.{FileEnd}
use Rattle.f11_store.specs.Causes.{Cause}
use Rattle.f11_store.specs.File.{need}
use Rattle.f11_store.specs.declared.files.FileId.{FileId}
use Rattle.f11_store.specs.declared.refusals.Refusal.TheVariants.{Damaged}
use Rattle.f11_store.specs.declared.refusals.Refusal.{Refusal}
use Rattle.f11_volume.specs.Space.{storage_bitmap}
use Rattle.f11_files.specs.Answers.{IsRight, is_fatal}
use Rattle.f11_files.specs.Extending.Mark.{ClearsMark}
use Rattle.f11_files.specs.Extending.Runs.{IsTailOf}
use Rattle.f11_files.specs.Extending.Room.{HoldsEnd}
use Rattle.f11_image_store.specs.StoreOf.{store_of}
use Rattle.f11_files.specs.Structure.{index_in, bitmap_in, home_of, store_on, IsStructureFor}
use Rattle.f11_files.specs.Extending.Tail.{HoldsLast, ownership_of}
use Rattle.f11_files.specs.declared.structure.Structure.{Structure}
use Rattle.f11_files.specs.declared.extend.tail.Tail.{Tail}
use Rattle.f11_files.proofs.AnswerLemmas.{fatal-no-cause}
use Rattle.f11_files.proofs.Finding.First.{table-of}
use Rattle.f11_files.proofs.Finding.Named.{block-is, is-file}
use Rattle.f11_image_store.specs.Allocation.{ownership_in}
use Rattle.f11_volume.specs.Volume.{volume_of}

-- the storage bitmap of a store has a block for each 4096 blocks
pub store-bitmap : (image : Image) (home : HomeFields) → (store_of image home).bitmap_blocks ≡ length (storage_bitmap image home).places
unfolding store_of
store-bitmap image home = refl

-- what is reckoned for headers is enough
pub enough : (b x : ℕ) → 8 * (x + 1) ≤ (b + 8) * (x + 1)
enough b x = omega arith

-- no more headers are needed than if there were no room
pub fewer-needed : (room n : ℕ) → need room n ≤ (n + 101) / 102
fewer-needed room n = omega arith

-- a fatal refusal is right whatever the causes
pub fatal-right : (causes : List Cause) (r : Refusal) (honest : Bool) → is_fatal r ≡ true → (IsTrue honest → r ≢ Damaged)
    → IsRight false honest causes r
fatal-right causes r honest fatal undamaged = record {
  volume = λ is. let no : true ≡ false = sym fatal ∙ ap is_fatal is in cc;
  among = λ is. absurd (fatal-no-cause r fatal is);
  cause = λ _ is. absurd (fatal-no-cause r fatal is);
  undamaged = undamaged;
}

-- the storage bitmap has so many blocks
pub covered : (s : Structure) (old : Disk) → IsStructureFor s old → IsTrue old.honest
    → (bitmap_in s).size ≤ 4096 * (store_on s old).bitmap_blocks
covered s old for honest =
    let many = s.storage.valid.covered in
    let count = ap (λ (b : Bitmap). length b.places) (for.keeps honest).bitmap_is in
    let blocks = store-bitmap old.image (home_of s) in
    omega (arith, many, count, blocks)

module _ (s : Structure) (f : FileId) (end : FileEnd) (was last : List ℕ) (old : Disk) (for : IsStructureFor s old)
    (ends : HoldsEnd s f end was last old) where
  abbrev home : HomeFields
  home = home_of s

  abbrev k : ℕ
  k = f.number

  module _ (block : List ℕ) (cleared : Disk) (clears : ClearsMark s f was block old cleared) where
    -- the file's last header is in hand
    module _ (tail : Tail) (of : IsTailOf f block end.number last tail) where
      -- its first header is the last one
      module _ (none : (link_of block).number ≡ 0) where
        first-header : HoldsHeader (index_in s) tail.number tail.block cleared
        first-header = let is = of.alone none in
            subst (λ (m : ℕ). HoldsHeader (index_in s) m tail.block cleared) (sym is.0)
            (subst (λ (b : List ℕ). HoldsHeader (index_in s) k b cleared) (sym is.1) clears.holds.header)

        alone-last : HoldsLast s tail cleared
        alone-last = let is = of.alone none in record {
          header = first-header;
          no_link = ap (λ (b : List ℕ). (link_of b).number) is.1 ∙ none;
          few = let zero = clears.holds.is_first.first in let same = ap (λ (b : List ℕ). segment_number b) is.1 in
              omega (arith, zero, same);
          is_last = λ honest.
              let t : Table = table_of cleared.image home in
              let here : IsLastOf t k k = record {
                of = first (subst (λ (u : Table). IsFile u k) (table-of s cleared clears.is_for honest)
                    (is-file s f block cleared clears.is_for clears.holds honest).file);
                no_link = ap (λ (b : List ℕ). (link_of b).number) (sym (block-is s f block cleared clears.is_for clears.holds honest))
                    ∙ none;
              } in
              subst (λ (g : FileId). IsLastOf t g.number tail.number) (sym of.file_is) (subst (λ (m : ℕ). IsLastOf t k m) (sym is.0) here);
        }

      -- another one is
      module _ (some : (link_of block).number ≢ 0) where
        module _ (honest : IsTrue old.honest) where
          abbrev t : Table
          t = table_of old.image home

          last-there : last ≡ t.header end.number
          last-there = ends.header.block_is honest ∙ ap (λ (u : Table). u.header end.number) (table-of s old for honest)

          last-one : IsLastOf t k end.number
          last-one = subst (λ (u : Table). IsLastOf u k end.number) (table-of s old for honest) (ends.is_last honest)

          apart : end.number ≢ k
          apart same = some (
              ap (λ (l : FileId). l.number) clears.link
              ∙ ap (λ (b : List ℕ). (link_of b).number)
              (block-is s f was old for ends.holds honest ∙ ap t.header (sym same) ∙ sym last-there) ∙ ends.no_link
              )

          header-cleared : (table_of cleared.image home).header end.number ≡ t.header end.number
          header-cleared = (clears.slots honest).header end.number apart (live_of-header last-one.of).in_use

          last-cleared : IsLastOf (table_of cleared.image home) k end.number
          last-cleared = clears.last honest end.number last-one

        was-honest : IsTrue cleared.honest → IsTrue old.honest
        was-honest honest = sym clears.went.honest ∙ honest

        later-header : HoldsHeader (index_in s) end.number last cleared
        later-header = record {
          in_use = ends.header.in_use;
          valid = ends.header.valid;
          block_is = λ honest.
              let before = was-honest honest in
              last-there before ∙ sym (header-cleared before)
              ∙ ap (λ (u : Table). u.header end.number) (sym (table-of s cleared clears.is_for honest));
        }

        other-last : HoldsLast s tail cleared
        other-last = let is = of.other some in record {
          header = subst (λ (m : ℕ). HoldsHeader (index_in s) m tail.block cleared) (sym is.0)
              (subst (λ (b : List ℕ). HoldsHeader (index_in s) end.number b cleared) (sym is.1) later-header);
          no_link = ap (λ (b : List ℕ). (link_of b).number) is.1 ∙ ends.no_link;
          few = let same = ap (λ (b : List ℕ). segment_number b) is.1 in omega (arith, ends.segment, ends.few, same);
          is_last = λ honest.
              let u : Table = table_of cleared.image home in
              subst (λ (g : FileId). IsLastOf u g.number tail.number) (sym of.file_is)
              (subst (λ (m : ℕ). IsLastOf u k m) (sym is.0) (last-cleared (was-honest honest)));
        }

      -- and the file's ownership are those that its first header said
      pub tail-ownership : IsTrue old.honest → ownership_of tail ≡ ownership_in ((volume_of old.image home).table.header k)
      unfolding volume_of
      tail-ownership honest =
          let stays = (clears.gains honest).names.says.first in
          (λ i. (of.owner_is i, of.protection_is i))
          ∙ ap ownership_in (block-is s f block cleared clears.is_for clears.holds (clears.went.honest ∙ honest)) ∙ stays

      pub holds-last : HoldsLast s tail cleared
      holds-last = elim (cases_eq (link_of block).number 0) [ inl none ↦ alone-last none | inr some ↦ other-last some ]
