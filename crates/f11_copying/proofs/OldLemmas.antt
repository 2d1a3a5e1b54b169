-- A file of a volume that is copied gives its blocks.
use Rattle.std.proofs.Common.{◌≡◌, ℕ, suc, ◌+◌, ◌*◌, ◌≤◌, ◌||◌, Bool, true, false, not, nat_lt, if◌then◌else◌, IsTrue, List, [], ◌∷◌}
use Rattle.std.specs.Prelude.{min, take}
use Rattle.std.proofs.Common.{length, Option, Some, None, refl, sym, ap, subst, ◌∙◌, arith}
use Rattle.std.proofs.lemmas.Bool.{ltb-false}
use Rattle.std.proofs.Math.Nat.{min-eq_left}
use Rattle.std.proofs.Math.Seq.{take-append_seam}
use Rattle.f11_chain.specs.Calls.{table}
use Rattle.f11_dev.specs.Disk.{Disk}
use Rattle.f11_dev.specs.Image.{Image}
use Rattle.f11_dev.specs.Looked.{Looked}
use Rattle.f11_dev.specs.declared.device.Device.{Ghosts}
use Rattle.f11_dev.proofs.LookedLemmas.{looked_more, looked_within}
use Rattle.f11_index.specs.IndexFile.{Index}
use Rattle.f11_index.specs.Kept.{index_kept}
use Rattle.f11_index.specs.Table.{Table, table_in}
use Rattle.f11_index.specs.declared.index_file.IndexFile.{IndexFile}
use Rattle.f11_reader.specs.Missing.{FindsMissing, TellsWhole, blocks_there, last_to_come, links_to_none, missing_of}
use Rattle.f11_reader.specs.Reading.{CountsBlocks, blocks_to_come, contents_to_come, header_in_hand, headers_left}
use Rattle.f11_reader.specs.declared.file.FileReader.{FileReader}
use Rattle.f11_copying.specs.Made.{HasMadeCopy, IsGiven}
use Rattle.f11_copying.specs.OldFile.{GivesItsBlocks, GivesOld, OldFileGives, OldFileIsCopied, behind_file, index_in, old_blocks}
use Rattle.f11_copying.specs.OldFile.{old_told, reader_in}
use Rattle.f11_copying.specs.OldHeader.{file_told, there_of}
use Rattle.f11_copying.specs.declared.old_file.OldFile.{OldFile}
use Rattle.f11_copying.proofs.MadeLemmas.{made-is-made-of}

module _ {D : Type 0} {met : Ghosts D} (disk : D → Disk) where
  -- a disk of the same image has the same blocks to come
  same-to-come : (d e : Disk) (f g : IndexFile) (old : OldFile D met) → e.image ≡ d.image → g ≡ f
      → contents_to_come (index_kept g) e (reader_in old) ≡ contents_to_come (index_kept f) d (reader_in old)
  same-to-come d e f g old image index =
      ap (λ (i : IndexFile). contents_to_come (index_kept i) e (reader_in old)) index
      ∙ ap (λ (i : Image). contents_to_come (index_kept f) (record d { image = i }) (reader_in old)) image

  gives-blocks : (blocks : List (List ℕ)) (old new : OldFile D met) → IsGiven (GivesOld disk) blocks old new
      → IsTrue (disk (behind_file old)).honest → GivesItsBlocks disk blocks old new
  gives-blocks [] old new h honest = record {
    are = ap (old_blocks disk) (sym h);
    image = ap (λ (f : OldFile D met). (disk (behind_file f)).image) h;
    honest = ap (λ (f : OldFile D met). (disk (behind_file f)).honest) h;
  }
  gives-blocks (block ∷ more) old new h honest =
      let m : OldFile D met = h.0 in
      let looked = h.1.reads.looked in
      let rest = gives-blocks more m new h.2 (subst IsTrue (sym looked.honest) honest) in
      record {
        are = h.1.reads.next honest
            ∙ ap (λ l. block ∷ l) (sym
            (same-to-come (disk (behind_file old)) (disk (behind_file m)) (index_in old) (index_in m) m looked.image
            h.1.index_is) ∙ rest.are);
        image = rest.image ∙ looked.image;
        honest = rest.honest ∙ looked.honest;
      }

pub old-file-gives : {D : Type 0} {met : Ghosts D} (disk : D → Disk) (old : OldFile D met) → OldFileGives disk old
old-file-gives disk old blocks new h honest = gives-blocks disk blocks old new h honest

blocks-few : (size : ℕ) (lbns : List ℕ) → blocks_there size lbns ≤ length lbns
blocks-few size [] = omega arith
blocks-few size (lbn ∷ lbns) = by (blocks-few size lbns) (nat_lt lbn size)
  where
    by : blocks_there size lbns ≤ length lbns → (b : Bool) → (if b then suc (blocks_there size lbns) else 0) ≤ length (lbn ∷ lbns)
    by few true = omega (arith, few)
    by few false = omega arith

-- so many are there where that was found of all of them
there-are : (size : ℕ) (lbns : List ℕ) → there_of (length lbns) (missing_of size (length lbns) lbns) ≡ blocks_there size lbns
there-are size lbns = by (nat_lt there count) refl
  where
    there : ℕ
    there = blocks_there size lbns

    count : ℕ
    count = length lbns

    by : (b : Bool) → nat_lt there count ≡ b → there_of count (if b then Some (there + 1) else None) ≡ there
    by true is = ap (λ n. min n count) (omega arith) ∙ min-eq_left (blocks-few size lbns)
    by false is = omega (arith, ltb-false there count is, blocks-few size lbns)

-- what was found of the blocks says what is to be made
pub told-is : (t : Table) (size : ℕ) (file : FileReader) (count : ℕ) (missing : Option ℕ) (whole : Bool)
    → count ≡ length (blocks_to_come t file) → missing ≡ missing_of size count (blocks_to_come t file)
    → whole ≡ links_to_none (t.header (last_to_come t file))
    → file_told (header_in_hand file) (there_of count missing) (not whole || nat_lt (there_of count missing) count) ≡ old_told t size file
told-is t size file count missing whole many some all =
    let lbns : List ℕ = blocks_to_come t file in
    let there : there_of count missing ≡ blocks_there size lbns =
    ap (there_of count) some ∙ ap (λ n. there_of n (missing_of size n lbns)) many ∙ there-are size lbns in
    ap (λ n. file_told (header_in_hand file) n (not whole || nat_lt n count)) there
    ∙ ap (λ n. file_told (header_in_hand file) (blocks_there size lbns) (not whole || nat_lt (blocks_there size lbns) n)) many
    ∙ ap (λ b. file_told (header_in_hand file) (blocks_there size lbns) (not b || nat_lt (blocks_there size lbns) (length lbns))) all

-- found by three looks at a disk, each of which leaves it as it is
module _ (index : Index) (file : FileReader) (size count : ℕ) (missing : Option ℕ) (whole : Bool) (a b c d : Disk)
    (counts : CountsBlocks index file count a b) (finds : FindsMissing index file size count missing b c)
    (tells : TellsWhole index file whole c d)
  where
    pub found-old : IsTrue a.honest
        → file_told (header_in_hand file) (there_of count missing) (not whole || nat_lt (there_of count missing) count)
        ≡ old_told (table index a) size file
    found-old honest =
        let honest-b : IsTrue b.honest = subst IsTrue (sym counts.looked.honest) honest in
        let honest-c : IsTrue c.honest = subst IsTrue (sym finds.looked.honest) honest-b in
        let at-b : table index b ≡ table index a = ap (λ (i : Image). table_in i index) counts.looked.image in
        let at-c : table index c ≡ table index a = ap (λ (i : Image). table_in i index) finds.looked.image ∙ at-b in
        told-is (table index a) size file count missing whole (counts.count honest)
        (finds.missing_is honest-b ∙ ap (λ (t : Table). missing_of size count (blocks_to_come t file)) at-b)
        (tells.whole_is honest-c ∙ ap (λ (t : Table). links_to_none (t.header (last_to_come t file))) at-c)

    pub looked-thrice : Looked a d (3 * headers_left file) 0
    looked-thrice =
        looked_within (looked_more counts.looked (looked_more finds.looked tells.looked))
        (omega arith)

pub old-file-is-copied : {D : Type 0} {met : Ghosts D} (disk : D → Disk) (old : OldFile D met) → OldFileIsCopied disk old
old-file-is-copied disk old who file lun dir name id s s' new honest ran used =
    let made = made-is-made-of (GivesOld disk) who file lun dir name id s s' old new ran in
    let gives = gives-blocks disk made.blocks old new made.given honest in
    let are : made.blocks ≡ take file.blocks (old_blocks disk old) =
    sym (ap (λ n. take n (old_blocks disk old)) (sym made.count) ∙ ap (take (length made.blocks)) gives.are
    ∙ take-append_seam made.blocks (old_blocks disk new)) in
    subst (λ l. HasMadeCopy file dir name id l s s') are (made.makes used)
