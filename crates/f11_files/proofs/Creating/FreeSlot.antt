-- The least free slot, whose block was read: the sequence number that it is given next, and the image with a header there.
use Rattle.std.proofs.Common.{◌≡◌, ◌≤◌, ℕ, true, false, IsTrue, List, Some, ap, sym, subst, ◌∙◌, arith}
use Rattle.std.specs.List.{slice_get}
use Rattle.std.proofs.Math.ListN.{set}
use Rattle.f11_dev.specs.Disk.{Disk, with_transfer}
use Rattle.f11_header.specs.Fields.{file_sequence}
use Rattle.f11_index.specs.Growth.{with_header}
use Rattle.f11_index.specs.IndexFile.{Index, index_of, header_lbn}
use Rattle.f11_index.specs.Slots.{IsLeastFree}
use Rattle.f11_index.specs.Table.{Table, table_in, table_of, last_sequence}
use Rattle.f11_chain.proofs.StepLemmas.{table-header}
use Rattle.f11_store.specs.Changes.{next_sequence}
use Rattle.f11_image_store.specs.StoreOf.{store_of}
use Rattle.f11_files.specs.Structure.{index_in, home_of, store_on, IsStructureFor}
use Rattle.f11_files.specs.declared.structure.Structure.{Structure}
use Rattle.f11_files.proofs.Finding.First.{table-of}
use Rattle.f11_image_store.proofs.InstanceLemmas.{last-at}

-- This is the slot's place and its next sequence number.
pub record IsReadAt (s : Structure) (n place sequence : ℕ) (old mid : Disk) : Type 0 where
  pub least : IsLeastFree (index_of old.image (home_of s)) n
  pub within : n ≤ (table_of old.image (home_of s)).slots
  pub unused : (table_of old.image (home_of s)).in_use n ≡ false
  pub free : (store_on s old).in_use n ≡ false
  pub next : sequence ≡ next_sequence (last_sequence (table_of old.image (home_of s)) n)
  pub given : sequence ≡ next_sequence ((store_on s old).last n)
  pub written : (block : List ℕ) → set mid.image place block ≡ with_header old.image (home_of s) n block

pub read-at : (s : Structure) (n place : ℕ) (was : List ℕ) (sequence : ℕ) (old mid : Disk) → IsStructureFor s old
    → IsLeastFree (index_in s) n → place ≡ header_lbn (index_in s) n
    → mid ≡ with_transfer true old → (IsTrue old.honest → slice_get old.image place ≡ Some was)
    → sequence ≡ next_sequence (file_sequence was) → IsTrue old.honest → IsReadAt s n place sequence old mid
unfolding store_of table_in
read-at s n place was sequence old mid for is_least at counts gives next honest =
    let least : IsLeastFree (index_of old.image (home_of s)) n = subst (λ (x : Index). IsLeastFree x n) (for.keeps honest).index_is is_least
    in
    let given : sequence ≡ next_sequence (last_sequence (table_of old.image (home_of s)) n) =
    next ∙ ap (λ (b : List ℕ). next_sequence (file_sequence b)) (table-header (index_in s) old n place was at (gives honest))
    ∙ ap (λ (t : Table). next_sequence (last_sequence t n)) (table-of s old for honest) in
    record {
      least = least;
      within = least.high;
      unused = least.unused;
      free = least.unused;
      next = given;
      given = given ∙ ap next_sequence (sym (last-at (table_of old.image (home_of s)) n (omega (arith, least.low)) least.high));
      written = λ block.
          ap (λ (d : Disk). set d.image place block) counts
          ∙ ap (λ (l : ℕ). set old.image l block) (at ∙ ap (λ (x : Index). header_lbn x n) (for.keeps honest).index_is);
    }
