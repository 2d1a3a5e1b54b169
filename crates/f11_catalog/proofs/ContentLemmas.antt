-- What stands under an identification.
use Rattle.std.proofs.Common.{◌≡◌, ◌⊎◌, ℕ, ◌<◌, ◌≤◌, true, IsTrue, List, Some, refl, subst, ◌∙◌, inl, inr, arith}
use Rattle.std.specs.List.{slice_get}
use Rattle.f11_chain.proofs.StepLemmas.{table-header}
use Rattle.f11_chain.specs.Calls.{table}
use Rattle.f11_dev.proofs.LookedLemmas.{looked_none, looked_read, looked_within}
use Rattle.f11_dev.specs.Disk.{Disk, with_transfer}
use Rattle.f11_dev.specs.Image.{Image}
use Rattle.f11_header.specs.Header.{IsDead, IsHeader}
use Rattle.f11_index.specs.IndexFile.{Index, header_lbn, slots}
use Rattle.f11_index.specs.Table.{table_in}
use Rattle.f11_reader.specs.Reading.{FindsNone, OpensFile}
use Rattle.f11_reader.specs.declared.file.FileReader.{FileReader}
use Rattle.f11_store.specs.declared.files.FileId.{FileId}
use Rattle.f11_volume.specs.Notes.{IsIdOf}
use Rattle.f11_catalog.specs.Contents.{Holds, HoldsElse, IsMissingAs, TellsAbsence}
use Rattle.f11_catalog.specs.declared.walk.content.Absence.{Absence}
use Rattle.f11_catalog.specs.declared.walk.content.Absence.TheVariants.{BadHeader, NoFile}
use Rattle.f11_catalog.specs.declared.walk.content.Content.{Content}
use Rattle.f11_catalog.specs.declared.walk.content.Content.TheVariants.{File, Missing, OutOfUse}
use Rattle.f11_catalog.proofs.ListingLemmas.{reads-none, reads-then}

-- as many slots are to come as the index file has
pub slots-are : (index : Index) (disk : Disk) → (table index disk).slots ≡ slots index
unfolding table_in
slots-are index disk = refl

-- Why an identification is that of no file.
module _ (index : Index) (id : FileId) where
  -- there is no such slot
  pub missing-slot : (disk : Disk) → ¬ ((id.volume ≡ 0) × ((0 < id.number) × (id.number ≤ slots index)))
      → TellsAbsence index id NoFile disk disk
  missing-slot disk none = record {
    why = λ honest bad. none (bad.0, (bad.1.some, let all = slots-are index disk in omega (arith, all, bad.1.slot)));
    looked = looked_within (looked_none disk) (omega arith);
  }

  -- its header was read
  module _ (slot : (id.volume ≡ 0) × ((0 < id.number) × (id.number ≤ slots index))) (lbn : ℕ) (block : List ℕ) (old new : Disk)
      (at : lbn ≡ header_lbn index id.number) (counts : new ≡ with_transfer true old)
      (gives : IsTrue old.honest → slice_get old.image lbn ≡ Some block) where
    block-is : IsTrue old.honest → block ≡ (table index old).header id.number
    block-is honest = table-header index old id.number lbn block at (gives honest)

    pub missing-bad : ¬ IsDead block × ¬ IsHeader block id.number → TellsAbsence index id BadHeader old new
    missing-bad bad = record {
      why = λ honest. (
        slot.0,
        record {
          some = slot.1.0;
          slot = let all = slots-are index old in omega (arith, all, slot.1.1);
          alive = subst (λ (b : List ℕ). ¬ IsDead b) (block-is honest) bad.0;
          invalid = subst (λ (b : List ℕ). ¬ IsHeader b id.number) (block-is honest) bad.1;
        },
      );
      looked = looked_read old new counts;
    }

    pub missing-file : IsDead block ⊎ IsHeader block id.number → TellsAbsence index id NoFile old new
    missing-file good = record {
      why = λ honest bad. elim good [
        | inl dead ↦ bad.1.alive (subst (λ (b : List ℕ). IsDead b) (block-is honest) dead)
        | inr valid ↦ bad.1.invalid (subst (λ (b : List ℕ). IsHeader b id.number) (block-is honest) valid)
      ];
      looked = looked_read old new counts;
    }

module _ (index wide : Index) (id : FileId) where
  -- no file has it, whatever its slot's bit
  pub missing-else : (absence : Absence) (old mid new : Disk) → FindsNone wide id old mid → TellsAbsence index id absence mid new
      → HoldsElse index wide id (Missing absence) old new
  missing-else absence old mid new none tells = (
    none.none,
    (
      λ honest.
          subst (λ (i : Image). IsMissingAs (table_in i index) id absence) none.looked.image (tells.why (none.looked.honest ∙ honest)),
      reads-then (_, none.looked) (_, tells.looked),
    ),
  )

  -- a file whose slot is in use was found
  pub holds-file : (file : FileReader) (old new : Disk) → OpensFile index id file old new → Holds index wide id (File file) old new
  holds-file file old new opens = record { mid = old; before = reads-none old; opens = opens }

  -- or none was
  pub holds-else : (content : Content) (old mid new : Disk) → FindsNone index id old mid → HoldsElse index wide id content mid new
      → Holds index wide id content old new
  holds-else (File file) old mid new none holds = absurd holds
  holds-else (OutOfUse file) old mid new none opens =
      record { none = none.none; opens = record { mid = mid; before = (_, none.looked); opens = opens } }
  holds-else (Missing absence) old mid new none lacks = record {
    none = none.none;
    none_else = λ honest.
        subst (λ (i : Image). (n : ℕ) → ¬ IsIdOf (table_in i wide) id n) none.looked.image (lacks.0 (none.looked.honest ∙ honest));
    why = λ honest. subst (λ (i : Image). IsMissingAs (table_in i index) id absence) none.looked.image
        (lacks.1.0 (none.looked.honest ∙ honest));
    reads = reads-then (_, none.looked) lacks.1.1;
  }
