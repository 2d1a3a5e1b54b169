-- A file's first header that is in hand, read before, or isn't.
use Rattle.std.proofs.Common.{◌≡◌, ℕ, false, List, inl, inr, refl, sym, subst, arith}
use Rattle.f11_chain.specs.Calls.{HoldsHeader}
use Rattle.f11_dev.specs.Disk.{Disk}
use Rattle.f11_dev.proofs.LookedLemmas.{looked_none, looked_within}
use Rattle.f11_store.specs.declared.files.FileId.{FileId}
use Rattle.f11_store.specs.declared.refusals.Refusal.{Refusal}
use Rattle.f11_files.specs.Answers.{FailsToRead}
use Rattle.f11_files.specs.Finding.First.{IsFirstHeaderOf, IsOther}
use Rattle.f11_files.specs.Operations.{file_causes}
use Rattle.f11_files.specs.Structure.{index_in, store_on, IsStructureFor}
use Rattle.f11_files.specs.declared.structure.Structure.{Structure}
use Rattle.f11_files.proofs.AnswerLemmas.{right-cause, reads-looked}
use Rattle.f11_files.proofs.Finding.Named.{missing-first}

-- the header of its number isn't the first one of the file
pub held-refused : (s : Structure) (f : FileId) (n : ℕ) (block : List ℕ) (disk : Disk) → IsStructureFor s disk
    → HoldsHeader (index_in s) n block disk → n ≡ f.number → (r : Refusal) → IsOther f block r
    → FailsToRead false (file_causes (store_on s disk) f) 1 r disk disk
held-refused s f n block disk for holds same r other = go other
  where
    Fails : Refusal → Type 0
    Fails = λ r. FailsToRead false (file_causes (store_on s disk) f) 1 r disk disk

    here : HoldsHeader (index_in s) f.number block disk
    here = subst (λ (m : ℕ). HoldsHeader (index_in s) m block disk) same holds

    go : IsOther f block r → Fails r
    go (inl none) = subst Fails (sym none.0) record {
      right = right-cause _ _ _ (λ is. omega (arith, is)) (λ is. omega (arith, is)) refl
          (λ honest. missing-first s f disk for honest
          (λ is. none.1 (subst (IsFirstHeaderOf f) (sym (here.block_is honest)) record {
            valid = is.file.live.valid;
            first = is.file.first;
            sequence = is.sequence;
          })));
      reads = reads-looked (looked_within (looked_none disk) (omega arith));
    }
    go (inr bad) = absurd (bad.2 here.valid)
