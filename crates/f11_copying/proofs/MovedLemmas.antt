-- Which files were copied.
use Rattle.std.proofs.Common.{◌≡◌, inl, inr, ℕ, ◌==◌, List, None, replicate, get_or, ap, ◌∙◌, arith}
use Rattle.std.proofs.lemmas.Bool.{cases_lt}
use Rattle.std.proofs.lemmas.List.{get_or-replicate, get_or_past, length-replicate}
use Rattle.f11_store.specs.Store.{no_id}
use Rattle.f11_store.specs.declared.files.FileId.{FileId}
use Rattle.f11_copying.specs.Moved.{file_if}

-- none is at first
no-copy : (n : ℕ) → get_or (replicate 65536 no_id) n no_id ≡ no_id
no-copy n = elim (cases_lt n 65536) [
  | inl within ↦ get_or-replicate 65536 n no_id no_id within
  | inr past ↦ get_or_past (replicate 65536 no_id) n no_id (let long = length-replicate 65536 no_id in omega (arith, long, past))
]

pub none-copied : (ids : List FileId) → ids ≡ replicate 65536 no_id → (n : ℕ)
    → file_if ((get_or ids n no_id).number == 0) (get_or ids n no_id) ≡ None
none-copied ids is n = ap (λ (id : FileId). file_if (id.number == 0) id) (ap (λ (xs : List FileId). get_or xs n no_id) is ∙ no-copy n)
