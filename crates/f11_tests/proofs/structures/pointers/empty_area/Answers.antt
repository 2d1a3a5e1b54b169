use Rattle.std.proofs.Common.{List, ℕ, subst, refl, sym, ap, ◌∙◌, arith}
use Rattle.std.specs.Prelude.{slice_range}
use Rattle.f11_bytes.specs.Block.{zero_block}
use Rattle.f11_store.specs.declared.callers.Uic.{Uic}
use Rattle.f11_store.specs.declared.files.FileId.{FileId}
use Rattle.f11_header.specs.Writing.{blank_header}
use Rattle.f11_header.specs.MapFields.{IsMapArea, holds_pointers}
use Rattle.f11_tests.proofs.structures.pointers.empty_area.Goals as goal

-- the map area of an empty header
IsMapArea-blank_header : (id : FileId) (owner : Uic) (protection segment : ℕ)
    → IsMapArea (slice_range (blank_header id owner protection segment) 92 510)
unfolding zero_block holds_pointers
IsMapArea-blank_header id owner protection segment = record { in_block = omega arith; fields = omega arith; pointers = refl }

pub returns : goal.returns
returns c =
    subst IsMapArea (sym (c.copy_from_slice.ensures.after ∙ ap (λ (b : List ℕ). slice_range b 92 510) c.blank.ensures.block))
    (IsMapArea-blank_header c.file.result (record { group = 1; member = 1 }) 0 0)
