use Rattle.std.proofs.Common.{◌≡◌, ◌+◌, ◌*◌, ◌≤◌, ◌∙◌, length, refl, sym, ap, arith}
use Rattle.std.specs.Prelude.{slice_range}
use Rattle.f11_store.specs.bytes.Part.{with_bytes}
use Rattle.f11_store.proofs.bytes.PartLemmas.{slice_range-within}
use Rattle.f11_header.specs.Fields.{ident_offset, ident_end}
use Rattle.f11_header.specs.Lending.{over}
use Rattle.f11_header.proofs.FieldLemmas.{keeps-with_ident, ident_end-first}
use Rattle.f11_header.proofs.header_mut.HeaderMut.ident_mut.Goals as goal

pub returns : goal.returns
returns c =
    let header = c.args.self.now in
    let block = header.block.now in
    let offset = c.from-ident.ensures in
    let words : ident_end block ≡ ident_offset block + 23 = ident_end-first block c.requires.first in
    let end : 2 * ident_offset block + 46 ≡ 2 * ident_end block = omega (arith, words) in
    let from = 2 * c.from-ident.result in
    let last = slice_range-within block from (from + 46) (omega arith)
    (sym (ap length c.bytes_mut.ensures.bytes.0) ∙ c.bytes_mut.ensures.bytes.1) in
    let within : 2 * ident_offset block + 46 ≤ length block = omega (arith, offset, last) in (
      (refl, λ w. λ i. over header (with_bytes block (2 * offset i) w)),
      record {
        writes_back = tt;
        area = c.bytes_mut.ensures.bytes.0 ∙ (λ i. slice_range block (2 * offset i) (2 * offset i + 46))
            ∙ ap (slice_range block (2 * ident_offset block)) end;
        len = omega (arith, c.bytes_mut.ensures.bytes.1);
        header = λ ident size holds. (keeps-with_ident block ident within c.requires.first size holds).1;
      },
    )
