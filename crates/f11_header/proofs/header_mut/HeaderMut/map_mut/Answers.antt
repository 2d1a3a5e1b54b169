use Rattle.std.proofs.Common.{◌-◌, ◌*◌, ◌∙◌, refl}
use Rattle.std.specs.Prelude.{slice_range}
use Rattle.f11_store.specs.bytes.Part.{with_bytes}
use Rattle.f11_header.specs.Lending.{over}
use Rattle.f11_header.proofs.header_mut.HeaderMut.map_mut.Goals as goal

pub returns : goal.returns
returns c =
    let header = c.args.self.now in
    let block = header.block.now in
    let offset = c.from-map.ensures in (
      (refl, λ w. λ i. over header (with_bytes block (2 * offset i) w)),
      record {
        writes_back = tt;
        area = c.bytes_mut.ensures.bytes.0 ∙ (λ i. slice_range block (2 * offset i) 510);
        len = c.bytes_mut.ensures.bytes.1 ∙ (λ i. 510 - 2 * offset i);
      },
    )
