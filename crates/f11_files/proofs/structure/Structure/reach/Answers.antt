use Rattle.f11_files.proofs.Finding.Reached.{reached-seen}
use Rattle.std.proofs.Common.{ℕ, List, length, refl, ap, arith}
use Rattle.f11_index.specs.Table.{Table}
use Rattle.f11_map.specs.HeaderBlock.{blocks_named, segment_number}
use Rattle.f11_files.proofs.Finding.First.{table-of}
use Rattle.f11_files.proofs.structure.Structure.reach.Goals as goal

pub returns-clause-seen : goal.returns-clause-seen
returns-clause-seen g c =
    reached-seen c.args.self.now c.args.f c.args.vbn c.in_ok-place.place _ _ _ c.requires.is_for (g.met.D.Device.is_image c.args.device.now)
    c.in_ok-place.ensures.reached

pub returns-clause-near : goal.returns-clause-near
returns-clause-near g c =
    let reached = c.in_ok-place.ensures.reached in
    let old = g.D.Device.disk c.args.device.now in
    record {
      seen = _;
      seen_is = refl;
      of = record { file = refl; sequence = refl; before = omega (arith, c.requires.some) };
      names = λ honest.
          let named = ap (λ (b : List ℕ). length (blocks_named b)) (reached.seeks.header.block_is honest) in
          let header = ap (λ (t : Table). length (blocks_named (t.header c.in_ok-place.place.number)))
          (table-of c.args.self.now old c.requires.is_for honest) in
          omega (arith, reached.seeks.left_within, reached.seeks.left_low, c.requires.some, named, header);
      few = λ s is before honest.
          let segment = ap segment_number (reached.seeks.header.block_is honest) in
          let header = ap (λ (t : Table). segment_number (t.header c.in_ok-place.place.number))
          (table-of c.args.self.now old c.requires.is_for honest) in
          omega (arith, c.in_ok-place.ensures.near s is before honest, reached.seeks.segment, segment, header);
    }
