use Rattle.std.proofs.Common.{◌≤◌, length, arith, refl}
use Rattle.f11_volume.proofs.AcceptedLemmas.{accepted-sound}
use Rattle.f11_volume.proofs.FreshLemmas.{fresh-sound}
use Rattle.f11_vfy.proofs.fresh.init.Goals as goal

pub again-requires : goal.again-requires
again-requires g c = λ honest.
    let image = (g.D.Device.disk c.lay_out.new.device).image in
    let laid = c.in-Ok.ensures.done in
    let room : c.in-Some.layout.blocks ≤ length (g.D.Device.disk c.lay_out.new.device).image =
    omega (arith, laid.volume.keeps.size, c.in-Some.ensures.layout.blocks_are, c.blocks-2.ensures.count) in
    (accepted-sound image (g.met.D.Device.is_image c.lay_out.new.device)).1
    (fresh-sound image c.in-Some.layout (g.met.D.Device.is_image c.lay_out.new.device) room laid.volume.front)

pub returns-in-Ok-clause-made : goal.returns-in-Ok-clause-made
returns-in-Ok-clause-made g c = record {
  can = rw c.blocks-2.ensures.count at (c.in-Some.ensures.some.0 refl);
  layout = c.in-Some.layout;
  layout_is = rw c.blocks-2.ensures.count at c.in-Some.ensures.layout;
  makes = rw c.again.ensures c.in-Ok.ensures.done;
}

pub returns-in-Err-clause-refused : goal.returns-in-Err-clause-refused
returns-in-Err-clause-refused g c = record {
  can = rw c.blocks-2.ensures.count at (c.in-Some.ensures.some.0 refl);
  layout = c.in-Some.layout;
  layout_is = rw c.blocks-2.ensures.count at c.in-Some.ensures.layout;
  went = c.in-Err.ensures.failed;
}
