use Rattle.std.proofs.Common.{◌+◌, ◌≤◌, refl, arith}
use Rattle.f11_window.specs.Part.{KeepsOutside}
use Rattle.f11_window.specs.PartLaws.{part-few}
use Rattle.f11_window.proofs.KeptLemmas.{kept-within, kept-zeros}
use Rattle.f11_window.proofs.PartLemmas.{part-zeros}
use Rattle.f11_window.proofs.window.WindowDevice.write_zeros.Goals as goal

pub invariant_of-self : goal.invariant_of-self
invariant_of-self g c =
    let w = c.args.self.now in
    let disk = g.D.Device.disk in
    let below : c.args.lbn + c.args.count ≤ w.blocks = omega (arith, c.requires, part-few w.first w.blocks (disk w.inner).image) in
    let kept : KeepsOutside w.first w.blocks (disk w.made.value) (disk c.write_zeros.new.self) =
    kept-zeros c.write_zeros.result _ _ _ _ _ _ _ below c.write_zeros.ensures.zeros w.outside in
    record { within = kept-within _ _ _ _ _ w.within w.outside kept; outside = kept }

pub returns : goal.returns
returns g c =
    let w = c.args.self.now in
    let below : c.args.lbn + c.args.count ≤ w.blocks = omega (arith, c.requires, part-few w.first w.blocks (g.D.Device.disk w.inner).image)
    in
    record {
      zeros = record {
        outer = part-zeros c.write_zeros.result _ _ _ _ _ _ below c.write_zeros.ensures.zeros;
        inner = c.write_zeros.ensures.zeros;
        first = refl;
        blocks = refl;
        made = refl;
      };
    }
