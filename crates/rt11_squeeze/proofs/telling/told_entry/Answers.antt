use Rattle.std.proofs.Common.{◌∙◌, ap, filter, refl, sym, List}
use Rattle.rt11_volume.specs.AnyDirectory.{is_sound_file_named}
use Rattle.rt11_volume.specs.declared.any_entries.RtEntry.{RtEntry}
use Rattle.rt11_squeeze.proofs.TellLemmas.{one-told, one-within, told-exact}
use Rattle.rt11_squeeze.proofs.telling.told_entry.Goals as goal

pub returns-in-Ok-clause-tells : goal.returns-in-Ok-clause-tells
returns-in-Ok-clause-tells g c =
    let u = c.in-Some.ensures.undated in
    let m = c.in-Some.ensures.movable in
    let name = c.in-Some.found.1.name in
    record {
      movable = record { covers_none = m.covers_none; scratch_is = m.scratch_is };
      is_told = λ s are.
          let image = (g.D.Device.disk c.args.device.now).image in
          let one = ap (λ (es : List RtEntry). filter (is_sound_file_named name) es) (sym are) ∙ u.one in
          one-told image s.accepted name u.proper c.in-Some.found.0 one _ refl u.blocks_are u.protected_is
          (c.in-Ok.ensures.read s.honest (one-within image s.accepted name u.proper c.in-Some.found.0 one));
    }

pub returns-in-Ok-clause-exact : goal.returns-in-Ok-clause-exact
returns-in-Ok-clause-exact g c = λ s are.
    let u = c.in-Some.ensures.undated in
    let m = c.in-Some.ensures.movable in
    let image = (g.D.Device.disk c.args.device.now).image in
    let name = c.in-Some.found.1.name in
    let one = ap (λ (es : List RtEntry). filter (is_sound_file_named name) es) (sym are) ∙ u.one in
    told-exact image c.args.entries.now c.args.entry.now c.in-Some.found.0 _ c.in-Some.ensures.named c.in-Some.ensures.exact m.scratch_is
    u.blocks_are u.protected_is (c.in-Ok.ensures.read s.honest (one-within image s.accepted name u.proper c.in-Some.found.0 one))
