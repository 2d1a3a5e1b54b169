use Rattle.std.proofs.Common.{◌≡◌, ◌∙◌, subst, arith}
use Rattle.f11_flx.specs.Target.{Makes}
use Rattle.f11_commands.specs.RtFilling.{LacksBytes, StopsFilling}
use Rattle.f11_host.specs.Pieces.{blocks_for}
use Rattle.f11_commands.proofs.RtPutLemmas.{next-stopped, next-stored, next-undone, stopped, stored, undone}
use Rattle.f11_commands.proofs.rt_put.put.Goals as goal

pub returns-in-Ok-fill : goal.returns-in-Ok-fill
returns-in-Ok-fill g c =
    let count : c.div_ceil.result ≡ blocks_for c.args.bytes = omega (arith, c.div_ceil.ensures) in
    let makes = subst (λ n. Makes g.D.Device.disk c.args.name.now n 0 c.args.volume.now c.make_file.new.rt) count c.in-Ok.ensures.made in
    record {
      puts = stored g.D.Device.disk c.args.name.now c.args.bytes _ c.args.volume.now c.make_file.new.rt makes c.in-Ok.ensures.went
          _ _ c.fill.new.volume (c.in-Ok.ensures.count ∙ count) c.in-Ok-fill.ensures.filled;
      next = next-stored g.D.Device.disk c.args.name.now c.args.bytes _ c.args.volume.now c.make_file.new.rt makes c.in-Ok.ensures.went
          _ _ c.fill.new.volume c.in-Ok-fill.ensures.filled;
    }

pub returns-in-Err-Volume : goal.returns-in-Err-Volume
returns-in-Err-Volume g c =
    let count : c.div_ceil.result ≡ blocks_for c.args.bytes = omega (arith, c.div_ceil.ensures) in
    let makes = subst (λ n. Makes g.D.Device.disk c.args.name.now n 0 c.args.volume.now c.make_file.new.rt) count c.in-Ok.ensures.made in
    let stops =
    subst (λ n. StopsFilling g.D.Device.disk n c.in-Err-Volume.refusal c.make_file.new.rt c.fill.new.volume)
    (c.in-Ok.ensures.count ∙ count) (rw c.in-Err-Volume.field-0-is at c.in-Err-Volume.ensures.failed)
    in
    record {
      puts = stopped g.D.Device.disk c.args.name.now c.args.bytes (g.R.Read.remaining c.args.host.now) c.args.volume.now
          c.make_file.new.rt makes c.in-Ok.ensures.went c.in-Err-Volume.refusal c.fill.new.volume stops;
      next = next-stopped g.D.Device.disk c.args.name.now c.args.bytes (g.R.Read.remaining c.args.host.now) c.args.volume.now
          c.make_file.new.rt makes c.in-Ok.ensures.went c.in-Err-Volume.refusal c.fill.new.volume stops;
    }

pub returns-in-Err-Host : goal.returns-in-Err-Host
returns-in-Err-Host g c =
    let count : c.div_ceil.result ≡ blocks_for c.args.bytes = omega (arith, c.div_ceil.ensures) in
    let makes = subst (λ n. Makes g.D.Device.disk c.args.name.now n 0 c.args.volume.now c.make_file.new.rt) count c.in-Ok.ensures.made in
    let lacks =
    subst (λ n. LacksBytes g.D.Device.disk c.args.name.now n c.make_file.new.rt c.fill.new.volume)
    (c.in-Ok.ensures.count ∙ count) (rw c.in-Err-Host.field-0-is at c.in-Err-Host.ensures.failed)
    in
    record {
      puts = undone g.D.Device.disk c.args.name.now c.args.bytes _ c.args.volume.now c.make_file.new.rt makes c.in-Ok.ensures.went
          c.fill.new.volume c.undo.new.volume lacks _ c.undo.result c.undo.ensures.undoes;
      next = next-undone g.D.Device.disk c.args.name.now c.args.bytes (g.R.Read.remaining c.args.host.now) c.args.volume.now
          c.make_file.new.rt makes c.in-Ok.ensures.went c.fill.new.volume c.undo.new.volume lacks c.undo.result
          c.undo.ensures.undoes;
    }
