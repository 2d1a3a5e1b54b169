use Rattle.f11_commands.proofs.CopyLemmas.{ends-between}
use Rattle.f11_commands.proofs.copy.serving.serve.Goals as goal

pub returns-in-Ok : goal.returns-in-Ok
returns-in-Ok g c = record {
  ends =
      ends-between g.E.Device.disk c.args.copy.now c.copy_by_names-copied.result (g.D.Device.disk c.args.accepted.device) c.in-Ok.volume
      c.copy_by_names-copied.new.volume c.args.rt c.copy_by_names-copied.new.rt c.in-Ok.ensures.mounts
      (g.met.D.Device.is_image c.args.accepted.device) c.args.accepted.accepted c.requires.accepted c.requires.fresh
      c.copy_by_names-copied.ensures.answers
      c.tell_kept.result.2 g.W.Write.contents c.args.writer.now c.tell_kept.new.writer (g.D.Device.disk c.tell_kept.result.0)
      (g.E.Device.disk c.tell_kept.result.1) (g.D.Device.disk c.dismount.result) (g.E.Device.disk c.device.result)
      (λ i. g.D.Device.disk (c.dismount.ensures i)) (λ i. g.E.Device.disk (c.device.ensures i)) c.tell_kept.ensures.tells;
}
