use Rattle.f11_commands.proofs.NamedLemmas.{copied-from-rt}
use Rattle.f11_commands.proofs.copy.serving.copy_in.Goals as goal

pub returns : goal.returns
returns g c = record {
  answers =
      copied-from-rt g.E.Device.disk c.args.copy.now c.first_task-task.result c.first_lun-lun.result c.first_task-task.ensures
      c.first_lun-lun.ensures c.args.dir
      c.copy_from_rt.result c.args.volume.now c.copy_from_rt.new.vol c.args.rt.now c.copy_from_rt.new.rt c.copy_from_rt.ensures.source
      c.copy_from_rt.ensures.files
      c.copy_from_rt.ensures.copied c.copy_from_rt.ensures.refused c.copy_from_rt.ensures.ended;
}
