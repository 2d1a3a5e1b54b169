use Rattle.std.proofs.Common.{refl}
use Rattle.f11_commands.proofs.PutLemmas.{put-image, put-text}
use Rattle.f11_commands.specs.PutCommand.{hosts}
use Rattle.f11_commands.proofs.put.make_file.Goals as goal

pub returns-in-Image : goal.returns-in-Image
returns-in-Image g c = record {
  puts = put-image c.args.put.now c.args.bytes (hosts (g.R.Read.remaining c.args.host.now) (g.R.Read.remaining c.args.again.now))
      c.in-Image.is c.first_task-task.result c.first_lun-lun.result c.first_task-task.ensures c.first_lun-lun.ensures c.args.dir
      c.copy_from_host.result (hosts (g.R.Read.remaining c.copy_from_host.new.host) (g.R.Read.remaining c.args.again.now))
      c.args.volume.now c.copy_from_host.new.vol c.copy_from_host.ensures.files c.copy_from_host.ensures.order
      c.copy_from_host.ensures.host refl
      c.copy_from_host.ensures.copied c.copy_from_host.ensures.refused;
}

pub returns-in-Text : goal.returns-in-Text
returns-in-Text g c = record {
  puts = put-text c.args.put.now c.args.bytes (hosts (g.R.Read.remaining c.args.host.now) (g.R.Read.remaining c.args.again.now))
      c.in-Text.is c.first_task-task.result c.first_lun-lun.result c.first_task-task.ensures c.first_lun-lun.ensures c.args.dir
      c.copy_text_from_host.result
      (hosts (g.R.Read.remaining c.copy_text_from_host.new.first) (g.R.Read.remaining c.copy_text_from_host.new.again))
      c.args.volume.now c.copy_text_from_host.new.vol c.copy_text_from_host.ensures.files c.copy_text_from_host.ensures.order
      c.copy_text_from_host.ensures.hosts
      c.copy_text_from_host.ensures.copied c.copy_text_from_host.ensures.refused;
}
