use Rattle.f11_commands.specs.RtText.{line_lost}
use Rattle.f11_commands.proofs.rt_get.text.write_rt_text.Goals as goal

pub returns-in-Ok : goal.returns-in-Ok
returns-in-Ok g c = record { ends = line_lost c.in-Ok.bytes c.in-Ok.ensures.takes }
