use Rattle.f11_commands.proofs.RtChangeLemmas.{changes-file, ends-change}
use Rattle.f11_commands.proofs.rt_rename.print_rt_rename.Goals as goal
