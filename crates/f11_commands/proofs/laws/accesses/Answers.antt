use Rattle.std.proofs.Common.{refl}
use Rattle.f11_commands.specs.Copying.{master_directory, operator}
use Rattle.f11_commands.proofs.HeldPlanLemmas.{directory-unheld}
use Rattle.f11_commands.proofs.PutUnheldLemmas.{put-unheld}
use Rattle.f11_commands.proofs.laws.accesses.Goals as goal

pub returns : goal.returns
returns c = record {
  mounted = λ s task lun. refl;
  files = put-unheld;
  directories = λ name owner protection made s t carried unheld.
      directory-unheld operator owner master_directory name protection made s t carried unheld;
}
