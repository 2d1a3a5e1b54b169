use Rattle.std.proofs.Common.{arith}
use Rattle.f11_files.proofs.files.Files.mark.Goals as goal

pub alter-requires : goal.alter-requires
alter-requires g c =
    let six = c.requires.id.number in record { id = record { number = omega (arith, six); volume = c.requires.id.volume } }
