use Rattle.std.proofs.Common.{rules}
use Rattle.f11_dev.proofs.DiskLemmas.{written_disk-honest}
use Rattle.f11_dev.proofs.file_image.FileImage.read_as.Goals as goal

pub returns-in-Ok : goal.returns-in-Ok
returns-in-Ok g c = g.J.JudgesReads.reads _ _ _ _ _ (written_disk-honest _ c.args.self.now.written) (search rules)
