use Rattle.std.proofs.Common.{rules}
use Rattle.f11_dev.proofs.DiskLemmas.{written_disk-honest}
use Rattle.f11_dev.proofs.RunLemmas.{read-at-once}
use Rattle.f11_dev.proofs.file_image.FileImage.read_run_as.Goals as goal

pub returns-in-Ok-clause-run : goal.returns-in-Ok-clause-run
returns-in-Ok-clause-run g c = read-at-once _ _ _ _ _ (search rules)
    (λ at block. g.J.JudgesReads.reads _ _ _ _ _ (written_disk-honest _ c.args.self.now.written) (search rules))
