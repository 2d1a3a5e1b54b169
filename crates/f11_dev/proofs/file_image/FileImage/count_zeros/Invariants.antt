use Rattle.std.proofs.Common.{◌≡◌}
use Rattle.f11_dev.specs.FileImage.{file_disk}
use Rattle.f11_dev.specs.Zeros.{with_zeros_from}
use Rattle.f11_dev.proofs.file_image.FileImage.count_zeros.Given as goal

abbrev pub invariant-loop-k : goal.invariant-loop-k
invariant-loop-k g l = file_disk l.self ≡ with_zeros_from l.lbn l.k (file_disk l.initial.self)
