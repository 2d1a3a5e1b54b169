use Rattle.std.proofs.Common.{◌≡◌, ◌≤◌, ◌-◌}
use Rattle.f11_dev.specs.FileImage.{file_disk}
use Rattle.f11_dev.specs.Zeros.{with_zeros_from}
use Rattle.f11_dev.proofs.file_image.FileImageDevice.write_zeros.Given as goal

abbrev pub invariant-loop-done : goal.invariant-loop-done
invariant-loop-done g l = (file_disk l.self ≡ with_zeros_from l.lbn l.done (file_disk l.initial.self)) × (l.done ≤ l.count)

abbrev pub decreases-loop-done : goal.decreases-loop-done
decreases-loop-done g l = l.count - l.done
