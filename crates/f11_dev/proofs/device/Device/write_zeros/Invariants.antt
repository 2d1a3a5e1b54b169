use Rattle.std.proofs.Common.{◌≡◌}
use Rattle.f11_dev.specs.Zeros.{with_zeros_from}
use Rattle.f11_dev.proofs.device.Device.write_zeros.Given as goal

abbrev pub invariant-loop-k : goal.invariant-loop-k
invariant-loop-k g l = g.Self.Device.disk l.self ≡ with_zeros_from l.lbn l.k (g.Self.Device.disk l.initial.self)
