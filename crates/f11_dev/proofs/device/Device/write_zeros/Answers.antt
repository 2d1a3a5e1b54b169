use Rattle.std.proofs.Common.{◌≡◌, length, ap, ◌∙◌, arith}
use Rattle.f11_dev.specs.Disk.{Disk}
use Rattle.f11_dev.specs.Zeros.{with_zeros_from}
use Rattle.f11_dev.proofs.ZerosLemmas.{zeros-size, zeros-more, zeros-stop}
use Rattle.f11_dev.proofs.device.Device.write_zeros.Goals as goal

pub write-requires : goal.write-requires
write-requires g c =
    let size = ap (λ (d : Disk). length d.image) c.loop-k.invariant
    ∙ zeros-size c.args.lbn c.loop-k.k (g.Self.Device.disk c.args.self.now) in
    omega (arith, size, c.requires, c.loop-k-test.true)

pub loop-k-preserved : goal.loop-k-preserved
loop-k-preserved g c = zeros-more _ _ _ _ _ _ c.zeros-zeros.ensures c.loop-k.invariant c.in-Ok.ensures.writes.ok

pub returns : goal.returns
returns g c =
    let all : c.loop-k.k ≡ c.args.count = omega (arith, c.loop-k-test.false, c.loop-k.auto.k-end) in
    record {
      zeros = record {
        ok = c.loop-k.invariant ∙ ap (λ n. with_zeros_from c.args.lbn n (g.Self.Device.disk c.args.self.now)) all;
        err = tt;
      };
    }

pub returns-in-Err : goal.returns-in-Err
returns-in-Err g c = record {
  zeros = record {
    ok = tt;
    err = zeros-stop _ _ _ _ _ _ _ c.zeros-zeros.ensures c.loop-k.invariant c.loop-k-test.true c.in-Err.ensures.writes.err;
  };
}
