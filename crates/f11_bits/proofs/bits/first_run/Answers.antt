use Rattle.std.proofs.Common.{◌≤◌, min, arith}
use Rattle.f11_bits.proofs.BitLemmas.{IsFirstRun-set}
use Rattle.f11_bits.proofs.bits.first_run.Goals as goal

pub returns-in-Some : goal.returns-in-Some
returns-in-Some c =
    let run = c.run_length in
    let most : run.result ≤ min c.args.most 256 = omega (arith, run.ensures.most) in
    record {
      run = IsFirstRun-set _ 4096 _ _ _ _ c.in-Some.ensures c.requires most run.ensures.each
          (λ few. run.ensures.ended (omega arith));
    }
