use Rattle.std.proofs.Common.{◌≤◌, ◌<◌, ◌^◌, arith}
use Rattle.std.proofs.Math.Pow.{pow_mono}
use Rattle.std.proofs.lemmas.Nat.{pow_pos}
use Rattle.f11_vfy.proofs.survey.tally.mask.Goals as goal

pub overflow_sub-result : goal.overflow_sub-result
overflow_sub-result c =
    let less : 2 ^ c.args.low ≤ 2 ^ c.args.high = pow_mono c.requires.order in
    let most : 2 ^ c.args.high ≤ 18446744073709551616 = pow_mono {j = 64} c.requires.high in
    omega arith

pub returns : goal.returns
returns c =
    let less : 2 ^ c.args.low ≤ 2 ^ c.args.high = pow_mono c.requires.order in
    let most : 2 ^ c.args.high ≤ 18446744073709551616 = pow_mono {j = 64} c.requires.high in
    let some : 0 < 2 ^ c.args.low = pow_pos c.args.low in
    omega arith
