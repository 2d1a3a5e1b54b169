use Rattle.std.proofs.Common.{◌≡◌, ◌<◌, ◌≤◌, ◌^◌, length}
use Rattle.f11_script.proofs.PieceLemmas.{OctalFrom}
use Rattle.f11_script.proofs.text.octal.Given as goal

abbrev pub invariant-loop-rest : goal.invariant-loop-rest
invariant-loop-rest l = record {
  some : 0 < l.at;
  few : l.at ≤ 6;
  six : length l.digits ≡ 6;
  below : l.rest < 8 ^ l.at;
  digits : OctalFrom l.number l.at l.rest l.digits;
}

abbrev pub decreases-loop-rest : goal.decreases-loop-rest
decreases-loop-rest l = l.at
