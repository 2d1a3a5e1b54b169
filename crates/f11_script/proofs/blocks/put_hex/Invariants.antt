use Rattle.std.proofs.Common.{◌≡◌, ◌<◌, ◌≤◌, ℕ, length, get_or}
use Rattle.f11_script.specs.Fields.{hex_byte}
use Rattle.f11_script.proofs.blocks.put_hex.Given as goal

abbrev pub invariant-loop-k : goal.invariant-loop-k
invariant-loop-k l = record {
  long : length l.block ≡ 512;
  written : (k : ℕ) → k < l.k → get_or l.block k 0 ≡ hex_byte l.digits k;
  zeros : (k : ℕ) → l.k ≤ k → k < 512 → get_or l.block k 0 ≡ 0;
}
