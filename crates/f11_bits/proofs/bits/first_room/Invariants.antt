use Rattle.std.proofs.Common.{ℕ, ◌<◌, ◌≤◌}
use Rattle.f11_dev.specs.bytes.Bits.{bit}
use Rattle.f11_bits.specs.Room.{IsRoom}
use Rattle.f11_bits.proofs.bits.first_room.Given as goal

abbrev pub invariant-loop : goal.invariant-loop
invariant-loop l = record {
  above : l.counter ≤ l.at;
  within : l.at ≤ l.end;
  none : (j : ℕ) → l.from ≤ j → j < l.at → ¬ IsRoom (bit l.block) l.n l.end j;
}
