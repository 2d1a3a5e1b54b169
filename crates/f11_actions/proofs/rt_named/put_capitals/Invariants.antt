use Rattle.std.proofs.Common.{◌≡◌, length, map, take}
use Rattle.std.specs.Char.{to_ascii_uppercase}
use Rattle.f11_actions.proofs.rt_named.put_capitals.Given as goal

-- so many bytes were put
abbrev pub invariant-loop-i : goal.invariant-loop-i
invariant-loop-i l = record {
  size : length l.into ≡ length l.fn.into;
  front : take l.i l.into ≡ map to_ascii_uppercase (take l.i l.bytes);
}
