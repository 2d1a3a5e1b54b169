use Rattle.std.proofs.Common.{◌≡◌, ◌++◌}
use Rattle.std.specs.Prelude.{vec_capacity}
use Rattle.std.specs.List.{range_with_len}
use Rattle.f11_index.proofs.blocks.push_run.Given as goal

-- the first i were pushed
abbrev pub invariant-loop-i : goal.invariant-loop-i
invariant-loop-i l = record {
  pushed : l.headers.items ≡ l.fn.headers.items ++ range_with_len l.lbn l.i;
  capacity : vec_capacity l.headers ≡ vec_capacity l.fn.headers;
}
