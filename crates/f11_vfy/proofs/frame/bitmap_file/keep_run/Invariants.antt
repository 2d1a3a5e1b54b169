use Rattle.std.proofs.Common.{◌≡◌, ◌++◌}
use Rattle.std.specs.Prelude.{vec_capacity}
use Rattle.std.specs.List.{range_with_len}
use Rattle.f11_vfy.proofs.frame.bitmap_file.keep_run.Given as goal

-- the first i were kept
abbrev pub invariant-loop-i : goal.invariant-loop-i
invariant-loop-i l = record {
  pushed : l.kept.items ≡ l.fn.kept.items ++ range_with_len l.lbn l.i;
  capacity : vec_capacity l.kept ≡ vec_capacity l.fn.kept;
}
