use Rattle.std.proofs.Common.{◌≡◌, ◌++◌}
use Rattle.rt11_volume.specs.BadBlocks.{bad_blocks_in}
use Rattle.rt11_volume.proofs.BadBlockLemmas.{bad_from}
use Rattle.rt11_volume.proofs.bad_blocks.bad_in.Given as goal

-- those so far, and what the table has from here on
abbrev pub invariant-loop-i : goal.invariant-loop-i
invariant-loop-i l = bad_blocks_in l.block ≡ l.bad.items ++ bad_from l.block l.i
