use Rattle.std.proofs.Common.{◌≡◌, replicate}
use Rattle.f11_bytes.specs.Block.{zero_block}
use Rattle.f11_dev.proofs.memory.zero_blocks.Given as goal

abbrev pub invariant-loop : goal.invariant-loop
invariant-loop l = l.blocks.items ≡ replicate l.counter zero_block
