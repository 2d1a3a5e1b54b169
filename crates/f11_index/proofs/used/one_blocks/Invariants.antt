use Rattle.std.proofs.Common.{◌≡◌, replicate}
use Rattle.f11_index.specs.IndexFile.{one_block}
use Rattle.f11_index.proofs.used.one_blocks.Given as goal

abbrev pub invariant-loop : goal.invariant-loop
invariant-loop l = l.blocks.items ≡ replicate l.counter one_block
