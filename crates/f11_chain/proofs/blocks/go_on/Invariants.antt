use Rattle.std.proofs.Common.{◌≡◌, ◌+◌, ◌≤◌, IsTrue, ℕ, List, length}
use Rattle.f11_index.specs.Kept.{index_kept}
use Rattle.f11_chain.specs.FileHeaders.{blocks_by}
use Rattle.f11_chain.specs.Calls.{table}
use Rattle.f11_index.specs.map.HeaderBlock.{segment_number}
use Rattle.f11_chain.proofs.AlongLemmas.{AlongFrom}
use Rattle.f11_chain.proofs.blocks.go_on.Given as goal

-- the header in hand is one of the file, and the block is so many behind those of the headers before it
abbrev pub invariant-loop : goal.invariant-loop
invariant-loop g l =
    let old = g.D.Device.disk l.fn.device in
    let now = g.D.Device.disk l.device in
    let index = index_kept l.index in
    record {
      behind : List ℕ;
      along : AlongFrom 1 index l.from.file l.number (segment_number l.fn.block + l.counter) behind l.block old now;
      steps : now.transfers ≤ old.transfers + l.counter;
      low : l.left ≤ l.at;
      left_is : IsTrue old.honest → l.at ≡ length (blocks_by (table index old) behind) + l.left;
    }
