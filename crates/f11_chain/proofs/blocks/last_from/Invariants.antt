use Rattle.std.proofs.Common.{◌≡◌, ℕ, ◌*◌, ◌≤◌, IsTrue, List, length}
use Rattle.f11_index.specs.Kept.{index_kept}
use Rattle.f11_chain.specs.FileHeaders.{blocks_by}
use Rattle.f11_chain.specs.Calls.{table}
use Rattle.f11_chain.proofs.AlongLemmas.{AlongFrom}
use Rattle.f11_chain.proofs.blocks.last_from.Given as goal

-- the header in hand is the next one of the file, and the blocks of those before it were counted
abbrev pub invariant-loop-earlier : goal.invariant-loop-earlier
invariant-loop-earlier g l =
    let old = g.D.Device.disk l.fn.device in
    let now = g.D.Device.disk l.device in
    let index = index_kept l.index in
    record {
      behind : List ℕ;
      along : AlongFrom 1 index l.n l.number l.earlier behind l.block old now;
      few : l.blocks ≤ 32512 * l.earlier;
      blocks_are : IsTrue old.honest → l.blocks ≡ length (blocks_by (table index old) behind);
    }
