use Rattle.std.proofs.Common.{◌≡◌, ◌+◌, ◌*◌, ◌≤◌, IsTrue, length}
use Rattle.f11_chain.specs.Calls.{table}
use Rattle.f11_chain.specs.FileHeaders.{blocks_by}
use Rattle.f11_index.specs.Kept.{index_kept}
use Rattle.f11_reader.specs.Reading.{blocks_to_come, headers_to_come}
use Rattle.f11_reader.proofs.ReadLemmas.{Gone}
use Rattle.f11_reader.proofs.file.FileReader.count.Given as goal

-- so many headers were read, and the blocks that they name were counted
abbrev pub invariant-loop : goal.invariant-loop
invariant-loop g l =
    let old = g.D.Device.disk l.fn.device in
    let t = table (index_kept l.index) old in
    record {
      gone : Gone (index_kept l.index) l.self l.reader l.counter old (g.D.Device.disk l.device);
      count : IsTrue old.honest → l.blocks + length (blocks_by t (headers_to_come t l.reader)) ≡ length (blocks_to_come t l.self);
      few : l.blocks ≤ 32512 * (l.counter + 1);
    }
