use Rattle.f11_index.specs.Kept.{index_kept}
use Rattle.f11_reader.specs.Reading.{HasToCome}
use Rattle.f11_reader.proofs.ReadLemmas.{Gone}
use Rattle.f11_reader.proofs.file.FileReader.next_lbn.Given as goal

-- so many headers were read, and the same blocks are to come
abbrev pub invariant-loop : goal.invariant-loop
invariant-loop g l =
    let old = g.D.Device.disk l.fn.device in
    record {
      gone : Gone (index_kept l.index) l.fn.self l.self l.counter old (g.D.Device.disk l.device);
      same : HasToCome (index_kept l.index) l.fn.self l.self old;
    }
