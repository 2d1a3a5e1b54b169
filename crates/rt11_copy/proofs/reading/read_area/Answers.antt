use Rattle.std.proofs.Common.{ℕ, ◌+◌, ◌<◌, List, length, sym, subst, ap}
use Rattle.rt11_copy.proofs.ReadLemmas.{ReadSoFar, next-there, read-more}
use Rattle.rt11_copy.proofs.reading.read_area.Goals as goal

pub read-requires : goal.read-requires
read-requires g c =
    let l = c.loop-place in
    subst (λ n. c.args.first + n < length (g.D.Device.disk l.device).image) (sym c.from.ensures)
    (next-there c.args.first l.place l.all.items (g.D.Device.disk c.args.device.now) (g.D.Device.disk l.device) l.invariant.read
    c.args.count c.loop-place-test.true c.requires.there)

pub loop-place-preserved : goal.loop-place-preserved
loop-place-preserved g c =
    let l = c.loop-place in
    let old = g.D.Device.disk c.args.device.now in
    let new = g.D.Device.disk c.read.new.self in
    record {
      read =
          subst (λ (blocks : List (List ℕ)). ReadSoFar c.args.first (l.place + 1) blocks old new)
          (sym {A = List (List ℕ)} c.in-Ok-push_block.ensures)
          (read-more c.args.first l.place l.all.items old (g.D.Device.disk l.device) l.invariant.read (c.args.first + c.from.result)
          c.read.new.into new (ap (λ n. c.args.first + n) c.from.ensures) c.in-Ok.ensures.reads.counts c.in-Ok.ensures.reads.gives);
    }
