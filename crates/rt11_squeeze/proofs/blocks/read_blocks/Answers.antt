use Rattle.std.proofs.Common.{ℕ, ◌+◌, List, sym, subst}
use Rattle.rt11_squeeze.proofs.BlockLemmas.{ReadSoFar, read-fails, read-more}
use Rattle.rt11_squeeze.proofs.blocks.read_blocks.Goals as goal

pub returns-in-Err-clause-refused : goal.returns-in-Err-clause-refused
returns-in-Err-clause-refused g c =
    let l = c.loop-place in
    let e = c.in-Err.ensures in
    read-fails g.D.Device.disk c.args.name.now c.args.volume.now l.place c.args.count c.in-Err.refusal l.all.items l.volume c.read.new.self
    c.loop-place-test.true l.invariant.read e.answers e.refused

pub loop-place-preserved : goal.loop-place-preserved
loop-place-preserved g c =
    let l = c.loop-place in
    let e = c.in-Ok.ensures in
    record {
      read =
          subst (λ (blocks : List (List ℕ)). ReadSoFar g.D.Device.disk c.args.name.now c.args.volume.now (l.place + 1) blocks
          c.read.new.self)
          (sym {A = List (List ℕ)} c.in-Ok-push_block.ensures)
          (read-more g.D.Device.disk c.args.name.now c.args.volume.now l.place l.all.items c.read.new.into l.volume c.read.new.self
          l.invariant.read e.answers e.looked e.read e.knows);
    }
