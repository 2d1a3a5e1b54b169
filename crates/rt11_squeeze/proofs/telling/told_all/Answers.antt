use Rattle.std.proofs.Common.{◌+◌, ◌*◌, List, sym, subst, arith}
use Rattle.f11_dev.proofs.LookedLemmas.{looked_more, looked_within}
use Rattle.rt11_squeeze.specs.declared.moving.FileToMove.{FileToMove}
use Rattle.rt11_squeeze.proofs.TellLemmas.{AllTold, TellsSoFar, so-far-more, told-more}
use Rattle.rt11_squeeze.proofs.telling.told_all.Goals as goal

pub loop-i-preserved : goal.loop-i-preserved
loop-i-preserved g c =
    let l = c.loop-i in
    let old = g.D.Device.disk c.args.device.now in
    record {
      looked = looked_within (looked_more l.invariant.looked c.in-Ok.ensures.looked) (omega arith);
      told = subst (λ (files : List FileToMove). AllTold c.args.entries.now old files) (sym c.in-Ok-add_file.ensures)
          (told-more c.args.entries.now old (g.D.Device.disk l.device) l.files.items c.in-Ok.found (2 * l.i) l.invariant.looked
          l.invariant.told c.in-Ok.ensures.tells);
      exact = subst (λ (files : List FileToMove). TellsSoFar c.args.entries.now (l.i + 1) old files) (sym c.in-Ok-add_file.ensures)
          (so-far-more c.args.entries.now l.i c.index-entries-i.result old (g.D.Device.disk l.device) l.files.items c.in-Ok.found (2 * l.i)
          c.loop-i-test.true c.index-entries-i.is l.invariant.looked l.invariant.exact c.in-Ok.ensures.exact);
    }
