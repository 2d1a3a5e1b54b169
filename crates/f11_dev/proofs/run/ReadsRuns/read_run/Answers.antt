use Rattle.std.proofs.Common.{◌+◌, ◌<◌, sym, subst, length, arith}
use Rattle.std.proofs.lemmas.List.{length-set}
use Rattle.f11_dev.specs.Image.{Image}
use Rattle.f11_dev.proofs.RunLemmas.{read-none, read-more, read-failed, read-all}
use Rattle.f11_dev.proofs.run.ReadsRuns.read_run.Goals as goal

pub loop-i-init : goal.loop-i-init
loop-i-init g c = read-none _ _ _

pub read-requires : goal.read-requires
read-requires g c = subst (λ (image : Image). c.args.lbn + c.loop-i.i < length image) (sym c.loop-i.invariant.looks.image)
    (omega (arith, c.requires.within, c.loop-i-test.true))

pub loop-i-preserved : goal.loop-i-preserved
loop-i-preserved g c = read-more _ _ _ _ _ _ _ c.loop-i.invariant (omega (arith, c.loop-i-test.true, c.loop-i.auto.into))
    c.in-Ok.ensures.reads.counts c.in-Ok.ensures.reads.gives

pub returns : goal.returns
returns g c = record {
  run = read-all _ _ _ _ _ c.loop-i.invariant (omega (arith, c.loop-i-test.false, c.loop-i.auto.i-end, c.loop-i.auto.into));
}

pub returns-in-Err : goal.returns-in-Err
returns-in-Err g c = record {
  run = record {
    looks = read-failed _ _ _ _ _ _ _ c.loop-i.invariant
        (omega (arith, c.loop-i-test.true, c.loop-i.auto.into, length-set c.loop-i.into c.loop-i.i c.read.new.into))
        c.in-Err.ensures.reads.counts;
    gives = tt;
  };
}
