use Rattle.std.proofs.Common.{◌∙◌, arith}
use Rattle.f11_dev.proofs.LookedLemmas.{looked_read}
use Rattle.rt11_volume.proofs.BadBlockLemmas.{bad-read}
use Rattle.rt11_volume.proofs.bad_blocks.read_bad_blocks.Goals as goal

pub returns-clause-reads : goal.returns-clause-reads
returns-clause-reads g c = record {
  bad_are = λ honest.
      c.in_ok-list.ensures
      ∙ bad-read (g.D.Device.disk c.args.device.now).image c.read.new.into (omega (arith, c.if-blocks-lt2.false, c.blocks-2.ensures.count))
      (c.in_ok-read.ensures.reads.gives honest);
  looked = looked_read _ _ c.in_ok-read.ensures.reads.counts;
}
