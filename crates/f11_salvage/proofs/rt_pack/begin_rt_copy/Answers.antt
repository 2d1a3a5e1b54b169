use Rattle.std.proofs.Common.{Err, inr, refl}
use Rattle.f11_commands.specs.declared.outcome.Failure.TheVariants.{DeviceFault}
use Rattle.f11_salvage.proofs.rt_pack.begin_rt_copy.Goals as goal

pub returns-in-Err-read_head-clause-ended : goal.returns-in-Err-read_head-clause-ended
returns-in-Err-read_head-clause-ended g c = record {
  told = Err DeviceFault;
  ends = inr (record {
    middle = g.D.Device.disk c.read_directory.new.device;
    directory = c.in-Ok.ensures.reads.1.looked;
    looked = c.in-Err-read_head.ensures.fault;
    told_is = refl;
    untold = c.in-Ok.ensures.reads.0;
  });
  served_is = refl;
}
