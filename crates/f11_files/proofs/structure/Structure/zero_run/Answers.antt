use Rattle.f11_files.proofs.Extending.ZeroRun.{run-zeroed, run-failed, run-confined}
use Rattle.f11_files.proofs.structure.Structure.zero_run.Goals as goal

pub returns : goal.returns
returns g c = record {
  zeroes = run-zeroed c.args.self.now c.args.lbn c.args.count _ c.requires.is_for c.requires.within c.requires.unreferenced _ _
      c.write_zeros.ensures.zeros;
  failed = run-failed c.args.self.now c.args.lbn c.args.count _ c.requires.is_for c.requires.within c.requires.unreferenced _ _
      c.write_zeros.ensures.zeros;
  confined = run-confined c.args.self.now c.args.lbn c.args.count _ c.requires.is_for c.requires.within c.requires.unreferenced _ _
      c.write_zeros.ensures.zeros;
}
