use Rattle.f11_copying.proofs.OldLemmas.{old-file-gives, old-file-is-copied}
use Rattle.f11_copying.proofs.laws.old_file.Goals as goal

pub returns : goal.returns
returns g c = record {
  gives = old-file-gives g.D.Device.disk c.args.file.now;
  copied = old-file-is-copied g.D.Device.disk c.args.file.now;
}
