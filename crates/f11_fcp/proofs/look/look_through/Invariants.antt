use Rattle.std.proofs.Common.{◌≡◌, ◌≤◌, false}
use Rattle.f11_files.specs.Open.{counts_in, disk_in, has_failed, home_in, CallSparesLost}
use Rattle.f11_fcp.specs.Windows.{KeepsWindow}
use Rattle.f11_fcp.proofs.LookLemmas.{IsThrough, held_by}
use Rattle.f11_fcp.proofs.look.look_through.Given as goal

abbrev pub invariant-loop-number : goal.invariant-loop-number
invariant-loop-number g l =
    record {
      through : IsThrough (home_in l.fn.files) l.directory l.name l.number l.empty l.block (disk_in l.fn.files) (disk_in l.files);
      home : home_in l.files ≡ home_in l.fn.files;
      alive : has_failed l.files ≡ false;
      told : counts_in l.files ≡ counts_in l.fn.files;
      keeps : KeepsWindow (held_by l.directory l.window) l.files;
      few : l.number ≤ l.number-end;
      lost : CallSparesLost l.fn.files l.files;
    }
