use Rattle.f11_files.specs.Open.{CallSparesLost}
use Rattle.f11_fcp.specs.Handles.{IsOpen, state_of}
use Rattle.f11_fcp.specs.Places.{access_table_of}
use Rattle.f11_fcp.specs.ByWindow.{KeepsWindows}
use Rattle.f11_fcp.proofs.ReleaseLemmas.{Released}
use Rattle.f11_fcp.proofs.table.Accesses.release.Given as goal

abbrev pub invariant-loop-unit : goal.invariant-loop-unit
invariant-loop-unit g l =
    record {
      open_now : IsOpen (access_table_of l.self) l.files;
      so_far : Released l.task l.caller (state_of (access_table_of l.fn.self) l.fn.files) (state_of (access_table_of l.self) l.files)
          l.unit;
      lost : CallSparesLost l.fn.files l.files;
      windows : KeepsWindows (access_table_of l.fn.self) (access_table_of l.self);
    }
