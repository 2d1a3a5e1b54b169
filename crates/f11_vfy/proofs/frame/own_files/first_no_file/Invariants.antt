use Rattle.std.proofs.Common.{◌-◌, ◌<◌, ◌≤◌, ℕ, IsTrue}
use Rattle.f11_dev.specs.Looked.{Looked}
use Rattle.f11_index.specs.Kept.{index_kept}
use Rattle.f11_index.specs.Table.{table_in}
use Rattle.f11_volume.specs.Faults.{IsOwnFile}
use Rattle.f11_vfy.proofs.frame.own_files.first_no_file.Given as goal

-- each file so far is its own
abbrev pub invariant-loop-n : goal.invariant-loop-n
invariant-loop-n g l =
    let old = g.D.Device.disk l.fn.device in
    let now = g.D.Device.disk l.device in
    record {
      low : 2 ≤ l.n;
      own : IsTrue old.honest → (m : ℕ) → 2 ≤ m → m < l.n → IsOwnFile (table_in old.image (index_kept l.index)) m;
      looked : Looked old now (l.n - 2) 0;
    }
