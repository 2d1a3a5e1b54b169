use Rattle.std.proofs.Common.{◌≡◌, ◌≤◌, length}
use Rattle.f11_index.specs.Kept.{index_kept}
use Rattle.f11_index.specs.Table.{table_of}
use Rattle.f11_vfy.specs.Reclaiming.Moments.{Where}
use Rattle.f11_vfy.specs.Reclaiming.Steps.{IsShown, KillsOrphans}
use Rattle.f11_vfy.specs.Surveying.Bits.{limit_of}
use Rattle.f11_vfy.specs.Surveying.Extensions.{extensions_to}
use Rattle.f11_vfy.proofs.reclaimer.orphans.kill_orphans.Given as goal

-- the orphans so far were killed, and so many extension headers came
abbrev pub invariant-loop-k : goal.invariant-loop-k
invariant-loop-k g l =
    let old = g.D.Device.disk l.fn.device in
    record {
      kills : KillsOrphans (index_kept l.index) l.reading l.extensions l.k l.initial.unreferenced l.unreferenced old
          (g.D.Device.disk l.device);
      limit : limit_of l.unreferenced ≡ limit_of l.initial.unreferenced;
      few : l.next ≤ l.k;
      counted : Where (IsShown (index_kept l.index) l.reading l.extensions) old
          (λ home. l.next ≡ length (extensions_to (table_of old.image home) l.k));
    }
