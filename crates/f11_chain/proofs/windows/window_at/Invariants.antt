use Rattle.std.proofs.Common.{◌≡◌, ◌+◌, ◌≤◌, ℕ, length, take, drop}
use Rattle.std.specs.List.{All}
use Rattle.f11_index.specs.map.Map.{area_of}
use Rattle.f11_index.specs.map.MapArea.{runs_of}
use Rattle.f11_chain.proofs.windows.window_at.Given as goal

-- the first pointers are held, and lie on the device
abbrev pub invariant-loop-i : goal.invariant-loop-i
invariant-loop-i l = record {
  size : length l.runs ≡ 7;
  held : take l.i l.runs ≡ take l.i (drop l.pointer (runs_of (area_of l.map)));
  within : All (λ (run : ℕ × ℕ). run.0 + run.1 ≤ l.blocks) (take l.i l.runs);
}
