use Rattle.std.proofs.Common.{◌≡◌, ◌+◌, ◌-◌, length, take}
use Rattle.f11_index.specs.map.MapArea.{blocks_in}
use Rattle.f11_chain.specs.Windows.{runs_held}
use Rattle.f11_chain.proofs.windows.Window.lbn_of.Given as goal

-- the block looked for is this many behind the runs so far
abbrev pub invariant-loop-i : goal.invariant-loop-i
invariant-loop-i l = l.vbn - l.self.first ≡ length (blocks_in (take l.i (runs_held l.self))) + l.left
