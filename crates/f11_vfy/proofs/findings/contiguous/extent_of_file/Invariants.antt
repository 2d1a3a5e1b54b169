use Rattle.std.proofs.Common.{◌-◌}
use Rattle.f11_index.specs.Table.{Table, IsLive}
use Rattle.f11_vfy.specs.Chain.{KeepsTable, KnowsNexts}
use Rattle.f11_vfy.proofs.Scanning.Contiguous.{Along}
use Rattle.f11_vfy.proofs.findings.contiguous.extent_of_file.Given as goal

-- so lie the blocks of the headers so far
abbrev pub invariant-loop : goal.invariant-loop
invariant-loop l =
    (t : Table) → KeepsTable t l.slots → KnowsNexts t l.nexts → IsLive t l.first → Along t l.first l.extent l.n (256 - l.counter)
