use Rattle.std.proofs.Common.{◌+◌}
use Rattle.f11_findings.specs.Finding.{finding}
use Rattle.f11_index.specs.Table.{Table}
use Rattle.f11_vfy.specs.Chain.{KeepsTable, KnowsNexts}
use Rattle.f11_vfy.specs.Scanning.Contiguous.{IsApart}
use Rattle.f11_findings.specs.Found.{Finds, FoundAmong}
use Rattle.f11_vfy.proofs.findings.contiguous.add_apart.Given as goal

-- the slots so far are judged
abbrev pub invariant-loop-k : goal.invariant-loop-k
invariant-loop-k l =
    (t : Table) → KeepsTable t l.slots → KnowsNexts t l.nexts
    → Finds (FoundAmong (λ k. IsApart t (k + 1)) (λ k. finding 10 (k + 1) 0) l.k) l.initial.found l.found
