-- What is read off the outcomes of a device's transfers.
use Rattle.std.specs.Prelude.{ℕ, ◌+◌}
use Rattle.f11_dev.specs.Disk.{Disk}
use Rattle.f11_dev.specs.declared.outcomes.Outcomes.{Outcomes, None, Passed', Failed'}

-- how many transfers there were
abbrev pub transfers_of : Outcomes → ℕ
transfers_of None = 0
transfers_of (Passed' shape earlier) = transfers_of earlier + 1
transfers_of (Failed' shape earlier) = transfers_of earlier + 1

-- how many of them failed
abbrev pub failures_of : Outcomes → ℕ
failures_of None = 0
failures_of (Passed' shape earlier) = failures_of earlier
failures_of (Failed' shape earlier) = failures_of earlier + 1

-- how many there were since the last that failed
abbrev pub calm_of : Outcomes → ℕ
calm_of None = 0
calm_of (Passed' shape earlier) = calm_of earlier + 1
calm_of (Failed' shape earlier) = 0

-- a disk, but with these outcomes of its transfers
abbrev pub with_outcomes : Disk → Outcomes → Disk
with_outcomes d outcomes = record d { transfers = transfers_of outcomes; failures = failures_of outcomes; calm = calm_of outcomes }

-- a disk, but with no transfer so far
abbrev pub without_transfers : Disk → Disk
without_transfers d = record d { transfers = 0; failures = 0; calm = 0 }
