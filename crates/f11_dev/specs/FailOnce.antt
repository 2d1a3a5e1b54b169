-- What a `FailOnce` shows.
use Rattle.std.specs.Prelude.{◌≡◌, ◌≢◌, ℕ, ◌-◌, Bool, true, false, List, Result, IsErr}
use Rattle.f11_dev.specs.Disk.{Disk, Writes}
use Rattle.f11_dev.specs.Outcomes.{with_outcomes}
use Rattle.f11_dev.specs.declared.device.DeviceFault.{DeviceFault}
use Rattle.f11_dev.specs.declared.outcomes.Outcomes.{Outcomes}
use Rattle.f11_dev.specs.declared.fail_once.FailOnce.{FailOnce}

-- the device that it passes transfers on to
abbrev pub behind_fail_once : {D : Type 0} → FailOnce D → D
behind_fail_once f = f.inner

-- which transfer from now on fails, from 1; 0 is none
abbrev pub fails_at : {D : Type 0} → FailOnce D → ℕ
fails_at f = f.fails_at

-- the write that fails replaces its block
abbrev pub is_landing : {D : Type 0} → FailOnce D → Bool
is_landing f = f.lands

-- the disk that it is
abbrev pub fail_once_disk : {D : Type 0} → (D → Disk) → FailOnce D → Disk
fail_once_disk disk f = with_outcomes (disk f.inner) f.outcomes

-- the outcomes of its transfers
abbrev pub fail_once_outcomes : {D : Type 0} → FailOnce D → Outcomes
fail_once_outcomes f = f.outcomes

-- A transfer meets a `FailOnce`: it is one of the disk that it is, and of the inner device too, but for the one that fails.
pub record MeetsFailOnce {D E : Type 0} (disk : D → Disk) (result : Result Unit E) (transfers : Disk → Disk → Type 0)
    (old new : FailOnce D) : Type 0 where
  pub outer : transfers (fail_once_disk disk old) (fail_once_disk disk new)
  pub passes : fails_at old ≢ 1 → transfers (disk (behind_fail_once old)) (disk (behind_fail_once new))
  pub fails : fails_at old ≡ 1 → IsErr result
  pub next : (fails_at new ≡ fails_at old - 1) × (is_landing new ≡ is_landing old)

-- the read that fails: the inner device stays
abbrev pub FailsOnRead : {D : Type 0} → FailOnce D → FailOnce D → Type 0
FailsOnRead old new = behind_fail_once new ≡ behind_fail_once old

-- The write that fails: where it lands, the inner device wrote the block; else that stays.
pub record FailsOnWrite {D : Type 0} (disk : D → Disk) (lbn : ℕ) (from : List ℕ) (old new : FailOnce D) : Type 0 where
  pub lands : is_landing old ≡ true
      → (inner : Result Unit DeviceFault) × Writes inner lbn from (disk (behind_fail_once old)) (disk (behind_fail_once new))
  pub stays : is_landing old ≡ false → behind_fail_once new ≡ behind_fail_once old
