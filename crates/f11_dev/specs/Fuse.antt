-- What a `Fuse` shows.
use Rattle.std.specs.Prelude.{◌≡◌, ◌<◌, ℕ, ◌-◌, Result, IsErr}
use Rattle.f11_dev.specs.Disk.{Disk}
use Rattle.f11_dev.specs.Outcomes.{with_outcomes}
use Rattle.f11_dev.specs.declared.fuse.Fuse.{Fuse}

-- the device that it passes transfers on to
abbrev pub behind_fuse : {D : Type 0} → Fuse D → D
behind_fuse f = f.inner

-- how many more transfers it passes on
abbrev pub passes_left : {D : Type 0} → Fuse D → ℕ
passes_left f = f.left

-- the disk that it is
abbrev pub fuse_disk : {D : Type 0} → (D → Disk) → Fuse D → Disk
fuse_disk disk f = with_outcomes (disk f.inner) f.outcomes

-- A transfer meets a fuse: it is one of the disk that it is, and while it passes transfers on of the inner device too. Then it fails, and
-- the inner device stays. It has one transfer less to pass on.
pub record MeetsFuse {D E : Type 0} (disk : D → Disk) (result : Result Unit E) (transfers : Disk → Disk → Type 0)
    (old new : Fuse D) : Type 0 where
  pub outer : transfers (fuse_disk disk old) (fuse_disk disk new)
  pub passes : 0 < passes_left old → transfers (disk (behind_fuse old)) (disk (behind_fuse new))
  pub blown : passes_left old ≡ 0 → IsErr result × (behind_fuse new ≡ behind_fuse old)
  pub left : passes_left new ≡ passes_left old - 1
