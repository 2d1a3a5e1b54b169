-- What a `Liar` shows.
use Rattle.std.specs.Prelude.{◌≡◌, ◌≢◌, ◌⊎◌, ℕ, false, List, Result, OnOk}
use Rattle.f11_bytes.specs.Block.{zero_block}
use Rattle.f11_dev.specs.Disk.{Disk, Reads, Writes}
use Rattle.f11_dev.specs.declared.liar.Liar.{Liar}

-- the device that it lies about
abbrev pub behind_liar : {D : Type 0} → Liar D → D
behind_liar l = l.inner

-- the block that it lies about
abbrev pub lies_at : {D : Type 0} → Liar D → ℕ
lies_at l = l.lbn

-- the disk that it is: the inner one, but not honest
abbrev pub liar_disk : {D : Type 0} → (D → Disk) → Liar D → Disk
liar_disk disk l = record (disk l.inner) { honest = false }

-- a read that tells the truth is the inner device's
abbrev pub ReadsTruth : {D E : Type 0} → (D → Disk) → Result Unit E → ℕ → List ℕ → Liar D → Liar D → Type 0
ReadsTruth disk result lbn into old new = Reads result lbn into (disk (behind_liar old)) (disk (behind_liar new))

-- A read is one of the disk that it is. Of each other block it gives the truth, and of the one block the truth or zeros.
pub record ReadsAsLiar {D E : Type 0} (disk : D → Disk) (result : Result Unit E) (lbn : ℕ) (into : List ℕ) (old new : Liar D) : Type 0 where
  pub reads : Reads result lbn into (liar_disk disk old) (liar_disk disk new)
  pub true_elsewhere : lbn ≢ lies_at old → ReadsTruth disk result lbn into old new
  pub zeros_or_true : OnOk result ((into ≡ zero_block) ⊎ ReadsTruth disk result lbn into old new)
  pub place : lies_at new ≡ lies_at old

-- A write is one of the disk that it is, and of the inner device.
pub record WritesAsLiar {D E : Type 0} (disk : D → Disk) (result : Result Unit E) (lbn : ℕ) (from : List ℕ)
    (old new : Liar D) : Type 0 where
  pub writes : Writes result lbn from (liar_disk disk old) (liar_disk disk new)
  pub passes : Writes result lbn from (disk (behind_liar old)) (disk (behind_liar new))
  pub place : lies_at new ≡ lies_at old
