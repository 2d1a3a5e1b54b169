-- What contracts know of a `Window`.
use Rattle.std.specs.Prelude.{◌≡◌, ℕ, ◌+◌, ◌*◌, ◌-◌, min}
use Rattle.f11_dev.specs.Disk.{Disk}
use Rattle.f11_dev.specs.declared.device.Device.{Ghosts}
use Rattle.f11_window.specs.Part.{disk_part}
use Rattle.f11_window.specs.declared.window.Window.{Window}

-- the device within
abbrev pub behind_window : {D : Type 0} {met : Ghosts D} → Window D met → D
behind_window w = w.inner

-- which of its blocks is the first,
abbrev pub first_of : {D : Type 0} {met : Ghosts D} → Window D met → ℕ
first_of w = w.first

-- how many are seen,
abbrev pub blocks_of : {D : Type 0} {met : Ghosts D} → Window D met → ℕ
blocks_of w = w.blocks

-- and how it was when the window was made
abbrev pub made_of : {D : Type 0} {met : Ghosts D} → Window D met → D
made_of w = w.made.value

-- the disk that it is: that part of the one within
abbrev pub window_disk : {D : Type 0} {met : Ghosts D} → (D → Disk) → Window D met → Disk
window_disk disk w = disk_part w.first w.blocks (disk w.inner)

-- a window was made over a device
pub record IsMade {D : Type 0} {met : Ghosts D} (device : D) (lbn count : ℕ) (w : Window D met) : Type 0 where
  pub behind : behind_window w ≡ device
  pub made : made_of w ≡ device
  pub first : first_of w ≡ lbn
  pub blocks : blocks_of w ≡ count

-- RT-11, whose device has at most 65,535 blocks, has a big disk as partitions of 65,536 blocks each (its handler DU): where one begins,
abbrev pub partition_first : ℕ → ℕ
partition_first number = 65536 * number

-- and how many blocks of it are seen on a disk of so many
abbrev pub partition_blocks : ℕ → ℕ → ℕ
partition_blocks number all = min (all - partition_first number) 65535

-- A call was passed on: it did this to the disk that the window is, and to the one within, at the block that this is there. The window is
-- the same one.
pub record PassesOn {D : Type 0} {met : Ghosts D} (disk : D → Disk) (lbn : ℕ) (does : ℕ → Disk → Disk → Type 0) (old new : Window D met)
    : Type 0 where
  pub outer : does lbn (window_disk disk old) (window_disk disk new)
  pub inner : does (first_of old + lbn) (disk (behind_window old)) (disk (behind_window new))
  pub first : first_of new ≡ first_of old
  pub blocks : blocks_of new ≡ blocks_of old
  pub made : made_of new ≡ made_of old
