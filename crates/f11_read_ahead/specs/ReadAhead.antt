-- What contracts know of a `ReadAhead`.
use Rattle.std.specs.Prelude.{◌≡◌, ◌⊎◌, ℕ, ◌+◌, List, Result, IsOk, OnOk}
use Rattle.f11_dev.specs.Disk.{Disk, Reads}
use Rattle.f11_dev.specs.Outcomes.{with_outcomes}
use Rattle.f11_dev.specs.declared.device.Device.{Ghosts}
use Rattle.f11_dev.specs.declared.outcomes.Outcomes.{Outcomes}
use Rattle.f11_read_ahead.specs.Asked.{Gives}
use Rattle.f11_read_ahead.specs.Buffer.{HasRoom, IsElsewhere, IsKept, IsNext, IsNotKept, IsSamePlace, ReadsOn}
use Rattle.f11_read_ahead.specs.declared.buffer.TheConstants.{MOST}
use Rattle.f11_read_ahead.specs.declared.read_ahead.ReadAhead.{ReadAhead}

-- the device within
abbrev pub behind_ahead : {D : Type 0} {met : Ghosts D} → ReadAhead D met → D
behind_ahead r = r.inner

-- the disk that it is: the one within, with outcomes of its own
abbrev pub ahead_disk : {D : Type 0} {met : Ghosts D} → (D → Disk) → ReadAhead D met → Disk
ahead_disk disk r = with_outcomes (disk r.inner) r.outcomes

-- the outcomes of its transfers
abbrev pub ahead_outcomes : {D : Type 0} {met : Ghosts D} → ReadAhead D met → Outcomes
ahead_outcomes r = r.outcomes

-- block lbn is kept in one of the buffers
abbrev pub IsKeptIn : {D : Type 0} {met : Ghosts D} → ReadAhead D met → ℕ → Type 0
IsKeptIn r lbn = IsKept r.recent lbn ⊎ IsKept r.earlier lbn

-- block lbn is kept in neither
abbrev pub IsNotKeptIn : {D : Type 0} {met : Ghosts D} → ReadAhead D met → ℕ → Type 0
IsNotKeptIn r lbn = IsNotKept r.recent lbn × IsNotKept r.earlier lbn

-- both buffers have room
abbrev pub HasRoomIn : {D : Type 0} {met : Ghosts D} → ReadAhead D met → Type 0
HasRoomIn r = HasRoom r.recent × HasRoom r.earlier

-- both buffers are as they were,
pub record KeepsBoth {D : Type 0} {met : Ghosts D} (old new : ReadAhead D met) : Type 0 where
  pub recent : new.recent ≡ old.recent
  pub earlier : new.earlier ≡ old.earlier

-- or the other one was used last now
pub record Turns {D : Type 0} {met : Ghosts D} (old new : ReadAhead D met) : Type 0 where
  pub recent : new.recent ≡ old.earlier
  pub earlier : new.earlier ≡ old.recent

-- A block that is kept was given: the device within wasn't asked for anything. The buffer that has it was used last then.
pub record GivesKept {D E : Type 0} {met : Ghosts D} (result : Result Unit E) (lbn : ℕ) (old new : ReadAhead D met) : Type 0 where
  pub given : IsOk result
  pub unasked : behind_ahead new ≡ behind_ahead old
  pub recent : IsKept old.recent lbn → KeepsBoth old new
  pub earlier : IsNotKept old.recent lbn → Turns old new

-- A block that isn't kept was read: into the buffer that was used last where it is the one behind those that this one keeps, and else into
-- the other one; the one that isn't read into stays.
pub record ReadsNew {D E : Type 0} {met : Ghosts D} (disk : D → Disk) (result : Result Unit E) (lbn : ℕ) (old new : ReadAhead D met)
    : Type 0 where
  pub on : IsNext old.recent lbn → (new.earlier ≡ old.earlier)
      × ReadsOn result lbn old.recent new.recent (disk (behind_ahead old)) (disk (behind_ahead new))
  pub turns : IsElsewhere old.recent lbn → (new.earlier ≡ old.recent)
      × ReadsOn result lbn old.earlier new.recent (disk (behind_ahead old)) (disk (behind_ahead new))

-- A block was read: one transfer of the disk that it is, and few enough of the one within; none where the block is kept.
pub record ReadsAhead {D E : Type 0} {met : Ghosts D} (disk : D → Disk) (result : Result Unit E) (lbn : ℕ) (into : List ℕ)
    (old new : ReadAhead D met) : Type 0 where
  pub outer : Reads result lbn into (ahead_disk disk old) (ahead_disk disk new)
  pub inner : Gives result lbn into (disk (behind_ahead old)) (disk (behind_ahead new)) (MOST + 1)
  pub kept : IsKeptIn old lbn → GivesKept result lbn old new
  pub unkept : HasRoomIn old → IsNotKeptIn old lbn → ReadsNew disk result lbn old new

-- A call was passed on: it did this to the disk that it is, and to the one within.
pub record PassesOn {D : Type 0} {met : Ghosts D} (disk : D → Disk) (does : Disk → Disk → Type 0) (old new : ReadAhead D met)
    : Type 0 where
  pub outer : does (ahead_disk disk old) (ahead_disk disk new)
  pub inner : does (disk (behind_ahead old)) (disk (behind_ahead new))

-- The same blocks are kept behind a write that succeeded, and there is as much room behind any.
pub record StaysKept {D E : Type 0} {met : Ghosts D} (result : Result Unit E) (old new : ReadAhead D met) : Type 0 where
  pub recent : OnOk result (IsSamePlace old.recent new.recent)
  pub earlier : OnOk result (IsSamePlace old.earlier new.earlier)
  pub room : HasRoomIn old → HasRoomIn new
