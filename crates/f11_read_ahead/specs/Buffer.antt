-- What contracts know of a `Buffer`.
use Rattle.std.specs.Prelude.{◌≡◌, ◌⊎◌, ℕ, ◌+◌, ◌-◌, ◌*◌, ◌<◌, ◌≤◌, max, min, Bool, false, ◌≢◌, IsTrue, List, Result, OnErr, OnOk}
use Rattle.std.specs.Prelude.{slice_set}
use Rattle.std.specs.Prelude.{length}
use Rattle.f11_dev.specs.Disk.{Disk}
use Rattle.f11_dev.specs.Image.{Image, image_block}
use Rattle.f11_dev.specs.Run.{StandsAt}
use Rattle.f11_read_ahead.specs.Asked.{IsAsked}
use Rattle.f11_read_ahead.specs.declared.buffer.Buffer.{Buffer}
use Rattle.f11_read_ahead.specs.declared.buffer.TheConstants.{MOST}

-- the blocks that it keeps are the image's
abbrev pub Keeps : Image → Buffer → Type 0
Keeps image buffer = StandsAt image buffer.first buffer.count buffer.blocks.items

-- there is room for blocks
abbrev pub HasRoom : Buffer → Type 0
HasRoom buffer = length buffer.blocks.items ≡ MOST

-- block lbn is kept
abbrev pub IsKept : Buffer → ℕ → Type 0
IsKept buffer lbn = (buffer.first ≤ lbn) × (lbn < buffer.first + buffer.count)

-- block lbn isn't kept
abbrev pub IsNotKept : Buffer → ℕ → Type 0
IsNotKept buffer lbn = (lbn < buffer.first) ⊎ (buffer.first + buffer.count ≤ lbn)

-- block lbn is the one behind those that are kept
abbrev pub IsNext : Buffer → ℕ → Type 0
IsNext buffer lbn = buffer.first + buffer.count ≡ lbn

-- block lbn isn't
abbrev pub IsElsewhere : Buffer → ℕ → Type 0
IsElsewhere buffer lbn = buffer.first + buffer.count ≢ lbn

-- the same blocks are kept, whatever they hold
abbrev pub IsSamePlace : Buffer → Buffer → Type 0
IsSamePlace old new = (new.first ≡ old.first) × (new.count ≡ old.count)

-- block lbn is kept at this place
pub record IsKeptAt (buffer : Buffer) (lbn at : ℕ) : Type 0 where
  pub within : at < buffer.count
  pub lbn_is : buffer.first + at ≡ lbn

-- block lbn is kept, and is this one
pub record Holds (buffer : Buffer) (lbn : ℕ) (block : List ℕ) : Type 0 where
  pub place : ℕ
  pub kept : IsKeptAt buffer lbn place
  pub is : image_block buffer.blocks.items place ≡ block

-- so many blocks are kept, from lbn on, in a buffer that has room
pub record KeepsFrom (buffer : Buffer) (lbn many : ℕ) : Type 0 where
  pub room : HasRoom buffer
  pub first : buffer.first ≡ lbn
  pub count : buffer.count ≡ many

-- How many blocks are read at once behind so many that are kept, where so many are left on the device: twice as many, at most as many as a
-- buffer keeps and as are left, and the one that is asked at least.
abbrev pub ahead_of : ℕ → ℕ → ℕ
ahead_of kept left = max 1 (min MOST (min (2 * kept) left))

-- how many blocks from lbn on are read at once where so many are wanted
abbrev pub to_fill : ℕ → ℕ → Buffer → Disk → ℕ
to_fill wanted lbn buffer disk = min (length buffer.blocks.items) (min wanted (length disk.image - lbn))

-- Blocks from lbn on were kept in the place of all others, at once, as many as were wanted and there are and there is room for, if these
-- are more than one and could be read; else none are.
pub record Fills (wanted lbn : ℕ) (old new : Buffer) (before after : Disk) : Type 0 where
  pub room : length new.blocks.items ≡ length old.blocks.items
  pub all_or_none : (new.count ≡ 0) ⊎ ((new.first ≡ lbn) × (new.count ≡ to_fill wanted lbn old before))
  pub few : to_fill wanted lbn old before ≤ 1 → (new.count ≡ 0) × (after ≡ before)
  pub asked : IsAsked before after (to_fill wanted lbn old before)
  pub fails : 1 < to_fill wanted lbn old before → new.count ≡ 0 → before.failures < after.failures
  pub quiet : 1 < to_fill wanted lbn old before → after.failures ≡ before.failures → new.count ≡ to_fill wanted lbn old before

-- so many blocks from lbn on were read, in no more transfers, and are kept
pub record ReadsAll (lbn many : ℕ) (new : Buffer) (before after : Disk) : Type 0 where
  pub kept : KeepsFrom new lbn many
  pub asked : IsAsked before after many

-- Block lbn, which wasn't kept, was read through a buffer with room. Where it isn't the one behind those that were kept it is read by
-- itself. Where it is, it is read with those behind it, in no more transfers than they are; if they can't be read so, by itself, too: where
-- it can't be read, a transfer failed for each.
pub record ReadsOn {E : Type 0} (result : Result Unit E) (lbn : ℕ) (old new : Buffer) (before after : Disk) : Type 0 where
  pub room : HasRoom new
  pub kept : OnOk result (IsKept new lbn)
  pub alone : IsElsewhere old lbn → IsAsked before after 1 × OnOk result (KeepsFrom new lbn 1)
  pub ahead : IsNext old lbn → after.failures ≡ before.failures
      → ReadsAll lbn (ahead_of old.count (length before.image - lbn)) new before after
  pub fails : IsNext old lbn → 1 < ahead_of old.count (length before.image - lbn) → OnErr result (before.failures + 2 ≤ after.failures)

-- What is kept after a write of block lbn, whatever the image: where the write passed, the blocks of the image with that one in it, as many
-- as before; where it failed, blocks that the image has with it and without.
pub record AfterWrite (passed : Bool) (lbn : ℕ) (from : List ℕ) (old new : Buffer) : Type 0 where
  pub passes : IsTrue passed → (image : Image) → lbn < length image → Keeps image old → Keeps (slice_set image lbn from) new
  pub stays : IsTrue passed → IsSamePlace old new
  pub fails : passed ≡ false → (image : Image) → Keeps image old → Keeps image new × Keeps (slice_set image lbn from) new
  pub room : length new.blocks.items ≡ length old.blocks.items
