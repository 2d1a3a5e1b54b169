-- A fresh RT-11 volume (profile: what INIT writes).
use Rattle.std.specs.Prelude.{◌≡◌, ◌⊎◌, ℕ, ◌+◌, ◌-◌, ◌*◌, ◌<◌, ◌≤◌, false, min, List, [], ◌∷◌, length}
use Rattle.f11_bytes.specs.Block.{zero_block}
use Rattle.f11_bytes.specs.Words.{with_word}
use Rattle.f11_dev.specs.Disk.{Disk}
use Rattle.f11_dev.specs.Image.{Image, image_block}
use Rattle.f11_dev.specs.Went.{Went}
use Rattle.f11_dev.specs.declared.device.Device.{Ghosts}
use Rattle.rt11_volume.specs.Calls.{volume_device, has_failed}
use Rattle.rt11_volume.specs.Directory.{start_of, KeepsData}
use Rattle.rt11_volume.specs.Entry.{empty_entry}
use Rattle.rt11_volume.specs.Store.{RtStore, rt_store_of}
use Rattle.rt11_volume.specs.Verifying.Verdict.{IsRtAccepted}
use Rattle.rt11_volume.specs.declared.fresh.RtInitError.{RtInitError}
use Rattle.rt11_volume.specs.declared.fresh.RtInitError.TheVariants.{BadParameter, DeviceFault}
use Rattle.rt11_volume.specs.declared.volume.RtAccepted.{RtAccepted}

-- A device of so many blocks has room for a directory of so many segments, 1 to 31, and for a block behind it.
pub record HasRoom (segments blocks : ℕ) : Type 0 where
  pub some : 0 < segments
  pub few : segments ≤ 31
  pub room : 6 + 2 * segments < blocks

-- the blocks from there to the device's end, or to block 65534
abbrev pub space_of : ℕ → ℕ → ℕ
space_of segments blocks = min blocks 65535 - start_of segments

-- the first block of the directory: the header, an empty area, and the end mark
unfoldable pub fresh_block : ℕ → ℕ → List ℕ
fresh_block segments blocks =
    with_word (with_word (with_word (with_word (with_word (with_word zero_block 0 segments) 4 1) 8
    (start_of segments)) 10 512) 18 (space_of segments blocks)) 24 2048

-- The image with a fresh directory: its first block, and zeros behind it. All others are as they were.
pub record IsFreshDirectory (segments : ℕ) (old new : Image) : Type 0 where
  pub size : length new ≡ length old
  pub first : image_block new 6 ≡ fresh_block segments (length old)
  pub rest : (lbn : ℕ) → 6 < lbn → lbn < start_of segments → image_block new lbn ≡ zero_block
  pub others : (lbn : ℕ) → (lbn < 6) ⊎ (start_of segments ≤ lbn) → image_block new lbn ≡ image_block old lbn

-- What may stand while a fresh directory is made: no block but those of the directory is another, and its first block, which tells how
-- many segments there are, is as it was, or else the whole directory is there.
pub record MayStand (segments : ℕ) (old image : Image) : Type 0 where
  pub size : length image ≡ length old
  pub keeps : KeepsData segments old image
  pub first : (image_block image 6 ≡ image_block old 6) ⊎ IsFreshDirectory segments old image

-- A fresh directory was written, each of its blocks once, and nothing else. Meanwhile its first block was as it had been, until the
-- whole directory was there.
pub record WritesFresh (segments : ℕ) (old new : Disk) : Type 0 where
  pub fresh : IsFreshDirectory segments old.image new.image
  pub went : Went (MayStand segments old.image) old new (2 * segments) 0

-- A transfer failed.
abbrev pub FailsToWriteFresh : ℕ → Disk → Disk → Type 0
FailsToWriteFresh segments old new = Went (MayStand segments old.image) old new (2 * segments) 1

-- what a fresh volume keeps: one segment with one empty area, from the directory's end on
pub record IsFreshStore (segments blocks : ℕ) (store : RtStore) : Type 0 where
  pub count : store.count ≡ segments
  pub highest : store.highest ≡ 1
  pub extra : store.extra ≡ 0
  pub one_area : store.segments ≡ record {
    number = 1;
    first = start_of segments;
    entries =
        empty_entry 0 (space_of segments blocks) ∷ [];
  } ∷ []

-- The volume was made: there was room, the directory alone was written, and the image is accepted, with one empty area.
pub record Inits {D : Type 0} {met : Ghosts D} (segments : ℕ) (disk : D → Disk) (volume : RtAccepted D met) (old : Disk) : Type 0 where
  pub room : HasRoom segments (length old.image)
  pub writes : WritesFresh segments old (disk (volume_device volume))
  pub accepted : IsRtAccepted (disk (volume_device volume)).image
  pub store : IsFreshStore segments (length old.image) (rt_store_of (disk (volume_device volume)).image)
  pub calm : has_failed volume ≡ false

-- It wasn't: the parameter is bad, and nothing was read or written; or a transfer failed.
abbrev pub FailsToInit : {D : Type 0} → ℕ → (D → Disk) → RtInitError D → Disk → Type 0
FailsToInit segments disk (BadParameter device) old = ¬ HasRoom segments (length old.image) × (disk device ≡ old)
FailsToInit segments disk (DeviceFault device) old = HasRoom segments (length old.image) × FailsToWriteFresh segments old (disk device)
