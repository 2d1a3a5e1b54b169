-- Laws of the blocks that a header may name, and of those that none names (Files-11 On-Disk Structure Level 1, "Map Area" and
-- "Storage Bitmap File").
use Rattle.std.specs.Prelude.{◌≡◌, ℕ, ◌+◌, ◌<◌, ◌≤◌, true, false, List, ◌++◌, take}
use Rattle.std.specs.List.{range_with_len}
use Rattle.f11_bits.specs.Bitmap.{is_free, Marks}
use Rattle.f11_dev.specs.Image.{Image}
use Rattle.f11_volume.specs.home.Home.{HomeFields}
use Rattle.f11_volume.specs.map.HeaderBlock.{blocks_named}
use Rattle.f11_index.specs.Table.{table_of, IsLive}
use Rattle.f11_volume.specs.Sound.{IsSoundVolume, HasSoundVolume}
use Rattle.f11_volume.specs.Space.{storage_bitmap}
use Rattle.f11_volume.specs.Volume.{Volume, volume_of, IsCell, IsNamed}
use Rattle.f11_writes.specs.Kept.{KeepsVolume, KeepsButSlot}
use Rattle.f11_writes.specs.OtherSlots.{KeepsOtherSlots}
use Rattle.f11_writes.specs.Volumes.{MayName}

-- So many blocks in a row are unreferenced: in the volume, used, and named by no header.
pub record AreUnreferenced (v : Volume) (lbn count : ℕ) : Type 0 where
  pub inside : lbn + count ≤ v.size
  pub used : (k : ℕ) → lbn ≤ k → k < lbn + count → v.free k ≡ false
  pub unnamed : (k : ℕ) → lbn ≤ k → k < lbn + count → ¬ IsNamed v.table k

-- no header names a free block
abbrev pub FreeIsUnnamed : Type 0
FreeIsUnnamed = (v : Volume) (lbn : ℕ) → IsSoundVolume v → v.free lbn ≡ true → ¬ IsNamed v.table lbn

-- so free blocks are unreferenced once they are marked used
abbrev pub TakenAreUnreferenced : Type 0
TakenAreUnreferenced =
    (old new : Image) (home : HomeFields) (lbn count : ℕ) → HasSoundVolume old home →
    Marks false (storage_bitmap old home) lbn count old new →
    lbn + count ≤ (storage_bitmap old home).size → ((k : ℕ) → lbn ≤ k → k < lbn + count → is_free old (storage_bitmap old home) k ≡ true) →
    AreUnreferenced (volume_of new home) lbn count

-- any header may name these
abbrev pub UnreferencedMayBeNamed : Type 0
UnreferencedMayBeNamed = (v : Volume) (n lbn count : ℕ) → AreUnreferenced v lbn count → MayName v n (range_with_len lbn count)

-- a live one those that it names
abbrev pub OwnMayBeNamed : Type 0
OwnMayBeNamed = (v : Volume) (n : ℕ) → IsSoundVolume v → IsLive v.table n → MayName v n (blocks_named (v.table.header n))

-- and unreferenced ones behind them
abbrev pub MoreMayBeNamed : Type 0
MoreMayBeNamed =
    (v : Volume) (n lbn count : ℕ) → IsSoundVolume v → IsLive v.table n → AreUnreferenced v lbn count →
    MayName v n (blocks_named (v.table.header n) ++ range_with_len lbn count)

-- and the first of those that a header may name it may name alone
abbrev pub FewerMayBeNamed : Type 0
FewerMayBeNamed = (v : Volume) (n count : ℕ) (lbns : List ℕ) → MayName v n lbns → MayName v n (take count lbns)

-- a block that header n named, and doesn't now, is named by none where the other slots are as they were
abbrev pub LostIsUnnamed : Type 0
LostIsUnnamed =
    (old new : Volume) (n place lbn : ℕ) → IsSoundVolume old → KeepsOtherSlots n old.table new.table → IsCell old.table n place lbn →
    ((i : ℕ) → ¬ IsCell new.table n i lbn) → ¬ IsNamed new.table lbn

-- some of unreferenced blocks are unreferenced
abbrev pub PartIsUnreferenced : Type 0
PartIsUnreferenced =
    (v : Volume) (lbn count from some : ℕ) → AreUnreferenced v lbn count → lbn ≤ from → from + some ≤ lbn + count →
    AreUnreferenced v from some

-- unreferenced blocks are unreferenced still where a volume is as it was
abbrev pub UnreferencedStay : Type 0
UnreferencedStay =
    (old new : Image) (home : HomeFields) (lbn count : ℕ) → KeepsVolume home old new → AreUnreferenced (volume_of old home) lbn count →
    AreUnreferenced (volume_of new home) lbn count

-- and where a slot was written whose header names none of them, as one does that isn't in use
abbrev pub OtherUnreferencedStay : Type 0
OtherUnreferencedStay =
    (old new : Image) (home : HomeFields) (n lbn count : ℕ) → KeepsButSlot n home old new → AreUnreferenced (volume_of old home) lbn count →
    ((place k : ℕ) → lbn ≤ k → k < lbn + count → ¬ IsCell (table_of new home) n place k) → AreUnreferenced (volume_of new home) lbn count

abbrev pub UnreferencedStayUnentered : Type 0
UnreferencedStayUnentered =
    (old new : Image) (home : HomeFields) (n lbn count : ℕ) → KeepsButSlot n home old new → AreUnreferenced (volume_of old home) lbn count →
    (table_of new home).in_use n ≡ false → AreUnreferenced (volume_of new home) lbn count
