-- The three parts of reclaiming (profile): orphans are killed, idle slots leave use, and blocks that no header names become free.
use Rattle.std.specs.Prelude.{◌≡◌, ◌≢◌, ◌↔◌, ℕ, ◌+◌, ◌-◌, ◌*◌, ◌/◌, ◌<◌, ◌≤◌, ◌||◌, Bool, true, not}
use Rattle.std.specs.Prelude.{List, Contains, length, slice_set}
use Rattle.f11_bits.specs.Bitmap.{Bitmap, is_free, KeepsBitmap}
use Rattle.f11_bits.specs.Replacing.{BitmapBlockChanges}
use Rattle.f11_dev.specs.Disk.{Disk}
use Rattle.f11_dev.specs.Image.{Image}
use Rattle.f11_dev.specs.Went.{Went}
use Rattle.f11_header.specs.Header.{IsDead, IsHeader}
use Rattle.f11_header.specs.Writing.{dead_header}
use Rattle.f11_home.specs.Home.{HomeFields}
use Rattle.f11_map.specs.HeaderBlock.{blocks_named}
use Rattle.f11_index.specs.Headers.{IsInFile}
use Rattle.f11_index.specs.IndexFile.{Index, index_of, header_lbn}
use Rattle.f11_index.specs.Table.{table_of}
use Rattle.f11_vfy.specs.Frames.Earlier.{Puts}
use Rattle.f11_vfy.specs.Reclaiming.Moments.{KeepsPlaces, Where, Moment}
use Rattle.f11_vfy.specs.Reclaiming.Slots.{CountsUpTo, IsOrphan, HasNoOrphan, UsedAreOfFiles, IsIdle, IsOfOrphan, KillsUpTo, ClearsUpTo}
use Rattle.f11_vfy.specs.Scanning.Reading.{ShowsVolume}
use Rattle.f11_vfy.specs.Surveying.Bits.{has}
use Rattle.f11_vfy.specs.Surveying.Extensions.{HasExtensions}
use Rattle.f11_vfy.specs.Surveying.Free.{IsLastBlock}
use Rattle.f11_vfy.specs.declared.findings.reading.Reading.{Reading}
use Rattle.f11_vfy.specs.declared.survey.bits.Bits.{Bits}
use Rattle.f11_vfy.specs.declared.survey.extensions.Extensions.{Extensions}
use Rattle.f11_volume.specs.Sound.{HasSoundVolume}
use Rattle.f11_volume.specs.Space.{storage_bitmap}
use Rattle.f11_volume.specs.Volume.{volume_of, IsNamed}

-- an image is this one with header n dead, whose block was that
pub record HasDead (index : Index) (n : ℕ) (block : List ℕ) (old image : Image) : Type 0 where
  pub dead : IsDead (dead_header block)
  pub image_is : image ≡ slice_set old (header_lbn index n) (dead_header block)

-- Header n, whose block is this, was killed where it is valid, by a write, and the blocks that it names were put into a set.
pub record KillsHeader (index : Index) (n : ℕ) (block : List ℕ) (before after : Bits) (old new : Disk) : Type 0 where
  pub killed : IsHeader block n → HasDead index n block old.image new.image
  pub puts : IsHeader block n → Puts (Contains (blocks_named block)) before after
  pub went : Went (HasDead index n block old.image) old new 1 0

-- The write failed.
abbrev pub FailsToKill : Index → ℕ → List ℕ → Disk → Disk → Type 0
FailsToKill index n block old new = Went (HasDead index n block old.image) old new 1 1

-- A volume is sound, and this is its index file, a reading of it, and its extension headers.
pub record IsShown (index : Index) (r : Reading) (e : Extensions) (home : HomeFields) (image : Image) : Type 0 where
  pub sound : HasSoundVolume image home
  pub index_is : index ≡ index_of image home
  pub shows : ShowsVolume (volume_of image home) r
  pub extensions : HasExtensions (table_of image home) e

-- the orphans among headers 1 to n were killed, and no block of the storage bitmap was changed
pub record HasKilledUpTo (n : ℕ) (before after : Bits) (home : HomeFields) (old new : Image) : Type 0 where
  pub places : KeepsPlaces home old new
  pub index : index_of new home ≡ index_of old home
  pub table : KillsUpTo n (table_of old home) (table_of new home)
  pub puts : Puts (IsOfOrphan (table_of old home) n) before after
  pub storage : KeepsBitmap (storage_bitmap old home) old new

-- The orphans among headers 1 to n were killed, in order, each by a write.
pub record KillsOrphans (index : Index) (r : Reading) (e : Extensions) (n : ℕ) (before after : Bits) (old new : Disk) : Type 0 where
  pub kills : Where (IsShown index r e) old (λ home. HasKilledUpTo n before after home old.image new.image)
  pub count : ℕ
  pub counts : Where (IsShown index r e) old (λ home. CountsUpTo (IsOrphan (table_of old.image home)) n count)
  pub went : Went (Moment (IsShown index r e) old) old new count 0

-- A transfer failed, at one among the first so many.
pub record FailsToKillOrphans (index : Index) (r : Reading) (e : Extensions) (slots : ℕ) (old new : Disk) : Type 0 where
  pub upto : ℕ
  pub within : upto ≤ slots
  pub count : ℕ
  pub counts : Where (IsShown index r e) old (λ home. CountsUpTo (IsOrphan (table_of old.image home)) upto count)
  pub went : Went (Moment (IsShown index r e) old) old new count 1

-- A volume without orphans is sound, this is its index file, and a reading tells which headers are those of files.
pub record IsSwept (index : Index) (r : Reading) (home : HomeFields) (image : Image) : Type 0 where
  pub sound : HasSoundVolume image home
  pub index_is : index ≡ index_of image home
  pub tells : (n : ℕ) → has r.chains.in_file n ≡ true ↔ IsInFile (table_of image home) n
  pub no_orphan : HasNoOrphan (table_of image home)

-- two index files are at the same places
pub record SamePlaces (old new : Index) : Type 0 where
  pub headers : new.headers ≡ old.headers
  pub bitmap_lbn : new.bitmap_lbn ≡ old.bitmap_lbn
  pub blocks : length new.bitmap ≡ length old.bitmap

-- the idle ones of slots 1 to n left use, so that the index file says this, and no block of the storage bitmap was changed
pub record HasClearedUpTo (n : ℕ) (after : Index) (home : HomeFields) (old new : Image) : Type 0 where
  pub places : KeepsPlaces home old new
  pub index_is : after ≡ index_of new home
  pub table : ClearsUpTo n (table_of old home) (table_of new home)
  pub storage : KeepsBitmap (storage_bitmap old home) old new

-- The idle ones of slots 1 to n left use, in order, each by a write.
pub record ClearsIdle (index : Index) (r : Reading) (n : ℕ) (after : Index) (old new : Disk) : Type 0 where
  pub same : SamePlaces index after
  pub clears : Where (IsSwept index r) old (λ home. HasClearedUpTo n after home old.image new.image)
  pub count : ℕ
  pub counts : Where (IsSwept index r) old (λ home. CountsUpTo (IsIdle (table_of old.image home)) n count)
  pub went : Went (Moment (IsSwept index r) old) old new count 0

-- A transfer failed, at one among the first so many.
pub record FailsToClear (index : Index) (r : Reading) (slots : ℕ) (old new : Disk) : Type 0 where
  pub upto : ℕ
  pub within : upto ≤ slots
  pub count : ℕ
  pub counts : Where (IsSwept index r) old (λ home. CountsUpTo (IsIdle (table_of old.image home)) upto count)
  pub went : Went (Moment (IsSwept index r) old) old new count 1

-- block lbn may become free: it isn't among those named, or it is unreferenced
abbrev pub may_be_free : Bits → Bits → ℕ → Bool
may_be_free named unreferenced lbn = not (has named lbn) || has unreferenced lbn

-- The bit of a block in bitmap block i, from 0, is to change: the block is free and may not be, or it isn't and may be.
pub record IsToChange (size : ℕ) (free named unreferenced : Bits) (i : ℕ) : Type 0 where
  pub lbn : ℕ
  pub here : lbn / 4096 ≡ i
  pub inside : lbn < size
  pub otherwise : has free lbn ≢ may_be_free named unreferenced lbn

-- A volume is sound, its slots in use are those of files, this is its storage bitmap, with its last block, a set has its free blocks, and
-- two sets tell which blocks no header names.
pub record IsTold (bitmap : Bitmap) (free named unreferenced : Bits) (last : List ℕ) (home : HomeFields) (image : Image) : Type 0 where
  pub sound : HasSoundVolume image home
  pub slots : UsedAreOfFiles (table_of image home)
  pub bitmap_is : bitmap ≡ storage_bitmap image home
  pub last_is : IsLastBlock image bitmap last
  pub free_are : (lbn : ℕ) → has free lbn ≡ is_free image bitmap lbn
  pub tells : (lbn : ℕ) → lbn < bitmap.size → may_be_free named unreferenced lbn ≡ true ↔ (¬ IsNamed (table_of image home) lbn)

-- block i of a storage bitmap, from 1, is another than it was
abbrev pub IsChangedBlock : Bitmap → Image → Image → ℕ → Type 0
IsChangedBlock bitmap old new i = BitmapBlockChanges bitmap (i - 1) old new

-- each block that no header names is free, of those whose bits are in the first so many bitmap blocks, and the other bitmap blocks are as
-- they were
pub record HasFreedUpTo (n : ℕ) (bitmap : Bitmap) (home : HomeFields) (old new : Image) : Type 0 where
  pub places : KeepsPlaces home old new
  pub table : table_of new home ≡ table_of old home
  pub free : (lbn : ℕ) → lbn < 4096 * n → lbn < bitmap.size → ¬ IsNamed (table_of old home) lbn → is_free new bitmap lbn ≡ true
  pub rest : (i : ℕ) → n < i → i ≤ length bitmap.places → ¬ IsChangedBlock bitmap old new i

-- Each block that no header names became free, of those whose bits are in the first so many bitmap blocks. Each of these that is another
-- than it was was written once, and nothing was read.
pub record FreesUnnamed (bitmap : Bitmap) (free named unreferenced : Bits) (last : List ℕ) (n : ℕ) (old new : Disk) : Type 0 where
  pub frees : Where (IsTold bitmap free named unreferenced last) old (λ home. HasFreedUpTo n bitmap home old.image new.image)
  pub count : ℕ
  pub counts : Where (IsTold bitmap free named unreferenced last) old
      (λ home. CountsUpTo (IsChangedBlock bitmap old.image new.image) n count)
  pub went : Went (Moment (IsTold bitmap free named unreferenced last) old) old new count 0

-- A transfer failed: the write of the bitmap block behind the first so many.
pub record FailsToFree (bitmap : Bitmap) (free named unreferenced : Bits) (last : List ℕ) (old new : Disk) : Type 0 where
  pub upto : ℕ
  pub within : upto < length bitmap.places
  pub count : ℕ
  pub counts : Where (IsTold bitmap free named unreferenced last) old (λ home.
      CountsUpTo (IsChangedBlock bitmap old.image new.image) upto count)
  pub went : Went (Moment (IsTold bitmap free named unreferenced last) old) old new (count + 1) 1
