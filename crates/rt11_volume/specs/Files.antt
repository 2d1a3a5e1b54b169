-- What the calls on an RT-11 volume's files answer, and what they do to its disk.
use Rattle.std.specs.Prelude.{◌≡◌, ◌⊎◌, ℕ, ◌+◌, ◌<◌, ◌≤◌, Bool, true, false, if◌then◌else◌, List, Result, Ok, Err, Some, ⊤, slice_set}
use Rattle.std.specs.Prelude.{length}
use Rattle.std.specs.Prelude.{map, slice_index}
use Rattle.std.specs.List.{slice_get}
use Rattle.f11_dev.specs.Disk.{Disk}
use Rattle.f11_dev.specs.Image.{Image}
use Rattle.rt11_volume.specs.Entry.{is_file_named, protected_entry, renamed_entry}
use Rattle.rt11_volume.specs.Directory.{count_of, data_start, KeepsData}
use Rattle.rt11_volume.specs.Named.{files_named}
use Rattle.rt11_volume.specs.Operations.{needs_split, with_area_emptied, with_block, with_entry, with_new_file}
use Rattle.rt11_volume.specs.Searching.Search.{IsFirst, HasNone, is_empty_for}
use Rattle.rt11_volume.specs.Segment.{Segment}
use Rattle.rt11_volume.specs.Store.{RtStore, rt_store_of, Area, area_at}
use Rattle.rt11_volume.specs.Verifying.Verdict.{IsRtAccepted, IsSoundDisk}
use Rattle.rt11_volume.specs.declared.lookup.file.Located.{Located}
use Rattle.rt11_volume.specs.declared.refusal.RtRefusal.{RtRefusal}
use Rattle.rt11_volume.specs.declared.refusal.RtRefusal.TheVariants.{
  Failed,
  NoSuchFile,
  EndOfFile,
  Protected,
  DuplicateName,
  NoSpace,
  DirectoryFull,
  NoMemory,
  DeviceFault,
}

-- whether a refusal is that of a transfer that failed
abbrev pub is_fault : RtRefusal → Bool
is_fault Failed = false
is_fault NoSuchFile = false
is_fault EndOfFile = false
is_fault Protected = false
is_fault DuplicateName = false
is_fault NoSpace = false
is_fault DirectoryFull = false
is_fault NoMemory = false
is_fault DeviceFault = true

-- whether an answer is
abbrev pub is_device_fault : {T : Type 0} → Result T RtRefusal → Bool
is_device_fault (Ok x) = false
is_device_fault (Err refusal) = is_fault refusal

-- how many transfers failed, by the answer
abbrev pub faults_in : {T : Type 0} → Result T RtRefusal → ℕ
faults_in result = if is_device_fault result then 1 else 0

-- The file of a name: the first permanent entry with it, in link order.
pub record HasFile (name : List ℕ) (store : RtStore) : Type 0 where
  pub place : ℕ
  pub i : ℕ
  pub segment : Segment
  pub entry : List ℕ
  pub first : IsFirst (is_file_named name) store.segments place i segment entry

-- its area
abbrev pub file_area : {name : List ℕ} {store : RtStore} → HasFile name store → Area
file_area {store = store} file = area_at store file.segment file.i

-- there is no file of this name
abbrev pub HasNoFile : List ℕ → RtStore → Type 0
HasNoFile name store = HasNone (is_file_named name) store.segments

-- The file begins at a block, and has so many.
pub record IsFileAt (name : List ℕ) (store : RtStore) (start length : ℕ) : Type 0 where
  pub file : HasFile name store
  pub start_is : start ≡ (file_area file).start
  pub length_is : length ≡ (file_area file).length

-- a file that was found lies there still: the first of its name begins at its first block and is as long, and the device has all of it
abbrev pub IsLocated : Located → Image → Type 0
IsLocated at image =
    let files = files_named at.name (rt_store_of image) in
    (slice_get (map (λ (a : Area). a.start) files) 0 ≡ Some at.start) ×
    (slice_get (map (λ (a : Area). a.length) files) 0 ≡ Some at.length) ×
    (at.start + at.length ≤ length image)

-- why a file is not found
abbrev pub FailsToFindFile : RtRefusal → List ℕ → Disk → Type 0
FailsToFindFile Failed name disk = ⊤
FailsToFindFile NoSuchFile name disk = IsSoundDisk disk → HasNoFile name (rt_store_of disk.image)
FailsToFindFile EndOfFile name disk = ⊥
FailsToFindFile Protected name disk = ⊥
FailsToFindFile DuplicateName name disk = ⊥
FailsToFindFile NoSpace name disk = ⊥
FailsToFindFile DirectoryFull name disk = ⊥
FailsToFindFile NoMemory name disk = ⊥
FailsToFindFile DeviceFault name disk = ⊤

-- The file has a block at this place, from 0.
pub record HasBlock (name : List ℕ) (store : RtStore) (place : ℕ) (block : List ℕ) : Type 0 where
  pub file : HasFile name store
  pub block_is : slice_get (file_area file).contents place ≡ Some block

-- Block `lbn` is that one.
pub record IsBlockAt (name : List ℕ) (store : RtStore) (place lbn : ℕ) : Type 0 where
  pub file : HasFile name store
  pub inside : place < (file_area file).length
  pub lbn_is : lbn ≡ (file_area file).start + place

-- It has none.
pub record IsPastEnd (name : List ℕ) (store : RtStore) (place : ℕ) : Type 0 where
  pub file : HasFile name store
  pub past : (file_area file).length ≤ place

-- why no block of a file is reached
abbrev pub FailsToReach : RtRefusal → List ℕ → ℕ → Disk → Type 0
FailsToReach Failed name place disk = ⊤
FailsToReach NoSuchFile name place disk = IsSoundDisk disk → HasNoFile name (rt_store_of disk.image)
FailsToReach EndOfFile name place disk = IsSoundDisk disk → IsPastEnd name (rt_store_of disk.image) place
FailsToReach Protected name place disk = ⊥
FailsToReach DuplicateName name place disk = ⊥
FailsToReach NoSpace name place disk = ⊥
FailsToReach DirectoryFull name place disk = ⊥
FailsToReach NoMemory name place disk = ⊥
FailsToReach DeviceFault name place disk = ⊤

-- The block at this place of the file, which lies behind the directory, was replaced, and nothing else; the image is accepted as it was.
pub record WritesBlock (name : List ℕ) (place : ℕ) (block : List ℕ) (old new : Image) : Type 0 where
  pub file : HasFile name (rt_store_of old)
  pub inside : place < (file_area file).length
  pub behind : data_start old ≤ (file_area file).start
  pub store_is : rt_store_of new ≡ with_block (rt_store_of old) ((file_area file).start + place) block
  pub image_is : new ≡ slice_set old ((file_area file).start + place) block
  pub accepted : IsRtAccepted new

-- the images that stand while it is written
abbrev pub HasBlockWritten : List ℕ → ℕ → List ℕ → Disk → Image → Type 0
HasBlockWritten name place block old image = IsSoundDisk old → WritesBlock name place block old.image image

-- no block but those of the directory is another than it was
abbrev pub KeepsFiles : Disk → Image → Type 0
KeepsFiles old image = IsSoundDisk old → KeepsData (count_of old.image) old.image image

-- The file's area is empty and joined with one empty neighbour on each side; the image is accepted as it was.
pub record DeletesFile (name : List ℕ) (old new : Image) : Type 0 where
  pub file : HasFile name (rt_store_of old)
  pub unprotected : (file_area file).protected ≡ false
  pub store_is : rt_store_of new ≡ with_area_emptied (rt_store_of old) file.place file.i file.segment
  pub accepted : IsRtAccepted new

-- The file is protected.
pub record IsProtectedFile (name : List ℕ) (store : RtStore) : Type 0 where
  pub file : HasFile name store
  pub protected : (file_area file).protected ≡ true

-- why a file is not deleted
abbrev pub FailsToDelete : RtRefusal → List ℕ → Disk → Type 0
FailsToDelete Failed name disk = ⊤
FailsToDelete NoSuchFile name disk = IsSoundDisk disk → HasNoFile name (rt_store_of disk.image)
FailsToDelete EndOfFile name disk = ⊥
FailsToDelete Protected name disk = IsSoundDisk disk → IsProtectedFile name (rt_store_of disk.image)
FailsToDelete DuplicateName name disk = ⊥
FailsToDelete NoSpace name disk = ⊥
FailsToDelete DirectoryFull name disk = ⊥
FailsToDelete NoMemory name disk = ⊥
FailsToDelete DeviceFault name disk = ⊤

-- The first empty area of at least so many blocks, in link order.
pub record HasArea (blocks : ℕ) (store : RtStore) : Type 0 where
  pub place : ℕ
  pub i : ℕ
  pub segment : Segment
  pub entry : List ℕ
  pub first : IsFirst (is_empty_for blocks) store.segments place i segment entry

-- no area is so long
abbrev pub HasNoArea : ℕ → RtStore → Type 0
HasNoArea blocks store = HasNone (is_empty_for blocks) store.segments

-- There is no file of the name, and no area is so long.
pub record IsWithoutSpace (name : List ℕ) (blocks : ℕ) (store : RtStore) : Type 0 where
  pub no_file : HasNoFile name store
  pub no_area : HasNoArea blocks store

-- There is no file of the name, and an area, but no room for one more entry in its segment, and every segment is in use.
pub record IsDirectoryFull (name : List ℕ) (blocks : ℕ) (store : RtStore) : Type 0 where
  pub no_file : HasNoFile name store
  pub area : HasArea blocks store
  pub needs : needs_split store.extra area.segment area.i blocks ≡ true
  pub full : store.highest ≡ store.count

-- why no file is made
abbrev pub FailsToCreate : RtRefusal → List ℕ → ℕ → Disk → Type 0
FailsToCreate Failed name blocks disk = ⊤
FailsToCreate NoSuchFile name blocks disk = ⊥
FailsToCreate EndOfFile name blocks disk = ⊥
FailsToCreate Protected name blocks disk = ⊥
FailsToCreate DuplicateName name blocks disk = IsSoundDisk disk → HasFile name (rt_store_of disk.image)
FailsToCreate NoSpace name blocks disk = IsSoundDisk disk → IsWithoutSpace name blocks (rt_store_of disk.image)
FailsToCreate DirectoryFull name blocks disk = IsSoundDisk disk → IsDirectoryFull name blocks (rt_store_of disk.image)
FailsToCreate NoMemory name blocks disk = ⊥
FailsToCreate DeviceFault name blocks disk = ⊤

-- The file was made in the front of the first empty area that is as long; the image is accepted as it was.
pub record CreatesFile (name : List ℕ) (blocks day : ℕ) (old new : Image) : Type 0 where
  pub no_file : HasNoFile name (rt_store_of old)
  pub area : HasArea blocks (rt_store_of old)
  pub fits : needs_split (rt_store_of old).extra area.segment area.i blocks ≡ true → (rt_store_of old).highest < (rt_store_of old).count
  pub store_is : rt_store_of new ≡ with_new_file (rt_store_of old) area.place area.i area.segment name blocks day
  pub accepted : IsRtAccepted new

-- The file's entry is another, and nothing else; the image is accepted as it was.
pub record ChangesEntry (changed : List ℕ → List ℕ) (name : List ℕ) (old new : Image) : Type 0 where
  pub file : HasFile name (rt_store_of old)
  pub store_is : rt_store_of new ≡ with_entry (rt_store_of old) file.place file.i file.segment (changed file.entry)
  pub accepted : IsRtAccepted new

-- While it is written each of its words is as it was or as it is to be; nothing else is another, and the image is accepted as it was.
pub record IsChangingEntry (changed : List ℕ → List ℕ) (name : List ℕ) (old image : Image) : Type 0 where
  pub file : HasFile name (rt_store_of old)
  pub entry : List ℕ
  pub size : length entry ≡ length file.entry
  pub each : (k : ℕ) → (slice_index entry k ≡ slice_index file.entry k) ⊎ (slice_index entry k ≡ slice_index (changed file.entry) k)
  pub store_is : rt_store_of image ≡ with_entry (rt_store_of old) file.place file.i file.segment entry
  pub accepted : IsRtAccepted image

-- the images that stand meanwhile
abbrev pub HasEntryChanged : (List ℕ → List ℕ) → List ℕ → Disk → Image → Type 0
HasEntryChanged changed name old image = IsSoundDisk old → IsChangingEntry changed name old.image image

-- There was no file of the new name, and the file has it.
pub record RenamesFile (name other : List ℕ) (old new : Image) : Type 0 where
  pub no_file : HasNoFile other (rt_store_of old)
  pub changes : ChangesEntry (renamed_entry other) name old new

-- why a name isn't free
abbrev pub FailsToFree : RtRefusal → List ℕ → Disk → Type 0
FailsToFree Failed name disk = ⊤
FailsToFree NoSuchFile name disk = ⊥
FailsToFree EndOfFile name disk = ⊥
FailsToFree Protected name disk = ⊥
FailsToFree DuplicateName name disk = IsSoundDisk disk → HasFile name (rt_store_of disk.image)
FailsToFree NoSpace name disk = ⊥
FailsToFree DirectoryFull name disk = ⊥
FailsToFree NoMemory name disk = ⊥
FailsToFree DeviceFault name disk = ⊤

-- There is the file, and one of the other name, which may be that one.
pub record HasBoth (name other : List ℕ) (store : RtStore) : Type 0 where
  pub file : HasFile name store
  pub other_file : HasFile other store

-- why a file is not renamed
abbrev pub FailsToRename : RtRefusal → List ℕ → List ℕ → Disk → Type 0
FailsToRename Failed name other disk = ⊤
FailsToRename NoSuchFile name other disk = IsSoundDisk disk → HasNoFile name (rt_store_of disk.image)
FailsToRename EndOfFile name other disk = ⊥
FailsToRename Protected name other disk = ⊥
FailsToRename DuplicateName name other disk = IsSoundDisk disk → HasBoth name other (rt_store_of disk.image)
FailsToRename NoSpace name other disk = ⊥
FailsToRename DirectoryFull name other disk = ⊥
FailsToRename NoMemory name other disk = ⊥
FailsToRename DeviceFault name other disk = ⊤

-- the file is protected, or isn't, as it is told
abbrev pub ProtectsFile : Bool → List ℕ → Image → Image → Type 0
ProtectsFile on name old new = ChangesEntry (protected_entry on) name old new
