-- What the verifier notes of a volume whose frame is as it should be (profile: what is noted, and the codes).
use Rattle.std.specs.Prelude.{◌≡◌, ℕ, ◌+◌, ◌-◌, ◌<◌, ◌≤◌, ◌==◌, false, true, IsTrue, List, Some, length, slice_index}
use Rattle.std.specs.Int.{bit_at}
use Rattle.std.specs.List.{slice_get, range_with_len}
use Rattle.f11_dev.specs.Image.{Image}
use Rattle.f11_chain.specs.rad50.Name.{IsName}
use Rattle.f11_chain.specs.map.HeaderBlock.{segment_number}
use Rattle.f11_chain.specs.index.Headers.{IsInFile}
use Rattle.f11_chain.specs.index.Table.{Table, IsLive, IsDeadSlot, IsFile, last_sequence}
use Rattle.f11_chain.specs.store.Directory.{is_directory, entries_of, is_empty, record_id, record_name}
use Rattle.f11_chain.specs.store.File.{File, is_marked, has_contiguous_mark}
use Rattle.f11_chain.specs.store.declared.files.FileId.{FileId}
use Rattle.f11_volume.specs.Contents.{blocks_reached, file_of}
use Rattle.f11_volume.specs.Volume.{Volume, IsNamed}

-- block lbn of the volume is lost: it is neither free nor named
pub record IsLost (v : Volume) (lbn : ℕ) : Type 0 where
  pub inside : lbn < v.size
  pub used : v.free lbn ≡ false
  pub unnamed : ¬ IsNamed v.table lbn

-- the blocks from `low` to `high` are lost, and neither the one before nor the one after is
pub record IsLostRun (v : Volume) (low high : ℕ) : Type 0 where
  pub some : low ≤ high
  pub each : (lbn : ℕ) → low ≤ lbn → lbn ≤ high → IsLost v lbn
  pub before : 0 < low → ¬ IsLost v (low - 1)
  pub after : ¬ IsLost v (high + 1)

-- file d is a directory
pub record IsDirectory (image : Image) (t : Table) (d : ℕ) : Type 0 where
  pub file : IsFile t d
  pub directory : IsTrue (is_directory (file_of image t d))

-- record i of directory d, from 0, which isn't empty
pub record IsRecord (image : Image) (t : Table) (d i : ℕ) (record_bytes : List ℕ) : Type 0 where
  pub directory : IsDirectory image t d
  pub entry : slice_get (entries_of (file_of image t d)) i ≡ Some record_bytes
  pub not_empty : is_empty record_bytes ≡ false

-- an identification is that of file n: its number, its sequence number, and no other volume
pub record IsIdOf (t : Table) (id : FileId) (n : ℕ) : Type 0 where
  pub file : IsFile t n
  pub number : id.number ≡ n
  pub sequence : id.sequence ≡ last_sequence t n
  pub here : id.volume ≡ 0

-- a record of a directory names file n
pub record IsEntered (image : Image) (t : Table) (n : ℕ) : Type 0 where
  pub directory : ℕ
  pub place : ℕ
  pub bytes : List ℕ
  pub entry : IsRecord image t directory place bytes
  pub names : IsIdOf t (record_id bytes) n

-- an earlier record of the same directory has the same name
pub record IsRepeated (image : Image) (t : Table) (d i : ℕ) (bytes : List ℕ) : Type 0 where
  pub place : ℕ
  pub earlier : place < i
  pub other : List ℕ
  pub entry : IsRecord image t d place other
  pub name : record_name other ≡ record_name bytes

-- UC.DLK, bit 6 of the characteristics: the file wasn't closed properly ("File Header", H.UCHA)
abbrev pub was_open : File → Type 0
was_open f = (bit_at f.characteristics 6 == 1) ≡ true

-- blocks are contiguous: they are those from the first one on, each behind the one before it ("File Header", H.UCHA, UC.CON)
abbrev pub AreContiguous : List ℕ → Type 0
AreContiguous lbns = lbns ≡ range_with_len (slice_index lbns 0) (length lbns)

-- The notes, each with its code and two numbers.
pub data IsVolumeNote (image : Image) (v : Volume) : ℕ → ℕ → ℕ → Type 0 where
  -- blocks low to high are lost
  blocks_lost : (low high : ℕ) → IsLostRun v low high → IsVolumeNote image v 1 low high
  -- header n is dead
  header_dead : (n : ℕ) → IsDeadSlot v.table n → IsVolumeNote image v 2 n 0
  -- header n is an orphan: one of a later segment, and of no file
  orphan : (n : ℕ) → IsLive v.table n → 0 < segment_number (v.table.header n) → ¬ IsInFile v.table n → IsVolumeNote image v 3 n 0
  -- file n is marked for delete
  marked : (n : ℕ) → IsFile v.table n → IsTrue (is_marked (file_of image v.table n)) → IsVolumeNote image v 4 n 0
  -- file n wasn't closed properly
  not_closed : (n : ℕ) → IsFile v.table n → was_open (file_of image v.table n) → IsVolumeNote image v 5 n 0
  -- file n is in no directory
  in_no_directory : (n : ℕ) → IsFile v.table n → ¬ IsEntered image v.table n → IsVolumeNote image v 6 n 0
  -- record i of directory d names no file
  names_no_file : (d i : ℕ) (bytes : List ℕ) → IsRecord image v.table d i bytes → ((n : ℕ) → ¬ IsIdOf v.table (record_id bytes) n) →
      IsVolumeNote image v 7 d i
  -- it repeats a name
  name_repeated : (d i : ℕ) (bytes : List ℕ) → IsRecord image v.table d i bytes → IsRepeated image v.table d i bytes →
      IsVolumeNote image v 8 d i
  -- it has no name
  no_name : (d i : ℕ) (bytes : List ℕ) → IsRecord image v.table d i bytes → ¬ IsName (record_name bytes) → IsVolumeNote image v 9 d i
  -- file n has the contiguous mark, and isn't contiguous
  not_contiguous : (n : ℕ) → IsFile v.table n → IsTrue (has_contiguous_mark (file_of image v.table n)) →
      ¬ AreContiguous (blocks_reached v.table n) → IsVolumeNote image v 10 n 0
