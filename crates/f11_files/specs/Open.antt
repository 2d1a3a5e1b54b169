-- What contracts know of the files of an open volume.
use Rattle.std.specs.Prelude.{◌≡◌, ℕ, ◌≤◌, ◌||◌, Bool, true, IsTrue, Option, Result, IsErrOf}
use Rattle.f11_dev.specs.Disk.{Disk}
use Rattle.f11_dev.specs.declared.device.Device.{Ghosts}
use Rattle.f11_home.specs.Home.{HomeFields}
use Rattle.f11_store.specs.Store.{Store}
use Rattle.f11_store.specs.declared.files.FileId.{FileId}
use Rattle.f11_store.specs.declared.refusals.Refusal.{Refusal}
use Rattle.f11_store.specs.declared.refusals.Refusal.TheVariants.{VolumeFailed}
use Rattle.f11_writes.specs.Lost.{SparesLost}
use Rattle.f11_files.specs.Answers.{is_fatal, is_clean, is_refused}
use Rattle.f11_image_store.specs.StoreOf.{store_of}
use Rattle.f11_files.specs.Structure.{counts_of, home_of}
use Rattle.f11_files.specs.declared.files.Files.{Files}
use Rattle.f11_files.specs.declared.find.reach.Seen.{Seen}

-- the device
abbrev pub device_in : {D : Type 0} {met : Ghosts D} → Files D met → D
device_in files = files.device

-- whether a call has answered DeviceFault or Damaged, or such an answer was noted
abbrev pub has_failed : {D : Type 0} {met : Ghosts D} → Files D met → Bool
has_failed files = files.failed

-- the counts that are told
abbrev pub counts_in : {D : Type 0} {met : Ghosts D} → Files D met → ℕ × ℕ × ℕ
counts_in files = counts_of files.structure

-- the home block
abbrev pub home_in : {D : Type 0} {met : Ghosts D} → Files D met → HomeFields
home_in files = home_of files.structure

-- the disk
abbrev pub disk_in : {D : Type 0} {met : Ghosts D} → Files D met → Disk
disk_in {met = met} files = met.disk files.device

-- the store of the image
abbrev pub store_in : {D : Type 0} {met : Ghosts D} → Files D met → Store
store_in files = store_of (disk_in files).image (home_in files)

-- the header that a call on blocks reached last, if it is kept
abbrev pub seen_in : {D : Type 0} {met : Ghosts D} → Files D met → Option Seen
seen_in files = files.seen

-- whether what is read is what is there
abbrev pub is_honest : {D : Type 0} {met : Ghosts D} → Files D met → Type 0
is_honest files = IsTrue (disk_in files).honest

-- an identification of a file of this number or one above, on this volume
pub record IsIdFrom (least : ℕ) (f : FileId) : Type 0 where
  pub number : least ≤ f.number
  pub volume : f.volume ≡ 0

-- A call fails the volume where it answers DeviceFault or Damaged, and no other way; where an earlier one did, it answers VolumeFailed and
-- makes no transfer. Where it is refused and doesn't fail the volume, the counts that are told stay.
pub record AnswersCall {D T : Type 0} {met : Ghosts D} (result : Result T Refusal) (old new : Files D met) : Type 0 where
  pub failed : has_failed old ≡ true → IsErrOf result VolumeFailed
  pub untouched : has_failed old ≡ true → disk_in new ≡ disk_in old
  pub next : has_failed new ≡ (has_failed old || is_refused is_fatal result)
  pub home : home_in new ≡ home_in old
  pub counts : is_refused is_clean result ≡ true → counts_in new ≡ counts_in old

-- An answer that was made of what calls gave was noted: where it is DeviceFault or Damaged it fails the volume, as a call's would. What
-- is known of the files else is as it was.
pub record NotesAnswer {D T : Type 0} {met : Ghosts D} (result : Result T Refusal) (old new : Files D met) : Type 0 where
  pub next : has_failed new ≡ (has_failed old || is_refused is_fatal result)
  pub device : device_in new ≡ device_in old
  pub home : home_in new ≡ home_in old
  pub counts : counts_in new ≡ counts_in old
  pub seen : seen_in new ≡ seen_in old

-- A call keeps the counts that are told, and which header a call on blocks reached last.
pub record KeepsTold {D : Type 0} {met : Ghosts D} (old new : Files D met) : Type 0 where
  pub counts : counts_in new ≡ counts_in old
  pub seen : seen_in new ≡ seen_in old

-- A call spares the lost blocks of the volume: what was lost before it is as it was, and lost still unless a call has failed the volume.
-- Blocks are written in order.
abbrev pub CallSparesLost : {D : Type 0} {met : Ghosts D} → Files D met → Files D met → Type 0
CallSparesLost old new = SparesLost (has_failed old) (has_failed new) (disk_in old) (disk_in new)
