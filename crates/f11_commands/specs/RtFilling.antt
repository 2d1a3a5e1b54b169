-- How a file of an RT-11 volume that was made is filled, and undone (profile).
use Rattle.std.specs.Prelude.{◌≡◌, ◌≢◌, ◌⊎◌, ℕ, ◌*◌, ◌||◌, true, List, length, Option, Err, ◌<◌, if◌then◌else◌}
use Rattle.std.specs.Io.KnownBytes.{Consumes}
use Rattle.std.specs.List.{concat}
use Rattle.f11_dev.specs.Disk.{Disk}
use Rattle.f11_dev.specs.declared.device.Device.{Ghosts}
use Rattle.f11_flx.specs.Target.{DeletesRtFile, FailsDeleting, MakesTransfers, Puts, SparesFront, rt_disk}
use Rattle.f11_host.specs.Pieces.{filled_up}
use Rattle.rt11_volume.specs.Calls.{has_failed}
use Rattle.rt11_volume.specs.Files.{faults_in, is_fault}
use Rattle.rt11_volume.specs.Verifying.Verdict.{IsSoundDisk}
use Rattle.rt11_volume.specs.declared.refusal.RtRefusal.{RtRefusal}
use Rattle.rt11_volume.specs.declared.refusal.RtRefusal.TheVariants.{Failed}
use Rattle.rt11_volume.specs.declared.volume.RtAccepted.{RtAccepted}
use Rattle.f11_commands.specs.RtDelete.{delete_transfers}
use Rattle.f11_commands.specs.RtFile.{block_transfers}
use Rattle.f11_commands.specs.declared.rt_file.Stop.{Stop}
use Rattle.f11_commands.specs.declared.rt_file.Stop.TheVariants.{Volume, Host}

-- All blocks of a file were written: they hold the bytes that were read, filled up.
pub record FillsNamed {E : Type 0} {met : Ghosts E} (disk : E → Disk) (name : List ℕ) (bytes blocks : ℕ) (unread unread' : Option (List ℕ))
    (old new : RtAccepted E met) : Type 0 where
  pub pieces : List (List ℕ)
  pub taken : List ℕ
  pub count : length pieces ≡ blocks
  pub size : length taken ≡ bytes
  pub content : concat pieces ≡ filled_up taken blocks
  pub takes : Consumes unread unread' taken
  pub puts : Puts disk name 0 pieces old new
  pub went : MakesTransfers (rt_disk disk old) (rt_disk disk new) (block_transfers * blocks) 0

-- A block was refused: on a sound disk a transfer failed.
pub record StopsFilling {E : Type 0} {met : Ghosts E} (disk : E → Disk) (blocks : ℕ) (e : RtRefusal) (old new : RtAccepted E met)
    : Type 0 where
  pub fresh : e ≢ Failed
  pub next : has_failed new ≡ (has_failed old || is_fault e)
  pub fault : IsSoundDisk (rt_disk disk old) → is_fault e ≡ true
  pub front : IsSoundDisk (rt_disk disk old) → SparesFront (rt_disk disk old) (rt_disk disk new)
  pub went : MakesTransfers (rt_disk disk old) (rt_disk disk new) (block_transfers * blocks) (faults_in {T = Unit} (Err e))

-- The host's file gave no more: some blocks were written, and one more is to be.
pub record LacksBytes {E : Type 0} {met : Ghosts E} (disk : E → Disk) (name : List ℕ) (blocks : ℕ) (old new : RtAccepted E met)
    : Type 0 where
  pub some : 0 < blocks
  pub pieces : List (List ℕ)
  pub puts : Puts disk name 0 pieces old new
  pub went : MakesTransfers (rt_disk disk old) (rt_disk disk new) (block_transfers * blocks) 0

abbrev pub FailsToFill : {E : Type 0} {met : Ghosts E} → (E → Disk) → List ℕ → ℕ → Stop → RtAccepted E met → RtAccepted E met → Type 0
FailsToFill disk name blocks (Volume e) old new = StopsFilling disk blocks e old new
FailsToFill disk name blocks Host old new = LacksBytes disk name blocks old new

-- the file was deleted, or that was refused, which is told where a transfer failed
abbrev pub stop_of : RtRefusal → Stop
stop_of e = if is_fault e then Volume e else Host

pub record IsGone {E : Type 0} {met : Ghosts E} (disk : E → Disk) (name : List ℕ) (stop : Stop) (old new : RtAccepted E met) : Type 0 where
  pub stop_is : stop ≡ Host
  pub deleted : DeletesRtFile disk name old new
  pub went : MakesTransfers (rt_disk disk old) (rt_disk disk new) delete_transfers 0

pub record IsNotGone {E : Type 0} {met : Ghosts E} (disk : E → Disk) (name : List ℕ) (stop : Stop) (old new : RtAccepted E met)
    : Type 0 where
  pub e : RtRefusal
  pub stop_is : stop ≡ stop_of e
  pub refused : FailsDeleting disk name e old new
  pub went : MakesTransfers (rt_disk disk old) (rt_disk disk new) delete_transfers (faults_in {T = Unit} (Err e))

abbrev pub UndoesStoring : {E : Type 0} {met : Ghosts E} → (E → Disk) → List ℕ → Stop → RtAccepted E met → RtAccepted E met → Type 0
UndoesStoring disk name stop old new = (IsGone disk name stop old new) ⊎ (IsNotGone disk name stop old new)
