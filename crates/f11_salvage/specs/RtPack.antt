-- An RT-11 volume of which all files are to be copied (RT-11 Volume and File Formats Manual, "Directory Segments"; profile: what is read of
-- it).
use Rattle.std.specs.Prelude.{◌≡◌, ◌⊎◌, ℕ, ◌==◌, Bool, not, IsTrue, List, Option, Result, Err}
use Rattle.std.specs.List.{list_any}
use Rattle.f11_dev.specs.Disk.{Disk}
use Rattle.f11_dev.specs.Image.{Image, image_block}
use Rattle.f11_dev.specs.Looked.{Looked}
use Rattle.rt11_volume.specs.Calls.{most_transfers}
use Rattle.rt11_volume.specs.Directory.{count_of}
use Rattle.rt11_volume.specs.Surveying.{ReadsDirectory}
use Rattle.rt11_volume.specs.declared.any_entries.RtEntry.{RtEntry}
use Rattle.rt11_volume.specs.declared.any_state.RtState.{RtState}
use Rattle.rt11_volume.specs.declared.any_state.RtState.TheVariants.{Faulty}
use Rattle.f11_commands.specs.RtAny.{EndsUnread, served_so}
use Rattle.f11_commands.specs.declared.outcome.FileAnswer.{FileAnswer}
use Rattle.f11_commands.specs.declared.outcome.Failure.{Failure}
use Rattle.f11_commands.specs.declared.outcome.Failure.TheVariants.{DeviceFault}
use Rattle.f11_commands.specs.declared.rt_any.RtServed.{RtServed}
use Rattle.f11_salvage.specs.declared.rt_pack.Head.{Head}
use Rattle.f11_salvage.specs.declared.rt_pack.RtPack.{RtPack}

-- its device, how it is, all entries of its directory, how many segments that has, and whether there is something in its boot block
abbrev pub device_of : {D : Type 0} → RtPack D → D
device_of pack = pack.device

abbrev pub state_of : {D : Type 0} → RtPack D → RtState
state_of pack = pack.state

abbrev pub entries_of : {D : Type 0} → RtPack D → List RtEntry
entries_of pack = pack.entries

abbrev pub segments_of : {D : Type 0} → RtPack D → ℕ
segments_of pack = pack.head.segments

abbrev pub boots : {D : Type 0} → RtPack D → Bool
boots pack = pack.head.boots

-- a block has a byte that isn't 0
abbrev pub has_some : List ℕ → Bool
has_some block = list_any (λ b. not (b == 0)) block

-- What an image says before its directory, and of it.
pub record HeadIs (head : Head) (image : Image) : Type 0 where
  pub segments_are : head.segments ≡ count_of image
  pub boots_is : head.boots ≡ has_some (image_block image 0)

-- The directory was read, and these two blocks; nothing was written.
pub record BeginsPack {D : Type 0} (pack : RtPack D) (disk : D → Disk) (old : Disk) : Type 0 where
  pub middle : Disk
  pub directory : ReadsDirectory (state_of pack) (entries_of pack) old middle
  pub head : IsTrue middle.honest → HeadIs pack.head middle.image
  pub looked : Looked middle (disk (device_of pack)) 2 0

-- The directory was read, and then a transfer failed.
pub record LacksHead {W : Type 0} (told : Result FileAnswer Failure) (old new : Disk) (before after : W) : Type 0 where
  pub middle : Disk
  pub directory : Looked old middle most_transfers 0
  pub looked : Looked middle new 2 1
  pub told_is : told ≡ Err DeviceFault
  pub untold : after ≡ before

-- The directory can't be read, or what stands before it.
pub record CannotBegin {W : Type 0} (served : Result RtServed Failure) (old new : Disk) (contents : W → Option (List ℕ))
    (before after : W) : Type 0 where
  pub told : Result FileAnswer Failure
  pub ends : (EndsUnread told old new contents before after) ⊎ (LacksHead told old new before after)
  pub served_is : served ≡ served_so Faulty told
