-- What taking out the blocks of an area of an RT-11 volume tells, faulty or not (profile).
use Rattle.std.specs.Prelude.{◌≡◌, ℕ, ◌+◌, ◌-◌, ◌<◌, IsTrue, All, if◌then◌else◌, nat_le, List, [], ◌++◌, codes, length, Option, Some}
use Rattle.std.specs.Prelude.{None}
use Rattle.std.specs.Fmt.{decimal}
use Rattle.std.specs.List.{concat}
use Rattle.f11_dev.specs.Disk.{Disk}
use Rattle.f11_dev.specs.Looked.{Looked}
use Rattle.rt11_volume.specs.AnyDirectory.{blocks_from}
use Rattle.f11_commands.specs.Output.{WriterTakes}
use Rattle.f11_commands.specs.declared.rt_area.AreaStop.{AreaStop}
use Rattle.f11_commands.specs.declared.rt_area.AreaStop.TheVariants as stop

-- each of these blocks has 512 bytes
abbrev pub AreWhole : List (List ℕ) → Type 0
AreWhole blocks = All (λ block. length block ≡ 512) blocks

-- So many blocks from one on were written to the host's file.
pub record TakesArea {H : Type 0} (first blocks : ℕ) (old new : Disk) (contents : H → Option (List ℕ)) (before after : H) : Type 0 where
  pub given : List (List ℕ)
  pub count : length given ≡ blocks
  pub whole : AreWhole given
  pub are : IsTrue old.honest → given ≡ blocks_from old.image first blocks
  pub takes : WriterTakes contents before after (concat given)
  pub looked : Looked old new blocks 0

-- A transfer failed behind so many of them, which were written.
pub record StopsTaking {H : Type 0} (first blocks place : ℕ) (old new : Disk) (contents : H → Option (List ℕ)) (before after : H)
    : Type 0 where
  pub few : place < blocks
  pub given : List (List ℕ)
  pub count : length given ≡ place
  pub whole : AreWhole given
  pub are : IsTrue old.honest → given ≡ blocks_from old.image first place
  pub takes : WriterTakes contents before after (concat given)
  pub looked : Looked old new blocks 1

-- why they weren't all written: a transfer failed, or the host's file takes no more
abbrev pub FailsToTakeArea : {H : Type 0} → ℕ → ℕ → AreaStop → Disk → Disk → (H → Option (List ℕ)) → H → H → Type 0
FailsToTakeArea first blocks (stop.DeviceFault place) old new contents before after =
    StopsTaking first blocks place old new contents before after
FailsToTakeArea first blocks stop.HostFull old new contents before after = Looked old new blocks 0

-- the first of an area's blocks, from 1, that lies past the end of a device of so many, if there is one
abbrev pub first_past : ℕ → ℕ → ℕ → Option ℕ
first_past first blocks size = if nat_le (size - first + 1) blocks then Some (size - first + 1) else None

-- how a line tells of it
abbrev pub broken_text : Option ℕ → List ℕ
broken_text (Some place) = codes " broke off at block " ++ decimal place
broken_text None = []
