-- What `rt-get` does with a text: the blocks of a file of an RT-11 volume are read, and the text of the host that they hold is written to
-- one of the host (profile).
use Rattle.std.specs.Prelude.{◌≡◌, ℕ, ◌<◌, IsTrue, List, [], ◌∷◌, ◌++◌, Option, Result, Ok, Err, codes, length}
use Rattle.std.specs.Fmt.{decimal}
use Rattle.std.specs.List.{concat}
use Rattle.f11_dev.specs.Disk.{Disk}
use Rattle.f11_dev.specs.Looked.{Looked}
use Rattle.rt11_text.specs.Text.{host_text}
use Rattle.rt11_volume.specs.AnyDirectory.{blocks_from}
use Rattle.rt11_volume.specs.declared.any_entries.RtEntry.{RtEntry}
use Rattle.rt11_volume.specs.declared.any_state.RtState.{RtState}
use Rattle.f11_commands.specs.Output.{WriterTakes}
use Rattle.f11_commands.specs.RtAny.{done_so, replaced_text}
use Rattle.f11_commands.specs.RtTaking.{AreWhole, broken_text, first_past}
use Rattle.f11_commands.specs.declared.outcome.Failure.{Failure}
use Rattle.f11_commands.specs.declared.outcome.Failure.TheVariants.{DeviceFault, NoMemory, CannotWrite}
use Rattle.f11_commands.specs.declared.rt_any.RtServed.{RtServed}
use Rattle.f11_commands.specs.declared.rt_area.AreaStop.{AreaStop}
use Rattle.f11_commands.specs.declared.rt_area.AreaStop.TheVariants as stop

-- So many blocks from one on were read, and the text of so many bytes that they hold was written to the host's file.
pub record TakesText {H : Type 0} (first blocks bytes : ℕ) (old new : Disk) (contents : H → Option (List ℕ)) (before after : H) : Type 0
  where
    pub read : List (List ℕ)
    pub count : length read ≡ blocks
    pub whole : AreWhole read
    pub are : IsTrue old.honest → read ≡ blocks_from old.image first blocks
    pub takes : WriterTakes contents before after (host_text (concat read))
    pub size : bytes ≡ length (host_text (concat read))
    pub looked : Looked old new blocks 0

-- A transfer failed behind so many of them, and what was written is the beginning of each text that begins with them.
pub record StopsTakingText {H : Type 0} (first blocks place : ℕ) (old new : Disk) (contents : H → Option (List ℕ)) (before after : H)
    : Type 0 where
  pub few : place < blocks
  pub read : List (List ℕ)
  pub count : length read ≡ place
  pub whole : AreWhole read
  pub are : IsTrue old.honest → read ≡ blocks_from old.image first place
  pub given : List ℕ
  pub front : (more : List ℕ) → (rest : List ℕ) × (host_text (concat read ++ more) ≡ given ++ rest)
  pub takes : WriterTakes contents before after given
  pub looked : Looked old new blocks 1

-- why not all of it was written: a transfer failed, or the host's file takes no more
abbrev pub FailsToTakeText : {H : Type 0} → ℕ → ℕ → AreaStop → Disk → Disk → (H → Option (List ℕ)) → H → H → Type 0
FailsToTakeText first blocks (stop.DeviceFault place) old new contents before after =
    StopsTakingText first blocks place old new contents before after
FailsToTakeText first blocks stop.HostFull old new contents before after = Looked old new blocks 0

-- the line of a file that was taken out as a text: how many bytes were written, which of its blocks is the first past the image's end, and
-- which are bad
abbrev pub text_line : RtEntry → List ℕ → ℕ → ℕ → List ℕ
text_line e bad size bytes =
    codes "copied " ++ (decimal bytes ++ (codes " bytes" ++ (broken_text (first_past e.first e.blocks size)
    ++ (replaced_text bad e.first e.blocks ++ 10 ∷ []))))

-- The file's text was written to the host's file, and its line.
pub record GetsText {H W : Type 0} (e : RtEntry) (bad : List ℕ) (old new : Disk) (held : H → Option (List ℕ)) (host host' : H)
    (contents : W → Option (List ℕ)) (before after : W) : Type 0 where
  pub bytes : ℕ
  pub takes : TakesText e.first e.blocks bytes old new held host host'
  pub line : WriterTakes contents before after (text_line e bad (length old.image) bytes)

-- A transfer failed, and no line was written.
pub record BreaksOffText {H W : Type 0} (e : RtEntry) (old new : Disk) (held : H → Option (List ℕ)) (host host' : H) (before after : W)
    : Type 0 where
  pub place : ℕ
  pub stops : StopsTakingText e.first e.blocks place old new held host host'
  pub untold : after ≡ before

-- The host's file took no more, and no line was begun; or it has the whole text, and the writer took no more of the line.
pub data CannotGetText {H W : Type 0} (e : RtEntry) (old new : Disk) (held : H → Option (List ℕ)) (host host' : H) (before after : W)
    : Type 0 where
  host_full : Looked old new e.blocks 0 → after ≡ before → CannotGetText e old new held host host' before after
  line_lost : (bytes : ℕ) → TakesText e.first e.blocks bytes old new held host host' → CannotGetText e old new held host host' before after

-- how the command ends with the text of a file that was found
abbrev pub EndsGetText : {H W : Type 0} → RtEntry → List ℕ → RtState → Result RtServed Failure → Disk → Disk → (H → Option (List ℕ)) →
    H → H → (W → Option (List ℕ)) → W → W → Type 0
EndsGetText e bad state (Ok served) old new held host host' contents before after =
    (served ≡ done_so state) × GetsText e bad old new held host host' contents before after
EndsGetText e bad state (Err DeviceFault) old new held host host' contents before after =
    BreaksOffText e old new held host host' before after
EndsGetText e bad state (Err NoMemory) old new held host host' contents before after = ⊥
EndsGetText e bad state (Err CannotWrite) old new held host host' contents before after =
    CannotGetText e old new held host host' before after
