-- What `rt-get` does: a file of an RT-11 volume, faulty or not, is found, and its blocks are written to a file of the host (profile).
use Rattle.std.specs.Prelude.{◌≡◌, ◌⊎◌, ℕ, List, [], ◌∷◌, ◌++◌, Option, Some, None, Result, Ok, Err, codes, find, length}
use Rattle.std.specs.Fmt.{decimal}
use Rattle.f11_dev.specs.Disk.{Disk}
use Rattle.f11_dev.specs.Looked.{Looked}
use Rattle.rt11_volume.specs.AnyDirectory.{is_sound_file_named}
use Rattle.rt11_volume.specs.declared.any_entries.RtEntry.{RtEntry}
use Rattle.rt11_volume.specs.declared.any_state.RtState.{RtState}
use Rattle.rt11_volume.specs.declared.refusal.RtRefusal.TheVariants.{NoSuchFile}
use Rattle.f11_commands.specs.Output.{WriterTakes}
use Rattle.f11_commands.specs.RtAny.{CannotServe, ReadsVolume, done_so, replaced_text, served_so}
use Rattle.f11_commands.specs.RtFile.{TellsRt}
use Rattle.f11_commands.specs.RtTaking.{StopsTaking, TakesArea, broken_text, first_past}
use Rattle.f11_commands.specs.declared.outcome.FileAnswer.{FileAnswer}
use Rattle.f11_commands.specs.declared.outcome.Failure.{Failure}
use Rattle.f11_commands.specs.declared.outcome.Failure.TheVariants.{DeviceFault, NoMemory, CannotWrite}
use Rattle.f11_commands.specs.declared.rt_any.RtServed.{RtServed}

-- A volume's directory and its table of bad blocks were read, and this is its first entry of a file of the name that can be taken out.
pub record FindsEntry (name : List ℕ) (entry : RtEntry) (state : RtState) (bad : List ℕ) (old new : Disk) : Type 0 where
  pub entries : List RtEntry
  pub reads : ReadsVolume state entries bad old new
  pub first : find (is_sound_file_named name) entries ≡ Some entry

-- It has none, which was told.
pub record FindsNoEntry {W : Type 0} (name : List ℕ) (served : Result RtServed Failure) (old new : Disk)
    (contents : W → Option (List ℕ)) (before after : W) : Type 0 where
  pub state : RtState
  pub entries : List RtEntry
  pub bad : List ℕ
  pub reads : ReadsVolume state entries bad old new
  pub none : find (is_sound_file_named name) entries ≡ None
  pub told : Result FileAnswer Failure
  pub tells : TellsRt (Err NoSuchFile) told contents before after
  pub served_is : served ≡ served_so state told

-- how the command ends where no file was found
abbrev pub EndsFinding : {W : Type 0} → List ℕ → Result RtServed Failure → Disk → Disk → (W → Option (List ℕ)) → W → W → Type 0
EndsFinding name served old new contents before after =
    (CannotServe served old new contents before after) ⊎ (FindsNoEntry name served old new contents before after)

-- the line of a file that was taken out: how many blocks were written, and which of them is the first past the image's end
abbrev pub taken_text : RtEntry → ℕ → List ℕ
taken_text e size = codes "copied " ++ (decimal e.blocks ++ broken_text (first_past e.first e.blocks size))

-- that line, with those of its blocks that are bad
abbrev pub taken_line : RtEntry → List ℕ → ℕ → List ℕ
taken_line e bad size = taken_text e size ++ (replaced_text bad e.first e.blocks ++ 10 ∷ [])

-- The file's blocks were written to the host's file, and its line.
pub record GetsFile {H W : Type 0} (e : RtEntry) (bad : List ℕ) (old new : Disk) (held : H → Option (List ℕ)) (host host' : H)
    (contents : W → Option (List ℕ)) (before after : W) : Type 0 where
  pub takes : TakesArea e.first e.blocks old new held host host'
  pub line : WriterTakes contents before after (taken_line e bad (length old.image))

-- A transfer failed, and no line was written.
pub record BreaksOffFile {H W : Type 0} (e : RtEntry) (old new : Disk) (held : H → Option (List ℕ)) (host host' : H) (before after : W)
    : Type 0 where
  pub place : ℕ
  pub stops : StopsTaking e.first e.blocks place old new held host host'
  pub untold : after ≡ before

-- The host's file took no more, and no line was begun; or it has all blocks of the file, and the writer took no more of the line.
pub data CannotGet {H W : Type 0} (e : RtEntry) (old new : Disk) (held : H → Option (List ℕ)) (host host' : H) (before after : W)
    : Type 0 where
  host_full : Looked old new e.blocks 0 → after ≡ before → CannotGet e old new held host host' before after
  line_lost : TakesArea e.first e.blocks old new held host host' → CannotGet e old new held host host' before after

-- how the command ends with a file that was found
abbrev pub EndsGet : {H W : Type 0} → RtEntry → List ℕ → RtState → Result RtServed Failure → Disk → Disk → (H → Option (List ℕ)) → H → H →
    (W → Option (List ℕ)) → W → W → Type 0
EndsGet e bad state (Ok served) old new held host host' contents before after =
    (served ≡ done_so state) × GetsFile e bad old new held host host' contents before after
EndsGet e bad state (Err DeviceFault) old new held host host' contents before after = BreaksOffFile e old new held host host' before after
EndsGet e bad state (Err NoMemory) old new held host host' contents before after = ⊥
EndsGet e bad state (Err CannotWrite) old new held host host' contents before after = CannotGet e old new held host host' before after
