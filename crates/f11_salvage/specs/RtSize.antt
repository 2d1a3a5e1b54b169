-- Of which size a fresh RT-11 volume is to which all files of another are copied (RT-11 Volume and File Formats Manual, "Directory
-- Segments"; profile: what is taken of the old volume, where it isn't said).
use Rattle.std.specs.Prelude.{◌≡◌, ◌⊎◌, ℕ, ◌<◌, ◌≤◌, ◌&&◌, Bool, true, false, nat_le, min, Option, Some, None, Result, Ok, Err}
use Rattle.std.specs.Prelude.{List, [], ◌∷◌, ◌++◌, codes, length}
use Rattle.f11_dev.specs.Disk.{Disk}
use Rattle.rt11_copy.specs.Fitting.{need_of, will_fit}
use Rattle.rt11_copy.specs.declared.fitting.RtNeed.{RtNeed}
use Rattle.rt11_volume.specs.declared.any_state.RtState.{RtState}
use Rattle.rt11_volume.specs.declared.any_state.RtState.TheVariants.{Sound, Short, Faulty}
use Rattle.f11_commands.specs.InitCommand.{refusal_line}
use Rattle.f11_salvage.specs.RtPack.{device_of, entries_of, segments_of, state_of}
use Rattle.f11_salvage.specs.declared.rt_pack.RtPack.{RtPack}
use Rattle.f11_salvage.specs.declared.rt_size.RtSize.{RtSize}
use Rattle.f11_salvage.specs.declared.rt_size.RtTooSmall.{RtTooSmall}
use Rattle.f11_salvage.specs.declared.rt_size.RtTooSmall.TheVariants.{BadParameter, Wants, Never}

-- so many blocks an old volume should have whose device has so many
abbrev pub old_blocks : RtState → ℕ → ℕ
old_blocks Sound size = size
old_blocks (Short wanted) size = wanted
old_blocks Faulty size = size

-- A volume with so many segments has no room for files, whatever its size.
abbrev pub HasNever : RtNeed → ℕ → Type 0
HasNever need segments = (blocks : ℕ) → will_fit need segments blocks ≡ false

-- The size is the first, counted by segments from so many on, that has room, and of so many segments the least: exactly those of as many
-- blocks, or more, have.
pub record IsFirstSize (need : RtNeed) (from : ℕ) (size : RtSize) : Type 0 where
  pub behind : from ≤ size.segments
  pub least : (blocks : ℕ) → will_fit need size.segments blocks ≡ nat_le size.blocks blocks
  pub before : (n : ℕ) → from ≤ n → n < size.segments → HasNever need n

-- that is it, or there is none
abbrev pub FirstSize : RtNeed → ℕ → Option RtSize → Type 0
FirstSize need from (Some size) = IsFirstSize need from size
FirstSize need from None = (n : ℕ) → from ≤ n → HasNever need n

-- as many segments as the first size has, or as there were where there is none
abbrev pub segments_by : ℕ → Option RtSize → ℕ
segments_by from (Some size) = size.segments
segments_by from None = from

-- How many segments: as many as are asked for, or else as the old volume has, or the first number behind that with which the files fit.
abbrev pub TakesSegments : RtNeed → (old : ℕ) → (asked : Option ℕ) → ℕ → Type 0
TakesSegments need old (Some n) segments = segments ≡ n
TakesSegments need old None segments = (first : Option RtSize) × FirstSize need old first × (segments ≡ segments_by old first)

-- and how many blocks: as asked for, or as many as the old volume should have, of which an RT-11 volume has 65535 at most
abbrev pub takes_blocks : (old : ℕ) → (asked : Option ℕ) → ℕ
takes_blocks old (Some n) = n
takes_blocks old None = min old 65535

-- it is a size of a directory
abbrev pub is_count : ℕ → Bool
is_count segments = nat_le 1 segments && nat_le segments 31

-- Why no volume of this size has room: no directory has so many segments, or the files want that size, which is the first from as many
-- segments on; and where there is none, the first of all; or none has room for them.
abbrev pub IsTooSmall : RtNeed → RtSize → RtTooSmall → Type 0
IsTooSmall need tried BadParameter = is_count tried.segments ≡ false
IsTooSmall need tried (Wants size) =
    (is_count tried.segments ≡ true)
    × ((IsFirstSize need tried.segments size) ⊎ ((FirstSize need tried.segments None) × IsFirstSize need 1 size))
IsTooSmall need tried Never = (is_count tried.segments ≡ true) × FirstSize need 1 None

-- what comes of a size that was to be
abbrev pub SizedSo : RtNeed → RtSize → Result RtSize RtTooSmall → Type 0
SizedSo need tried (Ok size) = (size ≡ tried) × (will_fit need tried.segments tried.blocks ≡ true)
SizedSo need tried (Err why) = (will_fit need tried.segments tried.blocks ≡ false) × IsTooSmall need tried why

-- what the files of a volume take
abbrev pub need_in : {D : Type 0} → (D → Disk) → RtPack D → RtNeed
need_in disk pack = need_of (length (disk (device_of pack)).image) (entries_of pack)

-- The size was taken, of which it is told whether the files fit.
pub record TakesSize {D : Type 0} (disk : D → Disk) (pack : RtPack D) (blocks segments : Option ℕ) (result : Result RtSize RtTooSmall)
    : Type 0
  where
    pub tried : RtSize
    pub blocks_are : tried.blocks ≡ takes_blocks (old_blocks (state_of pack) (length (disk (device_of pack)).image)) blocks
    pub segments_are : TakesSegments (need_in disk pack) (segments_of pack) segments tried.segments
    pub sized : SizedSo (need_in disk pack) tried result

-- the line of a size that has no room for the files
abbrev pub refused_size_line : RtTooSmall → List ℕ
refused_size_line BadParameter = refusal_line
refused_size_line (Wants size) = codes "no NoSpace" ++ 10 ∷ []
refused_size_line Never = codes "no NoSpace" ++ 10 ∷ []
