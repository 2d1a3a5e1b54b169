-- The lines of the command `rt-ls` (profile).
use Rattle.std.specs.Prelude.{◌≡◌, ◌⊎◌, ℕ, ◌++◌, ◌∷◌, [], if◌then◌else◌, List, Option, Some, None, Ok, codes, length}
use Rattle.std.specs.Fmt.{decimal}
use Rattle.std.specs.List.{flat_map}
use Rattle.f11_dev.specs.Disk.{Disk}
use Rattle.rt11_volume.specs.AnyDirectory.{fits, is_empty_area}
use Rattle.rt11_volume.specs.declared.any_entries.RtEntry.{RtEntry}
use Rattle.rt11_volume.specs.declared.any_state.RtState.TheVariants.{Faulty}
use Rattle.rt11_volume.specs.declared.area.RtKind.{RtKind}
use Rattle.rt11_volume.specs.declared.area.RtKind.TheVariants.{Tentative, Empty, Permanent}
use Rattle.f11_commands.specs.Output.{WriterTakes}
use Rattle.f11_commands.specs.RtAny.{EndsUnread, ReadsVolume, replaced_text}
use Rattle.f11_commands.specs.RtList.{name_shown, protection_shown}
use Rattle.f11_commands.specs.RtTaking.{broken_text, first_past}
use Rattle.f11_commands.specs.declared.outcome.FileAnswer.TheVariants.{Done}
use Rattle.f11_commands.specs.declared.rt_any.RtServed.{RtServed}

-- what stands behind an entry that isn't a file's
abbrev pub kind_shown : Option RtKind → List ℕ
kind_shown None = codes " status wrong"
kind_shown (Some Tentative) = codes " tentative"
kind_shown (Some Empty) = []
kind_shown (Some Permanent) = []

-- what is told of an entry's area, on a device of so many blocks: that no directory may give it away, or which of its blocks is the first
-- past the device's end
abbrev pub area_shown : RtEntry → ℕ → List ℕ
area_shown e size = if fits e then broken_text (first_past e.first e.blocks size) else codes " past block 65534"

-- the line of an entry, but for its end
abbrev pub entry_text : ℕ → RtEntry → List ℕ
entry_text size e = name_shown e.name ++ (codes " first " ++ (decimal e.first ++ (codes " blocks " ++ (decimal e.blocks ++
    (kind_shown e.kind ++ (protection_shown e.protected ++ area_shown e size))))))

-- the line of an entry, with those of its blocks that are bad; none of an empty area's
abbrev pub entry_line : List ℕ → ℕ → RtEntry → List ℕ
entry_line bad size e =
    if is_empty_area e.kind then [] else entry_text size e ++ (replaced_text bad e.first e.blocks ++ 10 ∷ [])

-- the lines of entries, in their order
abbrev pub entry_lines : List ℕ → ℕ → List RtEntry → List ℕ
entry_lines bad size entries = flat_map (entry_line bad size) entries

-- A volume's directory was read, and its table of bad blocks, and a line was written for each entry of it that isn't an empty area's.
pub record ListsEntries {W : Type 0} (served : RtServed) (old new : Disk) (contents : W → Option (List ℕ)) (before after : W) : Type 0 where
  pub answer_is : served.answer ≡ Done
  pub entries : List RtEntry
  pub bad : List ℕ
  pub reads : ReadsVolume served.state entries bad old new
  pub takes : WriterTakes contents before after (entry_lines bad (length old.image) entries)

-- It can't be read, which was told.
pub record TellsUnread {W : Type 0} (served : RtServed) (old new : Disk) (contents : W → Option (List ℕ)) (before after : W) : Type 0 where
  pub state_is : served.state ≡ Faulty
  pub ends : EndsUnread (Ok served.answer) old new contents before after

-- what `rt-ls` does to a volume
abbrev pub ListsRt : {W : Type 0} → RtServed → Disk → Disk → (W → Option (List ℕ)) → W → W → Type 0
ListsRt served old new contents before after =
    (ListsEntries served old new contents before after) ⊎ (TellsUnread served old new contents before after)

-- at most so many blocks are read: those of the directory, and that of the table
abbrev pub read_transfers : ℕ
read_transfers = 63
