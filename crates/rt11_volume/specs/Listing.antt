-- What a list of the areas of an RT-11 volume shows.
use Rattle.std.specs.Prelude.{◌≡◌, ℕ, min, if◌then◌else◌, List, [], map, length, slice_index_or, Option, Some, None, ⊤}
use Rattle.std.specs.List.{range_with_len}
use Rattle.rt11_volume.specs.Entry.{has_bit, kind_of, kind, name_words, area_length, is_protected}
use Rattle.rt11_volume.specs.RtName.{is_rt_name}
use Rattle.rt11_volume.specs.Segment.{Segment, area_start}
use Rattle.rt11_volume.specs.Store.{RtStore, Area, areas_of}
use Rattle.rt11_volume.specs.declared.area.RtArea.{RtArea}
use Rattle.rt11_volume.specs.declared.area.RtKind.{RtKind}
use Rattle.rt11_volume.specs.declared.area.RtKind.TheVariants.{Tentative, Empty, Permanent}
use Rattle.rt11_volume.specs.declared.entry.Entry.{Entry}
use Rattle.rt11_volume.specs.declared.refusal.RtRefusal.{RtRefusal}
use Rattle.rt11_volume.specs.declared.refusal.RtRefusal.TheVariants.{
  Failed,
  NoSuchFile,
  EndOfFile,
  Protected,
  DuplicateName,
  NoSpace,
  DirectoryFull,
  NoMemory,
  DeviceFault,
}

-- the name that is shown of an area: that of a file, where its words are one
abbrev pub shown_name : RtKind → List ℕ → Option (List ℕ)
shown_name Tentative words = None
shown_name Empty words = None
shown_name Permanent words = if is_rt_name words then Some words else None

-- an area, as it is shown
abbrev pub shown_area : Area → RtArea
shown_area a = record { kind = a.kind; name = shown_name a.kind a.name; start = a.start; length = a.length; protected = a.protected }

-- the areas are those of the store, in its order
abbrev pub ListsAreas : RtStore → List RtArea → Type 0
ListsAreas store areas = areas ≡ map shown_area (areas_of store)

-- an area whose entry is in hand and that begins at a block, up to the last that a word can tell
abbrev pub shown_entry : Entry → ℕ → RtArea
shown_entry e start = record {
  kind = kind_of e.status;
  name = shown_name (kind_of e.status) e.name;
  start =
      min start 65535;
  length = e.length;
  protected = has_bit e.status 15;
}

-- the same of an entry's words
abbrev pub shown_words : List ℕ → ℕ → RtArea
shown_words e start = record {
  kind = kind e;
  name = shown_name (kind e) (name_words e);
  start =
      min start 65535;
  length = area_length e;
  protected = is_protected e;
}

-- the areas of a segment, as they are shown
abbrev pub shown_segment : Segment → List RtArea
shown_segment seg = map (λ i. shown_words (slice_index_or seg.entries i []) (area_start seg i)) (range_with_len 0 (length seg.entries))

-- why there is no list
abbrev pub FailsToList : RtRefusal → Type 0
FailsToList Failed = ⊤
FailsToList NoSuchFile = ⊥
FailsToList EndOfFile = ⊥
FailsToList Protected = ⊥
FailsToList DuplicateName = ⊥
FailsToList NoSpace = ⊥
FailsToList DirectoryFull = ⊥
FailsToList NoMemory = ⊤
FailsToList DeviceFault = ⊤
