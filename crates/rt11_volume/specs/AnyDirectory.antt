-- The entries of an RT-11 directory, of a volume with faults or without (RT-11 Volume and File Formats Manual, "Directory Segments";
-- profile: which of a faulty one are read).
use Rattle.std.specs.Prelude.{ℕ, ◌+◌, ◌&&◌, Bool, true, false, if◌then◌else◌, nat_le, min, List, [], map, length, Option, Some, None}
use Rattle.std.specs.Prelude.{slice_index_or}
use Rattle.std.specs.List.{flat_map, range_with_len}
use Rattle.f11_bytes.specs.Block.{zero_block}
use Rattle.f11_dev.specs.Image.{Image}
use Rattle.rt11_volume.specs.Directory.{is_extra_wrong, segment_of, visited}
use Rattle.rt11_volume.specs.Entry.{is_one_kind, is_same_name, kind_of, status, name_words, area_length, is_protected, has_bit}
use Rattle.rt11_volume.specs.RtName.{is_rt_name}
use Rattle.rt11_volume.specs.Segment.{Segment, area_start}
use Rattle.rt11_volume.specs.declared.any_entries.RtEntry.{RtEntry}
use Rattle.rt11_volume.specs.declared.area.RtArea.{RtArea}
use Rattle.rt11_volume.specs.declared.area.RtKind.{RtKind}
use Rattle.rt11_volume.specs.declared.area.RtKind.TheVariants.{Tentative, Empty, Permanent}
use Rattle.rt11_volume.specs.declared.entry.Entry.{Entry}

-- what an area is, where its status says exactly one thing
abbrev pub only_kind : ℕ → Option RtKind
only_kind word = if is_one_kind word then Some (kind_of word) else None

-- a name, where its words are one
abbrev pub name_if_any : List ℕ → Option (List ℕ)
name_if_any words = if is_rt_name words then Some words else None

-- entry i, from 0, of segment k, in hand, whose area begins at this block
abbrev pub entry_in_hand : ℕ → ℕ → Entry → ℕ → RtEntry
entry_in_hand k i e start = record {
  segment = k;
  number = i + 1;
  kind = only_kind e.status;
  name = name_if_any e.name;
  first = start;
  blocks = e.length;
  protected = has_bit e.status 15;
}

-- the same by its words
abbrev pub entry_told : ℕ → ℕ → List ℕ → ℕ → RtEntry
entry_told k i e start = record {
  segment = k;
  number = i + 1;
  kind = only_kind (status e);
  name = name_if_any (name_words e);
  first = start;
  blocks = area_length e;
  protected = is_protected e;
}

-- entry i of a segment: its area follows those before it
abbrev pub entry_of_segment : Segment → ℕ → RtEntry
entry_of_segment seg i = entry_told seg.number i (slice_index_or seg.entries i []) (area_start seg i)

-- the entries of a segment, in order
abbrev pub entries_told : Segment → List RtEntry
entries_told seg = map (entry_of_segment seg) (range_with_len 0 (length seg.entries))

-- those of segment k of an image; none where its extra bytes are wrong, as where its entries stand can't be told then
abbrev pub entries_in : Image → ℕ → List RtEntry
entries_in image k = if is_extra_wrong image k then [] else entries_told (segment_of image k)

-- all entries that can be read of an image, in the order of the segments that are visited and of their entries
unfoldable pub directory_entries : Image → List RtEntry
directory_entries image = flat_map (entries_in image) (visited image)

-- an area is a file's
abbrev pub is_file_area : Option RtKind → Bool
is_file_area None = false
is_file_area (Some Tentative) = false
is_file_area (Some Empty) = false
is_file_area (Some Permanent) = true

-- an area is an empty one
abbrev pub is_empty_area : Option RtKind → Bool
is_empty_area None = false
is_empty_area (Some Tentative) = false
is_empty_area (Some Empty) = true
is_empty_area (Some Permanent) = false

-- a directory may give the blocks of an entry's area away: the last that it may is 65534
abbrev pub fits : RtEntry → Bool
fits e = nat_le (e.first + e.blocks) 65535

-- a file has this name
abbrev pub has_name : List ℕ → Option (List ℕ) → Bool
has_name name None = false
has_name name (Some words) = is_same_name words name

-- an entry is that of a file, and its area one that a directory may give away
abbrev pub is_sound_file : RtEntry → Bool
is_sound_file e = is_file_area e.kind && fits e

abbrev pub is_sound_file_named : List ℕ → RtEntry → Bool
is_sound_file_named name e = is_sound_file e && has_name name e.name

-- so many blocks of an image from this one on: zeros past its end
abbrev pub blocks_from : Image → ℕ → ℕ → List (List ℕ)
blocks_from image first n = map (λ i. slice_index_or image (first + i) zero_block) (range_with_len 0 n)

-- the kind that a list of areas shows, and the name, which it shows of a file alone
abbrev pub listed_kind : Option RtKind → RtKind
listed_kind None = Permanent
listed_kind (Some kind) = kind

abbrev pub listed_name : RtKind → Option (List ℕ) → Option (List ℕ)
listed_name Tentative name = None
listed_name Empty name = None
listed_name Permanent name = name

-- an entry as a list of areas shows it
abbrev pub as_area : RtEntry → RtArea
as_area e = record {
  kind = listed_kind e.kind;
  name = listed_name (listed_kind e.kind) e.name;
  start =
      min e.first 65535;
  length = e.blocks;
  protected = e.protected;
}
