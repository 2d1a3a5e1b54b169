-- Whether the files of entries fit on a fresh RT-11 volume (RT-11 Volume and File Formats Manual, "Directory Segments"; profile: how many
-- files a directory holds that are made one after another).
use Rattle.std.specs.Prelude.{ℕ, ◌+◌, ◌-◌, ◌*◌, ◌==◌, ◌&&◌, Bool, false, if◌then◌else◌, nat_le, nat_lt, min, List, filter, length}
use Rattle.std.specs.Prelude.{Option, Some, None, is_ok}
use Rattle.std.specs.List.{last_or, sum_by}
use Rattle.rt11_volume.specs.Directory.{start_of}
use Rattle.rt11_volume.specs.Fresh.{space_of}
use Rattle.rt11_volume.specs.Operations.{kept_of, most_entries}
use Rattle.rt11_volume.specs.declared.any_entries.RtEntry.{RtEntry}
use Rattle.rt11_copy.specs.Entries.{name_to_copy}
use Rattle.rt11_copy.specs.declared.fitting.RtNeed.{RtNeed}

-- the file of an entry on a device of so many blocks is copied, if the volume takes it
abbrev pub is_copied : ℕ → RtEntry → Bool
is_copied size e = is_ok (name_to_copy size e)

-- the entries of those that are
abbrev pub files_to_copy : ℕ → List RtEntry → List RtEntry
files_to_copy size entries = filter (is_copied size) entries

-- a file has no block
abbrev pub has_no_block : Option RtEntry → Bool
has_no_block None = false
has_no_block (Some e) = e.blocks == 0

-- as far as is counted
abbrev pub counted : ℕ → ℕ
counted n = min n 4294967295

-- their blocks, and one more where the last of them has none: it is made in the front of an empty area, too
abbrev pub blocks_wanted : List RtEntry → ℕ
blocks_wanted files = sum_by (λ (e : RtEntry). e.blocks) files + (if has_no_block (last_or None files) then 1 else 0)

-- what copying the files of entries takes
abbrev pub need_of : ℕ → List RtEntry → RtNeed
need_of size entries = record {
  files = counted (length (files_to_copy size entries));
  blocks = counted (blocks_wanted (files_to_copy size entries));
}

-- how many files a fresh directory of so many segments holds, with an empty area behind them: of a segment that is full, half stays when
-- it is split, and the last one is full
abbrev pub most_files : ℕ → ℕ
most_files segments = kept_of (most_entries 0) * (segments - 1) + (most_entries 0 - 1)

-- a fresh volume of so many blocks with so many segments has room for them
abbrev pub will_fit : RtNeed → ℕ → ℕ → Bool
will_fit need segments size =
    (nat_lt 0 segments && nat_le segments 31)
    && (nat_lt (start_of segments) size && (nat_le need.files (most_files segments) && nat_le need.blocks (space_of segments size)))

-- a size is that one, or more
abbrev pub is_at_least : Option ℕ → ℕ → Bool
is_at_least None size = false
is_at_least (Some least) size = nat_le least size
