-- What the calls on an RT-11 volume make of a store (profile: the choice of the area, the split and the joining).
use Rattle.std.specs.Prelude.{
  ℕ,
  ◌+◌,
  ◌-◌,
  ◌/◌,
  ◌==◌,
  ◌&&◌,
  Bool,
  not,
  nat_le,
  nat_lt,
  if◌then◌else◌,
  List,
  [],
  ◌∷◌,
  ◌++◌,
  length,
  take,
  drop,
  slice_set,
  slice_index_or,
}
use Rattle.rt11_volume.specs.Entry.{area_length, is_empty, empty_entry, file_entry, entry_size}
use Rattle.rt11_volume.specs.Segment.{Segment, area_start}
use Rattle.rt11_volume.specs.Store.{RtStore}

-- entry i of a list
abbrev pub entry_at : List (List ℕ) → ℕ → List ℕ
entry_at es i = slice_index_or es i []

-- the most entries that a segment holds beside its end mark
abbrev pub most_entries : ℕ → ℕ
most_entries extra = 507 / entry_size extra - 1

-- what is left of an area of so many blocks behind a file of so many: an empty area, or nothing
abbrev pub rest_of : ℕ → ℕ → ℕ → List (List ℕ)
rest_of extra area blocks = if blocks == area then [] else empty_entry extra (area - blocks) ∷ []

-- the entries with a file in the front of area i, and what is left of it behind
abbrev pub with_file : ℕ → List (List ℕ) → ℕ → List ℕ → ℕ → ℕ → List (List ℕ)
with_file extra es i name blocks day =
    take i es ++ (file_entry extra name blocks day ∷ (rest_of extra (area_length (entry_at es i)) blocks ++ drop (i + 1) es))

-- the segment at this place with other entries
abbrev pub with_entries : List Segment → ℕ → List (List ℕ) → List Segment
with_entries segments place es = slice_set segments place
    (record (slice_index_or segments place (record { number = 0; first = 0; entries = [] })) { entries = es })

-- how many entries stay where a segment of so many is split
abbrev pub kept_of : ℕ → ℕ
kept_of entries = entries / 2

-- what stays of a segment that is split, and the new one, of this number, whose areas begin with that of its first entry
abbrev pub front_half : Segment → Segment
front_half seg = record seg { entries = take (kept_of (length seg.entries)) seg.entries }

abbrev pub back_half : ℕ → Segment → Segment
back_half number seg = record {
  number = number;
  first = area_start seg (kept_of (length seg.entries));
  entries = drop (kept_of (length seg.entries)) seg.entries;
}

-- the segments with the one at this place split, the new one behind it
abbrev pub split_at : List Segment → ℕ → ℕ → Segment → List Segment
split_at segments place number seg = take place segments ++ (front_half seg ∷ back_half number seg ∷ drop (place + 1) segments)

-- a file in the front of an area needs one entry more than there is room for
abbrev pub needs_split : ℕ → Segment → ℕ → ℕ → Bool
needs_split extra seg i blocks = not (blocks == area_length (entry_at seg.entries i)) && nat_le (most_entries extra) (length seg.entries)

-- the segments with a file in the front of area i of the segment at this place, which is split first where it has no room
unfoldable pub segments_with_file : RtStore → ℕ → ℕ → Segment → List ℕ → ℕ → ℕ → List Segment
segments_with_file store place i seg name blocks day =
    let kept = kept_of (length seg.entries) in
    if needs_split store.extra seg i blocks then
    (if nat_lt i kept
    then with_entries (split_at store.segments place (store.highest + 1) seg) place
    (with_file store.extra (front_half seg).entries i name blocks day)
    else with_entries (split_at store.segments place (store.highest + 1) seg) (place + 1)
    (with_file store.extra (back_half (store.highest + 1) seg).entries (i - kept) name blocks day))
    else with_entries store.segments place (with_file store.extra seg.entries i name blocks day)

-- the store with a file in the front of area i of the segment at this place
unfoldable pub with_new_file : RtStore → ℕ → ℕ → Segment → List ℕ → ℕ → ℕ → RtStore
with_new_file store place i seg name blocks day = record store {
  highest = if needs_split store.extra seg i blocks then store.highest + 1 else store.highest;
  segments = segments_with_file store place i seg name blocks day;
}

-- whether the entry before i is empty, and the one behind it
abbrev pub joins_before : List (List ℕ) → ℕ → Bool
joins_before es i = nat_lt 0 i && is_empty (entry_at es (i - 1))

abbrev pub joins_behind : List (List ℕ) → ℕ → Bool
joins_behind es i = nat_lt (i + 1) (length es) && is_empty (entry_at es (i + 1))

-- the blocks of entry i, if it is joined
abbrev pub joined_length : Bool → List (List ℕ) → ℕ → ℕ
joined_length joins es i = if joins then area_length (entry_at es i) else 0

-- the entries with area i empty, and joined with one empty neighbour on each side
unfoldable pub without_file : ℕ → List (List ℕ) → ℕ → List (List ℕ)
without_file extra es i =
    let before = joins_before es i in
    let behind = joins_behind es i in
    let blocks = joined_length before es (i - 1) + area_length (entry_at es i) + joined_length behind es (i + 1) in
    take (if before then i - 1 else i) es ++ (empty_entry extra blocks ∷ drop (if behind then i + 2 else i + 1) es)

-- the store with area i of the segment at this place empty
unfoldable pub with_area_emptied : RtStore → ℕ → ℕ → Segment → RtStore
with_area_emptied store place i seg = record store { segments = with_entries store.segments place (without_file store.extra seg.entries i) }

-- the store with another entry of area i of the segment at this place
unfoldable pub with_entry : RtStore → ℕ → ℕ → Segment → List ℕ → RtStore
with_entry store place i seg e = record store { segments = with_entries store.segments place (slice_set seg.entries i e) }

-- the store with another block in an area
unfoldable pub with_block : RtStore → ℕ → List ℕ → RtStore
with_block store lbn bytes = record store { block = λ n. if n == lbn then bytes else store.block n }
