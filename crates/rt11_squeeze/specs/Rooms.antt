-- Where the empty areas of an RT-11 volume lie (profile: a file is made in the front of the first that is as long).
use Rattle.std.specs.Prelude.{ℕ, ◌+◌, ◌==◌, ◌&&◌, Bool, true, false, nat_le, nat_lt, List, find, map, option_map, Option}
use Rattle.rt11_volume.specs.Listing.{shown_area}
use Rattle.rt11_volume.specs.Store.{RtStore, areas_of}
use Rattle.rt11_volume.specs.declared.area.RtArea.{RtArea}
use Rattle.rt11_volume.specs.declared.area.RtKind.{RtKind}
use Rattle.rt11_volume.specs.declared.area.RtKind.TheVariants.{Tentative, Empty, Permanent}

-- whether an area is an empty one
abbrev pub is_gap : RtKind → Bool
is_gap Tentative = false
is_gap Empty = true
is_gap Permanent = false

-- whether it is one of at least so many blocks
abbrev pub is_room_for : ℕ → RtArea → Bool
is_room_for blocks a = is_gap a.kind && nat_le blocks a.length

-- whether it is one with blocks before this one
abbrev pub is_gap_before : ℕ → RtArea → Bool
is_gap_before start a = is_gap a.kind && (nat_lt 0 a.length && nat_lt a.start start)

-- whether it is one with blocks right before this one
abbrev pub is_gap_at : ℕ → RtArea → Bool
is_gap_at start a = is_gap a.kind && (nat_lt 0 a.length && a.start + a.length == start)

-- where the first one of at least so many blocks begins
abbrev pub room_in : List RtArea → ℕ → Option ℕ
room_in areas blocks = option_map (λ (a : RtArea). a.start) (find (is_room_for blocks) areas)

-- the areas of a store, as they are listed
abbrev pub areas_listed : RtStore → List RtArea
areas_listed store = map shown_area (areas_of store)
