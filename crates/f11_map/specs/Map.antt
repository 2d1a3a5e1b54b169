-- What a `Map` shows, and what a `MapMut` writes.
use Rattle.std.specs.Prelude.{ℕ, List}
use Rattle.f11_map.specs.declared.map.Map.{Map}
use Rattle.f11_map.specs.declared.map_mut.MapMut.{MapMut}

-- the map area that is read
abbrev pub area_of : Map → List ℕ
area_of m = m.area.now

-- the map area that is written
abbrev pub written_area : MapMut → List ℕ
written_area m = m.area.now

-- the name of the loan of that area
abbrev pub area_loan : MapMut → ℕ
area_loan m = m.area.ghost_name
