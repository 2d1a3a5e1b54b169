-- What a look through a directory tells.
use Rattle.std.specs.Prelude.{◌≡◌, ℕ, ◌+◌, ◌-◌, ◌*◌, ◌/◌, ◌<◌, List, Option, option_map, IfSome, Some, None}
use Rattle.std.specs.List.{slice_get}
use Rattle.f11_store.specs.File.{File}
use Rattle.f11_store.specs.Directory.{record_in, record_id, entry_count}
use Rattle.f11_entries.specs.declared.spot.Spot.{Spot}
use Rattle.f11_entries.specs.declared.spot.Looked.{Looked}
use Rattle.f11_entries.specs.declared.spot.Looked.TheVariants as looked
use Rattle.f11_entries.specs.Seen.{IsFirstOf, HasNot}

-- the place of a spot among all records
abbrev pub place_of : Spot → ℕ
place_of spot = 32 * spot.number + spot.place

-- its block is in hand
abbrev pub IsInHand : File → Spot → Type 0
IsInHand f spot = slice_get f.blocks spot.number ≡ Some spot.block

-- the one that was met before, or one in this block
abbrev pub IsSpotOf : Option Spot → ℕ → List ℕ → Option Spot → Type 0
IsSpotOf (Some spot) number block result = result ≡ Some spot
IsSpotOf None number block result = IfSome result (λ spot. (spot.number ≡ number) × (spot.block ≡ block))

-- the first record with the name, or that there is none, and the first empty one
abbrev pub Tells : List ℕ → File → Looked → Type 0
Tells name f (looked.Found spot id) =
    IsFirstOf name f (place_of spot) (record_in spot.block spot.place) × IsInHand f spot ×
    (id ≡ record_id (record_in spot.block spot.place))
Tells name f (looked.Absent empty) = HasNot name f (option_map place_of empty) × IfSome empty (IsInHand f)

-- where no record has the name, this is the last block that has records
abbrev pub IsLastBlock : File → Looked → List ℕ → Type 0
IsLastBlock f (looked.Found spot id) block = Unit {0}
IsLastBlock f (looked.Absent empty) block = 0 < entry_count f → slice_get f.blocks ((entry_count f - 1) / 32) ≡ Some block
