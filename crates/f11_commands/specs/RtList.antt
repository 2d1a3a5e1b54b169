-- The lines of the command `rt-list` (profile).
use Rattle.std.specs.Prelude.{ℕ, ◌++◌, ◌∷◌, [], Bool, true, false, IsTrue, List, Option, Some, None, codes}
use Rattle.std.specs.Fmt.{decimal}
use Rattle.std.specs.List.{flat_map}
use Rattle.f11_dev.specs.Disk.{Disk}
use Rattle.f11_dev.specs.Looked.{Looked}
use Rattle.rt11_volume.specs.Listing.{ListsAreas}
use Rattle.rt11_volume.specs.RtName.{rt_name_text}
use Rattle.rt11_volume.specs.Store.{rt_store_of}
use Rattle.rt11_volume.specs.Verifying.Verdict.{IsRtAccepted}
use Rattle.rt11_volume.specs.declared.area.RtArea.{RtArea}
use Rattle.rt11_volume.specs.declared.area.RtKind.{RtKind}
use Rattle.rt11_volume.specs.declared.area.RtKind.TheVariants.{Tentative, Empty, Permanent}
use Rattle.f11_commands.specs.Output.{WriterTakes}

-- the name of a file, or `?`
abbrev pub name_shown : Option (List ℕ) → List ℕ
name_shown None = codes "?"
name_shown (Some words) = rt_name_text words

-- what stands behind a protected file
abbrev pub protection_shown : Bool → List ℕ
protection_shown true = codes " protected"
protection_shown false = []

-- the line of an area: a file's name, the first block, the length in blocks
abbrev pub kind_line : RtKind → RtArea → List ℕ
kind_line Tentative a = codes "tent " ++ (decimal a.start ++ (codes " " ++ (decimal a.length ++ 10 ∷ [])))
kind_line Empty a = codes "empty " ++ (decimal a.start ++ (codes " " ++ (decimal a.length ++ 10 ∷ [])))
kind_line Permanent a =
    codes "perm " ++ (name_shown a.name ++ (codes " " ++
    (decimal a.start ++ (codes " " ++ (decimal a.length ++ (protection_shown a.protected ++ 10 ∷ []))))))

abbrev pub area_line : RtArea → List ℕ
area_line a = kind_line a.kind a

-- the lines of areas, in their order
abbrev pub area_lines : List RtArea → List ℕ
area_lines areas = flat_map area_line areas

-- at most so many transfers are made: the verifier's, and those of the list
abbrev pub list_transfers : ℕ
list_transfers = 124

-- The volume has no fault, and a line was written for each of its areas.
pub record PrintsList {W : Type 0} (old new : Disk) (contents : W → Option (List ℕ)) (before after : W) : Type 0 where
  pub accepted : IsTrue old.honest → IsRtAccepted old.image
  pub areas : List RtArea
  pub areas_are : IsTrue old.honest → ListsAreas (rt_store_of old.image) areas
  pub looked : Looked old new list_transfers 0
  pub takes : WriterTakes contents before after (area_lines areas)
