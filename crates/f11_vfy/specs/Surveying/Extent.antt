-- Where blocks lie, which stand in an order.
use Rattle.std.specs.Prelude.{◌≡◌, ◌-◌, ◌<◌, ℕ, List, []}
use Rattle.std.specs.List.{range_with_len}
use Rattle.f11_volume.specs.Notes.{AreContiguous}
use Rattle.f11_vfy.specs.declared.survey.extent.Extent.{Extent}
use Rattle.f11_vfy.specs.declared.survey.extent.Extent.TheVariants.{Empty, Run, Scattered}

-- the blocks with these LBNs lie so: there is none; they are those from the first LBN on, below the end; or they aren't contiguous
abbrev pub LieAs : List ℕ → Extent → Type 0
LieAs lbns Empty = lbns ≡ []
LieAs lbns (Run first end) = (first < end) × (lbns ≡ range_with_len first (end - first))
LieAs lbns Scattered = ¬ AreContiguous lbns
