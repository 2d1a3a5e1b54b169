-- A spot that was met in a look through a directory.
use Rattle.std.proofs.Common.{◌≡◌, ℕ, List, Option, Some, None, IfSome, sym, ◌∙◌, ap, subst}
use Rattle.std.specs.List.{slice_get}
use Rattle.f11_store.specs.File.{File}
use Rattle.f11_entries.specs.declared.spot.Spot.{Spot}
use Rattle.f11_entries.specs.Looks.{IsInHand, IsSpotOf}

-- the spot that is known after a block
pub spot_known :
    (f : File) (number : ℕ) (block : List ℕ) (before after : Option Spot) → slice_get f.blocks number ≡ Some block
    → IsSpotOf before number block after →
    IfSome before (IsInHand f) → IfSome after (IsInHand f)
spot_known f number block (Some spot) after is at known = subst (λ (o : Option Spot). IfSome o (IsInHand f)) (sym at) known
spot_known f number block None None is at known = tt
spot_known f number block None (Some spot) is at known =
    ap (slice_get f.blocks) at.0 ∙ is ∙ ap Some (sym at.1)
