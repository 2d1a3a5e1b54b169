-- Laws of the home block, which show that its definitions say what is meant (Files-11 On-Disk Structure Level 1, "Home
-- Block"; profile: the search).
use Rattle.std.specs.Prelude.{◌≡◌, ℕ, ◌<◌, List, length, ◌↔◌}
use Rattle.f11_dev.specs.Image.{Image}
use Rattle.f11_home.specs.HomeBlock.{HasHomeFields, IsHomeBlock, with_sums}
use Rattle.f11_home.specs.Home.{HomeFields, candidate, candidates, IsHomeOf, HasNoHome}

-- a block whose fields are valid is a home block once its sums are made right
abbrev pub SealedIsHome : Type 0
SealedIsHome = (b : List ℕ) (blocks : ℕ) → length b ≡ 512 → HasHomeFields b blocks → IsHomeBlock (with_sums b) blocks

-- an image has one home block at most
abbrev pub HomeIsOne : Type 0
HomeIsOne = (image : Image) (a b : HomeFields) → IsHomeOf image a → IsHomeOf image b → a ≡ b

-- an image that has a home block isn't one that has none
abbrev pub HomeIsSome : Type 0
HomeIsSome = (image : Image) (home : HomeFields) → IsHomeOf image home → ¬ HasNoHome image

-- the candidates that are counted are those below the device's end
abbrev pub CandidatesAreBelow : Type 0
CandidatesAreBelow = (k blocks : ℕ) → (k < candidates blocks) ↔ (candidate k < blocks)
