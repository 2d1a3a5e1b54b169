-- What a search from a block on for the first header did (profile).
use Rattle.std.specs.Prelude.{ℕ, ◌+◌, ◌-◌, Option, Some, None, length}
use Rattle.f11_dev.specs.Disk.{Disk}
use Rattle.f11_dev.specs.Looked.{Looked}
use Rattle.f11_scan.specs.Scan.{FindsNext, StopsAt}
use Rattle.f11_scan.specs.declared.found.FoundHeader.{FoundHeader}

-- the block behind what was looked at: the one behind the header, or the end
abbrev pub place_behind : Option FoundHeader → Disk → ℕ
place_behind (Some found) disk = found.lbn + 1
place_behind None disk = length disk.image

-- each block up to there was read once, and no more
pub record Searches (found : Option FoundHeader) (from : ℕ) (old new : Disk) : Type 0 where
  pub finds : FindsNext found old from (place_behind found old)
  pub looks : Looked old new (place_behind found old - from) 0

-- the read of a block failed, the last
pub record SearchFails (lbn from : ℕ) (old new : Disk) : Type 0 where
  pub stops : StopsAt old from lbn
  pub looks : Looked old new (lbn + 1 - from) 1
