-- What carries a search from block to block.
use Rattle.std.proofs.Common.{ℕ, ◌-◌, ◌≤◌, IsTrue}
use Rattle.f11_dev.specs.Disk.{Disk}
use Rattle.f11_dev.specs.Looked.{Looked}
use Rattle.f11_scan.specs.Scan.{HasNoHeader}

-- the blocks from one up to another were read, and on an honest disk none of them is a header
pub record HasPassed (old now : Disk) (from to : ℕ) : Type 0 where
  pub behind : from ≤ to
  pub looks : Looked old now (to - from) 0
  pub none : IsTrue old.honest → HasNoHeader old.image from to
