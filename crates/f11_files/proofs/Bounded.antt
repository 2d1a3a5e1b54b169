-- How many transfers calls make at most, whatever the disk answers.
use Rattle.std.proofs.Common.{◌≡◌, ◌⊎◌, ℕ, false, List, inl, inr, refl, ap, arith}
use Rattle.f11_dev.specs.Disk.{Disk, with_transfer, with_block_at}
use Rattle.f11_index.specs.IndexFile.{Index}
use Rattle.f11_chain.specs.Calls.{LooksAlongFile}
use Rattle.f11_chain.specs.declared.fault.ChainFault.{ChainFault}
use Rattle.f11_chain.specs.declared.fault.ChainFault.TheVariants as chain
use Rattle.f11_files.specs.Answers.{MakesAtMost}

-- a write that failed
pub one-failed : (lbn : ℕ) (block : List ℕ) (old new : Disk)
    → (new ≡ with_transfer false old) ⊎ (new ≡ with_transfer false (with_block_at lbn block old)) → MakesAtMost 1 old new
one-failed lbn block old new (inl is) = let same = ap (λ (d : Disk). d.transfers) is in omega (arith, same)
one-failed lbn block old new (inr is) = let same = ap (λ (d : Disk). d.transfers) is in omega (arith, same)

-- the headers of a file, behind the first one
module _ (index : Index) (n : ℕ) (old mid new : Disk) (first : MakesAtMost 1 old mid) where
  pub bounded-behind : (faults : ℕ) → LooksAlongFile index n 1 mid new faults → MakesAtMost 256 old new
  bounded-behind faults looks = let few = looks.few in let reads = looks.looked.transfers in omega (arith, first, few, reads)

  -- whatever fault the walk along them met
  pub bounded-fault : (fault : ChainFault) → (fault ≡ chain.EndOfFile → LooksAlongFile index n 1 mid new 0)
      → (fault ≡ chain.Damaged → LooksAlongFile index n 1 mid new 0)
      → (fault ≡ chain.DeviceFault → LooksAlongFile index n 1 mid new 1) → MakesAtMost 256 old new
  bounded-fault chain.EndOfFile end damaged failed = bounded-behind 0 (end refl)
  bounded-fault chain.Damaged end damaged failed = bounded-behind 0 (damaged refl)
  bounded-fault chain.DeviceFault end damaged failed = bounded-behind 1 (failed refl)
