-- What asking a device for blocks does to its disk.
use Rattle.std.specs.Prelude.{◌≡◌, ℕ, ◌+◌, ◌<◌, ◌≤◌, IsTrue, List, Result, OnOk, OnErr}
use Rattle.f11_dev.specs.Disk.{Disk}
use Rattle.f11_dev.specs.Image.{image_block}
use Rattle.f11_dev.specs.Outcomes.{without_transfers}

-- Blocks of a disk may have been read, in at most so many transfers: none changed.
pub record IsAsked (old new : Disk) (most : ℕ) : Type 0 where
  pub same : without_transfers new ≡ without_transfers old
  pub transfers : new.transfers ≤ old.transfers + most
  pub failures : old.failures ≤ new.failures

-- A block was asked for, in at most so many transfers: where it was given it is an honest disk's, and where it wasn't one of them failed.
pub record Gives {E : Type 0} (result : Result Unit E) (lbn : ℕ) (into : List ℕ) (old new : Disk) (most : ℕ) : Type 0 where
  pub asked : IsAsked old new most
  pub block : OnOk result (IsTrue old.honest → image_block old.image lbn ≡ into)
  pub fails : OnErr result (old.failures < new.failures)
