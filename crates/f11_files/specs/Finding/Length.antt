-- What asking for a file's length does.
use Rattle.std.specs.Prelude.{◌≡◌, ℕ, ◌≤◌, IsTrue, None}
use Rattle.f11_dev.specs.Disk.{Disk}
use Rattle.f11_home.specs.Home.{HomeFields}
use Rattle.f11_store.specs.Causes.{first_of}
use Rattle.f11_store.specs.Cost.{header_count}
use Rattle.f11_store.specs.File.{length_of, most_blocks}
use Rattle.f11_store.specs.Store.{file_named}
use Rattle.f11_store.specs.declared.files.FileId.{FileId}
use Rattle.f11_files.specs.Answers.{ReadsAtMost}
use Rattle.f11_files.specs.Operations.{file_causes}
use Rattle.f11_image_store.specs.StoreOf.{store_of}

-- A file's blocks were counted.
pub record CountsBlocks (home : HomeFields) (f : FileId) (blocks : ℕ) (old new : Disk) : Type 0 where
  pub no_cause : IsTrue old.honest → first_of (file_causes (store_of old.image home) f) ≡ None
  pub length_is : IsTrue old.honest → blocks ≡ length_of (file_named (store_of old.image home) f)
  pub few : blocks ≤ most_blocks
  pub reads : ReadsAtMost (header_count (file_named (store_of old.image home) f)) old new 0
