-- Which files have the blocks that they had, after each call that writes: so a row of a file's blocks, once known, stays one (profile).
use Rattle.std.specs.Prelude.{◌≡◌, ℕ, Bool, false, IsTrue, List, ◌==◌}
use Rattle.f11_dev.specs.Disk.{Disk}
use Rattle.f11_dev.specs.Image.{Image}
use Rattle.f11_home.specs.Home.{HomeFields}
use Rattle.f11_index.specs.Table.{table_of, IsFile}
use Rattle.f11_chain.specs.FileHeaders.{file_blocks}
use Rattle.f11_store.specs.Changes.{with_replacement}
use Rattle.f11_store.specs.File.{File}
use Rattle.f11_store.specs.declared.callers.Uic.{Uic}
use Rattle.f11_store.specs.declared.files.Change.{Change}
use Rattle.f11_store.specs.declared.files.FileId.{FileId}
use Rattle.f11_volume.specs.Sound.{HasSoundVolume}
use Rattle.f11_image_store.specs.Allocation.{BeginsWith}
use Rattle.f11_files.specs.Changing.Fields.{Alters}
use Rattle.f11_files.specs.Create.{Creates}
use Rattle.f11_files.specs.Extending.Runs.{ExtendsFile}
use Rattle.f11_files.specs.Finding.Blocks.{StoresBlock}
use Rattle.f11_files.specs.GrowingIndex.Runs.{GrowsIndexFile}
use Rattle.f11_files.specs.LayingOut.Whole.{LaysOutFile}
use Rattle.f11_files.specs.Removing.Delete.{Deletes}
use Rattle.f11_files.specs.Removing.Truncate.{Cuts}

-- no file's number
abbrev pub no_number : ℕ → Bool
no_number n = false

-- this one
abbrev pub this_number : ℕ → ℕ → Bool
this_number f n = n == f

-- Each file but those of these numbers is still there, and has the blocks that it had, by VBN, and perhaps more behind them.
pub record KeepsRows (gone : ℕ → Bool) (home : HomeFields) (old new : Image) : Type 0 where
  pub there : (f : ℕ) → gone f ≡ false → IsFile (table_of old home) f → IsFile (table_of new home) f
  pub rows :
      (f : ℕ) → gone f ≡ false → IsFile (table_of old home) f →
      BeginsWith (file_blocks (table_of new home) f) (file_blocks (table_of old home) f)

-- where a block of a file is written
abbrev pub StoredKeepsRows : Type 0
StoredKeepsRows =
    (home : HomeFields) (f : FileId) (vbn : ℕ) (block : List ℕ) (old new : Disk) → HasSoundVolume old.image home →
    HasSoundVolume new.image home → IsTrue old.honest → StoresBlock home f vbn block old new → KeepsRows no_number home old.image new.image

-- where a file is changed in another way than in which headers it has
abbrev pub AlteredKeepsRows : Type 0
AlteredKeepsRows =
    (home : HomeFields) (f : FileId) (change : File → File) (old new : Disk) → HasSoundVolume old.image home →
    HasSoundVolume new.image home → IsTrue old.honest → ((g : File) → (change g).held ≡ g.held) → Alters change home f old new →
    KeepsRows no_number home old.image new.image

-- so where its attributes, its ident area or its protection are replaced
abbrev pub ReplacedKeepsRows : Type 0
ReplacedKeepsRows =
    (home : HomeFields) (f : FileId) (change : Change) (old new : Disk) → HasSoundVolume old.image home → HasSoundVolume new.image home →
    IsTrue old.honest → Alters (with_replacement change) home f old new → KeepsRows no_number home old.image new.image

-- where a file is made
abbrev pub CreatedKeepsRows : Type 0
CreatedKeepsRows =
    (home : HomeFields) (owner : Uic) (protection : ℕ) (ident attr : List ℕ) (f : FileId) (old new : Disk) →
    HasSoundVolume old.image home → HasSoundVolume new.image home → IsTrue old.honest →
    Creates home owner protection ident attr f old new → KeepsRows no_number home old.image new.image

-- where a file is extended
abbrev pub ExtendedKeepsRows : Type 0
ExtendedKeepsRows =
    (home : HomeFields) (f : FileId) (n : ℕ) (old new : Disk) → HasSoundVolume old.image home → HasSoundVolume new.image home →
    IsTrue old.honest → ExtendsFile home f n old new → KeepsRows no_number home old.image new.image

-- where a file is laid out in one run
abbrev pub LaidOutKeepsRows : Type 0
LaidOutKeepsRows =
    (home : HomeFields) (f : FileId) (n : ℕ) (old new : Disk) → HasSoundVolume old.image home → HasSoundVolume new.image home →
    IsTrue old.honest → LaysOutFile home f n old new → KeepsRows no_number home old.image new.image

-- where the index file grows
abbrev pub GrownKeepsRows : Type 0
GrownKeepsRows =
    (home : HomeFields) (n : ℕ) (old new : Disk) → HasSoundVolume old.image home → HasSoundVolume new.image home → IsTrue old.honest →
    GrowsIndexFile home n old new → KeepsRows no_number home old.image new.image

-- where a file is cut: of the others
abbrev pub CutKeepsRows : Type 0
CutKeepsRows =
    (home : HomeFields) (f : FileId) (to : ℕ) (old new : Disk) → HasSoundVolume old.image home → HasSoundVolume new.image home →
    IsTrue old.honest → Cuts home f to old new → KeepsRows (this_number f.number) home old.image new.image

-- where a file is deleted: of the others
abbrev pub DeletedKeepsRows : Type 0
DeletedKeepsRows =
    (home : HomeFields) (f : FileId) (old new : Disk) → HasSoundVolume old.image home → HasSoundVolume new.image home →
    IsTrue old.honest → Deletes home f old new → KeepsRows (this_number f.number) home old.image new.image
