-- Laws of what the calls make of a store's files, for whoever keeps files on an RT-11 volume (profile).
use Rattle.std.specs.Prelude.{◌≡◌, ℕ, ◌<◌, Bool, true, false, List, [], ◌∷◌, find, length, map, option_map, slice_set}
use Rattle.std.specs.List.{slice_get}
use Rattle.f11_dev.specs.Image.{Image}
use Rattle.rt11_volume.specs.AnyDirectory.{as_area, blocks_from, directory_entries, is_sound_file_named}
use Rattle.rt11_volume.specs.Entry.{is_same_name}
use Rattle.rt11_volume.specs.Files.{HasFile, HasNoFile, file_area, CreatesFile, WritesBlock, DeletesFile, RenamesFile, ProtectsFile}
use Rattle.rt11_volume.specs.Listing.{shown_area}
use Rattle.rt11_volume.specs.Named.{files_named}
use Rattle.rt11_volume.specs.RtName.{IsRtName, is_rt_name}
use Rattle.rt11_volume.specs.Store.{RtStore, Area, areas_of, rt_store_of}
use Rattle.rt11_volume.specs.Verifying.Verdict.{IsRtAccepted}
use Rattle.rt11_volume.specs.declared.any_entries.RtEntry.{RtEntry}

-- the files of every other name are as they were
abbrev pub KeepsOtherNames : List ℕ → RtStore → RtStore → Type 0
KeepsOtherNames name old new = (other : List ℕ) → is_same_name name other ≡ false → files_named other new ≡ files_named other old

-- The first file of the name is this one.
pub record IsFirstNamed (name : List ℕ) (store : RtStore) (file : Area) : Type 0 where
  pub more : List Area
  pub named : files_named name store ≡ file ∷ more

-- A file was made of so many blocks, the only one of its name.
pub record HasMade (name : List ℕ) (blocks day : ℕ) (old new : RtStore) : Type 0 where
  pub file : Area
  pub none : files_named name old ≡ []
  pub one : files_named name new ≡ file ∷ []
  pub blocks_are : length file.contents ≡ blocks
  pub date_is : file.date ≡ day
  pub unprotected : file.protected ≡ false
  pub others : KeepsOtherNames name old new

-- A block of the file was replaced, and nothing else.
pub record HasReplaced (name : List ℕ) (place : ℕ) (block : List ℕ) (old new : RtStore) : Type 0 where
  pub file : Area
  pub more : List Area
  pub was : files_named name old ≡ file ∷ more
  pub inside : place < length file.contents
  pub is : files_named name new ≡ record file { contents = slice_set file.contents place block } ∷ more
  pub others : KeepsOtherNames name old new

-- The file is gone, and nothing else.
pub record HasGone (name : List ℕ) (old new : RtStore) : Type 0 where
  pub file : Area
  pub was : files_named name old ≡ file ∷ files_named name new
  pub others : KeepsOtherNames name old new

-- The file has another name, the only one with it, and nothing else is another.
pub record HasRenamed (name other : List ℕ) (old new : RtStore) : Type 0 where
  pub file : Area
  pub was : files_named name old ≡ file ∷ files_named name new
  pub none : files_named other old ≡ []
  pub is : files_named other new ≡ record file { name = other } ∷ []
  pub others : (third : List ℕ) → is_same_name name third ≡ false → is_same_name other third ≡ false →
      files_named third new ≡ files_named third old

-- The file is protected, or isn't, as it is told, and nothing else is another.
pub record HasProtected (on : Bool) (name : List ℕ) (old new : RtStore) : Type 0 where
  pub file : Area
  pub more : List Area
  pub was : files_named name old ≡ file ∷ more
  pub is : files_named name new ≡ record file { protected = on } ∷ more
  pub others : KeepsOtherNames name old new

-- the file of a name is the first of those with it, and where there is none, there are none
abbrev pub FileIsFirst : Type 0
FileIsFirst = (name : List ℕ) (store : RtStore) (file : HasFile name store) → IsFirstNamed name store (file_area file)

abbrev pub NoFileIsNone : Type 0
NoFileIsNone = (name : List ℕ) (store : RtStore) → HasNoFile name store → files_named name store ≡ []

-- what create makes
abbrev pub CreatedIsMade : Type 0
CreatedIsMade =
    (name : List ℕ) (blocks day : ℕ) (old new : Image) → IsRtName name → CreatesFile name blocks day old new →
    HasMade name blocks day (rt_store_of old) (rt_store_of new)

-- what write replaces
abbrev pub WrittenIsReplaced : Type 0
WrittenIsReplaced =
    (name : List ℕ) (place : ℕ) (block : List ℕ) (old new : Image) → IsRtAccepted old → WritesBlock name place block old new →
    HasReplaced name place block (rt_store_of old) (rt_store_of new)

-- what delete takes away
abbrev pub DeletedIsGone : Type 0
DeletedIsGone = (name : List ℕ) (old new : Image) → DeletesFile name old new → HasGone name (rt_store_of old) (rt_store_of new)

-- what rename changes
abbrev pub RenamedIsRenamed : Type 0
RenamedIsRenamed =
    (name other : List ℕ) (old new : Image) → IsRtName other → RenamesFile name other old new →
    HasRenamed name other (rt_store_of old) (rt_store_of new)

-- what protect changes
abbrev pub ProtectedIsProtected : Type 0
ProtectedIsProtected =
    (on : Bool) (name : List ℕ) (old new : Image) → ProtectsFile on name old new →
    HasProtected on name (rt_store_of old) (rt_store_of new)

-- The entries that are read of an accepted volume are its store's areas, in order.
abbrev pub ListsTheStoresAreas : Type 0
ListsTheStoresAreas =
    (image : Image) → IsRtAccepted image → map as_area (directory_entries image) ≡ map shown_area (areas_of (rt_store_of image))

-- The first entry of a file of a name that can be taken out of an accepted volume is that of its store's first file of it, and has its
-- blocks.
abbrev pub FindsTheStoresFile : Type 0
FindsTheStoresFile = (image : Image) (name : List ℕ) → IsRtAccepted image → is_rt_name name ≡ true →
    option_map (λ (e : RtEntry). blocks_from image e.first e.blocks) (find (is_sound_file_named name) (directory_entries image))
    ≡ slice_get (map (λ (f : Area). f.contents) (files_named name (rt_store_of image))) 0
