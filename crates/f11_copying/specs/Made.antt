-- What a file is that was made of the blocks of a source, over the plain store (profile; a file, Files-11 On-Disk Structure Level 1, "File
-- Header").
use Rattle.std.specs.Prelude.{◌≡◌, ◌⊎◌, ℕ, ◌==◌, Bool, true, false, List, [], ◌∷◌, length, Some, Ok}
use Rattle.f11_store.specs.Changes.{Enters}
use Rattle.f11_store.specs.Directory.{record_bytes}
use Rattle.f11_store.specs.File.{File}
use Rattle.f11_store.specs.Store.{Store}
use Rattle.f11_store.specs.declared.files.FileId.{FileId}
use Rattle.f11_making.specs.Asking.{Who, plain}
use Rattle.f11_copying.specs.Copies.{copies}
use Rattle.f11_copying.specs.Courses.{Giving, Runs, both}
use Rattle.f11_copying.specs.declared.file.FileToMake.{FileToMake}

-- a source gave these blocks, one after another
abbrev pub IsGiven : {H : Type 0} → Giving H → List (List ℕ) → H → H → Type 0
IsGiven K [] source source' = source' ≡ source
IsGiven {H} K (block ∷ more) source source' = (between : H) × (K source (Some block) between) × (IsGiven K more between source')

-- its characteristics are none, or the contiguous mark alone, UC.CON (128), where it is to lie in one run (file header, H.UCHA)
abbrev pub HasMark : (in_one_run : Bool) → ℕ → Type 0
HasMark in_one_run word = (word ≡ 0) ⊎ ((in_one_run ≡ true) × (word ≡ 128))

-- A name was entered into a directory as it was before, and nothing else is done to the directory.
pub record IsEntered (dir : FileId) (name : List ℕ) (id : FileId) (s s' : Store) : Type 0 where
  pub before : Store
  pub after : Store
  pub as_before : before.file dir.number ≡ s.file dir.number
  pub enters : Enters before dir (record_bytes id name) after
  pub as_after : s'.file dir.number ≡ after.file dir.number

-- A file was made as it was to be, of these blocks, in a slot that was free, and entered. All other files are as before, but the index
-- file, which may have got slots, and the directory; and so is what tasks hold.
pub record HasMadeCopy (file : FileToMake) (dir : FileId) (name : List ℕ) (id : FileId) (blocks : List (List ℕ)) (s s' : Store) : Type 0
  where
    pub made : File
    pub there : s'.file id.number ≡ Some made
    pub sequence_is : made.sequence ≡ id.sequence
    pub was_free : s.in_use id.number ≡ false
    pub owner_is : made.owner ≡ file.owner
    pub protection_is : made.protection ≡ file.protection
    pub mark : HasMark file.in_one_run made.characteristics
    pub ident_is : made.ident ≡ file.ident
    pub attr_is : made.attr ≡ file.attr
    pub blocks_are : made.blocks ≡ blocks
    pub entered : IsEntered dir name id s s'
    pub others : (n : ℕ) → (n == id.number) ≡ false → (n == dir.number) ≡ false → (n == 1) ≡ false → s'.file n ≡ s.file n
    pub access : (task lun : ℕ) → s'.access task lun ≡ s.access task lun

-- The source gave as many blocks as the file was to have, and it was made of them, in a directory that was there before.
pub record IsMadeOf {H : Type 0} (K : Giving H) (file : FileToMake) (dir : FileId) (name : List ℕ) (id : FileId) (s s' : Store)
    (source source' : H) : Type 0
  where
    pub blocks : List (List ℕ)
    pub count : length blocks ≡ file.blocks
    pub given : IsGiven K blocks source source'
    pub makes : s.in_use dir.number ≡ true → HasMadeCopy file dir name id blocks s s'

-- so it is where a file was made
abbrev pub MadeIsMadeOf : {H : Type 0} → Giving H → Type 0
MadeIsMadeOf {H} K = (who : Who) (file : FileToMake) (lun : ℕ) (dir : FileId) (name : List ℕ) (id : FileId) (s s' : Store)
    (source source' : H) → Runs plain K who (copies file lun dir name) (Ok id) (both s source) (both s' source')
    → IsMadeOf K file dir name id s s' source source'
