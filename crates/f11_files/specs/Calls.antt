-- What each call on files does, where it is served (profile).
use Rattle.std.specs.Prelude.{◌≡◌, IsTrue, None}
use Rattle.f11_dev.specs.Disk.{Disk}
use Rattle.f11_home.specs.Home.{HomeFields}
use Rattle.f11_store.specs.Causes.{first_of}
use Rattle.f11_store.specs.Store.{file_named}
use Rattle.f11_store.specs.declared.files.Attr.{Attr}
use Rattle.f11_store.specs.declared.files.FileId.{FileId}
use Rattle.f11_files.specs.Answers.{ReadsAtMost}
use Rattle.f11_files.specs.Operations.{attr_of, file_causes}
use Rattle.f11_image_store.specs.StoreOf.{store_of}

-- What a file's header says of it was read.
pub record ReadsAttr (home : HomeFields) (f : FileId) (attr : Attr) (old new : Disk) : Type 0 where
  pub no_cause : IsTrue old.honest → first_of (file_causes (store_of old.image home) f) ≡ None
  pub attr_is : IsTrue old.honest → attr ≡ attr_of (file_named (store_of old.image home) f)
  pub reads : ReadsAtMost 1 old new 0
