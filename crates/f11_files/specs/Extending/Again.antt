-- A file's first header and its last, which are in hand once other blocks were written.
use Rattle.std.specs.Prelude.{◌≡◌, length, None, true}
use Rattle.f11_dev.specs.Image.{Image}
use Rattle.f11_chain.specs.declared.blocks.FileEnd.{FileEnd}
use Rattle.f11_home.specs.Home.{HomeFields}
use Rattle.f11_index.specs.Headers.{headers_of, IsLastOf}
use Rattle.f11_index.specs.IndexFile.{Index, is_in_use}
use Rattle.f11_index.specs.Table.{table_of}
use Rattle.f11_store.specs.Causes.{first_of}
use Rattle.f11_store.specs.declared.files.FileId.{FileId}
use Rattle.f11_store.specs.declared.refusals.Refusal.{Refusal}
use Rattle.f11_store.specs.declared.refusals.Refusal.TheVariants.{Damaged}
use Rattle.f11_image_store.specs.StoreOf.{store_of}
use Rattle.f11_files.specs.Operations.{file_causes}

-- A file of an image has this last header, and so many.
pub record IsEndOf (image : Image) (home : HomeFields) (f : FileId) (end : FileEnd) : Type 0 where
  pub there : first_of (file_causes (store_of image home) f) ≡ None
  pub last : IsLastOf (table_of image home) f.number end.number
  pub headers : length (headers_of (table_of image home) f.number) ≡ end.headers

-- The slots of both are in use.
pub record AreInUse (index : Index) (f : FileId) (end : FileEnd) : Type 0 where
  pub first : is_in_use index f.number ≡ true
  pub last : is_in_use index end.number ≡ true

-- One isn't, which is damage.
pub record AreNot (index : Index) (f : FileId) (end : FileEnd) (refusal : Refusal) : Type 0 where
  pub not : ¬ AreInUse index f end
  pub damaged : refusal ≡ Damaged
