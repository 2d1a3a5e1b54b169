-- What calls change, and that they write it in order (profile).
use Rattle.std.specs.Prelude.{◌≡◌, ℕ, ◌++◌, Bool, IsTrue, List, All}
use Rattle.f11_bits.specs.Bitmap.{Bitmap}
use Rattle.f11_dev.specs.Disk.{Disk}
use Rattle.f11_dev.specs.Image.{Image}
use Rattle.f11_dev.specs.Went.{newest}
use Rattle.f11_home.specs.Home.{HomeFields}
use Rattle.f11_index.specs.IndexFile.{Index}
use Rattle.f11_writes.specs.Order.{AreInOrder}
use Rattle.f11_image_store.specs.Confines.{Spares}

-- No block was changed but these headers, those of these bitmaps, and these others: each image that stood meanwhile spares all others, and
-- so does the last. On an honest disk each write was in order.
pub record ConfinesInOrder (headers : ℕ → Bool) (index : Index) (bitmap : Bitmap) (others : List ℕ) (old new : Disk) : Type 0 where
  pub since : List Image
  pub history : new.history ≡ since ++ old.history
  pub image : new.image ≡ newest since old.image
  pub honest : new.honest ≡ old.honest
  pub each : All (Spares headers index bitmap others old.image) since
  pub ordered : IsTrue old.honest → (home : HomeFields) → AreInOrder home old.image since
