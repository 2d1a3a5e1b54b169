-- What is read off the writes to a floppy.
use Rattle.std.specs.Prelude.{◌≡◌, ℕ, List, [], ◌∷◌}
use Rattle.f11_dev.specs.Image.{Image}
use Rattle.f11_floppies.specs.Arrange.{logical_image}
use Rattle.f11_floppies.specs.declared.moments.Moments.{Moments, Nothing, Then'}
use Rattle.f11_floppies.specs.declared.order.Order.{Order}

-- the image after each write, in logical order, the newest first
abbrev pub images_of : Order → Moments → List Image
images_of order Nothing = []
images_of order (Then' shape earlier bytes) = logical_image order bytes.value.items ∷ images_of order earlier

-- the bytes after one write more were added
pub record Adds (bytes : List ℕ) (old new : Moments) : Type 0 where
  pub images : (order : Order) → images_of order new ≡ logical_image order bytes ∷ images_of order old
