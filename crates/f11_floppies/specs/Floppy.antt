-- What contracts know of a `Floppy`.
use Rattle.std.specs.Prelude.{◌≡◌, ℕ, true, List, length}
use Rattle.f11_dev.specs.Disk.{Disk, fresh}
use Rattle.f11_dev.specs.Outcomes.{transfers_of, failures_of, calm_of}
use Rattle.f11_floppies.specs.Arrange.{logical_image, padded}
use Rattle.f11_floppies.specs.Moments.{images_of}
use Rattle.f11_floppies.specs.Order.{block_count}
use Rattle.f11_floppies.specs.declared.floppy.Floppy.{Floppy}
use Rattle.f11_floppies.specs.declared.order.Order.{Order}

-- the order of its image,
abbrev pub order_of : Floppy → Order
order_of f = f.order

-- and the bytes of the image when the floppy was made
abbrev pub made_of : Floppy → List ℕ
made_of f = f.made.value.items

-- the disk that it is: the blocks in logical order, and it is honest
abbrev pub floppy_disk : Floppy → Disk
floppy_disk f = record {
  image = logical_image f.order f.bytes.items;
  history = images_of f.order f.moments;
  transfers = transfers_of f.outcomes;
  failures = failures_of f.outcomes;
  calm = calm_of f.outcomes;
  honest = true;
}

-- a floppy was made of an image
pub record IsMade (kind : Order) (bytes : List ℕ) (f : Floppy) : Type 0 where
  pub order : order_of f ≡ kind
  pub made : made_of f ≡ padded kind bytes
  pub disk : floppy_disk f ≡ fresh true (logical_image kind bytes)
  pub blocks : length (floppy_disk f).image ≡ block_count kind

-- It is the same floppy: its image has the same order, and it was made of the same bytes.
pub record IsSameFloppy (old new : Floppy) : Type 0 where
  pub order : order_of new ≡ order_of old
  pub made : made_of new ≡ made_of old
