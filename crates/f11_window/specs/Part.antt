-- Some blocks of a device that follow one another (profile).
use Rattle.std.specs.Prelude.{◌≡◌, ℕ, ◌+◌, ◌-◌, List, ◌++◌, All, drop, length, map, take}
use Rattle.f11_dev.specs.Disk.{Disk}
use Rattle.f11_dev.specs.Image.{Image}
use Rattle.f11_dev.specs.Went.{newest}

-- so many blocks of an image from one on
abbrev pub image_part : ℕ → ℕ → Image → Image
image_part first blocks image = take blocks (drop first image)

-- a disk of which only these blocks are seen, at each moment
abbrev pub disk_part : ℕ → ℕ → Disk → Disk
disk_part first blocks d = record d { image = image_part first blocks d.image; history = map (image_part first blocks) d.history }

-- the blocks before and behind a part are those of another image, which has as many
pub record IsSameOutside (first blocks : ℕ) (made image : Image) : Type 0 where
  pub size : length image ≡ length made
  pub before : take first image ≡ take first made
  pub behind : drop (first + blocks) image ≡ drop (first + blocks) made

-- the images that stood since a disk was another, the newest first
abbrev pub images_since : Disk → Disk → List Image
images_since made now = take (length now.history - length made.history) now.history

-- What was done to a disk kept each block outside a part at each moment: each image that stood since, and so the last, is the same there.
pub record KeepsOutside (first blocks : ℕ) (made now : Disk) : Type 0 where
  pub history : now.history ≡ images_since made now ++ made.history
  pub image : now.image ≡ newest (images_since made now) made.image
  pub each : All (IsSameOutside first blocks made.image) (images_since made now)
  pub honest : now.honest ≡ made.honest
