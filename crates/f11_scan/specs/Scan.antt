-- The headers of an image, wherever they lie, and what looking for the next one tells (profile).
use Rattle.std.specs.Prelude.{◌≡◌, ℕ, ◌+◌, ◌-◌, ◌<◌, ◌≤◌, IsTrue, List, Option, Some, None, is_some, length, filter}
use Rattle.std.specs.List.{range_with_len}
use Rattle.f11_dev.specs.Disk.{Disk}
use Rattle.f11_dev.specs.Image.{Image, image_block}
use Rattle.f11_dev.specs.declared.device.Device.{Ghosts}
use Rattle.f11_scan.specs.Uses.{use_of_block}
use Rattle.f11_scan.specs.declared.found.FoundHeader.{FoundHeader}
use Rattle.f11_scan.specs.declared.scan.Scan.{Scan}

-- the device that is scanned
abbrev pub scanned_device : {D : Type 0} {met : Ghosts D} → Scan D met → D
scanned_device s = s.device

-- its disk
abbrev pub scanned_disk : {D : Type 0} {met : Ghosts D} → (D → Disk) → Scan D met → Disk
scanned_disk disk s = disk s.device

-- the LBN from which the scan goes on
abbrev pub place_of : {D : Type 0} {met : Ghosts D} → Scan D met → ℕ
place_of s = s.place

-- no block of an image from one up to another is a header, live or killed
abbrev pub HasNoHeader : Image → ℕ → ℕ → Type 0
HasNoHeader image from to = (lbn : ℕ) → from ≤ lbn → lbn < to → use_of_block (image_block image lbn) ≡ None

-- the LBNs from one on of all blocks of an image that are headers, live or killed, in order
abbrev pub headers_from : Image → ℕ → List ℕ
headers_from image from = filter (λ lbn. is_some (use_of_block (image_block image lbn))) (range_with_len from (length image - from))

-- A header was found by a scan from one block on: it lies there or behind, within the image; it is what it is told to be; the scan goes
-- on right behind it. On an honest device it is the image's block, and no block before it was passed over that is one.
pub record FindsHeader (found : FoundHeader) (old : Disk) (from to : ℕ) : Type 0 where
  pub behind : from ≤ found.lbn
  pub within : found.lbn < length old.image
  pub is_header : use_of_block found.block ≡ Some found.header_use
  pub goes_on : to ≡ found.lbn + 1
  pub is_block : IsTrue old.honest → image_block old.image found.lbn ≡ found.block
  pub none_before : IsTrue old.honest → HasNoHeader old.image from found.lbn

-- None was found: the scan is at the end, and on an honest device no block up to there is one.
pub record FindsNone (old : Disk) (from to : ℕ) : Type 0 where
  pub end : to ≡ length old.image
  pub none : IsTrue old.honest → HasNoHeader old.image from to

abbrev pub FindsNext : Option FoundHeader → Disk → ℕ → ℕ → Type 0
FindsNext (Some found) old from to = FindsHeader found old from to
FindsNext None old from to = FindsNone old from to

-- A transfer failed: the scan is at the block that couldn't be read, and on an honest device no block before it is a header.
pub record StopsAt (old : Disk) (from to : ℕ) : Type 0 where
  pub behind : from ≤ to
  pub within : to < length old.image
  pub none_before : IsTrue old.honest → HasNoHeader old.image from to
