-- Laws of headers and of scans.
use Rattle.std.specs.Prelude.{◌≡◌, ◌≢◌, ℕ, ◌+◌, ◌<◌, ◌≤◌, ◌↔◌, List, [], ◌∷◌, Some, None, length}
use Rattle.f11_bytes.specs.Block.{IsBlock}
use Rattle.f11_dev.specs.Image.{Image, image_block}
use Rattle.f11_header.specs.Fields.{header_fields}
use Rattle.f11_header.specs.Header.{IsHeader}
use Rattle.f11_header.specs.Writing.{dead_header}
use Rattle.f11_scan.specs.Scan.{headers_from, HasNoHeader}
use Rattle.f11_scan.specs.Uses.{use_of_block, IsLive, IsKilled}
use Rattle.f11_scan.specs.declared.header_use.HeaderUse.TheVariants.{Live, Killed}

-- the test tells exactly which blocks are live headers, and which are killed ones
abbrev pub UseIsExact : Type 0
UseIsExact = (b : List ℕ) → IsBlock b → ((use_of_block b ≡ Some Live) ↔ IsLive b) × ((use_of_block b ≡ Some Killed) ↔ IsKilled b)

-- a killed header still says all that it said, but its number
abbrev pub KilledSaysTheRest : Type 0
KilledSaysTheRest = (h : List ℕ) (n : ℕ) → IsBlock h → IsHeader h n
    → header_fields (dead_header h) ≡ record (header_fields h) { number = 0 }

-- Headers are found one after another from one block on up to the end: each lies there or behind, within the image, and is one, none
-- before it is, and the others are found from the block behind it on.
abbrev pub Scans : Image → ℕ → List ℕ → Type 0
Scans image from [] = HasNoHeader image from (length image)
Scans image from (lbn ∷ rest) = (from ≤ lbn) × (lbn < length image) × HasNoHeader image from lbn
    × (use_of_block (image_block image lbn) ≢ None) × Scans image (lbn + 1) rest

-- these are all headers from there on, in order, each once
abbrev pub ScanFindsEach : Type 0
ScanFindsEach = (image : Image) (from : ℕ) (found : List ℕ) → Scans image from found → found ≡ headers_from image from
