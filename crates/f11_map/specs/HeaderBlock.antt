-- What a file header's block says of the file's blocks and of its next header (Files-11 On-Disk Structure Level 1, "Map
-- Area"), in words of its own: layers above speak of headers, and of no map area.
use Rattle.std.specs.Prelude.{◌≡◌, ℕ, List}
use Rattle.f11_header.specs.Fields.{map_area}
use Rattle.f11_header.specs.MapFields.{segment, link}
use Rattle.f11_map.specs.MapArea.{blocks_of, runs_of}
use Rattle.f11_header.specs.store.declared.files.FileId.{FileId}

-- M.ESQN: the number of the file's segment that the header describes, 0 in the file's first header
unfoldable pub segment_number : List ℕ → ℕ
segment_number b = segment (map_area b)

-- M.EFNU, M.EFSQ and M.ERVN: the header's link to the file's next one; number 0 is none
unfoldable pub link_of : List ℕ → FileId
link_of b = link (map_area b)

-- the header links to no other: it is its file's last
abbrev pub LinksToNone : List ℕ → Type 0
LinksToNone b = (link_of b).number ≡ 0

-- the header's retrieval pointers, in order: the first LBN of each, and how many blocks it names
unfoldable pub runs_named : List ℕ → List (ℕ × ℕ)
runs_named b = runs_of (map_area b)

-- the LBNs of the blocks that the header's retrieval pointers name, laid end to end
unfoldable pub blocks_named : List ℕ → List ℕ
blocks_named b = blocks_of (map_area b)
