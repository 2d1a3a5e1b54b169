-- What the words of allocation mean beside those of the verifier and of the store.
use Rattle.std.specs.Prelude.{◌≡◌, ◌↔◌, ℕ, ◌+◌, length, flat_map, Some, option_map}
use Rattle.std.specs.List.{slice_get}
use Rattle.f11_dev.specs.Image.{Image}
use Rattle.f11_volume.specs.home.Home.{HomeFields}
use Rattle.f11_index.specs.Headers.{headers_of}
use Rattle.f11_index.specs.Table.{Table, table_of, IsFile, IsHeaderOf, IsWholeFile}
use Rattle.f11_volume.specs.chain.FileHeaders.{file_blocks}
use Rattle.f11_volume.specs.Sound.{HasSoundVolume}
use Rattle.f11_volume.specs.Volume.{Volume, volume_of, IsCell}
use Rattle.f11_image_store.specs.Allocation.{named_by, free_list, GainsBlocks}
use Rattle.f11_image_store.specs.StoreOf.{store_of}

-- the blocks that a header names, by place, are those that the verifier judges
abbrev pub CellsAreNamed : Type 0
CellsAreNamed = (t : Table) (n place lbn : ℕ) → (slice_get (named_by t n) place ≡ Some lbn) ↔ IsCell t n place lbn

-- a whole file's blocks are those that its headers name, laid end to end
abbrev pub FileBlocksAreNamed : Type 0
FileBlocksAreNamed = (t : Table) (f : ℕ) → IsWholeFile t f → file_blocks t f ≡ flat_map (named_by t) (headers_of t f)

-- a file that gains blocks twice gains both at once
abbrev pub GainsAdd : Type 0
GainsAdd = (f a b : ℕ) (v w x : Volume) → GainsBlocks f a v w → GainsBlocks f b w x → GainsBlocks f (a + b) v x

-- the free blocks are as many as the store says
abbrev pub FreeBlocksAreStored : Type 0
FreeBlocksAreStored = (image : Image) (home : HomeFields) → length (free_list (volume_of image home)) ≡ (store_of image home).free

-- a file that has the headers in the store that it had, each of which names what it named, has the blocks that it had
abbrev pub FileKeepsBlocks : Type 0
FileKeepsBlocks =
    (home : HomeFields) (old new : Image) (f : ℕ) → HasSoundVolume old home → HasSoundVolume new home → IsFile (table_of old home) f →
    option_map (λ g. g.held) ((store_of new home).file f) ≡ option_map (λ g. g.held) ((store_of old home).file f) →
    ((n : ℕ) → IsHeaderOf (table_of old home) f n → named_by (table_of new home) n ≡ named_by (table_of old home) n) →
    file_blocks (table_of new home) f ≡ file_blocks (table_of old home) f
