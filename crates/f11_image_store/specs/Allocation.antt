-- Which blocks the headers of a volume name, and which are free, where files are made, grow, are cut and go (Files-11 On-Disk
-- Structure Level 1, "Map Area" and "Storage Bitmap File"; profile: the lowest free blocks are taken).
use Rattle.std.specs.Prelude.{◌≡◌, ◌≢◌, ◌⊎◌, ℕ, suc, ◌<◌, ◌≤◌, ◌||◌, true, false, List, [], ◌++◌, Some}
use Rattle.std.specs.Prelude.{length, replicate, take, drop, filter, if◌then◌else◌}
use Rattle.std.specs.List.{range_with_len, slice_get}
use Rattle.f11_bytes.specs.Block.{zero_block}
use Rattle.f11_header.specs.Fields.{owner, protection, characteristics, attributes, ident_room}
use Rattle.f11_header.specs.Writing.{dead_header}
use Rattle.f11_volume.specs.map.HeaderBlock.{link_of, blocks_named}
use Rattle.f11_index.specs.Headers.{headers_of, is_live}
use Rattle.f11_index.specs.Table.{Table, IsFile, IsLive, IsHeaderOf}
use Rattle.f11_volume.specs.chain.FileHeaders.{blocks_by, file_blocks}
use Rattle.f11_store.specs.Changes.{is_in}
use Rattle.f11_store.specs.Store.{no_id}
use Rattle.f11_store.specs.declared.callers.Uic.{Uic}
use Rattle.f11_volume.specs.Volume.{Volume}
use Rattle.f11_image_store.specs.FileLaws.{SaysAlike}

-- the blocks that header n names, in order: none where it isn't live
unfoldable pub named_by : Table → ℕ → List ℕ
named_by t n = if is_live t n then blocks_named (t.header n) else []

-- the free blocks of a volume, in ascending order
unfoldable pub free_list : Volume → List ℕ
free_list v = filter v.free (range_with_len 0 v.size)

-- a list begins with another
abbrev pub BeginsWith : List ℕ → List ℕ → Type 0
BeginsWith whole first = (rest : List ℕ) × (whole ≡ first ++ rest)

-- Each header names the blocks that it named, and the same blocks are free.
pub record KeepsBlocks (old new : Volume) : Type 0 where
  pub size : new.size ≡ old.size
  pub names : (n : ℕ) → named_by new.table n ≡ named_by old.table n
  pub free : new.free ≡ old.free

-- the owner and the protection that a header says its file has
abbrev pub ownership_in : List ℕ → Uic × ℕ
ownership_in block = (owner block, protection block)

-- A header says of its file that it has this owner and this protection, and no more: no characteristics, and attributes and an
-- ident area of zeros.
pub record SaysOnly (ownership : Uic × ℕ) (block : List ℕ) : Type 0 where
  pub ownership_is : ownership_in block ≡ ownership
  pub no_characteristics : characteristics block ≡ 0
  pub no_attributes : attributes block ≡ replicate 32 0
  pub no_ident : ident_room block ≡ replicate 46 0

-- Each header that was live is, and says of its file what it said.
pub record KeepsSaying (old new : Table) : Type 0 where
  pub live : (n : ℕ) → IsLive old n → IsLive new n
  pub alike : (n : ℕ) → IsLive old n → SaysAlike (old.header n) (new.header n)

-- Each header of file f is one that it had, or says this owner and this protection alone. Each that was live is, and says what it
-- said, but for the file's first: that says the owner and the protection that it said.
pub record AddsHeaders (f : ℕ) (ownership : Uic × ℕ) (old new : Table) : Type 0 where
  pub file : IsFile old f
  pub added : (n : ℕ) → IsHeaderOf new f n → IsHeaderOf old f n ⊎ SaysOnly ownership (new.header n)
  pub live : (n : ℕ) → IsLive old n → IsLive new n
  pub alike : (n : ℕ) → IsLive old n → n ≢ f → SaysAlike (old.header n) (new.header n)
  pub first : ownership_in (new.header f) ≡ ownership_in (old.header f)

-- File f has these blocks more, behind its own: its headers stay, and name what they named and maybe more; each other header names what it
-- named. The headers that it has more say this ownership alone.
pub record NamesMore (f : ℕ) (ownership : Uic × ℕ) (lbns : List ℕ) (old new : Table) : Type 0 where
  pub blocks : file_blocks new f ≡ file_blocks old f ++ lbns
  pub headers : (n : ℕ) → IsHeaderOf old f n → IsHeaderOf new f n
  pub own : (n : ℕ) → BeginsWith (named_by new n) (named_by old n)
  pub others : (n : ℕ) → ¬ IsHeaderOf new f n → named_by new n ≡ named_by old n
  pub says : AddsHeaders f ownership old new

-- Header m, which named none, is there and says this ownership alone. File f has the headers and the blocks that it had, and each
-- other header names what it named.
pub record AddsFileless (f m : ℕ) (ownership : Uic × ℕ) (old new : Table) : Type 0 where
  pub blocks : file_blocks new f ≡ file_blocks old f
  pub headers : (n : ℕ) → IsHeaderOf old f n → IsHeaderOf new f n
  pub none : named_by old m ≡ []
  pub others : (n : ℕ) → n ≢ m → named_by new n ≡ named_by old n
  pub file : IsFile old f
  pub none_more : (n : ℕ) → IsHeaderOf new f n → IsHeaderOf old f n
  pub says : SaysOnly ownership (new.header m)
  pub stay : KeepsSaying old new

-- Header m is one of file f's now, with its blocks behind those of the others, and each header names what it named.
pub record LinksFileless (f m : ℕ) (old new : Table) : Type 0 where
  pub blocks : file_blocks new f ≡ file_blocks old f ++ blocks_named (old.header m)
  pub headers : (n : ℕ) → IsHeaderOf old f n → IsHeaderOf new f n
  pub linked : IsHeaderOf new f m
  pub names : (n : ℕ) → named_by new n ≡ named_by old n
  pub one_more : (n : ℕ) → IsHeaderOf new f n → IsHeaderOf old f n ⊎ (n ≡ m)
  pub stay : KeepsSaying old new

-- File f has the n lowest free blocks more, which aren't free now, and the headers that it has more say this ownership alone.
pub record GainsBlocksAs (f : ℕ) (ownership : Uic × ℕ) (n : ℕ) (old new : Volume) : Type 0 where
  pub size : new.size ≡ old.size
  pub names : NamesMore f ownership (take n (free_list old)) old.table new.table
  pub free : free_list new ≡ drop n (free_list old)

-- File f has the n lowest free blocks more, and its first header says whose the added ones are.
abbrev pub GainsBlocks : ℕ → ℕ → Volume → Volume → Type 0
GainsBlocks f n old new = GainsBlocksAs f (ownership_in (old.table.header f)) n old new

-- Slots that came and aren't in use hold zeros. No slot left use, and each that isn't in use holds what it held.
pub record AddsZeroSlots (old new : Table) : Type 0 where
  pub no_fewer : old.slots ≤ new.slots
  pub zeros : (n : ℕ) → old.slots < n → n ≤ new.slots → new.in_use n ≡ false → new.header n ≡ zero_block
  pub unused : (n : ℕ) → 0 < n → n ≤ old.slots → new.in_use n ≡ false → old.in_use n ≡ false
  pub held : (n : ℕ) → 0 < n → n ≤ old.slots → new.in_use n ≡ false → new.header n ≡ old.header n

-- The index file has the n lowest free blocks more, which aren't free now: as slots they hold zeros. The headers that it has more
-- say this ownership alone.
pub record GainsSlotsAs (ownership : Uic × ℕ) (n : ℕ) (old new : Volume) : Type 0 where
  pub blocks : GainsBlocksAs 1 ownership n old new
  pub slots : AddsZeroSlots old.table new.table

-- The index file has n slots more, and its first header says whose the added headers are.
abbrev pub GainsSlots : ℕ → Volume → Volume → Type 0
GainsSlots n old new = GainsSlotsAs (ownership_in (old.table.header 1)) n old new

-- These blocks are free too, and the volume has the size that it had.
pub record FreesBlocks (lbns : List ℕ) (old new : Volume) : Type 0 where
  pub size : new.size ≡ old.size
  pub free : (lbn : ℕ) → new.free lbn ≡ (old.free lbn || is_in lbns lbn)

-- Header n was killed: its file number and its check word are 0, and the rest of its block is as it was.
abbrev pub Kills : ℕ → Table → Table → Type 0
Kills n old new = new.header n ≡ dead_header (old.header n)

-- These headers were killed, and the blocks that they named are free: each other header names what it named.
pub record LosesHeaders (headers : List ℕ) (old new : Volume) : Type 0 where
  pub names : (n : ℕ) → named_by new.table n ≡ (if is_in headers n then [] else named_by old.table n)
  pub killed : (n : ℕ) → is_in headers n ≡ true → Kills n old.table new.table
  pub free : FreesBlocks (blocks_by old.table headers) old new

-- A header is the last of its file, with no link, and says what it said.
pub record IsEnd (old new : List ℕ) : Type 0 where
  pub alike : SaysAlike old new
  pub no_link : link_of new ≡ no_id

-- File f has the first of its blocks alone, so many, and the others are free. It has its first header, and those after it before
-- which it has fewer blocks than stay; they name the first of what they named, all but the last stay as they were, and that is
-- the end. Its other headers were killed.
pub record LosesBlocks (f to : ℕ) (old new : Volume) : Type 0 where
  pub blocks : file_blocks new.table f ≡ take to (file_blocks old.table f)
  pub more : ℕ
  pub headers : headers_of new.table f ≡ take (suc more) (headers_of old.table f)
  pub needed : (more ≡ 0) ⊎ (length (blocks_by old.table (take more (headers_of old.table f))) < to)
  pub own : (n : ℕ) → BeginsWith (named_by old.table n) (named_by new.table n)
  pub same : (n : ℕ) → is_in (take more (headers_of old.table f)) n ≡ true → new.table.header n ≡ old.table.header n
  pub ends : (n : ℕ) → slice_get (headers_of old.table f) more ≡ Some n → IsEnd (old.table.header n) (new.table.header n)
  pub gone : (n : ℕ) → is_in (drop (suc more) (headers_of old.table f)) n ≡ true → named_by new.table n ≡ []
  pub killed : (n : ℕ) → is_in (drop (suc more) (headers_of old.table f)) n ≡ true → Kills n old.table new.table
  pub others : (n : ℕ) → ¬ IsHeaderOf old.table f n → named_by new.table n ≡ named_by old.table n
  pub free : FreesBlocks (drop to (file_blocks old.table f)) old new
