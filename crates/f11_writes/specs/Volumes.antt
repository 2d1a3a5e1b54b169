-- How a sound volume may change and be sound still, said of its headers and its free blocks alone.
use Rattle.std.specs.Prelude.{◌≡◌, ◌≢◌, ◌⊎◌, ℕ, ◌+◌, ◌<◌, true, false, List, Some}
use Rattle.std.specs.List.{slice_get}
use Rattle.f11_volume.specs.header.Fields.{file_sequence}
use Rattle.f11_volume.specs.header.Header.{IsHeader, IsDead}
use Rattle.f11_index.specs.Growth.{IsGoodFor}
use Rattle.f11_volume.specs.map.HeaderBlock.{segment_number, link_of, blocks_named, LinksToNone}
use Rattle.f11_index.specs.Headers.{IsInFile}
use Rattle.f11_index.specs.Sound.{AreApart}
use Rattle.f11_index.specs.Table.{IsLive, IsNext}
use Rattle.f11_volume.specs.Sound.{IsSoundVolume}
use Rattle.f11_volume.specs.Volume.{Volume, IsCell}
use Rattle.f11_writes.specs.OtherSlots.{KeepsOtherSlots}

-- A volume has lost headers, or has other blocks free: each header that is live was so before, and is as it was; where a header of a file
-- is live still, so is its next; and no block that is named became free.
pub record Shrinks (old new : Volume) : Type 0 where
  pub size : new.size ≡ old.size
  pub headers : (n : ℕ) → new.table.in_use n ≡ true → IsDead (new.table.header n) ⊎ IsHeader (new.table.header n) n
  pub live : (n : ℕ) → IsLive new.table n → IsLive old.table n
  pub same : (n : ℕ) → IsLive new.table n → new.table.header n ≡ old.table.header n
  pub next : (n m : ℕ) → IsInFile old.table n → IsLive new.table n → IsNext old.table n m → IsLive new.table m
  pub taken : (n place lbn : ℕ) → IsCell new.table n place lbn → new.free lbn ≡ true → old.free lbn ≡ true

-- then it is sound still
abbrev pub ShrunkIsSound : Type 0
ShrunkIsSound = (old new : Volume) → IsSoundVolume old → Shrinks old new → IsSoundVolume new

-- Header n may name these blocks: each is in the volume and used, no other header names it, and none stands twice among them.
pub record MayName (v : Volume) (n : ℕ) (lbns : List ℕ) : Type 0 where
  pub inside : (i lbn : ℕ) → slice_get lbns i ≡ Some lbn → lbn < v.size
  pub used : (i lbn : ℕ) → slice_get lbns i ≡ Some lbn → v.free lbn ≡ false
  pub alone : (i lbn m place : ℕ) → slice_get lbns i ≡ Some lbn → m ≢ n → ¬ IsCell v.table m place lbn
  pub apart : AreApart lbns

-- A header may have the link of this block to a live header, which has none and is no other's next: it is on this volume, the
-- sequence number is right, and the segment is the next one.
pub record LinksAnew (v : Volume) (block : List ℕ) : Type 0 where
  pub not_last : segment_number block < 255
  pub here : (link_of block).volume ≡ 0
  pub to : IsLive v.table (link_of block).number
  pub sequence : (link_of block).sequence ≡ file_sequence (v.table.header (link_of block).number)
  pub segment : segment_number (v.table.header (link_of block).number) ≡ segment_number block + 1
  pub no_link : LinksToNone (v.table.header (link_of block).number)
  pub no_other : (m : ℕ) → IsInFile v.table m → ¬ IsNext v.table m (link_of block).number

-- header n may have the link of this block: it is none, the one that it has, or one to a header that is then its next
pub data MayLink (v : Volume) (n : ℕ) (block : List ℕ) : Type 0 where
  links_to_none : LinksToNone block → MayLink v n block
  links_as_before : IsLive v.table n → link_of block ≡ link_of (v.table.header n) → MayLink v n block
  links_anew : LinksAnew v block → MayLink v n block

-- A block may become header n: it is valid, as good as the one there where that is live, and may name its blocks and have its link.
pub record MayBecome (v : Volume) (n : ℕ) (block : List ℕ) : Type 0 where
  pub valid : IsHeader block n
  pub good : IsLive v.table n → IsGoodFor v.table n block
  pub names : MayName v n (blocks_named block)
  pub link : MayLink v n block

-- A volume has this block as header n, which is in use. All else is as it was.
pub record HasHeader (n : ℕ) (block : List ℕ) (old new : Volume) : Type 0 where
  pub size : new.size ≡ old.size
  pub free : (lbn : ℕ) → new.free lbn ≡ old.free lbn
  pub in_use : new.table.in_use n ≡ true
  pub header : new.table.header n ≡ block
  pub others : KeepsOtherSlots n old.table new.table

-- where it may become that, the volume is sound still
abbrev pub SetIsSound : Type 0
SetIsSound = (old new : Volume) (n : ℕ) (block : List ℕ) → IsSoundVolume old → MayBecome old n block → HasHeader n block old new →
    IsSoundVolume new
