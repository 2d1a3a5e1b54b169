-- What extending a file does (profile: blocks of zeros, the lowest free ones, a run of 256 at most after another).
use Rattle.std.specs.Prelude.{◌≡◌, ◌≢◌, ℕ, ◌+◌, ◌-◌, ◌*◌, ◌/◌, ◌<◌, ◌≤◌, Bool, false, IsTrue, List, [], None}
use Rattle.f11_dev.specs.Disk.{Disk}
use Rattle.f11_dev.specs.Image.{Image}
use Rattle.f11_header.specs.Fields.{owner, protection}
use Rattle.f11_home.specs.Home.{HomeFields}
use Rattle.f11_index.specs.Kept.{room}
use Rattle.f11_index.specs.Table.{table_of}
use Rattle.f11_map.specs.HeaderBlock.{link_of, LinksToNone}
use Rattle.f11_store.specs.Changes.{Extends}
use Rattle.f11_store.specs.Causes.{first_of}
use Rattle.f11_store.specs.Cost.{growth_cost, header_count, lengthen_cost}
use Rattle.f11_store.specs.Headroom.{slots_first}
use Rattle.f11_store.specs.Step.{gets_slots}
use Rattle.f11_store.specs.File.{length_of, need}
use Rattle.f11_store.specs.Lags.{extend_work, lengthen_work}
use Rattle.f11_store.specs.Store.{file_named}
use Rattle.f11_store.specs.declared.callers.Uic.{Uic}
use Rattle.f11_store.specs.declared.files.FileId.{FileId}
use Rattle.f11_store.specs.declared.refusals.Refusal.{Refusal}
use Rattle.f11_volume.specs.Volume.{volume_of}
use Rattle.f11_image_store.specs.Allocation.{AddsZeroSlots, GainsBlocks, GainsBlocksAs}
use Rattle.f11_files.specs.Answers.{Meanwhile, Does, FailsOrWants, FailsToWrite, KeepsUnused, ReadsAtMost}
use Rattle.f11_files.specs.GrowingIndex.Headroom.{ReadiesHeaders}
use Rattle.f11_files.specs.Extending.Growing.{Grew, GrowingBy}
use Rattle.f11_files.specs.Operations.{extend_causes, held_causes}
use Rattle.f11_store.specs.Pieces.{file_numbered, piece_work_of}
use Rattle.f11_image_store.specs.StoreOf.{store_of}
use Rattle.f11_files.specs.Structure.{bitmap_in, home_of, store_on}
use Rattle.f11_files.specs.Extending.Tail.{HoldsLast, ownership_of, whose}
use Rattle.f11_files.specs.Extending.Take.{NoneFreeBelow}
use Rattle.f11_files.specs.declared.structure.Structure.{Structure}
use Rattle.f11_files.specs.declared.extend.tail.Tail.{Tail}

-- A file's last header is in hand: its first, where that links to none, or else this one.
pub record IsTailOf (f : FileId) (first : List ℕ) (number : ℕ) (last : List ℕ) (tail : Tail) : Type 0 where
  pub file_is : tail.file ≡ f
  pub owner_is : tail.owner ≡ owner first
  pub protection_is : tail.protection ≡ protection first
  pub alone : LinksToNone first → (tail.number ≡ f.number) × (tail.block ≡ first)
  pub other : (link_of first).number ≢ 0 → (tail.number ≡ number) × (tail.block ≡ last)

-- A file has a run of blocks more: no block below `end` is free then, and its last header is in hand.
pub record AddsRun (s after : Structure) (tail later : Tail) (from most end count : ℕ) (old new : Disk) : Type 0 where
  pub file : whose later ≡ whose tail
  pub last : HoldsLast after later new
  pub bitmap : bitmap_in after ≡ bitmap_in s
  pub left : room s.index ≤ room after.index + count
  pub some : 0 < count
  pub asked : count ≤ most
  pub above : from + count ≤ end
  pub within : end ≤ (bitmap_in s).size
  pub none_below : IsTrue old.honest → NoneFreeBelow new.image (bitmap_in s) end
  pub gains :
      IsTrue old.honest → GainsBlocksAs tail.file.number (ownership_of tail) count (volume_of old.image (home_of s))
      (volume_of new.image (home_of s))
  pub slots : IsTrue old.honest → AddsZeroSlots (table_of old.image (home_of s)) (table_of new.image (home_of s))
  pub grew :
      Grew (GrowingBy (home_of s) (store_on s old) tail.file.number most most old) (home_of s) (store_on s old) tail.file.number count count
      (end / 4096 - from / 4096 + 5 * count) old new

-- what stands while file k grows by n blocks
abbrev pub GrowingByRuns : Structure → ℕ → ℕ → Disk → Image → Type 0
GrowingByRuns s k n old = Meanwhile (piece_work_of k (file_numbered (store_on s old) k).room n n) (home_of s) old

-- It has grown by them: headers that were added say this ownership.
pub record GrowsByRuns (s : Structure) (k : ℕ) (ownership : Uic × ℕ) (n : ℕ) (old new : Disk) : Type 0 where
  pub gains : IsTrue old.honest → GainsBlocksAs k ownership n (volume_of old.image (home_of s)) (volume_of new.image (home_of s))
  pub slots : IsTrue old.honest → AddsZeroSlots (table_of old.image (home_of s)) (table_of new.image (home_of s))
  pub grew : Grew (GrowingByRuns s k n old) (home_of s) (store_on s old) k n n ((bitmap_in s).size / 4096 + 5 * n) old new

-- A file was extended by n blocks of zeros, the lowest free ones, with headers that are free: what is left of the cost, but for a look at
-- its right, and at each of its headers. A header that was added says the owner and the protection of the file's first one.
abbrev pub ExtendsHeld : HomeFields → FileId → ℕ → Disk → Disk → Type 0
ExtendsHeld home f n old new =
    let s = store_of old.image home in
    Does (held_causes s f n) (extend_work f.number (file_named s f).room n)
    (growth_cost s (file_named s f) n - 1 - header_count (file_named s f)) (Extends s f.number n) (KeepsUnused (GainsBlocks f.number n))
    home old new

-- the same where its first and last header are in hand, in two transfers less
abbrev pub ExtendsInHand : HomeFields → FileId → ℕ → Disk → Disk → Type 0
ExtendsInHand home f n old new =
    let s = store_of old.image home in
    Does (held_causes s f n) (extend_work f.number (file_named s f).room n)
    (growth_cost s (file_named s f) n - 1 - header_count (file_named s f) - 2) (Extends s f.number n) (KeepsUnused (GainsBlocks f.number n))
    home old new

-- It was not, or not by all of them: no cause stands against it.
abbrev pub FailsToExtendHeld : HomeFields → FileId → ℕ → Refusal → Disk → Disk → Type 0
FailsToExtendHeld home f n refusal old new =
    let s = store_of old.image home in
    FailsToWrite false [] (growth_cost s (file_named s f) n - 1 - header_count (file_named s f) - 2)
    (extend_work f.number (file_named s f).room n) home refusal old new

-- the headers that a file of the disk may need for n blocks more
abbrev pub headers_for : HomeFields → FileId → ℕ → Disk → ℕ
headers_for home f n disk = need (file_named (store_of disk.image home) f).room n

-- A file was extended by n blocks of zeros: its headers were read, and the headers that it may need readied, and then so.
pub record ExtendsFile (home : HomeFields) (f : FileId) (n : ℕ) (old new : Disk) : Type 0 where
  pub no_cause : IsTrue old.honest → first_of (extend_causes (store_of old.image home) f n) ≡ None
  pub read : Disk
  pub reads : ReadsAtMost (header_count (file_named (store_of old.image home) f)) old read 0
  pub ready : Disk
  pub readies : ReadiesHeaders home (headers_for home f n old) n read ready
  pub extends : ExtendsHeld home f n ready new

-- and this is its length then
abbrev pub IsLengthAfter : HomeFields → FileId → ℕ → Disk → ℕ → Type 0
IsLengthAfter home f n old blocks = IsTrue old.honest → blocks ≡ length_of (file_named (store_of old.image home) f) + n

-- It was not, or not by all of them: one transfer less than the cost, which counts a look at its right.
abbrev pub FailsToExtend : Bool → HomeFields → FileId → ℕ → Refusal → Disk → Disk → Type 0
FailsToExtend failed home f n refusal old new =
    let s = store_of old.image home in
    FailsOrWants (gets_slots (slots_first s (headers_for home f n old))) failed (extend_causes s f n)
    (lengthen_cost s (file_named s f) n - 1) (lengthen_work s f n) home refusal old new
