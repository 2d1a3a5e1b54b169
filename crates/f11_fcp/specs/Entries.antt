-- Records that are put into a directory that was looked through, and taken out (profile).
use Rattle.std.specs.Prelude.{
  ◌≡◌,
  ℕ,
  ◌+◌,
  ◌-◌,
  ◌/◌,
  ◌<◌,
  ◌&&◌,
  map,
  Bool,
  false,
  IsTrue,
  List,
  [],
  Option,
  Some,
  None,
  option_map,
  IfSome,
  ⊤,
}
use Rattle.std.specs.List.{slice_get}
use Rattle.f11_dev.specs.Disk.{Disk}
use Rattle.f11_dev.specs.Image.{Image}
use Rattle.f11_home.specs.Home.{HomeFields}
use Rattle.f11_store.specs.Causes.{Cause, ◌⇐◌, extend_causes, is_missing}
use Rattle.f11_store.specs.Changes.{with_change, Enters}
use Rattle.f11_store.specs.Cost.{header_count}
use Rattle.f11_store.specs.Directory.{entry_count, index_of_empty, needs_block}
use Rattle.f11_store.specs.File.{File, length_of}
use Rattle.f11_store.specs.Headroom.{headers_to_enter, slots_first}
use Rattle.f11_store.specs.Lags.{Work, one_part, file_changes, enter_work, LagsBy}
use Rattle.f11_store.specs.Step.{gets_slots}
use Rattle.f11_store.specs.Store.{Store, file_named}
use Rattle.f11_store.specs.declared.files.FileId.{FileId}
use Rattle.f11_store.specs.declared.refusals.Refusal.{Refusal}
use Rattle.f11_entries.specs.Costs.{append_cost, entry_cost}
use Rattle.f11_entries.specs.Looks.{IsInHand, place_of}
use Rattle.f11_entries.specs.Writing.{put_in, end_put}
use Rattle.f11_entries.specs.declared.spot.Spot.{Spot}
use Rattle.f11_files.specs.Answers.{Breaks, Does, FailsOrWants, Meanwhile, WritesAtMost}
use Rattle.f11_files.specs.image_store.StoreOf.{store_of}
use Rattle.f11_files.specs.volume.Sound.{HasSoundVolume}
use Rattle.f11_files.specs.volume.Volume.{Volume}
use Rattle.f11_fcp.specs.declared.search.Search.{Search}
use Rattle.f11_fcp.specs.declared.tail.Tail.{Tail}

-- a file that is there, of which this block is in hand
pub record HoldsSpot (s : Store) (d : FileId) (spot : Spot) : Type 0 where
  pub there : is_missing s d ≡ false
  pub in_hand : IsInHand (file_named s d) spot

-- one with at least so many blocks
pub record HasBlocks (s : Store) (d : FileId) (blocks : ℕ) : Type 0 where
  pub there : is_missing s d ≡ false
  pub more : blocks < length_of (file_named s d) + 1

-- the record in a place that is in hand becomes this one
abbrev pub put_at : Spot → List ℕ → File → File
put_at spot r = put_in spot.number spot.place spot.block r

-- the work of that
abbrev pub put_work : FileId → Spot → List ℕ → Work
put_work d spot r = one_part d.number (file_changes d.number (put_at spot r))

-- which blocks are named and free isn't said
abbrev pub any_allocation : Volume → Volume → Type 0
any_allocation old new = ⊤

-- A record in a place that is in hand was replaced.
abbrev pub ReplacesEntry : HomeFields → FileId → Spot → List ℕ → Disk → Disk → Type 0
ReplacesEntry home d spot r old new =
    let s = store_of old.image home in
    Does [] (put_work d spot r) (header_count (file_named s d) + 1)
    (λ t. t ≡ with_change s d.number (put_at spot r)) any_allocation home old new

-- It was not.
abbrev pub BreaksReplacing : HomeFields → FileId → Spot → List ℕ → Refusal → Disk → Disk → Type 0
BreaksReplacing home d spot r refusal old new =
    let s = store_of old.image home in
    Breaks (Meanwhile (put_work d spot r) home old) (header_count (file_named s d) + 1) refusal old new

-- where the next record of a directory goes, with its attributes and its length
pub record IsDirectoryTail (tail : Tail) (s : Store) (d : FileId) : Type 0 where
  pub holds : HoldsSpot s d tail.spot
  pub attr_is : tail.attr ≡ (file_named s d).attr
  pub length_is : tail.length ≡ length_of (file_named s d)

-- the end moved past the record there
abbrev pub move_at : Tail → FileId → Store → File → File
move_at tail d s = end_put (file_named s d) (place_of tail.spot)

-- What stands while a record is put behind the last one: the volume is sound, and the store lags the one before by the write of the
-- block, or the one with the record by the write of the header.
pub data IsAppending (home : HomeFields) (d : FileId) (tail : Tail) (r : List ℕ) (old image : Image) : Type 0 where
  putting : HasSoundVolume image home → LagsBy (put_work d tail.spot r) (store_of image home) (store_of old home) →
      IsAppending home d tail r old image
  moving :
      HasSoundVolume image home → LagsBy (one_part d.number
      (file_changes d.number (move_at tail d (store_of old home)))) (store_of image home)
      (with_change (store_of old home) d.number (put_at tail.spot r)) → IsAppending home d tail r old image

-- that of an honest disk
abbrev pub Appending : HomeFields → FileId → Tail → List ℕ → Disk → Image → Type 0
Appending home d tail r old image = IsTrue old.honest → IsAppending home d tail r old.image image

-- A record was put behind the last one, and then the end was moved past it.
pub record Appends (home : HomeFields) (d : FileId) (tail : Tail) (r : List ℕ) (old new : Disk) : Type 0 where
  pub makes : IsTrue old.honest → store_of new.image home
      ≡ with_change (with_change (store_of old.image home) d.number (put_at tail.spot r)) d.number
      (move_at tail d (store_of old.image home))
  pub writes : WritesAtMost (Appending home d tail r old) (append_cost (file_named (store_of old.image home) d)) old new 0

-- A directory was looked through to its end: what is kept of it is so, and the last block with records is in hand.
pub record IsDirectoryEnd (found : Search) (s : Store) (d : FileId) : Type 0 where
  pub there : is_missing s d ≡ false
  pub attr_is : found.attr.attr ≡ (file_named s d).attr
  pub length_is : found.length ≡ length_of (file_named s d)
  pub count_is : found.count ≡ entry_count (file_named s d)
  pub last_is : 0 < entry_count (file_named s d) →
      slice_get (file_named s d).blocks ((entry_count (file_named s d) - 1) / 32) ≡ Some found.last

-- none of its records is empty, and one more needs one more block or doesn't
pub record IsFull (needs : Bool) (found : Search) (s : Store) (d : FileId) : Type 0 where
  pub end : IsDirectoryEnd found s d
  pub none : index_of_empty (file_named s d) ≡ None
  pub needs_is : needs_block (file_named s d) ≡ needs

-- this is its first empty record, or it has none
pub record HasEmpty (empty : Option Spot) (found : Search) (s : Store) (d : FileId) : Type 0 where
  pub end : IsDirectoryEnd found s d
  pub first : index_of_empty (file_named s d) ≡ option_map place_of empty
  pub in_hand : IfSome empty (IsInHand (file_named s d))

-- a cause, where it is asked for
abbrev pub cause_if : Bool → Cause → Cause
cause_if asked c = c.refusal ⇐ (asked && c.holds)

-- the causes against a record more in a directory that was looked through: those against one block more, where it is needed
abbrev pub entry_causes : Store → FileId → List Cause
entry_causes s d = map (cause_if (needs_block (file_named s d))) (extend_causes s (file_named s d) 1)

-- the work of one
abbrev pub entry_work : Store → FileId → List ℕ → Work
entry_work s d r = enter_work (index_of_empty (file_named s d)) s d r

-- A record was entered in a directory that was looked through.
abbrev pub PutsEntry : HomeFields → FileId → List ℕ → Disk → Disk → Type 0
PutsEntry home d r old new =
    let s = store_of old.image home in
    Does (entry_causes s d) (entry_work s d r) (entry_cost s (file_named s d)) (λ t. Enters s d r t) any_allocation home old new

-- memory may be wanted for that: the index file gets slots first
abbrev pub entry_wants : Store → FileId → Bool
entry_wants s d = gets_slots (slots_first s (headers_to_enter (file_named s d)))

-- It was not.
abbrev pub FailsToPut : HomeFields → FileId → List ℕ → Refusal → Disk → Disk → Type 0
FailsToPut home d r refusal old new =
    let s = store_of old.image home in
    FailsOrWants (entry_wants s d) false (entry_causes s d) (entry_cost s (file_named s d)) (entry_work s d r) home refusal old new
