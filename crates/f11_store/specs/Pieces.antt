-- How a file grows piece by piece, the index file or another, and what stands meanwhile (profile).
use Rattle.std.specs.Prelude.{◌≡◌, ◌≢◌, ◌⊎◌, ℕ, ◌+◌, ◌-◌, ◌≤◌, ◌==◌, Bool, true, false, IsTrue, Some, None, unwrap_or}
use Rattle.std.specs.Prelude.{List, ◌++◌, [], length, take, replicate, if◌then◌else◌}
use Rattle.f11_store.specs.Causes.{first_of, growth_causes}
use Rattle.f11_store.specs.Changes.{next_sequence, with_change, with_file, with_more_slots, with_slots, Extends, Grows, GrowsIndex, MayGrow}
use Rattle.f11_store.specs.File.{File, no_file, need, zero_blocks}
use Rattle.f11_store.specs.Lags.{SameLimits, LagsBy, Work, extend_parts, file_changes, grow_parts, slot_appears, with_no_mark}
use Rattle.f11_store.specs.Lags.{with_zero_block}
use Rattle.f11_store.specs.Store.{Store, free_headers, free_slots}

-- the file with this number, or an empty one
abbrev pub file_numbered : Store → ℕ → File
file_numbered s k = unwrap_or (s.file k) no_file

-- A file has room for n blocks more in so many pointers: in its headers, on the volume, and in the index file.
pub record HasRoom (s : Store) (f : File) (n pointers : ℕ) : Type 0 where
  pub segments : length f.held + need f.room pointers ≤ 256
  pub blocks : n ≤ s.free
  pub headers : need f.room pointers ≤ free_headers s

-- File k has.
pub record HasPlaces (s : Store) (k n pointers : ℕ) : Type 0 where
  pub is_file : s.file k ≡ Some (file_numbered s k)
  pub has_room : HasRoom s (file_numbered s k) n pointers

-- Of a store so many blocks and headers at most were taken, and no file has them: a slot that was given its next sequence number
-- wasn't in use.
pub record TakesSome (blocks headers : ℕ) (s t : Store) : Type 0 where
  pub files : (n : ℕ) → t.file n ≡ s.file n
  pub free : s.free ≤ t.free + blocks
  pub unused : (n : ℕ) → t.in_use n ≡ false → s.in_use n ≡ false
  pub slots_free : free_headers s ≤ free_headers t + headers
  pub last : (n : ℕ) → (t.last n ≡ s.last n) ⊎ ((s.in_use n ≡ false) × (t.last n ≡ next_sequence (s.last n)))
  pub no_header : headers ≡ 0 → (n : ℕ) → t.last n ≡ s.last n
  pub slots : t.slots ≡ s.slots
  pub limits : SameLimits s t

-- what requests reach of n new blocks: nothing, where they are slots
abbrev pub new_blocks : Bool → ℕ → List (List ℕ)
new_blocks slots n = if slots then [] else zero_blocks n

-- a store with n slots more, where new blocks are slots
abbrev pub with_slots_if : Bool → ℕ → Store → Store
with_slots_if slots n s = if slots then with_more_slots s n else s

-- a file with these blocks more, and so many headers, pointers and places: its characteristics stay
abbrev pub longer_file : Store → File → List (List ℕ) → ℕ → ℕ → ℕ → File
longer_file s f blocks added pointers room = record f {
  held = f.held ++ take added (free_slots s);
  pointers = pointers;
  room = room;
  blocks = f.blocks ++ blocks;
}

-- the store with that file, the least free slots taken for its headers, n blocks fewer free
abbrev pub with_longer_file : Store → ℕ → File → ℕ → List (List ℕ) → ℕ → ℕ → ℕ → Store
with_longer_file s k f n blocks added pointers room =
    record (with_file (with_slots s (take added (free_slots s))) k (Some (longer_file s f blocks added pointers room))) {
      free = s.free - n;
    }

-- File k has n blocks more, whose contents are these, in so many pointers more at most.
pub record AddsBlocks (s : Store) (k n most : ℕ) (blocks : List (List ℕ)) (t : Store) : Type 0 where
  pub before : File
  pub added : ℕ
  pub pointers : ℕ
  pub room : ℕ
  pub was : s.file k ≡ Some before
  pub may_grow : MayGrow before most added pointers room
  pub store_is : t ≡ with_longer_file s k before n blocks added pointers room

-- File k has n blocks of zeros more, and where they are slots the store has as many more.
pub record GrowsIf (slots : Bool) (s : Store) (k n most : ℕ) (t : Store) : Type 0 where
  pub grown : Store
  pub grows : AddsBlocks s k n most (new_blocks slots n) grown
  pub store_is : t ≡ with_slots_if slots n grown

-- It may have n blocks more in so many pointers; where they are slots, there may be as many more.
pub record MayGrowIf (slots : Bool) (s : Store) (k n most : ℕ) : Type 0 where
  pub places : HasPlaces s k n most
  pub within : IsTrue slots → s.slots + n ≤ s.limit

-- the work of having them, where its last header has so much room
abbrev pub piece_work : Bool → ℕ → ℕ → ℕ → ℕ → Work
piece_work slots k room n most = record {
  parts = replicate n (if slots then slot_appears else file_changes k with_zero_block);
  is_meant = λ m. m == k;
  blocks = n;
  headers = need room most;
}

-- the blocks of the index file are slots
abbrev pub GrowsAs : Store → ℕ → ℕ → ℕ → Store → Type 0
GrowsAs s k n most t = GrowsIf (k == 1) s k n most t

abbrev pub MayGrowAs : Store → ℕ → ℕ → ℕ → Type 0
MayGrowAs s k n most = MayGrowIf (k == 1) s k n most

abbrev pub piece_work_of : ℕ → ℕ → ℕ → ℕ → Work
piece_work_of k room n most = piece_work (k == 1) k room n most

-- file k has some of n blocks more
abbrev pub GrowsSome : Store → ℕ → ℕ → ℕ → Store → Type 0
GrowsSome s k n most t = (m : ℕ) × (m ≤ n) × GrowsAs s k m most t

-- a store is itself with no block more
abbrev pub NoneGrows : Type 0
NoneGrows = (s : Store) (k n most : ℕ) → MayGrowAs s k n most → GrowsAs s k 0 0 s

-- a file that grows twice grows by both at once, in as many headers: those that are added later were free before, too
abbrev pub GrowsTwice : Type 0
GrowsTwice =
    (s t u : Store) (k n most a b p q : ℕ) → MayGrowAs s k n most → p + q ≤ most → (one : GrowsAs s k a p t)
    (two : GrowsAs t k b q u) → (whole : GrowsAs s k (a + b) (p + q) u) × (whole.grows.added ≡ one.grows.added + two.grows.added)

-- what is in so many pointers at most is in more at most
abbrev pub GrowsWithin : Type 0
GrowsWithin =
    (s t : Store) (k n p q : ℕ) → p ≤ q → (one : GrowsAs s k n p t) → (whole : GrowsAs s k n q t) × (whole.grows.added ≡ one.grows.added)

-- one that may grow may grow by less
abbrev pub FewerMayGrow : Type 0
FewerMayGrow = (s : Store) (k n m p q : ℕ) → MayGrowAs s k n p → m ≤ n → q ≤ p → MayGrowAs s k m q

-- and where it has grown by some of the blocks, by the others
abbrev pub OthersMayGrow : Type 0
OthersMayGrow =
    (s t : Store) (k n a most p : ℕ) → MayGrowAs s k n most → GrowsAs s k a p t → a ≤ n → p ≤ most → MayGrowAs t k (n - a) (most - p)

-- a file that has grown by some of n blocks is under way
abbrev pub GrownLags : Type 0
GrownLags =
    (s t : Store) (k n most a p : ℕ) → GrowsAs s k a p t → a ≤ n → p ≤ most →
    LagsBy (piece_work_of k (file_numbered s k).room n most) t s

-- and so it is where some was taken for more of them
abbrev pub TakenLags : Type 0
TakenLags =
    (s t u : Store) (k n most a b p q : ℕ) → GrowsAs s k a p t → a + b ≤ n → p + q ≤ most →
    TakesSome b (need (file_numbered t k).room q) t u → LagsBy (piece_work_of k (file_numbered s k).room n most) u s

-- what is taken after blocks alone were
abbrev pub TakingAdds : Type 0
TakingAdds = (s t u : Store) (a b h : ℕ) → TakesSome a 0 s t → TakesSome b h t u → TakesSome (a + b) h s u

-- File k has n blocks of zeros more and no contiguous mark, and where they are slots the store has as many more.
pub record GrowsUnmarked (slots : Bool) (s : Store) (k n : ℕ) (t : Store) : Type 0 where
  pub grown : Store
  pub grows : Grows s k n (new_blocks slots n) grown
  pub store_is : t ≡ with_slots_if slots n grown

-- the work of that: first the mark is cleared
abbrev pub grow_work_if : Bool → ℕ → ℕ → ℕ → Work
grow_work_if slots k room n =
    record { parts = if slots then grow_parts n else extend_parts k n; is_meant = λ m. m == k; blocks = n; headers = need room n }

abbrev pub grow_work_of : ℕ → ℕ → ℕ → Work
grow_work_of k room n = grow_work_if (k == 1) k room n

-- a file that may grow may once its contiguous mark is cleared
abbrev pub ClearedMayGrow : Type 0
ClearedMayGrow =
    (s : Store) (k n : ℕ) → s.file k ≡ Some (file_numbered s k) → first_of (growth_causes s (file_numbered s k) n) ≡ None →
    (IsTrue (k == 1) → s.slots + n ≤ s.limit) → MayGrowAs (with_change s k with_no_mark) k n n

-- growing then is growing without the mark
abbrev pub ClearedGrows : Type 0
ClearedGrows =
    (s t : Store) (k n : ℕ) → s.file k ≡ Some (file_numbered s k) → (one : GrowsAs (with_change s k with_no_mark) k n n t) →
    (whole : GrowsUnmarked (k == 1) s k n t) × (whole.grows.added ≡ one.grows.added)

-- and what is under way then is under way
abbrev pub ClearedLags : Type 0
ClearedLags = (s t : Store) (k room n : ℕ) → LagsBy (piece_work_of k room n n) t (with_change s k with_no_mark) →
    LagsBy (grow_work_of k room n) t s

-- Extend is such growth of a file that isn't the index file
abbrev pub GrowsAsExtends : Type 0
GrowsAsExtends =
    (s t : Store) (k n : ℕ) → k ≢ 1 → (one : GrowsUnmarked (k == 1) s k n t) →
    (whole : Extends s k n t) × (whole.added ≡ one.grows.added)

-- and GrowIndex is that of the index file
abbrev pub GrowsAsIndex : Type 0
GrowsAsIndex = (s t : Store) (n : ℕ) → GrowsUnmarked true s 1 n t → GrowsIndex s n t

-- a file with these blocks more, in so many pointers more
abbrev pub with_more_blocks : ℕ → List (List ℕ) → File → File
with_more_blocks more blocks f = record f { pointers = f.pointers + more; room = f.room - more; blocks = f.blocks ++ blocks }

-- so many blocks more are free
abbrev pub with_more_free : Store → ℕ → Store
with_more_free s count = record s { free = s.free + count }

-- a store in which file k has so many blocks more, in so many pointers more
abbrev pub with_blocks_named : ℕ → ℕ → ℕ → Store → Store
with_blocks_named k more n s = with_slots_if (k == 1) n (with_change s k (with_more_blocks more (new_blocks (k == 1) n)))
