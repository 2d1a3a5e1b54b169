-- A file that is laid out in one run: what stands meanwhile, and what it has then (profile).
use Rattle.std.specs.Prelude.{◌≡◌, ◌⊎◌, ℕ, ◌+◌, ◌-◌, ◌*◌, ◌<◌, ◌≤◌, ◌==◌, true, min, [], if◌then◌else◌}
use Rattle.f11_store.specs.Changes.{with_change, LaysOut}
use Rattle.f11_store.specs.File.{length_of, has_contiguous_mark, need, run_need, run_pointers, zero_block, zero_blocks}
use Rattle.f11_store.specs.Lags.{blocks_work, contiguous_work, file_changes, one_part, with_contiguous_mark, LagsBy}
use Rattle.f11_store.specs.Pieces.{file_numbered, with_more_free, AddsBlocks, TakesSome}
use Rattle.f11_store.specs.Step.{block_at}
use Rattle.f11_store.specs.Store.{Store, file_named}
use Rattle.f11_store.specs.declared.files.FileId.{FileId}

-- while its blocks come it is under way
abbrev pub BlocksComeLags : Type 0
BlocksComeLags =
    (s t : Store) (k room n : ℕ) → LagsBy (blocks_work k n (run_need room n)) t s → LagsBy (contiguous_work k room n) t s

-- and so it is while the mark is set, once they have come
abbrev pub MarkComesLags : Type 0
MarkComesLags =
    (s u t : Store) (k n : ℕ) → AddsBlocks s k n (run_pointers n) (zero_blocks n) u →
    LagsBy (one_part k (file_changes k with_contiguous_mark)) t u →
    LagsBy (contiguous_work k (file_numbered s k).room n) t s

-- With it the file is laid out, where it had no block and no pointer: a pointer has 256 blocks at most, so they are in as few as can be.
abbrev pub MarkedIsLaidOut : Type 0
MarkedIsLaidOut =
    (s u : Store) (k n : ℕ) → (file_numbered s k).blocks ≡ [] → (file_numbered s k).pointers ≡ 0 →
    AddsBlocks s k n (run_pointers n) (zero_blocks n) u → n ≤ 256 * (file_numbered u k).pointers →
    LaysOut s k n (with_change u k with_contiguous_mark)

-- how many blocks come next, of so many that are left: those for which the last header has places, or else a new one
abbrev pub next_blocks : ℕ → ℕ → ℕ
next_blocks room left = min left (256 * (if room == 0 then 102 else room))

-- Blocks of one run come to a file that had none: so many have, in no more pointers than they need, and so many that are left are free of
-- any file. Where some are left, all places are taken, unless none has come yet.
pub record HaveCome (s : Store) (k come left : ℕ) (t : Store) : Type 0 where
  pub adds : AddsBlocks s k come (run_pointers come) (zero_blocks come) (with_more_free t left)
  pub full : 0 < left → (come ≡ 0) ⊎ (come ≡ 256 * ((file_numbered s k).room + 102 * adds.added))

-- So many more come; behind the first of them each takes a header.
pub record MoreCome (s : Store) (k come left count : ℕ) (t u : Store) (so_far : HaveCome s k come left t)
    (piece : AddsBlocks (with_more_free t count) k count (run_pointers count) (zero_blocks count) u) : Type 0 where
  pub next : HaveCome s k (come + count) (left - count) u
  pub headers : next.adds.added ≡ so_far.adds.added + piece.added
  pub header : 0 < come → 1 ≤ piece.added

abbrev pub RunGoesOn : Type 0
RunGoesOn =
    (s t u : Store) (k come left count : ℕ) → (file_numbered s k).pointers ≡ 0 → 0 < left
    → count ≡ next_blocks (file_numbered t k).room left →
    (so_far : HaveCome s k come left t)
    (piece : AddsBlocks (with_more_free t count) k count (run_pointers count) (zero_blocks count) u) →
    come ≤ 256 * (file_numbered t k).pointers → come + count ≤ 256 * (file_numbered u k).pointers →
    MoreCome s k come left count t u so_far piece

-- While more come the whole is under way: some was taken for them, or they have come.
abbrev pub RunUnderWay : Type 0
RunUnderWay =
    (s t u : Store) (k n come left count : ℕ) → 0 < left → come + left ≡ n → count ≡ next_blocks (file_numbered t k).room left →
    HaveCome s k come left t →
    TakesSome 0 (need (file_numbered t k).room (run_pointers count)) t u
    ⊎ AddsBlocks (with_more_free t count) k count (run_pointers count) (zero_blocks count) u →
    LagsBy (blocks_work k n (run_need (file_numbered s k).room n)) u s

-- a file that was laid out is the end of that work
abbrev pub LaidOutLags : Type 0
LaidOutLags =
    (s t : Store) (f : FileId) (n : ℕ) → LaysOut s f.number n t → LagsBy (contiguous_work f.number (file_named s f).room n) t s

-- What it has then: n blocks, which hold zeros, in the pointers of one run; the mark; and as many headers more as those need. No place is
-- lost or gained: those of its headers, 102 in each that was added, are pointers or room.
pub record IsLaidOut (s : Store) (k n : ℕ) (t : Store) : Type 0 where
  pub long : length_of (file_numbered t k) ≡ n
  pub zeros : (vbn : ℕ) → 0 < vbn → vbn ≤ n → block_at (file_numbered t k) vbn ≡ zero_block
  pub marked : has_contiguous_mark (file_numbered t k) ≡ true
  pub pointers : (file_numbered t k).pointers ≡ run_pointers n
  pub places : (file_numbered t k).room + run_pointers n ≡ (file_numbered s k).room + 102 * run_need (file_numbered s k).room n

abbrev pub LaidOutHas : Type 0
LaidOutHas = (s t : Store) (k n : ℕ) → LaysOut s k n t → IsLaidOut s k n t
