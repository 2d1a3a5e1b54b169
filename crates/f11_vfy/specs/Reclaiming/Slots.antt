-- Which headers and slots of a volume go when it is reclaimed (profile).
use Rattle.std.specs.Prelude.{◌≡◌, ◌↔◌, ℕ, ◌+◌, ◌<◌, ◌≤◌, true, false, Contains}
use Rattle.f11_header.specs.Header.{IsDead}
use Rattle.f11_header.specs.Writing.{dead_header}
use Rattle.f11_map.specs.HeaderBlock.{blocks_named}
use Rattle.f11_index.specs.Headers.{IsInFile}
use Rattle.f11_index.specs.Table.{Table, IsLive}

-- so many of the numbers from 1 to n are such
pub data CountsUpTo (P : ℕ → Type 0) : ℕ → ℕ → Type 0 where
  none : CountsUpTo P 0 0
  such : (n count : ℕ) → CountsUpTo P n count → P (n + 1) → CountsUpTo P (n + 1) (count + 1)
  other : (n count : ℕ) → CountsUpTo P n count → ¬ P (n + 1) → CountsUpTo P (n + 1) count

-- header n is an orphan: it is live, and one of no file
pub record IsOrphan (t : Table) (n : ℕ) : Type 0 where
  pub live : IsLive t n
  pub of_none : ¬ IsInFile t n

-- no header is one
abbrev pub HasNoOrphan : Table → Type 0
HasNoOrphan t = (n : ℕ) → ¬ IsOrphan t n

-- A slot is in use exactly where its header is one of a file.
abbrev pub UsedAreOfFiles : Table → Type 0
UsedAreOfFiles t = (n : ℕ) → t.in_use n ≡ true ↔ IsInFile t n

-- slot n is idle: it is in use, and its header is one of no file
pub record IsIdle (t : Table) (n : ℕ) : Type 0 where
  pub in_use : t.in_use n ≡ true
  pub of_none : ¬ IsInFile t n

-- The block of header n is as it was; or it was an orphan and is killed: file number and check word are 0 now, and the rest is as it was.
pub data IsKeptOrKilled (old new : Table) (n : ℕ) : Type 0 where
  as_it_was : new.header n ≡ old.header n → IsKeptOrKilled old new n
  killed_orphan : IsOrphan old n → new.header n ≡ dead_header (old.header n) → IsKeptOrKilled old new n

-- each slot's header is kept, or was an orphan and is killed
abbrev pub KeepsOrKills : Table → Table → Type 0
KeepsOrKills old new = (n : ℕ) → 0 < n → n ≤ old.slots → IsKeptOrKilled old new n

-- the header of a slot that has left use is dead
abbrev pub LeavesDead : Table → Table → Type 0
LeavesDead old new = (n : ℕ) → old.in_use n ≡ true → new.in_use n ≡ false → IsDead (new.header n)

-- block lbn is named by an orphan among headers 1 to n
pub record IsOfOrphan (t : Table) (n lbn : ℕ) : Type 0 where
  pub header : ℕ
  pub within : header ≤ n
  pub orphan : IsOrphan t header
  pub names : Contains (blocks_named (t.header header)) lbn

-- Of headers 1 to n the orphans were killed, and all else of the slots is as it was.
pub record KillsUpTo (n : ℕ) (old new : Table) : Type 0 where
  pub slots : new.slots ≡ old.slots
  pub in_use : new.in_use ≡ old.in_use
  pub killed : (m : ℕ) → m ≤ n → IsOrphan old m → ¬ IsLive new m
  pub others : (m : ℕ) → 0 < m → m ≤ old.slots → (m ≤ n → ¬ IsOrphan old m) → new.header m ≡ old.header m

-- Of slots 1 to n the idle ones left use, and all else of the slots is as it was.
pub record ClearsUpTo (n : ℕ) (old new : Table) : Type 0 where
  pub slots : new.slots ≡ old.slots
  pub header : new.header ≡ old.header
  pub cleared : (m : ℕ) → 0 < m → m ≤ n → IsIdle old m → new.in_use m ≡ false
  pub others : (m : ℕ) → 0 < m → (m ≤ n → ¬ IsIdle old m) → new.in_use m ≡ old.in_use m
