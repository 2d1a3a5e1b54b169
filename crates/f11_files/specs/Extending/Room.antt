-- What is found of a file before it grows: its first header and its last, and that there is room for the blocks (profile).
use Rattle.std.specs.Prelude.{◌≡◌, ℕ, ◌+◌, ◌≤◌, nat_lt, IsTrue, List, [], ◌∷◌, None}
use Rattle.f11_dev.specs.Disk.{Disk}
use Rattle.f11_chain.specs.Calls.{table, HoldsHeader, ReadsLast}
use Rattle.f11_index.specs.Headers.{IsLastOf}
use Rattle.f11_map.specs.HeaderBlock.{segment_number, LinksToNone}
use Rattle.f11_chain.specs.declared.blocks.FileEnd.{FileEnd}
use Rattle.f11_store.specs.Causes.{Cause, ◌⇐◌, first_of}
use Rattle.f11_store.specs.File.{need}
use Rattle.f11_store.specs.declared.files.FileId.{FileId}
use Rattle.f11_store.specs.declared.refusals.Refusal.TheVariants.{TooManySegments, DeviceFull, NoHeader}
use Rattle.f11_files.specs.Finding.First.{HoldsFile}
use Rattle.f11_files.specs.Operations.{held_causes}
use Rattle.f11_files.specs.Structure.{index_in, store_on}
use Rattle.f11_files.specs.declared.structure.Structure.{Structure}

-- the causes against n blocks more of a file that has so many headers, the last of them with so much room, where so many blocks and headers
-- are free
abbrev pub room_causes : ℕ → ℕ → ℕ → ℕ → ℕ → List Cause
room_causes headers room free free_headers n =
    (TooManySegments ⇐ nat_lt 256 (headers + need room n)) ∷ (DeviceFull ⇐ nat_lt free n) ∷
    (NoHeader ⇐ nat_lt free_headers (need room n)) ∷ []

-- A file's first header is in hand, and its last, with how many headers it has.
pub record HoldsEnd (s : Structure) (f : FileId) (end : FileEnd) (first last : List ℕ) (disk : Disk) : Type 0 where
  pub holds : HoldsFile (index_in s) f first disk
  pub header : HoldsHeader (index_in s) end.number last disk
  pub no_link : LinksToNone last
  pub segment : end.headers ≡ segment_number last + 1
  pub few : end.headers ≤ 256
  pub is_last : IsTrue disk.honest → IsLastOf (table (index_in s) disk) f.number end.number

-- They were read, and its blocks counted.
pub record FindsFileEnd (s : Structure) (f : FileId) (end : FileEnd) (first last : List ℕ) (old new : Disk) : Type 0 where
  pub holds : HoldsFile (index_in s) f first old
  pub ends : ReadsLast (index_in s) f.number 0 end last old new

-- They are in hand, and there is room for n blocks more of the file without slots that come first.
pub record HoldsRoom (s : Structure) (f : FileId) (n : ℕ) (end : FileEnd) (first last : List ℕ) (disk : Disk) : Type 0 where
  pub no_cause : IsTrue disk.honest → first_of (held_causes (store_on s disk) f n) ≡ None
  pub ends : HoldsEnd s f end first last disk
