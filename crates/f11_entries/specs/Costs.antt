-- The transfers of a look through a directory, and of what comes behind it, are within the cost of the request (profile).
use Rattle.std.specs.Prelude.{◌≡◌, ℕ, ◌+◌, ◌-◌, ◌*◌, ◌/◌, ◌≤◌, ◌==◌, true, false, List}
use Rattle.f11_store.specs.declared.files.FileId.{FileId}
use Rattle.f11_store.specs.declared.requests.Request.TheVariants as request
use Rattle.f11_store.specs.File.{File}
use Rattle.f11_store.specs.Store.{Store, file_named}
use Rattle.f11_store.specs.Directory.{entry_count, needs_block}
use Rattle.f11_store.specs.Causes.{is_missing}
use Rattle.f11_store.specs.Changes.{Lengthens}
use Rattle.f11_store.specs.Cost.{header_count, growth_cost, lengthen_cost, slots_cost, cost}
use Rattle.f11_store.specs.Headroom.{headers_to_enter}

-- the most transfers of reading so many records of a directory: each block may be sought from the first header on
abbrev pub reading_cost : File → ℕ → ℕ
reading_cost f count = (count + 31) / 32 * (header_count f + 1)

-- those of a look through all of them: the first header for what it says, all headers for the length, and the records
abbrev pub look_cost : File → ℕ
look_cost f = 1 + (header_count f + reading_cost f (entry_count f))

abbrev pub FindFits : Type 0
FindFits = (s : Store) (task : ℕ) (d : FileId) (name : List ℕ) → look_cost (file_named s d) ≤ cost s task (request.Find d name)

-- the look, then one block written
abbrev pub RemoveFits : Type 0
RemoveFits =
    (s : Store) (task : ℕ) (d : FileId) (name : List ℕ) →
    look_cost (file_named s d) + (header_count (file_named s d) + 1) ≤ cost s task (request.Remove d name)

-- the most transfers of a record more in a directory that was looked through: those of one block more with the slots that come
-- first where it is added, and then of writing a block and the header
abbrev pub entry_cost : Store → File → ℕ
entry_cost s f = slots_cost s (headers_to_enter f) + (growth_cost s f 1 + header_count f + 4)

-- the look, and then the record
abbrev pub EnterFits : Type 0
EnterFits =
    (s : Store) (task : ℕ) (d id : FileId) (name : List ℕ) →
    look_cost (file_named s d) + entry_cost s (file_named s d) ≤ cost s task (request.Enter d name id)

-- the transfers of the two writes behind the last record: of its block, and of the first header
abbrev pub append_cost : File → ℕ
append_cost f = header_count f + 1 + 2

-- the block of the end is read, and then both are written
abbrev pub AppendFits : Type 0
AppendFits = (s : Store) (f : File) → header_count f + 1 + append_cost f ≤ entry_cost s f

-- one block more, and then both are written, by the headers that the file has then
abbrev pub GrownFits : Type 0
GrownFits =
    (s grown : Store) (d : FileId) → (d.number == 1) ≡ false → is_missing s d ≡ false → needs_block (file_named s d) ≡ true →
    Lengthens s d 1 grown →
    lengthen_cost s (file_named s d) 1 - 1 + append_cost (file_named grown d) ≤ entry_cost s (file_named s d)

-- one block more may need one header more
abbrev pub GrownHeaders : Type 0
GrownHeaders =
    (s grown : Store) (d : FileId) → (d.number == 1) ≡ false → is_missing s d ≡ false → Lengthens s d 1 grown →
    header_count (file_named grown d) ≤ header_count (file_named s d) + 1
