-- The operations on files in the words of the plain store: the causes against each, and what each answers (profile).
use Rattle.std.specs.Prelude.{◌≡◌, ℕ, ◌+◌, ◌==◌, nat_lt, List, [], ◌∷◌}
use Rattle.f11_header.specs.Fields.{owner, protection, characteristics, attributes, ident_area}
use Rattle.f11_store.specs.Causes as causes
use Rattle.f11_store.specs.Causes.{Cause, ◌⇐◌, is_missing, growth_causes}
use Rattle.f11_store.specs.File.{File, length_of}
use Rattle.f11_store.specs.Store.{Store, file_named, index_file, free_headers}
use Rattle.f11_store.specs.declared.files.Attr.{Attr}
use Rattle.f11_store.specs.declared.files.FileId.{FileId}
use Rattle.f11_store.specs.declared.refusals.Refusal.TheVariants.{NoSuchFile, EndOfFile, IndexLimit, NoHeader}

-- no file has that identification
abbrev pub file_causes : Store → FileId → List Cause
file_causes s f = (NoSuchFile ⇐ is_missing s f) ∷ []

-- or the file has fewer blocks than so many
abbrev pub length_causes : Store → FileId → ℕ → List Cause
length_causes s f blocks = (NoSuchFile ⇐ is_missing s f) ∷ (EndOfFile ⇐ nat_lt (length_of (file_named s f)) blocks) ∷ []

-- or there is no room for n blocks more of it
abbrev pub extend_causes : Store → FileId → ℕ → List Cause
extend_causes s f n = (NoSuchFile ⇐ is_missing s f) ∷ causes.extend_causes s (file_named s f) n

-- or it may not be laid out in one run of n blocks
abbrev pub contiguous_causes : Store → FileId → ℕ → List Cause
contiguous_causes s f n = (NoSuchFile ⇐ is_missing s f) ∷ causes.contiguous_causes s (file_named s f) n

-- or there is none without slots that come first
abbrev pub held_causes : Store → FileId → ℕ → List Cause
held_causes s f n = (NoSuchFile ⇐ is_missing s f) ∷ growth_causes s (file_named s f) n

-- no header is free
abbrev pub slot_causes : Store → List Cause
slot_causes s = (NoHeader ⇐ (free_headers s == 0)) ∷ []

-- the index file may not have n slots more, or there is no room for them
abbrev pub grow_causes : Store → ℕ → List Cause
grow_causes s n = (IndexLimit ⇐ nat_lt s.limit (s.slots + n)) ∷ growth_causes s (index_file s) n

-- what a file's header says to those who ask
abbrev pub attr_of : File → Attr
attr_of f = record { owner = f.owner; protection = f.protection; characteristics = f.characteristics; ident = f.ident; attr = f.attr }

-- and the block of a first header
abbrev pub attr_in : List ℕ → Attr
attr_in block = record {
  owner = owner block;
  protection = protection block;
  characteristics = characteristics block;
  ident = ident_area block;
  attr = attributes block;
}

-- A store has so many free blocks, free headers and slots.
pub record IsSpaceOf (s : Store) (blocks headers slots : ℕ) : Type 0 where
  pub blocks_are : blocks ≡ s.free
  pub headers_are : headers ≡ free_headers s
  pub slots_are : slots ≡ s.slots
