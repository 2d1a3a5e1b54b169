-- A walk over the records of a file (profile).
use Rattle.std.specs.Prelude.{◌≡◌, ℕ, ◌+◌, ◌*◌, ◌≤◌, nat_lt, if◌then◌else◌, List, take, drop, min, Option, Some, None}
use Rattle.f11_store.specs.File.{stated_end}
use Rattle.f11_flx.specs.Records.{head_of, pad_of}
use Rattle.f11_flx.specs.declared.layout.Layout.{Layout}
use Rattle.f11_flx.specs.declared.layout.Layout.TheVariants.{Fixed, Variable}
use Rattle.f11_flx.specs.declared.records.Records.{Records}

-- how the records lie, the end of the file in bytes, and the byte at which the next record begins
pub record Walk : Type 0 where
  pub layout : Layout
  pub end : ℕ
  pub next : ℕ

-- the walk that a value stands for
abbrev pub walk_of : Records → Walk
walk_of r = record { layout = r.layout; end = r.end; next = r.next }

-- the walk from the first record on of a file with these attributes and so many blocks
abbrev pub walk_from_start : Layout → List ℕ → ℕ → Walk
walk_from_start layout attr allocation = record { layout = layout; end = min (stated_end attr) (512 * allocation); next = 0 }

-- where the next record begins, if there is one
abbrev pub place_of : Walk → Option ℕ
place_of w = if nat_lt w.next w.end then Some w.next else None

-- how many bytes the record has at whose place this word stands
abbrev pub size_by : Layout → ℕ → ℕ
size_by (Fixed size) word = size
size_by Variable word = word

-- the byte behind the record's own bytes
abbrev pub end_by : Walk → ℕ → ℕ
end_by w word = w.next + head_of w.layout + size_by w.layout word

-- A record was taken: its first byte and its length, and the walk goes on behind it and its pad byte.
pub record TakesRecord (old new : Walk) (word first size : ℕ) : Type 0 where
  pub first_is : first ≡ old.next + head_of old.layout
  pub size_is : size ≡ size_by old.layout word
  pub within : first + size ≤ old.end
  pub goes_on : new ≡ record old { next = first + size + pad_of old.layout size }

-- the bytes of a content that are before the walk
abbrev pub bytes_left : Walk → List ℕ → List ℕ
bytes_left w content = drop w.next (take w.end content)
