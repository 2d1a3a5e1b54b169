-- What is to be made of a file that is copied, as its first header says (Files-11 On-Disk Structure Level 1, "File Header"; profile: a file
-- of which the beginning alone is there).
use Rattle.std.specs.Prelude.{ℕ, ◌-◌, ◌*◌, ◌==◌, Bool, true, false, List, Option, Some, None, min}
use Rattle.std.specs.Int.{bit_at}
use Rattle.f11_header.specs.Fields.{attributes, characteristics, ident_area, owner, protection}
use Rattle.f11_store.specs.Directory.{with_end}
use Rattle.f11_store.specs.File.{stated_end}
use Rattle.f11_copying.specs.declared.file.FileToMake.{FileToMake}

-- a file of which so many blocks are there, from its beginning on, ends where it did, but no further than these
abbrev pub cut_attributes : List ℕ → ℕ → List ℕ
cut_attributes attr blocks = with_end attr blocks (min (stated_end attr) (512 * blocks))

-- of one that is whole nothing is another
abbrev pub attributes_kept : List ℕ → ℕ → (is_cut : Bool) → List ℕ
attributes_kept attr blocks true = cut_attributes attr blocks
attributes_kept attr blocks false = attr

-- UC.CON, bit 7 of H.UCHA
abbrev pub is_contiguous : ℕ → Bool
is_contiguous word = bit_at word 7 == 1

abbrev pub file_told : List ℕ → ℕ → Bool → FileToMake
file_told header blocks is_cut = record {
  owner = owner header;
  protection = protection header;
  ident = ident_area header;
  attr = attributes_kept (attributes header) blocks is_cut;
  blocks = blocks;
  in_one_run = is_contiguous (characteristics header);
}

-- how many of so many blocks are there, where this is the VBN of the first that isn't
abbrev pub there_of : ℕ → Option ℕ → ℕ
there_of count (Some vbn) = min (vbn - 1) count
there_of count None = count
