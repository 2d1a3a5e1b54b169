-- What a file's line shows, read off its first header (Files-11 On-Disk Structure Level 1, "File Header" and "File Attributes").
use Rattle.std.specs.Prelude.{ℕ, ◌*◌, Bool, List, min}
use Rattle.f11_header.specs.Fields.{attributes, characteristics, ident_area, owner, protection}
use Rattle.f11_store.specs.Directory.{is_directory}
use Rattle.f11_store.specs.File.{no_file, stated_end}
use Rattle.f11_catalog.specs.LongLine.{dates_in, records_in}
use Rattle.f11_catalog.specs.declared.facts.FileFacts.{FileFacts}

-- of a file of so many blocks
abbrev pub facts_in : List ℕ → ℕ → FileFacts
facts_in header blocks = record {
  blocks = blocks;
  bytes = min (stated_end (attributes header)) (512 * blocks);
  owner = owner header;
  protection = protection header;
  characteristics = characteristics header;
  dates = dates_in (ident_area header);
  records = records_in (attributes header);
}

-- a first header is that of a directory
abbrev pub is_directory_header : List ℕ → Bool
is_directory_header header = is_directory (record no_file { ident = ident_area header; attr = attributes header })
