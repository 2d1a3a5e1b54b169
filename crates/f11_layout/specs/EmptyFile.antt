-- A file without blocks (profile).
use Rattle.std.specs.Prelude.{ℕ, List}
use Rattle.f11_layout.specs.declared.files.OwnFile.{OwnFile}

-- a file without blocks
abbrev pub empty_file : List ℕ → OwnFile
empty_file name = record { name = name; record_size = 512; first = 0; count = 0; end_block = 0; end_byte = 0 }
