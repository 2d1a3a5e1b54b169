-- The files that a fresh volume has (profile).
use Rattle.std.specs.Prelude.{ℕ, ◌+◌, ◌-◌, List, [], ◌∷◌, slice_index_or}
use Rattle.f11_layout.specs.Places.{bit_blocks, control_lbn, directory_lbn}
use Rattle.f11_layout.specs.EmptyFile.{empty_file}
use Rattle.f11_layout.specs.declared.files.OwnFile.{OwnFile}
use Rattle.f11_layout.specs.declared.layout.Layout.{Layout}

-- INDEXF.SYS;1: the index file, all blocks up to the last header
abbrev pub index_file_of : Layout → OwnFile
index_file_of l =
    let blocks = control_lbn l.max_files l.slots in
    record { name = 14964 ∷ 8966 ∷ 0 ∷ 31419 ∷ 1 ∷ []; record_size = 512; first = 0; count = blocks; end_block = blocks + 1; end_byte = 0 }

-- BITMAP.SYS;1: the storage bitmap file, the control block and the blocks of the bitmap
abbrev pub bitmap_file_of : Layout → OwnFile
bitmap_file_of l =
    let blocks = 1 + bit_blocks l.blocks in
    record {
      name = 3580 ∷ 20856 ∷ 0 ∷ 31419 ∷ 1 ∷ [];
      record_size = 512;
      first = control_lbn l.max_files l.slots;
      count = blocks;
      end_block = blocks + 1;
      end_byte = 0;
    }

-- 000000.DIR;1: the master file directory, one block with five records of 16 bytes
abbrev pub directory_of : Layout → OwnFile
directory_of l = record {
  name = 49230 ∷ 49230 ∷ 0 ∷ 6778 ∷ 1 ∷ [];
  record_size = 16;
  first = directory_lbn l.max_files l.slots l.blocks;
  count = 1;
  end_block = 1;
  end_byte = 80;
}

-- files 1 to 5: beside those, BADBLK.SYS;1 and CORIMG.SYS;1, the files of bad blocks and of the system's core image, without blocks
abbrev pub own_files : Layout → List OwnFile
own_files l =
    index_file_of l ∷ bitmap_file_of l ∷ empty_file (3244 ∷ 3691 ∷ 0 ∷ 31419 ∷ 1 ∷ []) ∷ directory_of l ∷ empty_file
    (5418 ∷ 14927 ∷ 0 ∷ 31419 ∷ 1 ∷ []) ∷ []

-- file n of them
unfoldable pub own_file : Layout → ℕ → OwnFile
own_file l n = slice_index_or (own_files l) (n - 1) (empty_file [])
