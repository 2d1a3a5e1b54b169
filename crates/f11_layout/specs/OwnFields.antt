-- What the header of a fresh volume's own file says (Files-11 On-Disk Structure Level 1, "File Header"; profile: what that is).
use Rattle.std.specs.Prelude.{ℕ, List, replicate, slice_index}
use Rattle.f11_bytes.specs.Words.{with_word, with_long}
use Rattle.f11_layout.specs.declared.files.OwnFile.{OwnFile}

-- its ident area: the five words of its name, and zeros
abbrev pub own_ident : List ℕ → List ℕ
own_ident name =
    with_word (with_word (with_word (with_word (with_word (replicate 46 0) 0 (slice_index name 0)) 2 (slice_index name 1)) 4
    (slice_index name 2)) 6 (slice_index name 3)) 8 (slice_index name 4)

-- its attributes: fixed records of this size, the blocks that it has, and where it ends
abbrev pub own_attributes : OwnFile → List ℕ
own_attributes f = with_word (with_long
    (with_long (with_word (with_word (replicate 32 0) 0 1) 2 f.record_size) 4 f.count) 8 f.end_block) 12 f.end_byte
