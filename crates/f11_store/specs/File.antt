-- A file of the plain store, and how far its bytes go.
-- A section in parentheses is one of the Files-11 On-Disk Structure Level 1 specification; 'profile' is a rule of this project.
use Rattle.std.specs.Prelude.{ℕ, ◌+◌, ◌-◌, ◌*◌, ◌/◌, ◌==◌, Bool, List, [], ◌∷◌, length, min, bit_and, bit_or, if◌then◌else◌, replicate}
use Rattle.std.specs.Int.{bit_at}
unfoldable pub use Rattle.f11_bytes.specs.Block.{zero_block}
use Rattle.f11_bytes.specs.Words.{word, long}
use Rattle.f11_store.specs.declared.callers.Uic.{Uic}

-- a file, by what its headers say of it (file header)
pub record File : Type 0 where
  pub sequence : ℕ
  pub owner : Uic
  pub protection : ℕ
  pub characteristics : ℕ
  pub ident : List ℕ
  pub attr : List ℕ
  -- the slots of its headers, its own first
  pub held : List ℕ
  -- its retrieval pointers, and the places for more in its last header
  pub pointers : ℕ
  pub room : ℕ
  -- its blocks, each of 512 bytes; none for files 1 to 3, whose contents no request reaches
  pub blocks : List (List ℕ)

-- an empty file of nobody, which stands in where a file is missing
abbrev pub no_file : File
no_file = record {
  sequence = 0;
  owner = record { group = 0; member = 0 };
  protection = 0;
  characteristics = 0;
  ident = [];
  attr = [];
  held = [];
  pointers = 0;
  room = 0;
  blocks = [];
}

-- its length in blocks
abbrev pub length_of : File → ℕ
length_of f = length f.blocks

-- marked for delete: SC.MDL, bit 15 of the characteristics (file header, H.SCHA)
abbrev pub is_marked : File → Bool
is_marked f = bit_at f.characteristics 15 == 1

-- the characteristics with SC.MDL set (file header, H.SCHA)
abbrev pub with_mark : ℕ → ℕ
with_mark c = bit_or c 32768

-- marked contiguous: UC.CON, bit 7 of the characteristics (file header, H.UCHA)
abbrev pub has_contiguous_mark : File → Bool
has_contiguous_mark f = bit_at f.characteristics 7 == 1

-- the characteristics with UC.CON, bit 7, cleared (file header, H.UCHA)
abbrev pub without_contiguous : ℕ → ℕ
without_contiguous c = bit_and c 65407

-- the characteristics with UC.CON set (file header, H.UCHA)
abbrev pub with_contiguous : ℕ → ℕ
with_contiguous c = bit_or c 128

-- the headers that n more blocks may need beside the room: one for each 102 blocks past it (profile)
abbrev pub need : ℕ → ℕ → ℕ
need room n = (n - room + 101) / 102

-- the pointers of n blocks in one run: 256 blocks in each, and the rest in one more (retrieval pointers)
abbrev pub run_pointers : ℕ → ℕ
run_pointers n = (n + 255) / 256

-- the headers that these need beside the room: none where they fit there, else one for each 102 past it (profile)
abbrev pub run_need : ℕ → ℕ → ℕ
run_need room n = need room (run_pointers n)

-- the five words at the front of an ident area: three of the name, type and version (ident area)
abbrev pub name_words : List ℕ → List ℕ
name_words ident = word ident 0 ∷ word ident 2 ∷ word ident 4 ∷ word ident 6 ∷ word ident 8 ∷ []

-- the end in bytes that F.EFBK (byte 8) and F.FFBY (byte 12) state (file attributes)
unfoldable pub stated_end : List ℕ → ℕ
stated_end attr = if long attr 8 == 0 then 0 else (long attr 8 - 1) * 512 + word attr 12

-- the end in bytes: as stated, but no further than the allocation (profile)
abbrev pub end_of : File → ℕ
end_of f = min (stated_end f.attr) (512 * length_of f)

-- n blocks of zeros
unfoldable pub zero_blocks : ℕ → List (List ℕ)
zero_blocks n = replicate n zero_block

-- the most blocks that a file has: those of 256 headers (profile), each of which names up to 127 times 256 (file header, map area)
abbrev pub most_blocks : ℕ
most_blocks = 8323072
