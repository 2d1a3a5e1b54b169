-- The home block of a fresh volume (Files-11 On-Disk Structure Level 1, "Home Block"; profile: what its fields are).
use Rattle.std.specs.Prelude.{ℕ, ◌+◌, ◌*◌, List, replicate, slice_set, codes}
use Rattle.f11_bytes.specs.Block.{zero_block}
use Rattle.f11_bytes.specs.Part.{with_bytes}
use Rattle.f11_bytes.specs.Words.{with_word, with_long}
use Rattle.f11_home.specs.HomeBlock.{with_sums}
use Rattle.f11_layout.specs.Layout.{label_in}
use Rattle.f11_layout.specs.Places.{bit_blocks}
use Rattle.f11_layout.specs.declared.layout.Layout.{Layout}
use Rattle.f11_layout.specs.Texts.{owner_text}
use Rattle.f11_map.specs.store.declared.callers.Uic.{Uic}

-- its texts: the label over zeros (H.VNAM), the date (H.VDAT), the label over spaces (H.INDN), the owner (H.INDO), and the name
-- of the format (H.INDF)
unfoldable pub with_texts : Layout → List ℕ → List ℕ
with_texts l b =
    let named = with_bytes (with_bytes (with_bytes (with_bytes b 14 (label_in l)) 60 l.date) 472 (replicate 12 32)) 472 (label_in l) in
    with_bytes (with_bytes named 484 (owner_text l.owner)) 496 (codes "DECFILE11A  ")

-- the owner, the member in the byte before the group (H.VOWN)
abbrev pub with_volume_owner : List ℕ → Uic → List ℕ
with_volume_owner b owner = slice_set (slice_set b 30 owner.member) 31 owner.group

-- its numbers: the size of the index bitmap (H.IBSZ) and its LBN, 2 (H.IBLB); the number of files that there may be (H.FMAX); the cluster
-- factor 1 (H.SBCL); the structure level, octal 401 (H.VLEV); the owner; the files' protection, octal 160000 (H.DFPR); windows
-- of 7 pointers (H.WISZ), and extension by 5 blocks (H.FIEX)
unfoldable pub with_numbers : Layout → List ℕ → List ℕ
with_numbers l b =
    with_word (with_word (with_volume_owner
    (with_word (with_word (with_word
    (with_long (with_word b 0 (bit_blocks l.max_files)) 2 2) 6 l.max_files) 8 1) 12 257) l.owner) 36 57344) 44 (7 + 256 * 5)

-- the whole of it; all other bytes are zeros
unfoldable pub fresh_home : Layout → List ℕ
fresh_home l = with_sums (with_numbers l (with_texts l zero_block))
