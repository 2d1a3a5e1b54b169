-- The retrieval pointers of a file, and its blocks: a pointer names 1 to 256 of them.
use Rattle.std.proofs.Common.{◌≡◌, ◌+◌, ◌-◌, ◌*◌, ◌/◌, ◌<◌, ◌≤◌, ℕ, List, [], ◌∷◌, length, map, take, drop, flat_map, sum_by, slice_index}
use Rattle.std.proofs.Common.{inl, inr, ◌∙◌, arith}
use Rattle.std.specs.List.{range_with_len}
use Rattle.std.proofs.lemmas.Bool.{cases_lt}
use Rattle.std.proofs.lemmas.List.{get_or-drop, get_or-take, get_or_past, length-append, length-map, length-take}
use Rattle.std.proofs.lemmas.List.FromFn.{length-range_with_len}
use Rattle.std.proofs.lemmas.List.Sums.{sum_by-cons}
use Rattle.f11_dev.specs.Image.{Image, IsImage, image_block}
use Rattle.f11_header.specs.Fields.{map_area, map_offset}
use Rattle.f11_volume.specs.home.Home.{HomeFields}
use Rattle.f11_index.specs.IndexFile.{header_lbn, index_of}
use Rattle.f11_index.specs.Table.{Table, table_in, table_of}
use Rattle.f11_index.proofs.SegmentLemmas.{image_block-bytes}
use Rattle.f11_volume.specs.map.HeaderBlock.{blocks_named}
use Rattle.f11_volume.specs.map.MapArea.{blocks_in, blocks_of, run_at, runs_of, words_in_use}
use Rattle.f11_volume.specs.chain.FileHeaders.{blocks_by}
use Rattle.f11_volume.specs.Contents.{block_or_zeros, file_of, headers_reached, pointer_count}

-- the blocks of pointers that name 1 to 256 each
in-pointers : (m : List ℕ) → ((i : ℕ) → slice_index m i < 256) → (is : List ℕ)
    → (length is ≤ length (blocks_in (map (run_at m) is))) × (length (blocks_in (map (run_at m) is)) ≤ 256 * length is)
in-pointers m bytes [] = (omega arith, omega arith)
in-pointers m bytes (i ∷ is) =
    let run : ℕ × ℕ = run_at m i in
    let rest = in-pointers m bytes is in
    let long = length-append (range_with_len run.0 run.1) (blocks_in (map (run_at m) is)) in
    let own = length-range_with_len run.0 run.1 in
    let byte = bytes (10 + 4 * i + 1) in
    (omega (arith, rest.0, long, own), omega (arith, rest.1, long, own, byte))

-- those of a map area
in-area : (m : List ℕ) → ((i : ℕ) → slice_index m i < 256)
    → (length (runs_of m) ≤ length (blocks_of m)) × (length (blocks_of m) ≤ 256 * length (runs_of m))
unfolding runs_of
in-area m bytes =
    let count = length-map (range_with_len 0 (words_in_use m / 2)) (run_at m) in
    let all = in-pointers m bytes (range_with_len 0 (words_in_use m / 2)) in
    (omega (arith, count, all.0), omega (arith, count, all.1))

-- the bytes of a part of a block
part-bytes : (b : List ℕ) (low n : ℕ) → ((i : ℕ) → slice_index b i < 256) → (i : ℕ) → slice_index (take n (drop low b)) i < 256
part-bytes b low n bytes i = elim (cases_lt i n) [
  | inl within ↦ let here = get_or-take n (drop low b) i 0 within ∙ get_or-drop low b i 0 in omega (arith, here, bytes (low + i))
  | inr past ↦ let long =
      length-take n (drop low b) in let none = get_or_past (take n (drop low b)) i 0 (omega (arith, long, past)) in omega (arith, none)
]

-- those of a header of an image
in-header : (image : Image) (home : HomeFields) → IsImage image → (n : ℕ)
    → (pointer_count (table_of image home) n ≤ length (blocks_named ((table_of image home).header n)))
    × (length (blocks_named ((table_of image home).header n)) ≤ 256 * pointer_count (table_of image home) n)
unfolding table_in blocks_named
in-header image home is n =
    let b : List ℕ = image_block image (header_lbn (index_of image home) n) in
    in-area (map_area b) (part-bytes b (2 * map_offset b) (510 - 2 * map_offset b)
    (λ i. image_block-bytes image (header_lbn (index_of image home) n) i is))

-- and of headers
in-headers : (image : Image) (home : HomeFields) → IsImage image → (ns : List ℕ)
    → (sum_by (pointer_count (table_of image home)) ns ≤ length (blocks_by (table_of image home) ns))
    × (length (blocks_by (table_of image home) ns) ≤ 256 * sum_by (pointer_count (table_of image home)) ns)
in-headers image home is [] = (omega arith, omega arith)
in-headers image home is (n ∷ ns) =
    let t : Table = table_of image home in
    let rest = in-headers image home is ns in
    let own = in-header image home is n in
    let long = length-append (blocks_named (t.header n)) (flat_map (λ m. blocks_named (t.header m)) ns) in
    let pointers : sum_by (pointer_count t) (n ∷ ns) ≡ pointer_count t n + sum_by (pointer_count t) ns =
    sum_by-cons (pointer_count t) n ns in
    let blocks : length (blocks_by t (n ∷ ns)) ≡ length (blocks_named (t.header n)) + length (blocks_by t ns) = long in
    (omega (arith, rest.0, own.0, pointers, blocks), omega (arith, rest.1, own.1, pointers, blocks))

-- a file has a block at least in each pointer, and 256 at most
pub file-pointers : (image : Image) (home : HomeFields) → IsImage image → (k : ℕ)
    → ((file_of image (table_of image home) k).pointers ≤ length (file_of image (table_of image home) k).blocks)
    × (length (file_of image (table_of image home) k).blocks ≤ 256 * (file_of image (table_of image home) k).pointers)
unfolding file_of
file-pointers image home is k =
    let t : Table = table_of image home in
    let all = in-headers image home is (headers_reached t k) in
    let same = length-map (blocks_by t (headers_reached t k)) (block_or_zeros image) in
    (omega (arith, all.0, same), omega (arith, all.1, same))
