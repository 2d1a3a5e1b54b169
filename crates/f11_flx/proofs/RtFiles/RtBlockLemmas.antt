-- The blocks of a file on an RT-11 volume.
use Rattle.std.proofs.Common.{◌≡◌, ℕ, zero, suc, ◌+◌, ◌<◌, ◌≤◌, if◌then◌else◌, List, [], All, length, get_or, map, Some, sym, ◌∙◌, ap}
use Rattle.std.proofs.Common.{subst, arith}
use Rattle.std.specs.List.{slice_get, range_with_len}
use Rattle.std.proofs.lemmas.Bool.{le-leb}
use Rattle.std.proofs.lemmas.List.Elements.{All-cons, All-nil}
use Rattle.std.proofs.lemmas.Option.{slice_get_within, slice_get-get_or}
use Rattle.f11_dev.specs.Image.{Image, IsImage, image_block}
use Rattle.rt11_volume.specs.Directory.{data_start, segment_of, visited}
use Rattle.rt11_volume.specs.Entry.{area_length}
use Rattle.rt11_volume.specs.Files.{HasFile, file_area}
use Rattle.rt11_volume.specs.Segment.{Segment, area_start}
use Rattle.rt11_volume.specs.Store.{area_at, rt_store_of}
use Rattle.rt11_volume.proofs.Searching.File.{area-begins, area-ends, segments-at}
use Rattle.rt11_volume.proofs.Searching.Looking.{length-segments}
use Rattle.rt11_volume.proofs.Verifying.Sound.{IsSoundImage}

-- a block behind the directory and on the device is one
block-whole : (image : Image) (lbn : ℕ) → IsImage image → data_start image ≤ lbn → lbn < length image
    → length ((rt_store_of image).block lbn) ≡ 512
unfolding rt_store_of
block-whole image lbn is behind within =
    ap (λ (b : List ℕ). length b) (ap (λ b. if b then image_block image lbn else []) (le-leb (data_start image) lbn behind))
    ∙ (is.each lbn (image_block image lbn) (slice_get-get_or image lbn [] within)).size

-- so many from one on
blocks-whole : (image : Image) (start n : ℕ) → IsImage image → data_start image ≤ start → start + n ≤ length image
    → All (λ b. length b ≡ 512) (map (rt_store_of image).block (range_with_len start n))
blocks-whole image start zero is behind within = All-nil (λ b. length b ≡ 512)
blocks-whole image start (suc n) is behind within =
    All-cons (λ b. length b ≡ 512) ((rt_store_of image).block start) (map (rt_store_of image).block (range_with_len (start + 1) n))
    (block-whole image start is behind (omega (arith, within)))
    (blocks-whole image (start + 1) n is (omega (arith, behind)) (omega (arith, within)))

pub contents-whole : (name : List ℕ) (image : Image) (file : HasFile name (rt_store_of image)) → IsImage image → IsSoundImage image
    → All (λ b. length b ≡ 512) (file_area file).contents
unfolding rt_store_of area_at
contents-whole name image file is sound =
    let place : ℕ = file.place in
    let at = file.first.segment_is in
    let long : place < length (visited image) =
    omega (arith, slice_get_within (map (segment_of image) (visited image)) place file.segment at, length-segments image) in
    let k : ℕ = get_or (visited image) place 0 in
    let there : slice_get (visited image) place ≡ Some k = slice_get-get_or (visited image) place 0 long in
    let same : Some file.segment ≡ Some (segment_of image k) = sym at ∙ segments-at image place k there in
    let seg : file.segment ≡ segment_of image k = cc in
    let inside : file.i < length (segment_of image k).entries = subst (λ (s : Segment). file.i < length s.entries) seg
    (slice_get_within file.segment.entries file.i file.entry file.first.entry_is) in
    subst (λ (s : Segment). All (λ b. length b ≡ 512)
    (map (rt_store_of image).block (range_with_len (area_start s file.i) (area_length (get_or s.entries file.i []))))) (sym seg)
    (blocks-whole image (area_start (segment_of image k) file.i) (area_length (get_or (segment_of image k).entries file.i [])) is
    (area-begins image place k file.i sound there)
    (omega (arith, area-ends image place k file.i sound there inside)))
