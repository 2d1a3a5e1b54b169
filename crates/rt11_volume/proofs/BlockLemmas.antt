-- A block of a file: read, and written.
use Rattle.std.proofs.Common.{◌≡◌, inl, inr, ℕ, suc, ◌+◌, ◌*◌, ◌<◌, ◌≤◌, ◌==◌, if◌then◌else◌, min, List, [], ◌∷◌, ◌++◌, length, get_or, map}
use Rattle.std.proofs.Common.{Some, refl, sym, ◌∙◌, ap, subst, arith}
use Rattle.std.specs.Prelude.{slice_set, nat_le}
use Rattle.std.specs.List.{slice_get, range_with_len}
use Rattle.std.proofs.lemmas.Bool.{cases_eq, le-leb, eq-eqb, ne_eqb}
use Rattle.std.proofs.lemmas.List.{length-map, length-set}
use Rattle.std.proofs.lemmas.List.FromFn.{length-range_with_len, get_or-map-range_with_len}
use Rattle.std.proofs.lemmas.Option.{slice_get_within, slice_get-get_or}
use Rattle.f11_dev.specs.Disk.{Disk}
use Rattle.f11_dev.specs.Image.{Image, image_block}
use Rattle.f11_dev.proofs.ImageLemmas.{image_block-written, image_block-other, image_block-read}
use Rattle.rt11_volume.specs.Directory.{segment_of, visited, data_start, count_of}
use Rattle.rt11_volume.specs.Entry.{area_length}
use Rattle.rt11_volume.specs.Files.{HasFile, file_area, IsBlockAt, HasBlock, HasBlockWritten, WritesBlock}
use Rattle.rt11_volume.specs.Verifying.Verdict.{IsSoundDisk}
use Rattle.rt11_volume.specs.Operations.{with_block}
use Rattle.rt11_volume.specs.Segment.{Segment, segment_words, segment_with, words_in, area_start}
use Rattle.rt11_volume.specs.Store.{RtStore, rt_store_of, area_at}
use Rattle.rt11_volume.proofs.Searching.File.{segments-at, area-begins, area-ends}
use Rattle.rt11_volume.proofs.Verifying.Keep.{KeepsLinks, visited-same, visited-low, sound-kept, keeps-words}
use Rattle.rt11_volume.proofs.Searching.Looking.{length-segments}
use Rattle.rt11_volume.proofs.Verifying.Sound.{IsSoundImage, accepted_from, sound_from}

-- Where the area of a file is.
record IsPlaced (image : Image) (start length_is : ℕ) : Type 0 where
  pub behind : data_start image ≤ start
  pub inside : start + length_is ≤ min (length image) 65535

placed : (name : List ℕ) (image : Image) (file : HasFile name (rt_store_of image)) → IsSoundImage image
    → IsPlaced image (file_area file).start (file_area file).length
unfolding rt_store_of area_at
placed name image file sound =
    let place : ℕ = file.place in
    let at = file.first.segment_is in
    let long : place < length (visited image) =
    omega (arith, slice_get_within (map (segment_of image) (visited image)) place file.segment at, length-segments image) in
    let k : ℕ = get_or (visited image) place 0 in
    let there : slice_get (visited image) place ≡ Some k = slice_get-get_or (visited image) place 0 long in
    let same : Some file.segment ≡ Some (segment_of image k) = sym at ∙ segments-at image place k there in
    let seg : file.segment ≡ segment_of image k = cc in
    let inside : file.i < length (segment_of image k).entries = subst (λ (s : Segment). file.i < length s.entries) seg
    (slice_get_within file.segment.entries file.i file.entry file.first.entry_is) in
    subst (λ (s : Segment). IsPlaced image (area_start s file.i) (area_length (get_or s.entries file.i []))) (sym seg)
    (record { behind = area-begins image place k file.i sound there; inside = area-ends image place k file.i sound there inside })

-- a block of an area, as the store has it
contents-at : (store : RtStore) (seg : Segment) (i place : ℕ) → place < (area_at store seg i).length
    → slice_get (area_at store seg i).contents place ≡ Some (store.block ((area_at store seg i).start + place))
unfolding area_at
contents-at store seg i place inside =
    let start : ℕ = area_start seg i in
    let n : ℕ = area_length (get_or seg.entries i []) in
    let size : length (map store.block (range_with_len start n)) ≡ n = simp (length-map, length-range_with_len) in
    slice_get-get_or (map store.block (range_with_len start n)) place [] (omega (arith, size, inside))
    ∙ ap Some (get_or-map-range_with_len store.block start n place (start + place) [] inside refl)

block-at : (image : Image) (lbn : ℕ) → data_start image ≤ lbn → (rt_store_of image).block lbn ≡ image_block image lbn
unfolding rt_store_of
block-at image lbn behind = ap (λ b. if b then image_block image lbn else []) (le-leb (data_start image) lbn behind)

-- the block that was read is the file's
pub block-read : (name : List ℕ) (image later : Image) (place lbn : ℕ) (block : List ℕ) → IsSoundImage image → later ≡ image
    → IsBlockAt name (rt_store_of image) place lbn → slice_get later lbn ≡ Some block
    → HasBlock name (rt_store_of image) place block
block-read name image later place lbn block sound same at read =
    let file = at.file in
    let where_it_is = placed name image file sound in
    record {
      file = file;
      block_is = contents-at (rt_store_of image) file.segment file.i place at.inside
          ∙ ap Some (ap (rt_store_of image).block (sym at.lbn_is) ∙ block-at image lbn (omega (arith, where_it_is.behind, at.lbn_is))
          ∙ image_block-read image lbn block (sym (ap (λ (i : Image). slice_get i lbn) same) ∙ read));
    }

-- a written block behind the directory leaves the segments
segment-kept : (image : Image) (lbn k : ℕ) (block : List ℕ) → data_start image ≤ lbn → k ≤ count_of image
    → segment_words (slice_set image lbn block) k ≡ segment_words image k
unfolding segment_words
segment-kept image lbn k block behind low =
    let one = image_block-other image lbn (4 + 2 * k) block (λ same. omega (arith, same, behind, low)) in
    let two = image_block-other image lbn (4 + 2 * k + 1) block (λ same. omega (arith, same, behind, low)) in
    λ i. words_in (one i ++ two i)

links-kept : (image : Image) (lbn : ℕ) (block : List ℕ) → IsSoundImage image → data_start image ≤ lbn
    → KeepsLinks image (slice_set image lbn block)
links-kept image lbn block sound behind =
    let first = segment-kept image lbn 1 block behind sound.sized.some in
    record {
      size = length-set image lbn block;
      count = ap (λ (s : List ℕ). get_or s 0 0) first;
      highest = ap (λ (s : List ℕ). get_or s 2 0) first;
      next = λ k low. ap (λ (s : List ℕ). get_or s 1 0) (segment-kept image lbn k block behind low);
      extra = λ k low. ap (λ (s : List ℕ). get_or s 3 0) (segment-kept image lbn k block behind low);
    }

sound-written : (image : Image) (lbn : ℕ) (block : List ℕ) → IsSoundImage image → data_start image ≤ lbn
    → IsSoundImage (slice_set image lbn block)
sound-written image lbn block sound behind =
    sound-kept image (slice_set image lbn block) sound (links-kept image lbn block sound behind)
    (λ j k at. keeps-words image (slice_set image lbn block) j k sound at
    (segment-kept image lbn k block behind (visited-low image j k sound at)))

-- what two functions agree on
pub map-agree : {A B : Type 0} (f g : A → B) (xs : List A) → ((j : ℕ) (k : A) → slice_get xs j ≡ Some k → f k ≡ g k) → map f xs ≡ map g xs
map-agree f g [] same = refl
map-agree f g (x ∷ xs) same = λ i. same 0 x refl i ∷ map-agree f g xs (λ j k at. same (suc j) k at) i

-- the blocks behind the directory, one of which was written
blocks-written : (image : Image) (lbn : ℕ) (block : List ℕ) → lbn < length image → data_start image ≤ lbn
    → data_start (slice_set image lbn block) ≡ data_start image → (n : ℕ)
    → (if nat_le (data_start (slice_set image lbn block)) n then image_block (slice_set image lbn block) n else [])
    ≡ (if n == lbn then block else (if nat_le (data_start image) n then image_block image n else []))
blocks-written image lbn block within behind start n = elim (cases_eq n lbn) [
  | inl same ↦
      let one = le-leb (data_start (slice_set image lbn block)) n (omega (arith, start, same, behind)) in
      let two = eq-eqb n lbn same in
      (λ i. if one i then image_block (slice_set image lbn block) n else []) ∙ ap (image_block (slice_set image lbn block)) same
      ∙ image_block-written image lbn block within
      ∙ (λ i. if sym two i then block else (if nat_le (data_start image) n then image_block image n else []))
  | inr apart ↦
      let other = image_block-other image lbn n block apart in
      let no = ne_eqb n lbn apart in
      (λ i. if nat_le (start i) n then other i else [])
      ∙ (λ i. if sym no i then block else (if nat_le (data_start image) n then image_block image n else []))
]

-- the store with another block in an area
store-written : (image : Image) (lbn : ℕ) (block : List ℕ) → IsSoundImage image → lbn < length image → data_start image ≤ lbn
    → rt_store_of (slice_set image lbn block) ≡ with_block (rt_store_of image) lbn block
unfolding rt_store_of with_block
store-written image lbn block sound within behind =
    let links = links-kept image lbn block sound behind in
    let new : Image = slice_set image lbn block in
    let segments : map (segment_of new) (visited new) ≡ map (segment_of image) (visited image) =
    ap (map (segment_of new)) (visited-same image new links sound.sized.some)
    ∙ map-agree (segment_of new) (segment_of image) (visited image)
    (λ j k at. ap (segment_with k) (segment-kept image lbn k block behind (visited-low image j k sound at))) in
    let extra = links.extra 1 sound.sized.some in
    let blocks = blocks-written image lbn block within behind (ap (λ c. 6 + 2 * c) links.count) in
    λ i. record { count = links.count i; highest = links.highest i; extra = extra i; segments = segments i; block = λ n. blocks n i }

-- the block of a file was written
block-written : (name : List ℕ) (image : Image) (place lbn : ℕ) (block : List ℕ) → IsSoundImage image
    → IsBlockAt name (rt_store_of image) place lbn → lbn < length image
    → WritesBlock name place block image (slice_set image lbn block)
block-written name image place lbn block sound at within =
    let area = placed name image at.file sound in
    let behind : data_start image ≤ lbn = omega (arith, area.behind, at.lbn_is) in
    record {
      file = at.file;
      inside = at.inside;
      behind = area.behind;
      store_is = store-written image lbn block sound within behind ∙ ap (λ n. with_block (rt_store_of image) n block) at.lbn_is;
      image_is = ap (λ n. slice_set image n block) at.lbn_is;
      accepted = accepted_from (slice_set image lbn block) (sound-written image lbn block sound behind);
    }

-- and the image after it is as it has to be, where the disk is sound
pub block-lands : (name : List ℕ) (place lbn : ℕ) (block : List ℕ) (old : Disk) (now : Image) → now ≡ old.image → lbn < length now
    → (IsSoundDisk old → IsBlockAt name (rt_store_of old.image) place lbn)
    → HasBlockWritten name place block old (slice_set now lbn block)
block-lands name place lbn block old now same within at sound =
    subst (λ (image : Image). WritesBlock name place block old.image (slice_set image lbn block)) (sym same)
    (block-written name old.image place lbn block (sound_from old.image sound.accepted) (at sound)
    (omega (arith, within, ap (λ (image : Image). length image) same)))
