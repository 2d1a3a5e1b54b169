-- Which blocks of a sound volume calls don't write on their own account.
use Rattle.std.proofs.Common.{◌≡◌, ◌≢◌, ◌+◌, ◌-◌, ◌<◌, ◌≤◌, ℕ, List, Some, length, sym, ap, ◌∙◌, arith}
use Rattle.std.proofs.lemmas.List.{length-map}
use Rattle.std.proofs.lemmas.List.FromFn.{length-range_with_len}
use Rattle.std.specs.List.{range_with_len, slice_get}
use Rattle.f11_volume.specs.chain.FileHeaders.{file_blocks}
use Rattle.f11_volume.proofs.chain.FileOneLemmas.{file-one}
use Rattle.f11_dev.specs.Image.{Image, image_block}
use Rattle.f11_volume.specs.home.Home.{HomeFields}
use Rattle.f11_index.specs.IndexFile.{index_file_blocks, index_of, header_lbn}
use Rattle.f11_index.specs.Table.{Table, table_of, IsFile}
use Rattle.f11_index.proofs.PlaceLemmas.{slice_get-header}
use Rattle.f11_volume.specs.FileLaws.{AreSoundFiles}
use Rattle.f11_volume.specs.Sound.{HasSoundVolume}
use Rattle.f11_volume.specs.Space.{bitmap_file}
use Rattle.f11_volume.specs.Volume.{volume_of, IsNamed}
use Rattle.f11_volume.proofs.FileLemmas.{image-files, place-at}
use Rattle.f11_volume.proofs.MemberLemmas.{contained}
use Rattle.f11_writes.specs.Lost.{IsUsedInNoFile}
use Rattle.f11_writes.proofs.OwnerLemmas.{in-index-file, in-bitmap-file, named-of}
use Rattle.f11_image_store.specs.ConfinesLaws.{IsSpared}

module _ (image : Image) (home : HomeFields) (is : HasSoundVolume image home) where
  abbrev t : Table
  t = table_of image home

  files : AreSoundFiles t (length image)
  files = image-files image home is

  as-file-one : (i lbn : ℕ) → slice_get (index_file_blocks image home) i ≡ Some lbn → slice_get (file_blocks t 1) i ≡ Some lbn
  as-file-one i lbn at = ap (λ (xs : List ℕ). slice_get xs i) (file-one image home is.framed.indexed.file) ∙ at

  one : IsFile t 1
  one = is.framed.indexed.file.whole.file

  two : IsFile t 2
  two = is.framed.bitmap.sound.whole.file

  -- behind the home block in the index file, or behind the control block in the storage bitmap file, stands each block of those
  spared : (lbn : ℕ) → ((i : ℕ) → slice_get (index_file_blocks image home) (2 + i) ≢ Some lbn)
      → ((i : ℕ) → slice_get (bitmap_file t) (1 + i) ≢ Some lbn) → IsSpared image home lbn
  unfolding index_of header_lbn
  spared lbn none_one none_two headers = record {
    header = λ n may some slot at.
        let place : 2 + (home.index_blocks + (n - 1)) ≡ 2 + home.index_blocks + (n - 1) = omega arith in
        none_one (home.index_blocks + (n - 1))
        (ap (slice_get (index_file_blocks image home)) place ∙ slice_get-header (index_file_blocks image home) (2 + home.index_blocks) _
        (n - 1) lbn 0 (omega (arith, some, slot)) (sym at));
    index_bitmap = λ k within at.
        let few : k < home.index_blocks =
        omega (
          arith,
          within,
          length-map (range_with_len home.index_lbn home.index_blocks) (image_block image),
          length-range_with_len home.index_lbn home.index_blocks,
        ) in
        none_one k (is.framed.indexed.file.placed.bitmap_and_headers k (omega (arith, few)) ∙ ap Some at);
    storage = λ i within at. none_two i (place-at image home i within ∙ ap Some at);
  }

  -- a block of one of the two files that stands before those
  pub first-spared : (i lbn : ℕ) → i < 2 → slice_get (index_file_blocks image home) i ≡ Some lbn → IsSpared image home lbn
  first-spared i lbn early at =
      spared lbn (λ j there. let same = (files.one_owner 1 1 i (2 + j) lbn one one (as-file-one i lbn at) (as-file-one (2 + j) lbn there)).1
      in omega (arith, same, early))
      (λ j there. let same = (files.one_owner 1 2 i (1 + j) lbn one two (as-file-one i lbn at) there).0 in omega (arith, same))

  pub boot-spared : IsSpared image home 0
  boot-spared = first-spared 0 0 (omega arith) is.framed.indexed.file.placed.boot

  pub home-spared : IsSpared image home home.lbn
  home-spared = first-spared 1 home.lbn (omega arith) is.framed.indexed.file.placed.home_block

  pub control-spared : (lbn : ℕ) → slice_get (bitmap_file t) 0 ≡ Some lbn → IsSpared image home lbn
  control-spared lbn at =
      spared lbn (λ j there. let same = (files.one_owner 1 2 (2 + j) 0 lbn one two (as-file-one (2 + j) lbn there) at).0 in
      omega (arith, same))
      (λ j there. let same = (files.one_owner 2 2 0 (1 + j) lbn two two at there).1 in omega (arith, same))

  -- a block of another file
  pub file-spared : (f i lbn : ℕ) → IsFile t f → 3 ≤ f → slice_get (file_blocks t f) i ≡ Some lbn → IsSpared image home lbn
  file-spared f i lbn file late at =
      spared lbn (λ j there. let same = (files.one_owner f 1 i (2 + j) lbn file one at (as-file-one (2 + j) lbn there)).0 in
      omega (arith, same, late))
      (λ j there. let same = (files.one_owner f 2 i (1 + j) lbn file two at there).0 in omega (arith, same, late))

  -- and one that no header names
  pub unnamed-spared : (lbn : ℕ) → ¬ IsNamed t lbn → IsSpared image home lbn
  unnamed-spared lbn none =
      spared lbn (λ j there. none (named-of t 1 lbn (in-index-file image home is (2 + j) lbn there)))
      (λ j there. none (named-of t 2 lbn (in-bitmap-file image home is (1 + j) lbn there)))

  -- or that no file contains
  pub fileless-spared : (lbn : ℕ) → IsUsedInNoFile (volume_of image home) lbn → IsSpared image home lbn
  unfolding volume_of
  fileless-spared lbn lost =
      spared lbn (λ j there. lost.of_none 1 one (contained (file_blocks t 1) (2 + j) lbn (as-file-one (2 + j) lbn there)))
      (λ j there. lost.of_none 2 two (contained (file_blocks t 2) (1 + j) lbn there))

  none-behind : (lbn : ℕ) → (volume_of image home).size ≤ lbn → ¬ IsNamed t lbn
  unfolding volume_of
  none-behind lbn behind named = let inside = is.sound.inside named.header named.place lbn named.cell in omega (arith, inside, behind)

  pub behind-spared : (lbn : ℕ) → (volume_of image home).size ≤ lbn → IsSpared image home lbn
  behind-spared lbn behind = unnamed-spared lbn (none-behind lbn behind)
