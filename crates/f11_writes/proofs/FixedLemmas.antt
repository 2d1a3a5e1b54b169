-- Which writes spare the blocks that no call changes.
use Rattle.std.proofs.Common.{◌≡◌, ◌≢◌, ◌+◌, ◌<◌, ◌≤◌, ℕ, List, Some, length, sym, ap, subst, ◌∙◌, arith}
use Rattle.std.specs.List.{slice_get}
use Rattle.f11_dev.specs.Image.{Image}
use Rattle.f11_volume.specs.chain.FileHeaders.{file_blocks}
use Rattle.f11_volume.proofs.chain.FileOneLemmas.{file-one}
use Rattle.f11_volume.specs.home.Home.{HomeFields}
use Rattle.f11_index.specs.IndexFile.{index_file_blocks}
use Rattle.f11_index.specs.Table.{Table, table_of, IsFile}
use Rattle.f11_volume.specs.FileLaws.{AreSoundFiles}
use Rattle.f11_volume.specs.Sound.{HasSoundVolume}
use Rattle.f11_volume.specs.Volume.{volume_of, IsNamed}
use Rattle.f11_volume.proofs.FileLemmas.{image-files}
use Rattle.f11_writes.specs.Fixed.{IsFixed, boot, home_block, control, bad, behind}
use Rattle.f11_writes.proofs.OwnerLemmas.{in-bitmap-file, in-file, in-index-file, named-of}

-- a fixed block is one still where the volume's size and the blocks of files 2 and 3 are as they were
pub fixed-stays : (old new : Image) (home : HomeFields) → (volume_of new home).size ≡ (volume_of old home).size
    → file_blocks (table_of new home) 2 ≡ file_blocks (table_of old home) 2
    → file_blocks (table_of new home) 3 ≡ file_blocks (table_of old home) 3
    → (lbn : ℕ) → IsFixed old home lbn → IsFixed new home lbn
fixed-stays old new home size two three lbn (boot is) = boot is
fixed-stays old new home size two three lbn (home_block is) = home_block is
fixed-stays old new home size two three lbn (control first) = control (ap (λ (xs : List ℕ). slice_get xs 0) two ∙ first)
fixed-stays old new home size two three lbn (bad i at) = bad i (ap (λ (xs : List ℕ). slice_get xs i) three ∙ at)
fixed-stays old new home size two three lbn (behind past) = behind (subst (λ (n : ℕ). n ≤ lbn) (sym size) past)

module _ (image : Image) (home : HomeFields) (is : HasSoundVolume image home) where
  abbrev t : Table
  t = table_of image home

  files : AreSoundFiles t (length image)
  files = image-files image home is

  pub as-file-one : (i lbn : ℕ) → slice_get (index_file_blocks image home) i ≡ Some lbn → slice_get (file_blocks t 1) i ≡ Some lbn
  as-file-one i lbn at = ap (λ (xs : List ℕ). slice_get xs i) (file-one image home is.framed.indexed.file) ∙ at

  pub one : IsFile t 1
  one = is.framed.indexed.file.whole.file

  pub two : IsFile t 2
  two = is.framed.bitmap.sound.whole.file

  three : IsFile t 3
  three = (is.framed.own_files 3 (omega arith) (omega arith)).file

  boot-at : slice_get (index_file_blocks image home) 0 ≡ Some 0
  boot-at = is.framed.indexed.file.placed.boot

  home-at : slice_get (index_file_blocks image home) 1 ≡ Some home.lbn
  home-at = is.framed.indexed.file.placed.home_block

  inside : (f i l : ℕ) → IsFile t f → slice_get (file_blocks t f) i ≡ Some l → l < (volume_of image home).size
  unfolding volume_of
  inside f i l file at =
      let named = named-of t f l (in-file image home is f i l file at) in is.sound.inside named.header named.place l named.cell

  -- a block of a file is fixed where it is one of the index file's first two, the first of the storage bitmap file, or in file 3
  pub unfixed : (f i l : ℕ) → IsFile t f → slice_get (file_blocks t f) i ≡ Some l → (f ≡ 1 → 2 ≤ i) → (f ≡ 2 → 1 ≤ i) → f ≢ 3
      → (lbn : ℕ) → IsFixed image home lbn → l ≢ lbn
  unfixed f i l file at late_one late_two other lbn (boot is_0) same =
      let owner = files.one_owner f 1 i 0 l file one at (as-file-one 0 l (boot-at ∙ ap Some (sym is_0 ∙ sym same))) in
      let late = late_one owner.0 in
      omega (arith, late, owner.1)
  unfixed f i l file at late_one late_two other lbn (home_block is_home) same =
      let owner = files.one_owner f 1 i 1 l file one at (as-file-one 1 l (home-at ∙ ap Some (sym is_home ∙ sym same))) in
      let late = late_one owner.0 in
      omega (arith, late, owner.1)
  unfixed f i l file at late_one late_two other lbn (control first) same =
      let owner = files.one_owner f 2 i 0 l file two at (first ∙ ap Some (sym same)) in
      let late = late_two owner.0 in
      omega (arith, late, owner.1)
  unfixed f i l file at late_one late_two other lbn (bad j there) same =
      other (files.one_owner f 3 i j l file three at (there ∙ ap Some (sym same))).0
  unfixed f i l file at late_one late_two other lbn (behind past) same =
      let before = inside f i l file at in omega (arith, before, past, same)

  -- none is that no header names
  pub unnamed-unfixed : (l : ℕ) → l < (volume_of image home).size → ¬ IsNamed t l → (lbn : ℕ) → IsFixed image home lbn → l ≢ lbn
  unnamed-unfixed l before none lbn (boot is_0) same =
      none (named-of t 1 l (in-index-file image home is 0 l (boot-at ∙ ap Some (sym is_0 ∙ sym same))))
  unnamed-unfixed l before none lbn (home_block is_home) same =
      none (named-of t 1 l (in-index-file image home is 1 l (home-at ∙ ap Some (sym is_home ∙ sym same))))
  unnamed-unfixed l before none lbn (control first) same =
      none (named-of t 2 l (in-bitmap-file image home is 0 l (first ∙ ap Some (sym same))))
  unnamed-unfixed l before none lbn (bad j there) same =
      none (named-of t 3 l (in-file image home is 3 j l three (there ∙ ap Some (sym same))))
  unnamed-unfixed l before none lbn (behind past) same = omega (arith, before, past, same)
