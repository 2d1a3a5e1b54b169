-- Which writes of calls on files are in order.
use Rattle.std.proofs.Common.{◌≡◌, ◌⊎◌, ◌+◌, ◌<◌, ◌≤◌, ℕ, true, false, IsTrue, List, length, Some, inl, inr, sym, ap, subst, ◌∙◌, set}
use Rattle.std.proofs.Common.{arith}
use Rattle.std.proofs.lemmas.Option.{same_Some, slice_get-get_or}
use Rattle.std.specs.List.{range_with_len, slice_get}
use Rattle.f11_bytes.specs.Block.{zero_block}
use Rattle.f11_dev.specs.Disk.{Disk, with_transfer, with_block_at}
use Rattle.f11_dev.specs.Image.{Image, image_block}
use Rattle.f11_dev.specs.Looked.{Looked}
use Rattle.f11_dev.specs.Went.{Went}
use Rattle.f11_header.specs.Header.{IsHeader}
use Rattle.f11_home.specs.Home.{HomeFields}
use Rattle.f11_index.specs.Calls.{SetsBit, HasBitWritten, with_bitmap_block}
use Rattle.f11_index.specs.Growth.{with_header}
use Rattle.f11_index.specs.IndexFile.{Index, index_of, slots, header_lbn, is_in_use}
use Rattle.f11_index.specs.Table.{Table, table_in, table_of, IsFile, IsLive}
use Rattle.f11_map.specs.HeaderBlock.{blocks_named}
use Rattle.f11_store.specs.File.{File}
use Rattle.f11_volume.specs.Sound.{HasSoundVolume}
use Rattle.f11_volume.specs.Space.{storage_bitmap}
use Rattle.f11_volume.specs.Volume.{volume_of, IsNamed}
use Rattle.f11_volume.proofs.MemberLemmas.{contained, in-range}
use Rattle.f11_writes.specs.Kept.{WritesHeader, WritesSlotBit}
use Rattle.f11_writes.specs.NameLaws.{AreUnreferenced}
use Rattle.f11_writes.specs.Order.{IsOrderlyWrite, WritesInOrder}
use Rattle.f11_writes.proofs.InOrderLemmas.{order-bit, order-failed, order-write}
use Rattle.f11_writes.proofs.OrderLemmas.{entered-orderly, rewritten-orderly, unused-orderly}
use Rattle.f11_image_store.specs.FieldLaws.{SaysBut}
use Rattle.f11_image_store.proofs.FieldLemmas.{blocks-same}
use Rattle.f11_files.specs.Extending.Zeros.{HoldsZeros}
use Rattle.f11_files.specs.Structure.{home_of, index_in, IsStructureFor}
use Rattle.f11_files.specs.declared.structure.Structure.{Structure}
use Rattle.f11_files.proofs.Creating.FreeSlot.{IsReadAt}

-- a block that was written, or wasn't, after some were read
module _ (home : HomeFields) (old now : Disk) {most faults : ℕ} (looked : Looked old now most faults)
    (sound : IsTrue old.honest → HasSoundVolume old.image home) (lbn : ℕ) (block : List ℕ)
    (orderly : IsTrue old.honest → IsOrderlyWrite home old.image (set now.image lbn block)) where
  sound-now : IsTrue now.honest → HasSoundVolume now.image home
  sound-now honest = subst (λ (i : Image). HasSoundVolume i home) (sym looked.image) (sound (sym looked.honest ∙ honest))

  orderly-now : IsTrue now.honest → IsOrderlyWrite home now.image (set now.image lbn block)
  orderly-now honest =
      subst (λ (i : Image). IsOrderlyWrite home i (set now.image lbn block)) (sym looked.image) (orderly (sym looked.honest ∙ honest))

  pub block-order : (new : Disk) → new ≡ with_transfer true (with_block_at lbn block now) → WritesInOrder now new
  block-order new is = order-write now home sound-now lbn block orderly-now new is

  pub block-failed-order : (new : Disk) → (new ≡ with_transfer false now) ⊎ (new ≡ with_transfer false (with_block_at lbn block now))
      → WritesInOrder now new
  block-failed-order new is = order-failed now home sound-now lbn block orderly-now new is

-- the place of a header
module _ (s : Structure) (n place : ℕ) (block : List ℕ) (old now : Disk) {most faults : ℕ} (looked : Looked old now most faults)
    (for : IsStructureFor s old) (at : place ≡ header_lbn (index_in s) n)
    (orderly : IsTrue old.honest → IsOrderlyWrite (home_of s) old.image (with_header old.image (home_of s) n block)) where
  orderly-there : IsTrue old.honest → IsOrderlyWrite (home_of s) old.image (set now.image place block)
  orderly-there honest =
      subst (IsOrderlyWrite (home_of s) old.image) (sym (ap (λ (i : Image). set i place block) looked.image
      ∙ ap (λ (l : ℕ). set old.image l block) (at ∙ ap (λ (x : Index). header_lbn x n) (for.keeps honest).index_is)))
      (orderly honest)

  pub header-order : (new : Disk) → new ≡ with_transfer true (with_block_at place block now) → WritesInOrder now new
  header-order = block-order (home_of s) old now looked for.sound place block orderly-there

  pub header-failed-order : (new : Disk) → (new ≡ with_transfer false now) ⊎ (new ≡ with_transfer false (with_block_at place block now))
      → WritesInOrder now new
  header-failed-order = block-failed-order (home_of s) old now looked for.sound place block orderly-there

-- unreferenced blocks that hold zeros, as they are read
pub zeros-held : (image : Image) (home : HomeFields) (lbn count : ℕ) → HasSoundVolume image home
    → AreUnreferenced (volume_of image home) lbn count
    → HoldsZeros image lbn count → (k : ℕ) → lbn ≤ k → k < lbn + count
    → ((volume_of image home).free k ≡ false) × (image_block image k ≡ zero_block)
unfolding volume_of storage_bitmap
zeros-held image home lbn count sound unreferenced zeros k low high =
    let device = sound.framed.control.on_device in
    let inside = unreferenced.inside in
    let within : k < length image = omega (arith, device, inside, high) in (
      unreferenced.used k low high,
      same_Some _ _ (sym (slice_get-get_or image k _ within) ∙ slice_get-get_or image k zero_block within) ∙ zeros.each k low high,
    )

-- a block of a run
pub zeros-at : (image : Image) (home : HomeFields) (lbn count i k : ℕ) → HasSoundVolume image home
    → AreUnreferenced (volume_of image home) lbn count → HoldsZeros image lbn count → slice_get (range_with_len lbn count) i ≡ Some k
    → ((volume_of image home).free k ≡ false) × (image_block image k ≡ zero_block)
zeros-at image home lbn count i k sound unreferenced zeros at =
    let row = in-range lbn count k (contained (range_with_len lbn count) i k at) in
    zeros-held image home lbn count sound unreferenced zeros k row.0 row.1

-- a block that a live header names
pub own-named : (t : Table) (n : ℕ) → IsLive t n → (i lbn : ℕ) → slice_get (blocks_named (t.header n)) i ≡ Some lbn → IsNamed t lbn
own-named t n live i lbn at = record { header = n; place = i; cell = record { live = live; names = at } }

-- a first header that was written with other fields
pub field-orderly : (image : Image) (home : HomeFields) (f : ℕ) (block : List ℕ) (change : File → File) → HasSoundVolume image home
    → IsFile (table_of image home) f → SaysBut change ((table_of image home).header f) block
    → WritesHeader f block home image (with_header image home f block) → IsOrderlyWrite home image (with_header image home f block)
field-orderly image home f block change sound file says wrote =
    let t : Table = table_of image home in
    rewritten-orderly image home sound f block wrote.slot (λ i. wrote.in_use i f) wrote.index_file.header file.live
    (record { number = says.number ∙ file.live.valid.number; holds = says.holds; sum = says.sum })
    (λ i lbn at. inl (own-named t f file.live i lbn
    (ap (λ (ls : List ℕ). slice_get ls i) (sym (blocks-same change (t.header f) block says)) ∙ at)))

-- a slot was taken whose block was read: a header was written there, and then its bit
module _ (s : Structure) (n place sequence : ℕ) (block : List ℕ) (old mid : Disk) (for : IsStructureFor s old) (some : 0 < n)
    (counts : Looked old mid 1 0) (slot : IsTrue old.honest → IsReadAt s n place sequence old mid) (valid : IsHeader block n)
    (one : IsTrue old.honest → WritesHeader n block (home_of s) old.image (set mid.image place block))
    (two : (after : Index) → IsTrue old.honest → SetsBit true n (index_in s) after
    → WritesSlotBit n after (home_of s) (set mid.image place block) (with_bitmap_block (set mid.image place block) after n))
    (names : IsTrue old.honest → (i lbn : ℕ) → slice_get (blocks_named block) i ≡ Some lbn
    → ((volume_of (set mid.image place block) (home_of s)).free lbn ≡ false) × (image_block (set mid.image place block) lbn ≡ zero_block))
  where
    abbrev home : HomeFields
    home = home_of s

    abbrev first : Image
    first = set mid.image place block

    header-orderly : IsTrue old.honest → IsOrderlyWrite home old.image first
    header-orderly honest =
        subst (IsOrderlyWrite home old.image) (sym ((slot honest).written block))
        (unused-orderly old.image home (for.sound honest) n block some (slot honest).least.high (slot honest).least.unused)

    pub unwritten-order : (new : Disk) → (new ≡ with_transfer false mid) ⊎ (new ≡ with_transfer false (with_block_at place block mid))
        → WritesInOrder mid new
    unwritten-order = block-failed-order home old mid counts for.sound place block header-orderly

    module _ (wrote : Disk) (landed : wrote ≡ with_transfer true (with_block_at place block mid)) where
      pub written-order : WritesInOrder mid wrote
      written-order = block-order home old mid counts for.sound place block header-orderly wrote landed

      was-honest : IsTrue wrote.honest → IsTrue old.honest
      was-honest honest = sym counts.honest ∙ (ap (λ (d : Disk). d.honest) (sym landed) ∙ honest)

      image-one : wrote.image ≡ first
      image-one = ap (λ (d : Disk). d.image) landed

      index-one : IsTrue old.honest → index_in s ≡ index_of first home
      index-one honest = (for.keeps honest).index_is ∙ sym (one honest).index_file.index

      bit-orderly : (honest : IsTrue old.honest) (after : Index) → SetsBit true n (index_of first home) after
          → WritesSlotBit n after home first (with_bitmap_block first after n) × IsOrderlyWrite home first (with_bitmap_block first after n)
      unfolding table_in
      bit-orderly honest after bit =
          let kept = two after honest (subst (λ (x : Index). SetsBit true n x after) (sym (index-one honest)) bit) in
          let same = (one honest).index_file.index in
          let here = (one honest).index_file.header in (
            kept,
            entered-orderly first home (one honest).slot.sound n after kept some
                (subst (λ (x : Index). n ≤ slots x) (sym same) (slot honest).least.high)
                (ap (λ (x : Index). is_in_use x n) same ∙ (slot honest).least.unused)
                (subst (λ (b : List ℕ). IsHeader b n) (sym here) valid)
                (λ i lbn at. inr (names honest i lbn (ap (λ (b : List ℕ). slice_get (blocks_named b) i) (sym here) ∙ at))) bit,
          )

      pub entered-order : (done : Disk) {most faults : ℕ} → n ≤ slots (index_in s)
          → Went (HasBitWritten true n (index_in s) wrote.image) wrote done most faults → WritesInOrder wrote done
      entered-order done few went =
          order-bit true n (index_in s) wrote done home
          (λ honest. subst (λ (i : Image). HasSoundVolume i home) (sym image-one) (one (was-honest honest)).slot.sound)
          (λ honest. subst (λ (i : Image). index_in s ≡ index_of i home) (sym image-one) (index-one (was-honest honest))) some few
          (λ honest after. subst (λ (i : Image). SetsBit true n (index_of i home) after
          → WritesSlotBit n after home i (with_bitmap_block i after n) × IsOrderlyWrite home i (with_bitmap_block i after n))
          (sym image-one)
          (bit-orderly (was-honest honest) after)) went
