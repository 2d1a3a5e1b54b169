-- What is kept of an index file is for the disk still.
use Rattle.std.proofs.Common.{◌≡◌, ℕ, ◌+◌, ◌*◌, ◌<◌, ◌≤◌, IsTrue, Bool, List, ◌++◌, length, min, set, sym, ap, subst, ◌∙◌, arith}
use Rattle.std.specs.List.{All, range_with_len}
use Rattle.std.proofs.lemmas.List.Elements.{All-append, All-take}
use Rattle.std.proofs.lemmas.List.{length-set}
use Rattle.f11_dev.specs.Disk.{Disk, with_transfer, with_block_at}
use Rattle.f11_dev.specs.Image.{Image}
use Rattle.f11_home.specs.Home.{HomeFields}
use Rattle.f11_index.specs.Calls.{SetsBit, WritesBit, bitmap_place, bitmap_block, with_blocks_behind}
use Rattle.f11_index.specs.Growth.{AddsIndexBlocks, with_header}
use Rattle.f11_index.specs.IndexFile.{Index, index_of, index_file_blocks, slots, header_lbn}
use Rattle.f11_index.specs.Kept.{IsIndexFor, IndexLiesWithin}
use Rattle.f11_index.specs.Laws.{LeadsAlike}
use Rattle.f11_index.specs.Table.{table_of, IsHeaderOf}
use Rattle.f11_index.specs.Sound.{IsIndexFile, IsNoneOf, AreApart}
use Rattle.f11_index.proofs.LawLemmas.{other_write, bit_write, header_write}
use Rattle.f11_index.proofs.PlaceLemmas.{range-below}

-- another block was written
pub IsFor-other : (index : Index) (home : HomeFields) (disk : Disk) (passed : Bool) (lbn : ℕ) (block : List ℕ)
    → (IsTrue disk.honest → IsIndexFile disk.image home × IsNoneOf lbn (index_file_blocks disk.image home)) → IsIndexFor index home disk
    → IsIndexFor index home (with_transfer passed (with_block_at lbn block disk))
IsFor-other index home disk passed lbn block apart is = record {
  within = subst (IndexLiesWithin index) (sym (length-set disk.image lbn block)) is.within;
  keeps = λ honest. is.keeps honest ∙ sym (other_write disk.image home (apart honest).0 lbn block (apart honest).1).index;
}

-- the bitmap block of a slot was written
pub IsFor-bit : (before after : Index) (home : HomeFields) (old new : Disk) (value : Bool) (n : ℕ)
    → (IsTrue old.honest → IsIndexFile old.image home × AreApart (index_file_blocks old.image home)) → 0 < n → n ≤ slots before
    → IsIndexFor before home old → WritesBit value n before after old new → IsIndexFor after home new
IsFor-bit before after home old new value n good some few is w = record {
  within = record {
    bitmap = omega (
      arith,
      size,
      is.within.bitmap,
      ap (λ (x : Index). x.bitmap_lbn) w.bit.one_block,
      ap (λ (x : Index). length x.bitmap) w.bit.one_block,
      length-set before.bitmap (bitmap_place n) (bitmap_block after n),
    );
    headers = subst (λ (k : ℕ). All (λ lbn. lbn < k) after.headers) (sym size)
        (subst (All (λ lbn. lbn < length old.image)) (sym (ap (λ (x : Index). x.headers) w.bit.one_block)) is.within.headers);
  };
  keeps = λ honest.
      let was = sym w.went.honest ∙ honest in
      let same = is.keeps was in
      let kept = bit_write old.image home (good was).0 value n after (good was).1 some (subst (λ (x : Index). n ≤ slots x) same few)
      (subst (λ (x : Index). SetsBit value n x after) same w.bit) in
      sym (ap (λ (image : Image). index_of image home) w.image ∙ kept.index_is);
}
  where
    size : length new.image ≡ length old.image
    size = ap length w.image ∙ length-set old.image (after.bitmap_lbn + bitmap_place n) (bitmap_block after n)

-- a header was written where it is
pub IsFor-header : (index : Index) (home : HomeFields) (disk : Disk) (passed : Bool) (n : ℕ) (block : List ℕ)
    → (IsTrue disk.honest → IsIndexFile disk.image home × AreApart (index_file_blocks disk.image home))
    → (IsTrue disk.honest → IsHeaderOf (table_of disk.image home) 1 n → LeadsAlike ((table_of disk.image home).header n) block)
    → 0 < n → n ≤ slots index → IsIndexFor index home disk
    → IsIndexFor index home (with_transfer passed (with_block_at (header_lbn index n) block disk))
IsFor-header index home disk passed n block good leads some few is = record {
  within = subst (IndexLiesWithin index) (sym (length-set disk.image (header_lbn index n) block)) is.within;
  keeps = λ honest.
      let same = is.keeps honest in
      let kept = header_write disk.image home (good honest).0 n block (good honest).1 some (subst (λ (x : Index). n ≤ slots x) same few)
      (leads honest) in
      same ∙ sym (ap (λ (x : Index). index_of (set disk.image (header_lbn x n) block) home) same ∙ kept.index);
}

-- the index file grew
pub IsFor-grown : (index : Index) (home : HomeFields) (disk : Disk) (passed : Bool) (n : ℕ) (block : List ℕ) (lbn count : ℕ)
    → (IsTrue disk.honest → AddsIndexBlocks home n block lbn count disk.image (with_header disk.image home n block))
    → lbn + count ≤ length disk.image → IsIndexFor index home disk
    → IsIndexFor (with_blocks_behind index lbn count) home (with_transfer passed (with_block_at (header_lbn index n) block disk))
IsFor-grown index home disk passed n block lbn count grows within is = record {
  within = record {
    bitmap = omega (arith, is.within.bitmap, size);
    headers = subst (λ (k : ℕ). All (λ l. l < k) (with_blocks_behind index lbn count).headers) (sym size)
        (All-take (λ l. l < length disk.image) (min (4096 * length index.bitmap) 65535) (index.headers ++ range_with_len lbn count)
        (All-append (λ l. l < length disk.image) index.headers (range_with_len lbn count) is.within.headers
        (range-below lbn count (length disk.image) within)));
  };
  keeps = λ honest.
      let same = is.keeps honest in
      ap (λ (x : Index). with_blocks_behind x lbn count) same ∙ sym (grows honest).index
      ∙ ap (λ (x : Index). index_of (set disk.image (header_lbn x n) block) home) (sym same);
}
  where
    size : length (set disk.image (header_lbn index n) block) ≡ length disk.image
    size = length-set disk.image (header_lbn index n) block
