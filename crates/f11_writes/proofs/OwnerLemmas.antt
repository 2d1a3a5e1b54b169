-- Which file names a block.
use Rattle.std.proofs.Common.{◌≡◌, ℕ, ◌<◌, Some, sym, subst, arith}
use Rattle.std.specs.List.{slice_get}
use Rattle.f11_dev.specs.Image.{Image}
use Rattle.f11_volume.specs.home.Home.{HomeFields}
use Rattle.f11_volume.specs.map.HeaderBlock.{blocks_named}
use Rattle.f11_index.specs.IndexFile.{index_file_blocks}
use Rattle.f11_index.specs.Table.{Table, table_of, IsFile, IsHeaderOf}
use Rattle.f11_index.proofs.ChainLemmas.{live_of-header}
use Rattle.f11_index.proofs.HeadersLemmas.{chained-apart}
use Rattle.f11_volume.specs.chain.FileHeaders.{file_blocks}
use Rattle.f11_volume.proofs.chain.FileOneLemmas.{file-one}
use Rattle.f11_volume.specs.Earlier.{IsNamedIn}
use Rattle.f11_volume.specs.Sound.{IsSoundVolume, HasSoundVolume}
use Rattle.f11_volume.specs.Space.{bitmap_file}
use Rattle.f11_volume.specs.Volume.{Volume, volume_of, IsNamed}
use Rattle.f11_volume.proofs.FileLemmas.{sound-chained, cell-of}
use Rattle.f11_volume.proofs.MemberLemmas.{at-place, contained}
use Rattle.f11_writes.specs.Laws.{IsUnread}

module _ (v : Volume) (sound : IsSoundVolume v) where
  abbrev t : Table
  t = v.table

  -- a block of a file is named by it
  pub named-in : (f i lbn : ℕ) → IsFile t f → slice_get (file_blocks t f) i ≡ Some lbn → IsNamedIn t f lbn
  named-in f i lbn file at =
      let c = cell-of v sound f i lbn file at in (c.header, c.of, contained (blocks_named (t.header c.header)) c.place lbn c.cell.names)

  -- and by no other
  pub one-file : (f g lbn : ℕ) → IsNamedIn t f lbn → IsNamedIn t g lbn → f ≡ g
  one-file f g lbn (n, of, has) (m, also, other) =
      let same = sound.apart n has.0 m other.0 lbn
      (record { live = live_of-header of; names = at-place (blocks_named (t.header n)) lbn has })
      (record { live = live_of-header also; names = at-place (blocks_named (t.header m)) lbn other }) in
      chained-apart (sound-chained v sound) of (subst (IsHeaderOf t g) (sym same.0) also)

-- it is named
pub named-of : (t : Table) (f lbn : ℕ) → IsNamedIn t f lbn → IsNamed t lbn
named-of t f lbn (n, of, has) =
    record { header = n; place = has.0; cell = record { live = live_of-header of; names = at-place (blocks_named (t.header n)) lbn has } }

module _ (image : Image) (home : HomeFields) (is : HasSoundVolume image home) where
  abbrev table : Table
  table = table_of image home

  pub in-file : (f i lbn : ℕ) → IsFile table f → slice_get (file_blocks table f) i ≡ Some lbn → IsNamedIn table f lbn
  unfolding volume_of
  in-file = named-in (volume_of image home) is.sound

  pub owned-once : (f g lbn : ℕ) → IsNamedIn table f lbn → IsNamedIn table g lbn → f ≡ g
  unfolding volume_of
  owned-once = one-file (volume_of image home) is.sound

  -- the blocks that the volume is read from are those of its first three files
  pub in-index-file : (i lbn : ℕ) → slice_get (index_file_blocks image home) i ≡ Some lbn → IsNamedIn table 1 lbn
  in-index-file i lbn at =
      let good = is.framed.indexed.file in
      in-file 1 i lbn good.whole.file (subst (λ xs. slice_get xs i ≡ Some lbn) (sym (file-one image home good)) at)

  pub in-bitmap-file : (i lbn : ℕ) → slice_get (bitmap_file table) i ≡ Some lbn → IsNamedIn table 2 lbn
  in-bitmap-file i lbn at = in-file 2 i lbn is.framed.bitmap.sound.whole.file at

  pub unread : (lbn : ℕ) → ((f : ℕ) → f < 4 → ¬ IsNamedIn table f lbn) → IsUnread image home lbn
  unread lbn none = record {
    candidates = λ k below same. none 3 (omega arith) (subst (IsNamedIn table 3) same (is.framed.indexed.earlier k below));
    index_file = λ i at. none 1 (omega arith) (in-index-file i lbn at);
    bitmap_file = λ i at. none 2 (omega arith) (in-bitmap-file i lbn at);
  }
