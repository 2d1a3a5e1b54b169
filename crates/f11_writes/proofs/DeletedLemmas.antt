-- A file is deleted, in three writes.
use Rattle.std.proofs.Common.{◌≡◌, ◌≢◌, ℕ, ◌+◌, ◌-◌, ◌<◌, ◌≤◌, true, false, List, Some, sym, ap, subst, ◌∙◌, arith}
use Rattle.std.specs.List.{slice_get}
use Rattle.f11_bits.specs.Bitmap.{Bitmap, Marks}
use Rattle.f11_dev.specs.Image.{Image}
use Rattle.f11_volume.specs.header.Fields.{file_number}
use Rattle.f11_volume.specs.home.Home.{HomeFields}
use Rattle.f11_index.specs.Calls.{SetsBit, with_bitmap_block}
use Rattle.f11_index.specs.Growth.{with_header}
use Rattle.f11_index.specs.IndexFile.{Index, index_of}
use Rattle.f11_index.specs.Table.{Table, table_of, IsLive, IsDeadSlot, IsFile, IsHeaderOf, first}
use Rattle.f11_index.proofs.BitLemmas.{SetsBit-in_use}
use Rattle.f11_index.proofs.HeadersLemmas.{chained-apart}
use Rattle.f11_index.proofs.PlaceLemmas.{range-slice_get}
use Rattle.f11_index.proofs.WalkLemmas.{in_use-within}
use Rattle.f11_volume.specs.Sound.{HasSoundVolume}
use Rattle.f11_volume.specs.Space.{storage_bitmap}
use Rattle.f11_volume.specs.Volume.{volume_of, IsNamed}
use Rattle.f11_volume.proofs.FileLemmas.{image-files}
use Rattle.f11_writes.specs.Kept.{file_in, KeepsButFree, WritesHeader, WritesSlotBit}
use Rattle.f11_writes.specs.Worked.{MayDelete, DeletesFile}
use Rattle.f11_writes.proofs.BitLemmas.{clear-keeps}
use Rattle.f11_writes.proofs.BitmapLemmas.{free-keeps}
use Rattle.f11_writes.proofs.HeaderLemmas.{kill-keeps}
use Rattle.f11_writes.proofs.NameLemmas.{lost-unnamed}
use Rattle.f11_writes.proofs.OtherSlotLemmas.{file-kept}

module _ (old freed : Image) (home : HomeFields) (n lbn count : ℕ) (dead : List ℕ) (after : Index) (is : HasSoundVolume old home)
    (short : MayDelete (table_of old home) n lbn count dead)
    (marks : Marks true (storage_bitmap old home) lbn count (with_header old home n dead) freed)
    (bit : SetsBit false n (index_of old home) after) where
  abbrev t : Table
  t = table_of old home

  -- the header was killed
  abbrev killed : Image
  killed = with_header old home n dead

  one : WritesHeader n dead home old killed
  one = kill-keeps old home is n dead short.late (in_use-within old home n short.file.live.in_use).1 short.is_dead (λ m in_file goes.
      let first_segment = short.file.first in omega (arith, first_segment, goes.segment))

  dead-now : file_number ((table_of killed home).header n) ≡ 0
  dead-now = ap file_number one.index_file.header ∙ short.is_dead

  not-live : ¬ IsLive (table_of killed home) n
  not-live live = omega (arith, dead-now, live.valid.number, short.late)

  -- so its blocks are named by none
  unnamed : (k : ℕ) → lbn ≤ k → k < lbn + count → ¬ IsNamed (table_of killed home) k
  unfolding volume_of
  unnamed k low high =
      let place : lbn + (k - lbn) ≡ k = omega (arith, low) in
      lost-unnamed (volume_of old home) (volume_of killed home) n (k - lbn) k is.sound one.slot.others
      (record {
        live = short.file.live;
        names = ap (λ (xs : List ℕ). slice_get xs (k - lbn)) short.blocks ∙ range-slice_get lbn count (k - lbn) (omega (arith, low, high))
            ∙ ap Some place;
      })
      (λ i cell. not-live cell.live)

  -- they were marked free
  two : KeepsButFree home killed freed
  two =
      free-keeps killed freed home lbn count one.slot.sound
      (subst (λ (b : Bitmap). Marks true b lbn count killed freed) (sym one.slot.bitmap) marks) unnamed

  -- the bit was cleared
  abbrev cleared : Image
  cleared = with_bitmap_block freed after n

  dead-slot : IsDeadSlot (table_of freed home) n
  dead-slot =
      subst (λ (u : Table). IsDeadSlot u n) (sym two.index_file.table)
      (record { in_use = (λ i. one.in_use i n) ∙ short.file.live.in_use; dead = dead-now })

  three : WritesSlotBit n after home freed cleared
  three = clear-keeps freed home n after two.sound dead-slot
      (subst (λ (x : Index). SetsBit false n x after) (sym (two.index_file.index ∙ one.index_file.index)) bit)

  others-same : (g : ℕ) → IsFile t g → g ≢ n → 3 ≤ g → file_in home g cleared ≡ file_in home g old
  others-same g was other late =
      let away : ¬ IsHeaderOf t g n = λ of. other (chained-apart (image-files old home is).chained of (first short.file)) in
      let kept = file-kept t (table_of killed home) n g one.slot.others ((image-files old home is).each g was).whole away in
      let away-now : ¬ IsHeaderOf (table_of killed home) g n = λ of. away ((kept.1 n).0 of) in
      let in-freed : IsFile (table_of freed home) g = subst (λ (u : Table). IsFile u g) (sym two.index_file.table) kept.0.file in
      let away-freed : ¬ IsHeaderOf (table_of freed home) g n = λ of.
      away-now (subst (λ (u : Table). IsHeaderOf u g n) two.index_file.table of) in
      let last = file-kept (table_of freed home) (table_of cleared home) n g three.slot.others
      ((image-files freed home two.sound).each g in-freed).whole away-freed in
      let not_one : g ≢ 1 = λ same. omega (arith, same, late) in
      three.slot.files g last.0.file not_one (λ of. away-freed ((last.1 n).0 of))
      ∙ two.files g kept.0.file (λ same. omega (arith, same, late))
      ∙ one.slot.files g kept.0.file not_one away-now

  not-in-use : (table_of cleared home).in_use n ≡ false
  not-in-use =
      let slot = in_use-within old home n short.file.live.in_use in
      (λ i. (three.index_file.table i).in_use n) ∙ SetsBit-in_use false n (index_of old home) after slot.0 slot.1 bit

  pub deletes-file : DeletesFile n dead after home old freed
  deletes-file =
      record {
        killed = one.slot.sound;
        given = two.sound;
        cleared = three.slot.sound;
        gone = λ file. let used = sym not-in-use
            ∙ file.live.in_use in cc;
        others = others-same;
      }
