-- A header that is written and entered, which is no file's yet.
use Rattle.std.proofs.Common.{◌≡◌, ◌≢◌, ◌↔◌, ◌≤◌, ℕ, true, false, List, ap, sym, subst, ◌∙◌, arith}
use Rattle.std.proofs.lemmas.Bool.{both_ways}
use Rattle.f11_dev.specs.Image.{Image}
use Rattle.f11_header.specs.Header.{IsHeader}
use Rattle.f11_volume.specs.home.Home.{HomeFields}
use Rattle.f11_index.specs.Calls.{SetsBit}
use Rattle.f11_index.specs.Growth.{with_header}
use Rattle.f11_volume.specs.map.HeaderBlock.{segment_number, link_of}
use Rattle.f11_index.specs.Headers.{IsInFile}
use Rattle.f11_index.specs.IndexFile.{Index, index_of, slots, is_in_use}
use Rattle.f11_index.specs.Table.{Table, table_in, table_of, IsNext, IsHeaderOf, IsWholeFile, first, next}
use Rattle.f11_index.proofs.BitLemmas.{SetsBit-in_use}
use Rattle.f11_index.proofs.ChainLemmas.{file_of-header, live_of-header}
use Rattle.f11_store.specs.Store.{Store}
use Rattle.f11_volume.proofs.FileLemmas.{image-files}
use Rattle.f11_volume.specs.Sound.{HasSoundVolume}
use Rattle.f11_volume.specs.Volume.{Volume, volume_of}
use Rattle.f11_writes.specs.Kept.{WritesHeader, WritesSlotBit}
use Rattle.f11_writes.specs.NameLaws.{AreUnreferenced}
use Rattle.f11_writes.specs.Volumes.{MayName, MayBecome, links_to_none}
use Rattle.f11_writes.specs.Worked.{with_new_header}
use Rattle.f11_writes.proofs.BitLemmas.{set-keeps}
use Rattle.f11_writes.proofs.HeaderLemmas.{unused-keeps}
use Rattle.f11_writes.proofs.NameLemmas.{unreferenced-names, unentered-unreferenced}
use Rattle.f11_writes.proofs.OtherSlotLemmas.{entered-unlinked, file-kept}
use Rattle.f11_image_store.specs.ExtensionLaws.{IsNewExtension, EntersExtension}
use Rattle.f11_image_store.specs.SlotLaws.{with_use, IsFileless}
use Rattle.f11_image_store.specs.StoreOf.{store_of}
use Rattle.f11_image_store.proofs.InstanceLemmas.{unused-given, fileless-set, unlive-fileless}

module _ (image : Image) (home : HomeFields) (n lbn count : ℕ) (block : List ℕ) (after : Index) (is : HasSoundVolume image home)
    (new : IsNewExtension (index_of image home) n lbn count block)
    (unreferenced : AreUnreferenced (volume_of image home) lbn count) (bit : SetsBit true n (index_of image home) after) where
  abbrev t : Table
  t = table_of image home

  unused : t.in_use n ≡ false
  unfolding table_in
  unused = new.unused

  -- the header was written
  abbrev written : Image
  written = with_header image home n block

  abbrev w : Table
  w = table_of written home

  one : WritesHeader n block home image written
  one = unused-keeps image home is n block new.some new.slot new.unused

  unused-then : w.in_use n ≡ false
  unused-then = (λ i. one.in_use i n) ∙ unused

  index-same : index_of written home ≡ index_of image home
  index-same = one.index_file.index

  becomes : MayBecome (volume_of written home) n (w.header n)
  unfolding volume_of
  becomes =
      let v : Volume = volume_of written home in
      subst (MayBecome v n) (sym one.index_file.header) (record {
        valid = new.valid;
        good = λ live. absurd (both_ways _ unused-then live.in_use);
        names = subst (MayName v n) (sym new.names)
            (unreferenced-names v n lbn count (unentered-unreferenced image written home n lbn count one.slot unreferenced unused-then));
        link = links_to_none new.no_link;
      })

  -- and its bit was set
  abbrev entered : Image
  entered = with_new_header image home n block after

  abbrev u : Table
  u = table_of entered home

  two : WritesSlotBit n after home written entered
  two = set-keeps written home n after one.slot.sound new.some
      (subst (λ (x : Index). n ≤ slots x) (sym index-same) new.slot)
      (ap (λ (x : Index). is_in_use x n) index-same ∙ new.unused) becomes
      (subst (λ (x : Index). SetsBit true n x after) (sym index-same) bit)

  here : u.header n ≡ block
  here = (λ i. (two.index_file.table i).header n) ∙ one.index_file.header

  used : u.in_use n ≡ true
  used = (λ i. (two.index_file.table i).in_use n) ∙ SetsBit-in_use true n (index_of image home) after new.some new.slot bit

  unlinked : (m : ℕ) → IsInFile u m → ¬ IsNext u m n
  unfolding volume_of
  unlinked m =
      entered-unlinked (volume_of written home) (volume_of entered home) n m one.slot.sound.sound two.slot.others unused-then
      (ap (λ (b : List ℕ). (link_of b).number) here ∙ new.no_link)

  fileless : IsFileless u n
  fileless f (first file) = let segment = ap segment_number here in omega (arith, segment, file.first, new.later)
  fileless f (next {n = m} of goes) = unlinked m (record { file = f; of = of }) goes

  not-in : (f : ℕ) → ¬ IsHeaderOf t f n
  not-in f of = both_ways _ unused (live_of-header of).in_use

  -- each header of a file is one of it still
  files : (f m : ℕ) → IsHeaderOf t f m → IsHeaderOf u f m
  files f m of =
      let before : IsWholeFile w f × ((k : ℕ) → IsHeaderOf w f k ↔ IsHeaderOf t f k) =
      file-kept t w n f one.slot.others ((image-files image home is).each f (file_of-header of)).whole (not-in f) in
      let then : IsWholeFile u f × ((k : ℕ) → IsHeaderOf u f k ↔ IsHeaderOf w f k) = file-kept w u n f two.slot.others before.0
      (λ also. not-in f ((before.1 n).0 also)) in
      (then.1 m).1 ((before.1 m).1 of)

  -- and as it was
  others : (m : ℕ) → t.in_use m ≡ true → u.header m ≡ t.header m
  others m in_use =
      let away : m ≢ n = λ same. both_ways _ (ap t.in_use same ∙ unused) in_use in
      two.slot.others.header m away (one.slot.others.in_use m away ∙ in_use) ∙ one.slot.others.header m away in_use

  pub enters-extension : EntersExtension n block after home image written entered
  unfolding table_in
  enters-extension = record {
    header = one;
    bit = two;
    store =
        fileless-set written entered home n after two (unlive-fileless w n (λ live. both_ways _ unused-then live.in_use)) fileless
        ∙ ap (with_use (store_of written home) n) used
        ∙ ap (λ (s : Store). with_use s n true) (unused-given image written home n block one new.some new.slot new.unused);
    live = record { in_use = used; valid = subst (λ (b : List ℕ). IsHeader b n) (sym here) new.valid };
    block_is = here;
    unlinked = unlinked;
    files = files;
    others = others;
  }
