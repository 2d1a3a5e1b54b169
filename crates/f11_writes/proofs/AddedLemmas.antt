-- A block of zeros is added to a file, in three writes.
use Rattle.std.proofs.Common.{◌≡◌, ◌≢◌, ℕ, ◌<◌, ◌≤◌, true, false, List, [], ◌∷◌, ◌++◌, length, map, sym, ap, subst, ◌∙◌, inl, inr, arith}
use Rattle.std.specs.List.{range_with_len}
use Rattle.std.proofs.lemmas.Bool.{cases_lt}
use Rattle.std.proofs.lemmas.List.{map-append, get_or-set_same}
use Rattle.f11_bytes.specs.Block.{zero_block}
use Rattle.f11_bits.specs.Bitmap.{is_free, Marks}
use Rattle.f11_bits.proofs.BitmapLemmas.{is_free-past}
use Rattle.f11_dev.specs.Image.{Image}
use Rattle.f11_volume.specs.header.Header.{IsHeader}
use Rattle.f11_volume.specs.header.Fields.{file_sequence}
use Rattle.f11_volume.specs.home.Home.{HomeFields}
use Rattle.f11_index.specs.ChangeLaws.{IsAsGood}
use Rattle.f11_volume.specs.map.HeaderBlock.{segment_number, link_of, blocks_named}
use Rattle.f11_index.specs.Table.{Table, table_of, IsFile, IsHeaderOf, IsWholeFile}
use Rattle.f11_index.proofs.ChainLemmas.{file_of-header, live_of-header}
use Rattle.f11_index.proofs.HeadersLemmas.{chained-apart}
use Rattle.f11_index.proofs.UpLemmas.{header-up}
use Rattle.f11_volume.specs.chain.FileHeaders.{file_blocks}
use Rattle.f11_volume.specs.chain.Laws.{HasMore}
use Rattle.f11_volume.proofs.chain.ChangeLemmas.{has-more}
use Rattle.f11_volume.specs.store.File.{File}
use Rattle.f11_volume.specs.Contents.{block_or_zeros}
use Rattle.f11_volume.specs.Sound.{HasSoundVolume}
use Rattle.f11_volume.specs.Space.{storage_bitmap}
use Rattle.f11_volume.specs.Volume.{Volume, volume_of, IsNamed}
use Rattle.f11_volume.proofs.FileLemmas.{image-files, volume-within, file-blocks-are}
use Rattle.f11_writes.specs.Kept.{file_in, KeepsFiles, KeepsButFree, WritesHeader}
use Rattle.f11_writes.specs.NameLaws.{AreUnreferenced}
use Rattle.f11_writes.specs.Volumes.{MayName, MayBecome, links_to_none}
use Rattle.f11_writes.specs.Worked.{NamesOneMore, zeroed, with_block_added, AddsBlock}
use Rattle.f11_writes.proofs.BitmapLemmas.{used-keeps}
use Rattle.f11_writes.proofs.HeaderLemmas.{file-rewrite-keeps}
use Rattle.f11_writes.proofs.NameLemmas.{taken-unreferenced, more-names}
use Rattle.f11_writes.proofs.OtherLemmas.{unnamed-keeps}
use Rattle.f11_writes.proofs.OtherSlotLemmas.{file-kept, stay-before, stay-up-to}

module _ (old marked : Image) (home : HomeFields) (f n lbn : ℕ) (header : List ℕ) (is : HasSoundVolume old home)
    (may : NamesOneMore (table_of old home) f n lbn header)
    (free : is_free old (storage_bitmap old home) lbn ≡ true) (marks : Marks false (storage_bitmap old home) lbn 1 old marked) where
  abbrev t : Table
  t = table_of old home

  within : lbn < (storage_bitmap old home).size
  within = elim (cases_lt lbn (storage_bitmap old home).size) [
    | inl below ↦ below
    | inr past ↦ let used = sym free ∙ is_free-past old (storage_bitmap old home) lbn past in cc
  ]

  -- the block was marked
  one : KeepsButFree home old marked
  one = used-keeps old marked home lbn 1 is marks

  unreferenced : AreUnreferenced (volume_of marked home) lbn 1
  unreferenced = taken-unreferenced old marked home lbn 1 is marks (omega (arith, within)) (λ k low high.
      let same : k ≡ lbn = omega (arith, low, high) in ap (is_free old (storage_bitmap old home)) same ∙ free)

  unnamed : ¬ IsNamed (table_of marked home) lbn
  unfolding volume_of
  unnamed = unreferenced.unnamed lbn (omega arith) (omega arith)

  -- zeros were written
  abbrev second : Image
  second = zeroed marked lbn

  two : KeepsFiles home marked second
  two = unnamed-keeps marked home one.sound lbn zero_block unnamed

  headers-same : table_of second home ≡ t
  headers-same = two.keeps.index_file.table ∙ one.index_file.table

  fits : NamesOneMore (table_of second home) f n lbn header
  fits = subst (λ (u : Table). NamesOneMore u f n lbn header) (sym headers-same) may

  becomes : MayBecome (volume_of second home) n header
  unfolding volume_of
  becomes =
      let v = volume_of second home in
      let also = subst (λ (w : Volume). AreUnreferenced w lbn 1) (sym two.keeps.volume) unreferenced in
      record {
        valid = may.good.valid;
        good = λ live. fits.good;
        names = subst (MayName v n) (sym fits.names) (more-names v n lbn 1 two.keeps.sound.sound (live_of-header fits.last.of) also);
        link = links_to_none may.no_link;
      }

  -- the header was written
  abbrev third : Image
  third = with_block_added marked home n lbn header

  three : WritesHeader n header home second third
  three = file-rewrite-keeps second home two.keeps.sound n header f may.late fits.last.of becomes

  abbrev t2 : Table
  t2 = table_of second home

  abbrev u : Table
  u = table_of third home

  here : u.header n ≡ header
  here = three.index_file.header

  more : HasMore f (range_with_len lbn 1) t2 u
  more =
      has-more t2 u f n fits.last.of fits.few (stay-before t2 u f n three.slot.others) fits.last.no_link (range_with_len lbn 1)
      (ap (λ (b : List ℕ). (link_of b).number) here ∙ may.no_link) (ap blocks_named here ∙ fits.names)

  good-now : IsAsGood t2 u n
  good-now = record {
    in_use = (λ i. three.in_use i n) ∙ (live_of-header fits.last.of).in_use;
    valid = subst (λ (b : List ℕ). IsHeader b n) (sym here) may.good.valid;
    sequence = ap file_sequence here ∙ fits.good.sequence;
    segment = ap segment_number here ∙ fits.good.segment;
  }

  of-now : IsHeaderOf u f n
  of-now = header-up t2 u f fits.last.of (stay-up-to t2 u f n fits.last.of three.slot.others good-now)

  whole-before : (g : ℕ) → IsFile t2 g → IsWholeFile t2 g
  whole-before g file = ((image-files second home two.keeps.sound).each g file).whole

  zeros : map (block_or_zeros second) (range_with_len lbn 1) ≡ zero_block ∷ []
  unfolding volume_of
  zeros =
      let below : lbn < length marked = omega (arith, within, ap (λ b. b.size) one.bitmap, volume-within marked home one.sound) in
      ap (λ (b : List ℕ). b ∷ []) (get_or-set_same marked lbn zero_block zero_block below)

  file-longer : (file_in home f third).blocks ≡ (file_in home f old).blocks ++ zero_block ∷ []
  file-longer =
      let file = file_of-header fits.last.of in
      let was = subst (λ (w : Table). IsFile w f) headers-same file in
      let before = sym (file-blocks-are second t2 f (whole-before f file))
      ∙ ap (λ (x : File). x.blocks) (two.files f (subst (λ (w : Table). IsFile w f) (sym one.index_file.table) was)
      ∙ one.files f was (λ same. omega (arith, same, may.late))) in
      three.slot.contents f (file_of-header of-now) (λ same. omega (arith, same, may.late))
      ∙ ap (map (block_or_zeros second)) more.blocks
      ∙ map-append (block_or_zeros second) (file_blocks t2 f) (range_with_len lbn 1)
      ∙ ap (λ (bs : List (List ℕ)). bs ++ map (block_or_zeros second) (range_with_len lbn 1)) before
      ∙ ap (λ (bs : List (List ℕ)). (file_in home f old).blocks ++ bs) zeros

  others-same : (g : ℕ) → IsFile t g → g ≢ f → 3 ≤ g → file_in home g third ≡ file_in home g old
  others-same g was other late =
      let file = subst (λ (w : Table). IsFile w g) (sym headers-same) was in
      let away : ¬ IsHeaderOf t2 g n = λ of. other (chained-apart (image-files second home two.keeps.sound).chained of fits.last.of) in
      let kept = file-kept t2 u n g three.slot.others (whole-before g file) away in
      three.slot.files g kept.0.file (λ same. omega (arith, same, late)) (λ of. away ((kept.1 n).0 of))
      ∙ two.files g (subst (λ (w : Table). IsFile w g) (sym one.index_file.table) was)
      ∙ one.files g was (λ same. omega (arith, same, late))

  pub adds-block : AddsBlock f n lbn header home old marked
  adds-block = record { first = one.sound; second = two.keeps.sound; third = three.slot.sound; file = file-longer; others = others-same }
