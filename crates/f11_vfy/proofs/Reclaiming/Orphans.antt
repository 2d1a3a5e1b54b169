-- Orphans that are killed one after another.
use Rattle.std.proofs.Common.{◌≡◌, ◌+◌, ◌<◌, ◌≤◌, ℕ, Bool, true, false, IsTrue, [], List, length, Some, inl, inr, set, refl, sym, ap, subst}
use Rattle.std.proofs.Common.{◌∙◌}
use Rattle.std.proofs.Common.{arith}
use Rattle.std.specs.List.{slice_get}
use Rattle.std.specs.Prelude.{Contains}
use Rattle.std.proofs.lemmas.Bool.{both_ways, cases_eq}
use Rattle.f11_bits.specs.Bitmap.{KeepsBitmap}
use Rattle.f11_dev.specs.Disk.{Disk}
use Rattle.f11_dev.specs.Image.{Image}
use Rattle.f11_dev.specs.Went.{Went}
use Rattle.f11_dev.proofs.LookedLemmas.{looked_none}
use Rattle.f11_dev.proofs.WentLemmas.{went_looked, went_more, went_weaker, went_within}
use Rattle.f11_header.specs.Header.{IsDead, IsHeader}
use Rattle.f11_header.specs.Writing.{dead_header}
use Rattle.f11_home.specs.Home.{HomeFields}
use Rattle.f11_index.specs.Growth.{with_header}
use Rattle.f11_index.specs.IndexFile.{Index, index_of, slots, header_lbn}
use Rattle.f11_index.specs.Table.{Table, table_of, IsLive}
use Rattle.f11_index.proofs.HeadersLemmas.{live-some}
use Rattle.f11_image_store.specs.SlotLaws.{IsFileless}
use Rattle.f11_image_store.proofs.ConfinesLemmas.{header-apart, spares-other}
use Rattle.f11_image_store.proofs.FreeingLemmas.{dead-sequence, orphan-killed, wrote}
use Rattle.f11_image_store.proofs.InstanceLemmas.{blocks-but}
use Rattle.f11_map.specs.HeaderBlock.{blocks_named}
use Rattle.f11_vfy.specs.Chain.{IsFit}
use Rattle.f11_vfy.specs.Frames.Earlier.{Puts}
use Rattle.f11_vfy.specs.Reclaiming.Moments.{any_header, IsReclaiming, KeepsPlaces, Where, Moment}
use Rattle.f11_vfy.specs.Reclaiming.Slots.{CountsUpTo, IsOrphan, IsOfOrphan, as_it_was, killed_orphan, none, such, other}
use Rattle.f11_vfy.specs.Reclaiming.Steps.{HasDead, KillsHeader, FailsToKill, IsShown, HasKilledUpTo, KillsOrphans}
use Rattle.f11_vfy.specs.Reclaiming.Steps.{FailsToKillOrphans}
use Rattle.f11_vfy.specs.Scanning.Reading.{ShowsVolume}
use Rattle.f11_vfy.specs.Surveying.Bits.{has}
use Rattle.f11_vfy.specs.Surveying.Extensions.{IsExtension, extensions_to}
use Rattle.f11_vfy.specs.declared.findings.reading.Reading.{Reading}
use Rattle.f11_vfy.specs.declared.survey.bits.Bits.{Bits}
use Rattle.f11_vfy.specs.declared.survey.extensions.Extensions.{Extensions}
use Rattle.f11_vfy.proofs.Frames.Earlier.{puts-none, puts-then, puts-same}
use Rattle.f11_vfy.proofs.Reclaiming.Files.{killed-keeps, next-same, next-live, killed-other, killed-more, in-old}
use Rattle.f11_vfy.proofs.Reclaiming.Order.{order-kept}
use Rattle.f11_vfy.proofs.Reclaiming.Places.{places-none, places-then, places-same, reclaiming-then}
use Rattle.f11_vfy.proofs.Reclaiming.Storage.{storage-then, storage-write, past-kept}
use Rattle.f11_vfy.proofs.Scanning.Reading.{table-slots}
use Rattle.f11_vfy.proofs.Surveying.Extensions.{extension-at, extension-counted, extension-passed, orphan-extension}
use Rattle.f11_volume.specs.Space.{storage_bitmap}
use Rattle.f11_volume.specs.Volume.{Volume, volume_of}
use Rattle.f11_image_store.specs.writes.Kept.{WritesHeader}
use Rattle.f11_image_store.proofs.writes.SlotLemmas.{header-placed-at}

-- what a reading tells of each volume that it is of
shown-is : (P : Table → Type 0) (index : Index) (r : Reading) (e : Extensions) (home : HomeFields) (image : Image)
    → IsShown index r e home image
    → ((v : Volume) → ShowsVolume v r → P v.table)
    → P (table_of image home)
unfolding volume_of
shown-is P index r e home image shown is = is (volume_of image home) shown.shows

fit-is : (index : Index) (r : Reading) (e : Extensions) (home : HomeFields) (image : Image) → IsShown index r e home image
    → IsFit (table_of image home)
fit-is index r e home image shown = shown-is IsFit index r e home image shown (λ v shows. shows.fit)

-- none so far
pub orphans-none : (index : Index) (r : Reading) (e : Extensions) (unreferenced : Bits) (disk : Disk)
    → KillsOrphans index r e 0 unreferenced unreferenced disk disk
orphans-none index r e unreferenced disk = record {
  kills = λ honest home shown. record {
    storage = λ i within. refl;
    places = places-none home disk.image shown.sound;
    index = refl;
    table = record {
      slots = refl;
      in_use = refl;
      killed = λ m within orphan. let some = live-some orphan.live in absurd (omega (arith, within, some));
      others = λ m some few but. refl;
    };
    puts = puts-none (IsOfOrphan (table_of disk.image home) 0) unreferenced
        (λ lbn of. let some = live-some of.orphan.live in omega (arith, of.within, some));
  };
  count = 0;
  counts = λ honest home shown. none;
  went = went_within (Moment (IsShown index r e) disk) (went_looked (Moment (IsShown index r e) disk) (looked_none disk)) (omega arith);
}

module _ (index : Index) (r : Reading) (e : Extensions) (k : ℕ) (before mid : Bits) (old now : Disk)
    (so_far : KillsOrphans index r e k before mid old now)
    (low : k + 1 ≤ slots index) where
  -- the next header is no orphan
  pub orphans-other : ((v : Volume) → ShowsVolume v r → ¬ IsOrphan v.table (k + 1)) → KillsOrphans index r e (k + 1) before mid old now
  orphans-other none_here = record {
    kills = λ honest home shown.
        let so = so_far.kills honest home shown in
        let t : Table = table_of old.image home in
        let here : ¬ IsOrphan t (k + 1) = shown-is (λ u. ¬ IsOrphan u (k + 1)) index r e home old.image shown none_here in
        record {
          places = so.places;
          index = so.index;
          storage = so.storage;
          table = killed-other k t (table_of now.image home) (fit-is index r e home old.image shown) so.table here;
          puts = puts-same (IsOfOrphan t k) (IsOfOrphan t (k + 1)) before mid so.puts
              (λ lbn of. record { header = of.header; within = omega (arith, of.within); orphan = of.orphan; names = of.names })
              (λ lbn below of. record {
                header = of.header;
                within = elim (cases_eq of.header (k + 1)) [
                  | inl same ↦ absurd (here (subst (IsOrphan t) same of.orphan))
                  | inr apart ↦ omega (arith, of.within, apart)
                ];
                orphan = of.orphan;
                names = of.names;
              });
        };
    count = so_far.count;
    counts = λ honest home shown. other k so_far.count (so_far.counts honest home shown)
        (shown-is (λ u. ¬ IsOrphan u (k + 1)) index r e home old.image shown none_here);
    went = so_far.went;
  }

  -- or it is one, whose block is this
  module _ (is_orphan : (v : Volume) → ShowsVolume v r → IsOrphan v.table (k + 1)) (said : List ℕ)
      (said_is : Where (IsShown index r e) old (λ home. said ≡ (table_of old.image home).header (k + 1))) where
    module _ (honest : IsTrue old.honest) (home : HomeFields) (shown : IsShown index r e home old.image) where
      abbrev t : Table
      t = table_of old.image home

      abbrev u : Table
      u = table_of now.image home

      orphan : IsOrphan t (k + 1)
      orphan = shown-is (λ x. IsOrphan x (k + 1)) index r e home old.image shown is_orphan

      so : HasKilledUpTo k before mid home old.image now.image
      so = so_far.kills honest home shown

      fit : IsFit t
      fit = fit-is index r e home old.image shown

      few : k + 1 ≤ t.slots
      few =
          let count = ap slots shown.index_is in let same = table-slots old.image (index_of old.image home) in
          omega (arith, low, count, same)

      index-is : index ≡ index_of now.image home
      index-is = shown.index_is ∙ sym so.index

      said-now : said ≡ u.header (k + 1)
      said-now = said_is honest home shown ∙ sym (next-same k t u fit so.table few)

      live : IsLive u (k + 1)
      live = next-live k t u fit so.table few orphan

      valid : IsHeader said (k + 1)
      valid = subst (λ (b : List ℕ). IsHeader b (k + 1)) (sym said-now) live.valid

      fileless : IsFileless u (k + 1)
      fileless f of = orphan.of_none (in-old t u (killed-keeps k t u fit so.table) (k + 1) (record { file = f; of = of }))

      abbrev block : List ℕ
      block = dead_header (u.header (k + 1))

      abbrev killed : Image
      killed = with_header now.image home (k + 1) block

      module _ (dead : IsDead block) where
        writes : WritesHeader (k + 1) block home now.image killed
        writes = wrote now.image home (k + 1) so.places.reclaiming.freeing.sound block live fileless dead (dead-sequence (u.header (k + 1)))

        storage : KeepsBitmap (storage_bitmap now.image home) now.image killed
        storage =
            let sound = so.places.reclaiming.freeing.sound in
            let few_now = ap slots index-is in
            storage-write now.image home (header_lbn (index_of now.image home) (k + 1)) block sound
            (header-placed-at now.image home (k + 1) sound.framed.indexed.file (omega arith) (omega (arith, low, few_now)))

        reclaiming : IsReclaiming home now.image killed
        reclaiming = record {
          freeing = orphan-killed now.image home (k + 1) so.places.reclaiming.freeing.sound block live fileless dead
              (dead-sequence (u.header (k + 1)));
          spares =
              spares-other any_header (index_of now.image home) (storage_bitmap now.image home) [] now.image
              (header_lbn (index_of now.image home) (k + 1)) block
              (λ l none out. header-apart any_header (index_of now.image home) (storage_bitmap now.image home) (k + 1)
              (header_lbn (index_of now.image home) (k + 1))
              refl (omega arith) (let count = ap slots index-is in omega (arith, low, count)) refl l none);
          headers = λ m some within. elim (cases_eq m (k + 1)) [
            | inl here ↦
                killed_orphan (subst (IsOrphan u) (sym here) (record { live = live; of_none = λ within. fileless within.file within.of }))
                (ap (table_of killed home).header here ∙ writes.index_file.header ∙ ap (λ (x : ℕ). dead_header (u.header x)) (sym here))
            | inr apart ↦ as_it_was ((blocks-but now.image killed home (k + 1) block writes).header m some within apart)
          ];
          left = λ m used gone. absurd (both_ways _ gone (ap (λ (f : ℕ → Bool). f m) writes.in_use ∙ used));
          past = past-kept (storage_bitmap now.image home) now.image killed storage;
          order = order-kept home now.image killed writes.index_file.index storage;
        }

        places : KeepsPlaces home now.image killed
        places = places-same home now.image killed reclaiming writes.index_file.index writes.slot.bitmap

        more : (after : Bits) → Puts (Contains (blocks_named said)) mid after → HasKilledUpTo (k + 1) before after home old.image killed
        more after puts = record {
          places = places-then home old.image now.image killed so.places places;
          index = writes.index_file.index ∙ so.index;
          storage = storage-then old.image now.image killed home so.places.bitmap so.storage storage;
          table = killed-more k t u fit so.table (table_of killed home) block writes.in_use
              (blocks-but now.image killed home (k + 1) block writes) writes.index_file.header dead orphan;
          puts =
              let same : said ≡ t.header (k + 1) = said_is honest home shown in
              puts-then (IsOfOrphan t k) (Contains (blocks_named said)) (IsOfOrphan t (k + 1)) before mid after so.puts puts
              (λ lbn of. record { header = of.header; within = omega (arith, of.within); orphan = of.orphan; names = of.names })
              (λ lbn has. record {
                header = k + 1;
                within = omega arith;
                orphan = orphan;
                names = subst (λ (b : List ℕ). Contains (blocks_named b) lbn) same has;
              })
              (λ lbn of. elim (cases_eq of.header (k + 1)) [
                | inl here ↦ inr (subst (λ (b : List ℕ). Contains (blocks_named b) lbn) (ap t.header here ∙ sym same) of.names)
                | inr apart ↦ inl (record {
                  header = of.header;
                  within = omega (arith, of.within, apart);
                  orphan = of.orphan;
                  names = of.names;
                })
              ]);
        }

      -- an image in which it is dead
      dead-block : (image : Image) → HasDead index (k + 1) said now.image image → IsDead block
      dead-block image is = subst (λ (b : List ℕ). IsDead (dead_header b)) said-now is.dead

      dead-image : (image : Image) → HasDead index (k + 1) said now.image image → image ≡ killed
      dead-image image is =
          is.image_is ∙ ap (λ (x : Index). set now.image (header_lbn x (k + 1)) (dead_header said)) index-is
          ∙ ap (λ (b : List ℕ). set now.image (header_lbn (index_of now.image home) (k + 1)) (dead_header b)) said-now

      stands : (image : Image) → HasDead index (k + 1) said now.image image → IsReclaiming home old.image image
      stands image is =
          reclaiming-then home old.image now.image image so.places
          (subst (IsReclaiming home now.image) (sym (dead-image image is)) (reclaiming (dead-block image is)))

    count-more : (honest : IsTrue old.honest) (home : HomeFields) (shown : IsShown index r e home old.image)
        → CountsUpTo (IsOrphan (table_of old.image home)) (k + 1) (so_far.count + 1)
    count-more honest home shown = such k so_far.count (so_far.counts honest home shown) (orphan honest home shown)

    abbrev P : Image → Type 0
    P = Moment (IsShown index r e) old

    went-on : (new : Disk) (faults : ℕ) → Went (HasDead index (k + 1) said now.image) now new 1 faults
        → Went P old new (so_far.count + 1) faults
    went-on new faults went =
        went_more P so_far.went
        (went_weaker (HasDead index (k + 1) said now.image) P (λ image has honest home shown. stands honest home shown image has) went)

    pub orphans-more : (after : Bits) (new : Disk) → KillsHeader index (k + 1) said mid after now new
        → KillsOrphans index r e (k + 1) before after old new
    orphans-more after new did = record {
      kills = λ honest home shown.
          let is = did.killed (valid honest home shown) in
          subst (HasKilledUpTo (k + 1) before after home old.image) (sym (dead-image honest home shown new.image is))
          (more honest home shown (dead-block honest home shown new.image is) after (did.puts (valid honest home shown)));
      count = so_far.count + 1;
      counts = count-more;
      went = went-on new 0 did.went;
    }

    pub orphans-fail : (new : Disk) → FailsToKill index (k + 1) said now new → FailsToKillOrphans index r e (slots index) old new
    orphans-fail new fails = record {
      upto = k + 1;
      within = low;
      count = so_far.count + 1;
      counts = count-more;
      went = went-on new 1 fails;
    }

-- the block that was kept next is that of the next extension header
module _ (index : Index) (r : Reading) (e : Extensions) (k next : ℕ) (old : Disk)
    (counted : Where (IsShown index r e) old (λ home. next ≡ length (extensions_to (table_of old.image home) k))) where
  pub next-block : (block : List ℕ) → k + 1 ≤ slots index → ((v : Volume) → ShowsVolume v r → IsExtension v.table (k + 1))
      → ((b : List ℕ) → slice_get e.blocks.items next ≡ Some b → block ≡ b)
      → Where (IsShown index r e) old (λ home. block ≡ (table_of old.image home).header (k + 1))
  next-block block low is_one gives honest home shown =
      let t : Table = table_of old.image home in
      let few : k < t.slots =
      let count = ap slots shown.index_is in let same = table-slots old.image (index_of old.image home) in
      omega (arith, low, count, same) in
      gives (t.header (k + 1))
      (ap (λ (i : ℕ). slice_get e.blocks.items i) (counted honest home shown)
      ∙ ap (λ (xs : List (List ℕ)). slice_get xs (length (extensions_to t k))) shown.extensions
      ∙ extension-at t k t.slots (shown-is (λ x. IsExtension x (k + 1)) index r e home old.image shown is_one) few)

  -- and then it is counted
  pub next-counted : ((v : Volume) → ShowsVolume v r → IsExtension v.table (k + 1))
      → Where (IsShown index r e) old (λ home. next + 1 ≡ length (extensions_to (table_of old.image home) (k + 1)))
  next-counted is_one honest home shown =
      let t : Table = table_of old.image home in
      let more = extension-counted t k (shown-is (λ x. IsExtension x (k + 1)) index r e home old.image shown is_one) in
      let so_far = counted honest home shown in
      omega (arith, more, so_far)

  pub next-passed : ((v : Volume) → ShowsVolume v r → ¬ IsExtension v.table (k + 1))
      → Where (IsShown index r e) old (λ home. next ≡ length (extensions_to (table_of old.image home) (k + 1)))
  next-passed no_one honest home shown =
      let t : Table = table_of old.image home in
      counted honest home shown ∙ sym (extension-passed t k (shown-is (λ x. ¬ IsExtension x (k + 1)) index r e home old.image shown no_one))

-- which headers are orphans, where it is known which are extension headers and which are of files
module _ (r : Reading) (n : ℕ) where
  pub no-extension : ((v : Volume) → ShowsVolume v r → ¬ IsExtension v.table n) → (v : Volume) → ShowsVolume v r → ¬ IsOrphan v.table n
  no-extension no_one v shows is_orphan = no_one v shows (orphan-extension v.table n is_orphan)

  pub in-a-file : has r.chains.in_file n ≡ true → (v : Volume) → ShowsVolume v r → ¬ IsOrphan v.table n
  in-a-file has_it v shows is_orphan = is_orphan.of_none ((shows.chains.in_file n).0 has_it)

  pub of-no-file : ((v : Volume) → ShowsVolume v r → IsExtension v.table n) → has r.chains.in_file n ≡ false → (v : Volume)
      → ShowsVolume v r → IsOrphan v.table n
  of-no-file is_one out v shows = record {
    live = (is_one v shows).live;
    of_none = λ within. both_ways _ out ((shows.chains.in_file n).1 within);
  }
