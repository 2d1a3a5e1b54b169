-- What a volume has after each part of reclaiming.
use Rattle.std.proofs.Common.{◌≡◌, ◌↔◌, ◌||◌, ◌-◌, ◌*◌, ◌/◌, ◌<◌, ◌≤◌, ℕ, Bool, true, false, not, List, length, inl, inr, refl, sym, ap}
use Rattle.std.proofs.Common.{subst, ◌∙◌}
use Rattle.std.proofs.Common.{arith}
use Rattle.std.specs.List.{slice_get}
use Rattle.std.proofs.lemmas.Bool.{both_ways, cases_Bool, leb-true, le-leb}
use Rattle.f11_bits.specs.Bitmap.{Bitmap, IsBitmap, KeepsBitmap, is_free}
use Rattle.f11_bits.proofs.LawLemmas.{is_free-kept}
use Rattle.f11_dev.specs.Image.{Image}
use Rattle.f11_header.proofs.HeaderFacts.{dead-not-valid}
use Rattle.f11_home.specs.Home.{HomeFields}
use Rattle.f11_home.proofs.HomeLemmas.{home-unique}
use Rattle.f11_index.specs.Headers.{IsInFile}
use Rattle.f11_index.specs.IndexFile.{Index, index_of, slots}
use Rattle.f11_index.specs.Table.{Table, table_in, table_of, IsLive}
use Rattle.f11_index.proofs.ChainLemmas.{live_of-header}
use Rattle.f11_index.proofs.InUseLemmas.{in_use-some, in_use-slot}
use Rattle.f11_map.specs.HeaderBlock.{blocks_named}
use Rattle.f11_vfy.specs.Chain.{IsFit}
use Rattle.f11_vfy.specs.Reclaiming.Moments.{KeepsPlaces}
use Rattle.f11_vfy.specs.Reclaiming.Slots.{HasNoOrphan, UsedAreOfFiles, IsIdle}
use Rattle.f11_vfy.specs.Reclaiming.Steps.{IsShown, HasKilledUpTo, IsSwept, HasClearedUpTo, may_be_free, IsTold, HasFreedUpTo}
use Rattle.f11_vfy.specs.Reclaiming.Whole.{IsReadAs, UnnamedAreFree, HasReclaimed}
use Rattle.f11_vfy.specs.Surveying.Bits.{has, limit_of}
use Rattle.f11_vfy.specs.Surveying.Free.{IsLastBlock}
use Rattle.f11_vfy.specs.declared.findings.kept.Kept.{Kept}
use Rattle.f11_vfy.specs.declared.findings.reading.Reading.{Reading}
use Rattle.f11_vfy.specs.declared.survey.bits.Bits.{Bits}
use Rattle.f11_vfy.proofs.Reclaiming.Files.{KeepsFiles, killed-keeps, cleared-keeps, in-old, in-new}
use Rattle.f11_vfy.proofs.Reclaiming.Places.{places-then}
use Rattle.f11_vfy.proofs.Reclaiming.Space.{free-unnamed}
use Rattle.f11_vfy.proofs.Reclaiming.Storage.{storage-then}
use Rattle.f11_vfy.proofs.Scanning.Reading.{table-slots}
use Rattle.f11_vfy.proofs.Surveying.Cells.{named-some, some-named}
use Rattle.f11_volume.specs.Notes.{IsVolumeNote, IsLost, blocks_lost, header_dead, orphan, marked, not_closed, in_no_directory}
use Rattle.f11_volume.specs.Notes.{names_no_file, name_repeated, no_name, not_contiguous}
use Rattle.f11_volume.specs.Sound.{HasSoundVolume}
use Rattle.f11_volume.specs.Space.{storage_bitmap}
use Rattle.f11_volume.specs.Verdict.{IsNote}
use Rattle.f11_volume.specs.Volume.{volume_of, IsCell, IsNamed}
use Rattle.f11_volume.proofs.FileLemmas.{bitmap-is}
use Rattle.f11_volume.proofs.MemberLemmas.{at-place, contained}

-- what a test of two sets tells
unreferenced-told : (named unreferenced : Bool) → named ≡ true → (not named || unreferenced) ≡ true → unreferenced ≡ true
unreferenced-told true unreferenced is may = may
unreferenced-told false unreferenced is may = absurd cc

unnamed-may : (named unreferenced : Bool) → named ≡ false → (not named || unreferenced) ≡ true
unnamed-may false unreferenced is = refl
unnamed-may true unreferenced is = absurd cc

unreferenced-may : (named unreferenced : Bool) → unreferenced ≡ true → (not named || unreferenced) ≡ true
unreferenced-may true unreferenced is = is
unreferenced-may false unreferenced is = refl

-- a cell of a header that says the same
same-cell : (t u : Table) (m place lbn : ℕ) → IsLive u m → u.header m ≡ t.header m → IsCell t m place lbn → IsCell u m place lbn
same-cell t u m place lbn live same cell =
    record { live = live; names = ap (λ (b : List ℕ). slice_get (blocks_named b) place) same ∙ cell.names }

module _ (index : Index) (bitmap : Bitmap) (r : Reading) (kept : Kept) (home : HomeFields) (a : Image)
    (is : IsReadAs index bitmap r kept home a) where
  abbrev t : Table
  t = table_of a home

  pub shown-so : IsShown index r kept.extensions home a
  shown-so = record { sound = is.frame.sound; index_is = is.frame.index_is; shows = is.shows; extensions = is.has.extensions }

  fit : IsFit t
  unfolding volume_of
  fit = is.shows.fit

  in-files : (n : ℕ) → has r.chains.in_file n ≡ true ↔ IsInFile t n
  unfolding volume_of
  in-files = is.shows.chains.in_file

  named-is : (lbn : ℕ) → has r.survey.tally.once lbn ≡ true ↔ IsNamed t lbn
  unfolding volume_of
  named-is lbn = (
    λ has_it. named-some t fit lbn (leb-true 1 _ (sym (is.shows.surveys.shows.once lbn) ∙ has_it)),
    λ named. is.shows.surveys.shows.once lbn ∙ le-leb 1 _ (some-named t fit lbn named),
  )

  cells-apart : (n place m other lbn : ℕ) → IsCell t n place lbn → IsCell t m other lbn → n ≡ m
  unfolding volume_of
  cells-apart n place m other lbn one two = (is.frame.sound.sound.apart n place m other lbn one two).0

  pub slot-count : slots index ≡ t.slots
  slot-count = ap slots is.frame.index_is ∙ sym (table-slots a (index_of a home))

  -- the orphans were killed
  module _ (before unreferenced : Bits) (b : Image) (one : HasKilledUpTo (slots index) before unreferenced home a b) where
    abbrev u : Table
    u = table_of b home

    files-one : KeepsFiles t u
    files-one = killed-keeps (slots index) t u fit one.table

    pub no-orphan : HasNoOrphan u
    no-orphan n left =
        let was = (files-one.was n left.live).0 in
        one.table.killed n (let high = fit.high n was.in_use in omega (arith, high, slot-count))
        (record { live = was; of_none = λ within. left.of_none (in-new t u files-one n within) }) left.live

    tells-files : (n : ℕ) → has r.chains.in_file n ≡ true ↔ IsInFile u n
    tells-files n = (λ has_it. in-new t u files-one n ((in-files n).0 has_it), λ within. (in-files n).1 (in-old t u files-one n within))

    pub swept-so : IsSwept index r home b
    swept-so = record {
      sound = one.places.reclaiming.freeing.sound;
      index_is = is.frame.index_is ∙ sym one.index;
      tells = tells-files;
      no_orphan = no-orphan;
    }

    live-in : (m : ℕ) → IsLive u m → IsInFile u m
    live-in m live = elim (cases_Bool (has r.chains.in_file m)) [
      | inl has_it ↦ (tells-files m).0 has_it
      | inr out ↦ absurd (no-orphan m (record { live = live; of_none = λ within. both_ways _ out ((tells-files m).1 within) }))
    ]

    -- the idle slots are those that were
    pub idle-was : (m : ℕ) → IsIdle u m → IsIdle t m
    idle-was m idle =
        record {
          in_use = ap (λ (f : ℕ → Bool). f m) (sym one.table.in_use) ∙ idle.in_use;
          of_none = λ within.
              idle.of_none (in-new t u files-one m within);
        }

    pub was-idle : (m : ℕ) → IsIdle t m → IsIdle u m
    was-idle m idle =
        record {
          in_use = ap (λ (f : ℕ → Bool). f m) one.table.in_use ∙ idle.in_use;
          of_none = λ within.
              idle.of_none (in-old t u files-one m within);
        }

    -- the idle slots left use
    module _ (after : Index) (c : Image) (two : HasClearedUpTo (slots index) after home b c) where
      abbrev v : Table
      v = table_of c home

      files-two : KeepsFiles u v
      files-two = cleared-keeps (slots index) u v two.table

      used-in : (n : ℕ) → v.in_use n ≡ true → IsInFile v n
      unfolding table_in
      used-in n used = elim (cases_Bool (has r.chains.in_file n)) [
        | inl has_it ↦ in-new u v files-two n ((tells-files n).0 has_it)
        | inr out ↦
            let some : 0 < n = in_use-some (index_of c home) n used in
            let high : n ≤ v.slots = in_use-slot (index_of c home) n used in
            let none : ¬ IsInFile u n = λ within. both_ways _ out ((tells-files n).1 within) in
            let same = two.table.others n some (λ within idle. both_ways _ (two.table.cleared n some within idle) used) in
            let within : n ≤ slots index = omega (arith, high, slot-count, one.table.slots, two.table.slots) in
            absurd (both_ways _ (two.table.cleared n some within (record { in_use = sym same ∙ used; of_none = none })) used)
      ]

      pub files-used : UsedAreOfFiles v
      files-used n = (used-in n, λ within. (live_of-header within.of).in_use)

      may-unnamed : (before_is : (k : ℕ) → has before k ≡ false) (lbn : ℕ) → may_be_free r.survey.tally.once unreferenced lbn ≡ true
          → ¬ IsNamed v lbn
      may-unnamed before_is lbn may named =
          let two_was = files-two.was named.header named.cell.live in
          let one_was = files-one.was named.header two_was.0 in
          let cell : IsCell t named.header named.place lbn = same-cell v t named.header named.place lbn one_was.0
          (sym (two_was.1 ∙ one_was.1)) named.cell in
          let unreferenced_has = unreferenced-told _ _
          ((named-is lbn).1 (record { header = named.header; place = named.place; cell = cell })) may in
          elim (one.puts.only lbn unreferenced_has) [
            | inl was ↦ both_ways _ (before_is lbn) was
            | inr of ↦
                let other : IsCell t of.header of.names.0 lbn =
                record { live = of.orphan.live; names = at-place (blocks_named (t.header of.header)) lbn of.names } in
                of.orphan.of_none (subst (IsInFile t) (cells-apart named.header named.place of.header of.names.0 lbn cell other)
                (in-old t u files-one named.header (live-in named.header two_was.0)))
          ]

      unnamed-may_be : limit_of before ≡ bitmap.size → (lbn : ℕ) → lbn < bitmap.size → ¬ IsNamed v lbn
          → may_be_free r.survey.tally.once unreferenced lbn ≡ true
      unnamed-may_be limit lbn inside unnamed = elim (cases_Bool (has r.survey.tally.once lbn)) [
        | inr none ↦ unnamed-may _ (has unreferenced lbn) none
        | inl once ↦
            let named = (named-is lbn).0 once in
            elim (cases_Bool (has r.chains.in_file named.header)) [
              | inl has_it ↦
                  let within = (in-files named.header).0 has_it in
                  let one_live = files-one.stays named.header within in
                  let two_live = files-two.stays named.header (in-new t u files-one named.header within) in
                  let same = (files-two.was named.header two_live).1 ∙ (files-one.was named.header one_live).1 in
                  absurd (unnamed (record {
                    header = named.header;
                    place = named.place;
                    cell = same-cell t v named.header named.place lbn two_live same named.cell;
                  }))
              | inr out ↦
                  unreferenced-may (has r.survey.tally.once lbn) _
                  (one.puts.all lbn (omega (arith, inside, limit)) (record {
                    header = named.header;
                    within = let high = fit.high named.header named.cell.live.in_use in omega (arith, high, slot-count);
                    orphan = record { live = named.cell.live; of_none = λ within. both_ways _ out ((in-files named.header).1 within) };
                    names = contained (blocks_named (t.header named.header)) named.place lbn named.cell.names;
                  }))
            ]
      ]

      -- the free blocks are those that were read
      free-known : (lbn : ℕ) → has r.free lbn ≡ is_free c bitmap lbn
      unfolding volume_of
      free-known lbn =
          let kept = storage-then a b c home one.places.bitmap one.storage two.storage in
          is.shows.free.each lbn ∙ sym (is_free-kept (storage_bitmap a home) a c lbn (bitmap-is a home is.frame.sound).0 kept)
          ∙ ap (λ (x : Bitmap). is_free c x lbn) (sym is.frame.bitmap_is)

      -- and so is the last block of the bitmap
      last-known : IsLastBlock c bitmap kept.last
      last-known =
          let stays = storage-then a b c home one.places.bitmap one.storage two.storage in
          let valid : IsBitmap bitmap = subst IsBitmap (sym is.frame.bitmap_is) (bitmap-is a home is.frame.sound).0 in
          subst (λ (x : Bitmap). KeepsBitmap x a c) (sym is.frame.bitmap_is) stays ((bitmap.size - 1) / 4096)
          (omega (arith, valid.covered, valid.some)) ∙ is.has.last

      pub told-so : ((k : ℕ) → has before k ≡ false) → limit_of before ≡ bitmap.size
          → IsTold bitmap r.free r.survey.tally.once unreferenced kept.last home c
      told-so before_is limit = record {
        sound = two.places.reclaiming.freeing.sound;
        slots = files-used;
        bitmap_is = is.frame.bitmap_is ∙ sym one.places.bitmap ∙ sym two.places.bitmap;
        last_is = last-known;
        free_are = free-known;
        tells = λ lbn inside. (may-unnamed before_is lbn, unnamed-may_be limit lbn inside);
      }

      pub places-two : KeepsPlaces home a c
      places-two = places-then home a b c one.places two.places

      -- and blocks that no header names became free
      module _ (d : Image) (covered : bitmap.size ≤ 4096 * length bitmap.places)
          (three : HasFreedUpTo (length bitmap.places) bitmap home c d) where
        sound-last : HasSoundVolume d home
        sound-last = three.places.reclaiming.freeing.sound

        places-last : KeepsPlaces home a d
        places-last = places-then home a c d places-two three.places

        bitmap-last : bitmap ≡ storage_bitmap d home
        bitmap-last = is.frame.bitmap_is ∙ sym places-last.bitmap

        pub blocks-last : UnnamedAreFree home d
        blocks-last lbn inside = (
          λ free. free-unnamed d home lbn sound-last free,
          λ unnamed.
              let here : lbn < bitmap.size = let same = ap (λ (x : Bitmap). x.size) bitmap-last in omega (arith, inside, same) in
              ap (λ (x : Bitmap). is_free d x lbn) (sym bitmap-last)
              ∙ three.free lbn (omega (arith, here, covered)) here (subst (λ (x : Table). ¬ IsNamed x lbn) three.table unnamed),
        )

        slots-last : UsedAreOfFiles (table_of d home)
        slots-last = subst UsedAreOfFiles (sym three.table) files-used

        no-lost : (lbn : ℕ) → ¬ IsLost (volume_of d home) lbn
        unfolding volume_of
        no-lost lbn lost = both_ways _ lost.used ((blocks-last lbn lost.inside).1 lost.unnamed)

        no-first : (code x y : ℕ) → code ≤ 3 → ¬ IsVolumeNote d (volume_of d home) code x y
        unfolding volume_of
        no-first code x y few (blocks_lost low high run) = no-lost low (run.each low (omega arith) run.some)
        no-first code x y few (header_dead n dead) = dead-not-valid _ n dead.dead (live_of-header ((slots-last n).0 dead.in_use).of).valid
        no-first code x y few (orphan n live later none) = none ((slots-last n).0 live.in_use)
        no-first code x y few (marked n file is_marked) = omega (arith, few)
        no-first code x y few (not_closed n file was) = omega (arith, few)
        no-first code x y few (in_no_directory n file none) = omega (arith, few)
        no-first code x y few (names_no_file m i bytes rec none) = omega (arith, few)
        no-first code x y few (name_repeated m i bytes rec repeated) = omega (arith, few)
        no-first code x y few (no_name m i bytes rec none) = omega (arith, few)
        no-first code x y few (not_contiguous n file mark apart) = omega (arith, few)

        no-note : (code x y : ℕ) → code ≤ 3 → ¬ IsNote d code x y
        no-note code x y few note =
            no-first code x y few
            (subst (λ (h : HomeFields). IsVolumeNote d (volume_of d h) code x y)
            (home-unique d note.home home note.framed.home_is sound-last.framed.home_is) note.note)

        pub reclaimed-so : HasReclaimed home a d
        reclaimed-so = record { reclaiming = places-last.reclaiming; blocks = blocks-last; slots = slots-last; no_note = no-note }
