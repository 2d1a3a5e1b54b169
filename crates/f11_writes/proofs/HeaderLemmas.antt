-- A header was written where it is.
use Rattle.std.proofs.Common.{◌≡◌, ◌≢◌, ◌⊎◌, ℕ, ◌<◌, ◌≤◌, true, false, List, refl, sym, ap, subst, ◌∙◌, inl, inr, arith}
use Rattle.std.specs.List.{slice_get}
use Rattle.std.proofs.lemmas.Bool.{cases_eq}
use Rattle.std.proofs.lemmas.List.{length-set}
use Rattle.f11_dev.specs.Image.{Image}
use Rattle.f11_volume.specs.header.Fields.{file_number, file_sequence}
use Rattle.f11_volume.specs.header.Header.{IsHeader, IsDead}
use Rattle.f11_volume.specs.home.Home.{HomeFields}
use Rattle.f11_index.specs.ChangeLaws.{StaysHeader}
use Rattle.f11_index.specs.Growth.{IsGoodFor, with_header}
use Rattle.f11_volume.specs.map.HeaderBlock.{segment_number, link_of}
use Rattle.f11_index.specs.IndexFile.{index_of, slots, header_lbn, HasNonePast, is_in_use}
use Rattle.f11_index.specs.Laws.{LeadsAlike, KeepsButHeader}
use Rattle.f11_index.specs.Sound.{IsIndexFile}
use Rattle.f11_index.specs.Headers.{IsInFile}
use Rattle.f11_index.specs.Table.{Table, table_in, table_of, IsLive, IsNext, IsHeaderOf, first, next}
use Rattle.f11_index.proofs.ChainLemmas.{live_of-header}
use Rattle.f11_index.proofs.HeadersLemmas.{chained-apart}
use Rattle.f11_index.proofs.LawLemmas.{header_write}
use Rattle.f11_index.proofs.StayLemmas.{stays}
use Rattle.f11_index.proofs.WalkLemmas.{in_use-within}
use Rattle.f11_volume.specs.Faults.{IsOwnFile}
use Rattle.f11_volume.specs.Sound.{IsSoundVolume, HasSoundVolume}
use Rattle.f11_volume.specs.Volume.{Volume, volume_of}
use Rattle.f11_volume.proofs.FileLemmas.{index-apart, image-files}
use Rattle.f11_writes.specs.HeaderLaws.{SparesOwnFiles}
use Rattle.f11_writes.specs.Kept.{WritesHeader}
use Rattle.f11_writes.specs.OtherSlots.{KeepsOtherSlots}
use Rattle.f11_writes.specs.Volumes.{Shrinks, MayBecome}
use Rattle.f11_writes.proofs.SetLemmas.{set-sound}
use Rattle.f11_writes.proofs.ShrinkLemmas.{shrunk-sound}
use Rattle.f11_writes.proofs.OtherSlotLemmas.{own-first}
use Rattle.f11_writes.proofs.SlotLemmas.{SparesOwn, IsPlacedAt, header-placed-at, slot-keeps}

-- What a block must be in order to become header n where that is one of the volume's own files: none of file 2's or 3's, as good as a
-- header of file 1 that leads to the same, or as good as the first of file 4.
pub record FitsOwn (t : Table) (n : ℕ) (block : List ℕ) : Type 0 where
  pub two : ¬ IsHeaderOf t 2 n
  pub three : ¬ IsHeaderOf t 3 n
  pub one : IsHeaderOf t 1 n → IsGoodFor t n block × LeadsAlike (t.header n) block
  pub four : n ≡ 4 → IsGoodFor t n block

module _ (image : Image) (home : HomeFields) (is : HasSoundVolume image home) (n : ℕ) (block : List ℕ) (some : 0 < n)
    (few : n ≤ slots (index_of image home))
    (fits : FitsOwn (table_of image home) n block) where
  abbrev t : Table
  t = table_of image home

  abbrev lbn : ℕ
  lbn = header_lbn (index_of image home) n

  abbrev new : Image
  new = with_header image home n block

  abbrev u : Table
  u = table_of new home

  abbrev good : IsIndexFile image home
  good = is.framed.indexed.file

  keeps : KeepsButHeader home n block image new
  keeps = header_write image home good n block (index-apart image home is) some few (λ of. (fits.one of).1)

  in-use-same : u.in_use ≡ t.in_use
  unfolding table_in
  in-use-same = ap is_in_use keeps.index

  in-use-at : (m : ℕ) → u.in_use m ≡ t.in_use m
  in-use-at m = λ i. in-use-same i m

  others : KeepsOtherSlots n t u
  others = record {
    in_use = λ m away. in-use-at m;
    header = λ m away used. let slot = in_use-within image home m used in keeps.others m slot.0 slot.1 away;
  }

  -- a header of the index file
  one-stays : (m : ℕ) → IsHeaderOf t 1 m → StaysHeader t u m
  one-stays m of = elim (cases_eq m n) [
    | inl here ↦
        let may = fits.one (subst (IsHeaderOf t 1) here of) in
        subst (StaysHeader t u) (sym here) (record {
          good = record {
            in_use = in-use-at n ∙ (live_of-header (subst (IsHeaderOf t 1) here of)).in_use;
            valid = subst (λ (b : List ℕ). IsHeader b n) (sym keeps.header) may.0.valid;
            sequence = ap file_sequence keeps.header ∙ may.0.sequence;
            segment = ap segment_number keeps.header ∙ may.0.segment;
          };
          link = ap link_of keeps.header ∙ may.1.link;
        })
    | inr away ↦
        let live = live_of-header of in
        let same = others.header m away live.in_use in
        record {
          good = record {
            in_use = in-use-at m ∙ live.in_use;
            valid = subst (λ (b : List ℕ). IsHeader b m) (sym same) live.valid;
            sequence = ap file_sequence same;
            segment = ap segment_number same;
          };
          link = ap link_of same;
        }
  ]

  indexed : IsIndexFile new home
  indexed = stays image new home good (length-set image lbn block) keeps.file one-stays

  four : IsOwnFile u 4
  four =
      let own = is.framed.own_files 4 (omega arith) (omega arith) in
      elim (cases_eq 4 n) [
        | inl here ↦
            let fit = fits.four (sym here) in
            let was = subst (IsOwnFile t) here own in
            subst (IsOwnFile u) (sym here) (record {
              file = record {
                live = record {
                  in_use = in-use-at n ∙ was.file.live.in_use;
                  valid = subst (λ (b : List ℕ). IsHeader b n) (sym keeps.header)
                      fit.valid;
                };
                first = ap segment_number keeps.header ∙ fit.segment ∙ was.file.first;
              };
              sequence = ap file_sequence keeps.header ∙ fit.sequence ∙ was.sequence;
            })
        | inr away ↦ own-first t u n 4 others away own
      ]

  placed : IsPlacedAt image home lbn
  placed = header-placed-at image home n good some few

  spares : SparesOwn n t u
  spares = record { others = others; two = fits.two; three = fits.three; four = four }

  abbrev with-table : Volume
  with-table = record (volume_of image home) { table = u }

  writes : IsSoundVolume with-table → WritesHeader n block home image new
  writes sound = record {
    slot = slot-keeps image home is lbn block placed n spares indexed (subst HasNonePast (sym keeps.index) is.framed.none_past)
        (ap (λ (xs : List ℕ). slice_get xs placed.place) keeps.file ∙ placed.at) sound;
    index_file = keeps;
    in_use = in-use-same;
  }

  -- a header that isn't live then, and that no header of a file links to
  module _ (gone : ¬ IsLive u n) (dead : t.in_use n ≡ true → IsDead block) (unlinked : (m : ℕ) → IsInFile t m → ¬ IsNext t m n) where
    other-than : (m : ℕ) → IsLive u m → m ≢ n
    other-than m live here = gone (subst (IsLive u) here live)

    used-before : (m : ℕ) → u.in_use m ≡ true → t.in_use m ≡ true
    used-before m used = sym (in-use-at m) ∙ used

    header-same : (m : ℕ) → IsLive u m → u.header m ≡ t.header m
    header-same m live = others.header m (other-than m live) (used-before m live.in_use)

    headers : (m : ℕ) → u.in_use m ≡ true → IsDead (u.header m) ⊎ IsHeader (u.header m) m
    unfolding volume_of
    headers m used = elim (cases_eq m n) [
      | inl here ↦ inl (ap (λ (k : ℕ). file_number (u.header k)) here ∙ ap file_number keeps.header
          ∙ dead (subst (λ (k : ℕ). t.in_use k ≡ true) here (used-before m used)))
      | inr away ↦
          subst (λ (b : List ℕ). IsDead b ⊎ IsHeader b m) (sym (others.header m away (used-before m used)))
          (is.sound.headers m (used-before m used))
    ]

    shrinks : Shrinks (volume_of image home) with-table
    unfolding volume_of
    shrinks = record {
      size = refl;
      headers = headers;
      live = λ m live. record {
        in_use = used-before m live.in_use;
        valid = subst (λ (b : List ℕ). IsHeader b m) (header-same m live)
            live.valid;
      };
      same = header-same;
      next = λ k m in_file live goes.
          let away : m ≢ n = λ here. unlinked k in_file (subst (IsNext t k) here goes) in
          let same = others.header m away goes.to.in_use in
          record { in_use = in-use-at m ∙ goes.to.in_use; valid = subst (λ (b : List ℕ). IsHeader b m) (sym same) goes.to.valid };
      taken = λ m at_place l cell free. free;
    }

    drops : WritesHeader n block home image new
    drops = writes (shrunk-sound (volume_of image home) with-table shrinks is.sound)

  -- a live header that may become this
  sets : IsLive t n → MayBecome (volume_of image home) n block → WritesHeader n block home image new
  unfolding volume_of
  sets live may = writes (set-sound (volume_of image home) with-table n block is.sound may (record {
    size = refl;
    free = λ l. refl;
    in_use = in-use-at n ∙ live.in_use;
    header = keeps.header;
    others = others;
  }))

-- a header that no header of a file links to is the first of its file
only-first : {t : Table} {f n : ℕ} → ((m : ℕ) → IsInFile t m → ¬ IsNext t m n) → IsHeaderOf t f n → f ≡ n
only-first unlinked (first file) = refl
only-first {t} {f} {n} unlinked (next {n = m} of goes) = absurd (unlinked m (record { file = f; of = of }) goes)

module _ (image : Image) (home : HomeFields) (is : HasSoundVolume image home) (n : ℕ) (block : List ℕ) where
  abbrev table : Table
  table = table_of image home

  pub unused-keeps : 0 < n → n ≤ slots (index_of image home) → is_in_use (index_of image home) n ≡ false
      → WritesHeader n block home image (with_header image home n block)
  unfolding table_in
  unused-keeps some few unused =
      let no_header : (f : ℕ) → ¬ IsHeaderOf table f n = λ f of. let used = sym unused ∙ (live_of-header of).in_use in cc in
      let fits : FitsOwn table n block = record {
        two = no_header 2;
        three = no_header 3;
        one = λ of. absurd (no_header 1 of);
        four = λ here. absurd (no_header 4
            (subst (IsHeaderOf table 4) (sym here) (first (is.framed.own_files 4 (omega arith) (omega arith)).file)));
      } in
      drops image home is n block some few fits
      (λ live. let used = sym unused ∙ sym (in-use-at image home is n block some few fits n) ∙ live.in_use in cc)
      (λ used. let no_use = sym unused ∙ used in cc)
      (λ m in_file goes. let used = sym unused ∙ goes.to.in_use in cc)

  pub kill-keeps : 5 ≤ n → n ≤ slots (index_of image home) → IsDead block → ((m : ℕ) → IsInFile table m → ¬ IsNext table m n)
      → WritesHeader n block home image (with_header image home n block)
  kill-keeps late few dead unlinked =
      let some : 0 < n = omega (arith, late) in
      let no_header : (f : ℕ) → f < 5 → ¬ IsHeaderOf table f n = λ f low of. let same = only-first unlinked of in
      omega (arith, same, low, late) in
      let fits : FitsOwn table n block = record {
        two = no_header 2 (omega arith);
        three = no_header 3 (omega arith);
        one = λ of. absurd (no_header 1 (omega arith) of);
        four = λ here. absurd (omega (arith, here, late));
      } in
      drops image home is n block some few fits
      (λ live. let zero_is = sym live.valid.number ∙ ap file_number (keeps image home is n block some few fits).header ∙ dead in
      omega (arith, zero_is, some))
      (λ used. dead) unlinked

  -- a live header, as good and not of file 2 or 3
  pub rewrite-keeps : IsLive table n → MayBecome (volume_of image home) n block → SparesOwnFiles table n block
      → WritesHeader n block home image (with_header image home n block)
  unfolding volume_of
  rewrite-keeps live may spares =
      let slot = in_use-within image home n live.in_use in
      let good = may.good live in
      sets image home is n block slot.0 slot.1
      (record { two = spares.two; three = spares.three; one = λ of. (good, spares.one of); four = λ here. good }) live may

  pub file-rewrite-keeps : (f : ℕ) → 4 ≤ f → IsHeaderOf table f n → MayBecome (volume_of image home) n block
      → WritesHeader n block home image (with_header image home n block)
  file-rewrite-keeps f late of may =
      let chained = (image-files image home is).chained in
      let away : (g : ℕ) → g < 4 → ¬ IsHeaderOf table g n = λ g low also. let same = chained-apart chained of also in
      omega (arith, same, low, late) in
      rewrite-keeps (live_of-header of) may
      (record { two = away 2 (omega arith); three = away 3 (omega arith); one = λ also. absurd (away 1 (omega arith) also) })
