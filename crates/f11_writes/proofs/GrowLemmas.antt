-- The index file grew at its end.
use Rattle.std.proofs.Common.{◌≡◌, ◌≢◌, ℕ, ◌+◌, ◌<◌, ◌≤◌, false, List, length, refl, sym, ap, subst, ◌∙◌, inl, inr, arith}
use Rattle.std.specs.List.{slice_get, range_with_len}
use Rattle.std.proofs.lemmas.Bool.{cases_lt}
use Rattle.f11_dev.specs.Image.{Image}
use Rattle.f11_volume.specs.home.Home.{HomeFields}
use Rattle.f11_index.specs.Growth.{MayNameMore, MayLinkOn, AddsIndexBlocks, with_header}
use Rattle.f11_index.specs.IndexFile.{index_of, index_file_blocks, slots, header_lbn}
use Rattle.f11_index.specs.Table.{Table, table_in, table_of, IsHeaderOf, first}
use Rattle.f11_index.proofs.BitLemmas.{is_in_use-past}
use Rattle.f11_index.proofs.ChainLemmas.{live_of-header}
use Rattle.f11_index.proofs.GrowLemmas.{grows-at, grows-by}
use Rattle.f11_index.proofs.HeadersLemmas.{chained-apart}
use Rattle.f11_index.proofs.PlaceLemmas.{slice_get-append_front}
use Rattle.f11_index.proofs.WalkLemmas.{in_use-within}
use Rattle.f11_volume.specs.Faults.{IsOwnFile}
use Rattle.f11_volume.specs.Sound.{HasSoundVolume}
use Rattle.f11_volume.specs.Volume.{Volume, volume_of}
use Rattle.f11_volume.proofs.FileLemmas.{index-apart, image-files}
use Rattle.f11_writes.specs.Kept.{WritesGrowth}
use Rattle.f11_writes.specs.OtherSlots.{KeepsOtherSlots}
use Rattle.f11_writes.specs.Volumes.{MayBecome}
use Rattle.f11_writes.proofs.SetLemmas.{set-sound}
use Rattle.f11_writes.proofs.OtherSlotLemmas.{own-first}
use Rattle.f11_writes.proofs.SlotLemmas.{SparesOwn, header-placed-at, slot-keeps}

module _ (image : Image) (home : HomeFields) (is : HasSoundVolume image home) (n : ℕ) (block : List ℕ) (lbn count : ℕ)
    (of : IsHeaderOf (table_of image home) 1 n)
    (grows : AddsIndexBlocks home n block lbn count image (with_header image home n block)) where
  abbrev t : Table
  t = table_of image home

  abbrev new : Image
  new = with_header image home n block

  abbrev u : Table
  u = table_of new home

  within : (0 < n) × (n ≤ slots (index_of image home))
  within = in_use-within image home n (live_of-header of).in_use

  -- a number past the slots was no slot in use
  past-none : (m : ℕ) → slots (index_of image home) < m → t.in_use m ≡ false
  unfolding table_in
  past-none m past = is_in_use-past (index_of image home) m past

  in-use-same : (m : ℕ) → u.in_use m ≡ t.in_use m
  in-use-same m = elim (cases_lt (slots (index_of image home)) m) [
    | inl past ↦ grows.unused is.framed.none_past m past ∙ sym (past-none m past)
    | inr slot ↦ grows.in_use m slot
  ]

  others : KeepsOtherSlots n t u
  others = record {
    in_use = λ m away. in-use-same m;
    header = λ m away used. let slot = in_use-within image home m used in grows.others m slot.0 slot.1 away;
  }

  -- header n is file 1's alone
  not-of : (f : ℕ) → f ≢ 1 → ¬ IsHeaderOf t f n
  not-of f other also = other (chained-apart (image-files image home is).chained also of)

  four : IsOwnFile u 4
  four =
      let own = is.framed.own_files 4 (omega arith) (omega arith) in
      own-first t u n 4 others (λ here. not-of 4 (λ same. omega (arith, same)) (subst (IsHeaderOf t 4) here (first own.file))) own

  spares : SparesOwn n t u
  spares =
      record { others = others; two = not-of 2 (λ same. omega (arith, same)); three = not-of 3 (λ same. omega (arith, same)); four = four }

  abbrev with-table : Volume
  with-table = record (volume_of image home) { table = u }

  pub growth-keeps : MayBecome (volume_of image home) n block → WritesGrowth n block lbn count home image new
  unfolding volume_of
  growth-keeps may =
      let l = header_lbn (index_of image home) n in
      let sound = set-sound (volume_of image home) with-table n block is.sound may (record {
        size = refl;
        free = λ k. refl;
        in_use = in-use-same n ∙ (live_of-header of).in_use;
        header = grows.header;
        others = others;
      }) in
      let placed = header-placed-at image home n is.framed.indexed.file within.0 within.1 in
      let there = slice_get-append_front (index_file_blocks image home) (range_with_len lbn count) placed.place l placed.at in
      record {
        slot = slot-keeps image home is l block placed n spares grows.sound (grows.none_past is.framed.none_past)
            (ap (λ (xs : List ℕ). slice_get xs placed.place) grows.file ∙ there) sound;
        index_file = grows;
      }

pub names-keep : (image : Image) (home : HomeFields) (n : ℕ) (block : List ℕ) (lbn count : ℕ) → HasSoundVolume image home
    → MayNameMore (table_of image home) n block lbn count
    → lbn + count ≤ length image → MayBecome (volume_of image home) n block
    → WritesGrowth n block lbn count home image (with_header image home n block)
names-keep image home n block lbn count is more within =
    growth-keeps image home is n block lbn count more.last.of
    (grows-at image home is.framed.indexed.file n block lbn count (index-apart image home is) more within)

pub links-keep : (image : Image) (home : HomeFields) (n m : ℕ) (block : List ℕ) (lbn count : ℕ) → HasSoundVolume image home
    → MayLinkOn (table_of image home) n m block lbn count
    → lbn + count ≤ length image → MayBecome (volume_of image home) n block
    → WritesGrowth n block lbn count home image (with_header image home n block)
links-keep image home n m block lbn count is on within =
    growth-keeps image home is n block lbn count on.last.of
    (grows-by image home is.framed.indexed.file n m block lbn count (index-apart image home is) on within)
