-- The blocks that a header may name, and those that none names.
use Rattle.std.proofs.Common.{◌≡◌, ◌≢◌, ◌⊎◌, ℕ, ◌+◌, ◌-◌, ◌<◌, ◌≤◌, true, false, List, ◌++◌, length, take, Some, refl, sym, ap, subst, ◌∙◌}
use Rattle.std.proofs.Common.{inl, inr, arith}
use Rattle.std.specs.List.{slice_get, range_with_len}
use Rattle.std.proofs.lemmas.Bool.{cases_eq, cases_lt}
use Rattle.std.proofs.lemmas.List.{length-take, get_or-take}
use Rattle.std.proofs.lemmas.Option.{slice_get_within, slice_get-get_or, get_or_from_slice_get}
use Rattle.f11_bits.specs.Bitmap.{is_free, Marks}
use Rattle.f11_dev.specs.Image.{Image}
use Rattle.f11_volume.specs.header.Header.{IsHeader}
use Rattle.f11_volume.specs.home.Home.{HomeFields}
use Rattle.f11_volume.specs.map.HeaderBlock.{blocks_named}
use Rattle.f11_index.specs.Table.{Table, table_of, IsLive}
use Rattle.f11_index.proofs.PlaceLemmas.{slice_get-append_front, slice_get-range}
use Rattle.f11_volume.proofs.map.MapLemmas.{slice_get-append_back}
use Rattle.f11_volume.specs.Sound.{IsSoundVolume, HasSoundVolume}
use Rattle.f11_volume.specs.Space.{storage_bitmap}
use Rattle.f11_volume.specs.Volume.{Volume, volume_of, IsCell, IsNamed}
use Rattle.f11_writes.specs.Kept.{KeepsVolume, KeepsButFree, KeepsButSlot}
use Rattle.f11_writes.specs.NameLaws.{AreUnreferenced}
use Rattle.f11_writes.specs.OtherSlots.{KeepsOtherSlots}
use Rattle.f11_writes.specs.Volumes.{MayName}
use Rattle.f11_writes.proofs.BitmapLemmas.{used-keeps}

pub free-unnamed : (v : Volume) (lbn : ℕ) → IsSoundVolume v → v.free lbn ≡ true → ¬ IsNamed v.table lbn
free-unnamed v lbn sound free named = let used = sym free ∙ sound.taken named.header named.place lbn named.cell in cc

pub taken-unreferenced : (old new : Image) (home : HomeFields) (lbn count : ℕ) → HasSoundVolume old home
    → Marks false (storage_bitmap old home) lbn count old new
    → lbn + count ≤ (storage_bitmap old home).size → ((k : ℕ) → lbn ≤ k → k < lbn + count → is_free old (storage_bitmap old home) k ≡ true)
    → AreUnreferenced (volume_of new home) lbn count
unfolding volume_of
taken-unreferenced old new home lbn count is marks inside free =
    let kept : KeepsButFree home old new = used-keeps old new home lbn count is marks in
    subst (λ (v : Volume). AreUnreferenced v lbn count) (sym kept.volume) (record {
      inside = inside;
      used = marks.inside;
      unnamed = λ k low high. free-unnamed (volume_of old home) k is.sound (free k low high);
    })

-- a block of numbers in a row
in-row : (lbn count i k : ℕ) → slice_get (range_with_len lbn count) i ≡ Some k → (lbn ≤ k) × (k < lbn + count)
in-row lbn count i k at = let is = slice_get-range lbn count i k at in (omega (arith, is.1), omega (arith, is.0, is.1))

pub unreferenced-names : (v : Volume) (n lbn count : ℕ) → AreUnreferenced v lbn count → MayName v n (range_with_len lbn count)
unreferenced-names v n lbn count unreferenced = record {
  inside = λ i k at. let row = in-row lbn count i k at in omega (arith, row.1, unreferenced.inside);
  used = λ i k at. let row = in-row lbn count i k at in unreferenced.used k row.0 row.1;
  alone = λ i k m place at away cell. let row = in-row lbn count i k at in
      unreferenced.unnamed k row.0 row.1 (record { header = m; place = place; cell = cell });
  apart = λ i j k one other. let here = slice_get-range lbn count i k one in let there = slice_get-range lbn count j k other in
      omega (arith, here.1, there.1);
}

pub own-names : (v : Volume) (n : ℕ) → IsSoundVolume v → IsLive v.table n → MayName v n (blocks_named (v.table.header n))
own-names v n sound live =
    let cell : (i k : ℕ) → slice_get (blocks_named (v.table.header n)) i ≡ Some k
    → IsCell v.table n i k = λ i k at. record { live = live; names = at } in
    record {
      inside = λ i k at. sound.inside n i k (cell i k at);
      used = λ i k at. sound.taken n i k (cell i k at);
      alone = λ i k m place at away other. away (sym (sound.apart n i m place k (cell i k at) other).0);
      apart = λ i j k one other. (sound.apart n i n j k (cell i k one) (cell j k other)).1;
    }

-- what stands in two lists, one behind the other
either-at : (xs ys : List ℕ) (i x : ℕ) → slice_get (xs ++ ys) i ≡ Some x
    → (slice_get xs i ≡ Some x) ⊎ (length xs ≤ i) × (slice_get ys (i - length xs) ≡ Some x)
either-at xs ys i x at = elim (cases_lt i (length xs)) [
  | inl front ↦
      let here = slice_get-get_or xs i x front in
      inl (here ∙ sym (slice_get-append_front xs ys i _ here) ∙ at)
  | inr behind ↦ inr (behind, sym (slice_get-append_back xs ys i (length xs) refl behind) ∙ at)
]

both-names : (v : Volume) (n : ℕ) (xs ys : List ℕ) → MayName v n xs → MayName v n ys
    → ((i j k : ℕ) → slice_get xs i ≡ Some k → ¬ (slice_get ys j ≡ Some k)) → MayName v n (xs ++ ys)
both-names v n xs ys one other away = record {
  inside = λ i k at. elim (either-at xs ys i k at) [ inl here ↦ one.inside i k here | inr there ↦ other.inside _ k there.1 ];
  used = λ i k at. elim (either-at xs ys i k at) [ inl here ↦ one.used i k here | inr there ↦ other.used _ k there.1 ];
  alone = λ i k m place at.
      elim (either-at xs ys i k at) [ inl here ↦ one.alone i k m place here | inr there ↦ other.alone _ k m place there.1 ];
  apart = λ i j k at too. go i j k (either-at xs ys i k at) (either-at xs ys j k too);
}
  where
    go : (i j k : ℕ) → (slice_get xs i ≡ Some k) ⊎ (length xs ≤ i) × (slice_get ys (i - length xs) ≡ Some k)
        → (slice_get xs j ≡ Some k) ⊎ (length xs ≤ j) × (slice_get ys (j - length xs) ≡ Some k) → i ≡ j
    go i j k (inl here) (inl there) = one.apart i j k here there
    go i j k (inl here) (inr there) = absurd (away i _ k here there.1)
    go i j k (inr there) (inl here) = absurd (away j _ k here there.1)
    go i j k (inr here) (inr there) = let same = other.apart _ _ k here.1 there.1 in omega (arith, same, here.0, there.0)

pub more-names : (v : Volume) (n lbn count : ℕ) → IsSoundVolume v → IsLive v.table n → AreUnreferenced v lbn count
    → MayName v n (blocks_named (v.table.header n) ++ range_with_len lbn count)
more-names v n lbn count sound live unreferenced =
    both-names v n (blocks_named (v.table.header n)) (range_with_len lbn count) (own-names v n sound live)
    (unreferenced-names v n lbn count unreferenced) (λ i j k at there.
    let row = in-row lbn count j k there in
    unreferenced.unnamed k row.0 row.1 (record { header = n; place = i; cell = record { live = live; names = at } }))

-- what stands among the first
take-at : (count : ℕ) (xs : List ℕ) (i k : ℕ) → slice_get (take count xs) i ≡ Some k → (i < count) × (slice_get xs i ≡ Some k)
take-at count xs i k at =
    let within = slice_get_within (take count xs) i k at in
    let size = length-take count xs in (
      omega (arith, within, size),
      slice_get-get_or xs i k (omega (arith, within, size))
          ∙ ap Some (sym (get_or-take count xs i k (omega (arith, within, size))) ∙ get_or_from_slice_get (take count xs) i k k at),
    )

pub fewer-names : (v : Volume) (n count : ℕ) (lbns : List ℕ) → MayName v n lbns → MayName v n (take count lbns)
fewer-names v n count lbns may = record {
  inside = λ i k at. may.inside i k (take-at count lbns i k at).1;
  used = λ i k at. may.used i k (take-at count lbns i k at).1;
  alone = λ i k m place at. may.alone i k m place (take-at count lbns i k at).1;
  apart = λ i j k one other. may.apart i j k (take-at count lbns i k one).1 (take-at count lbns j k other).1;
}

-- where the other slots are as they were, a block that another header names was so before
pub cell-was : (old new : Table) (n m place lbn : ℕ) → KeepsOtherSlots n old new → m ≢ n → IsCell new m place lbn → IsCell old m place lbn
cell-was old new n m place lbn others away cell =
    let used = sym (others.in_use m away) ∙ cell.live.in_use in
    let same = others.header m away used in
    record {
      live = record { in_use = used; valid = subst (λ (b : List ℕ). IsHeader b m) same cell.live.valid };
      names = ap (λ (b : List ℕ). slice_get (blocks_named b) place) (sym same) ∙ cell.names;
    }

pub lost-unnamed : (old new : Volume) (n place lbn : ℕ) → IsSoundVolume old → KeepsOtherSlots n old.table new.table
    → IsCell old.table n place lbn
    → ((i : ℕ) → ¬ IsCell new.table n i lbn) → ¬ IsNamed new.table lbn
lost-unnamed old new n place lbn sound others was gone named = elim (cases_eq named.header n) [
  | inl here ↦ gone named.place (subst (λ (m : ℕ). IsCell new.table m named.place lbn) here named.cell)
  | inr away ↦ away (sound.apart named.header named.place n place lbn
      (cell-was old.table new.table n named.header named.place lbn others away named.cell) was).0
]

pub part-unreferenced : (v : Volume) (lbn count from some : ℕ) → AreUnreferenced v lbn count → lbn ≤ from → from + some ≤ lbn + count
    → AreUnreferenced v from some
part-unreferenced v lbn count from some unreferenced low high = record {
  inside = omega (arith, high, unreferenced.inside);
  used = λ k above below. unreferenced.used k (omega (arith, low, above)) (omega (arith, high, below));
  unnamed = λ k above below. unreferenced.unnamed k (omega (arith, low, above)) (omega (arith, high, below));
}

pub unreferenced-stay : (old new : Image) (home : HomeFields) (lbn count : ℕ) → KeepsVolume home old new
    → AreUnreferenced (volume_of old home) lbn count → AreUnreferenced (volume_of new home) lbn count
unreferenced-stay old new home lbn count keeps unreferenced =
    subst (λ (v : Volume). AreUnreferenced v lbn count) (sym keeps.volume) unreferenced

pub other-unreferenced : (old new : Image) (home : HomeFields) (n lbn count : ℕ) → KeepsButSlot n home old new
    → AreUnreferenced (volume_of old home) lbn count
    → ((place k : ℕ) → lbn ≤ k → k < lbn + count → ¬ IsCell (table_of new home) n place k) → AreUnreferenced (volume_of new home) lbn count
unfolding volume_of
other-unreferenced old new home n lbn count slot unreferenced none = subst (λ (v : Volume). AreUnreferenced v lbn count) (sym slot.volume)
    (record {
      inside = unreferenced.inside;
      used = unreferenced.used;
      unnamed = λ k low high named. elim (cases_eq named.header n) [
        | inl here ↦ none named.place k low high (subst (λ (m : ℕ). IsCell (table_of new home) m named.place k) here named.cell)
        | inr away ↦ unreferenced.unnamed k low high (record {
          header = named.header;
          place = named.place;
          cell = cell-was (table_of old home) (table_of new home) n named.header named.place k slot.others away named.cell;
        })
      ];
    })

pub unentered-unreferenced : (old new : Image) (home : HomeFields) (n lbn count : ℕ) → KeepsButSlot n home old new
    → AreUnreferenced (volume_of old home) lbn count
    → (table_of new home).in_use n ≡ false → AreUnreferenced (volume_of new home) lbn count
unentered-unreferenced old new home n lbn count slot unreferenced unused =
    other-unreferenced old new home n lbn count slot unreferenced (λ place k low high cell. let used = sym unused ∙ cell.live.in_use in cc)
