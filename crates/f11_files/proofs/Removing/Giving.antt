-- Blocks of a header that are marked free, a pointer's after another.
use Rattle.std.proofs.Common.{◌≡◌, ◌+◌, ◌-◌, ◌*◌, ◌<◌, ◌≤◌, ◌⊎◌, ℕ, false, true, IsTrue, List, [], ◌++◌, length, drop, min, Some, inl, inr}
use Rattle.std.proofs.Common.{refl, sym, ap, subst, ◌∙◌, arith}
use Rattle.std.specs.List.{slice_get, range_with_len}
use Rattle.std.proofs.lemmas.Bool.{cases_lt}
use Rattle.std.proofs.lemmas.List.{drop_all, length-append}
use Rattle.std.proofs.lemmas.List.FromFn.{length-range_with_len}
use Rattle.f11_bits.specs.Bitmap.{Marks}
use Rattle.f11_dev.specs.Disk.{Disk}
use Rattle.f11_dev.specs.Image.{Image}
use Rattle.f11_home.specs.Home.{HomeFields}
use Rattle.f11_index.specs.Table.{table_of}
use Rattle.f11_index.proofs.PlaceLemmas.{slice_get-append_front, range-slice_get, drop-append, drop-range_with_len}
use Rattle.f11_map.specs.MapArea.{blocks_in}
use Rattle.f11_map.proofs.MapLemmas.{slice_get-append_back, blocks_in-drop}
use Rattle.f11_store.specs.Store.{Store}
use Rattle.f11_store.specs.declared.refusals.Refusal.{Refusal}
use Rattle.f11_volume.specs.Sound.{HasSoundVolume}
use Rattle.f11_volume.specs.Space.{storage_bitmap}
use Rattle.f11_volume.specs.Volume.{Volume, volume_of}
use Rattle.f11_writes.specs.NameLaws.{AreUnreferenced}
use Rattle.f11_image_store.specs.Allocation.{FreesBlocks}
use Rattle.f11_files.specs.Answers.{WritesAtMost}
use Rattle.f11_files.specs.Removing.Drops.{BreaksOff, GivesRun, GivesBlocks, AreAllUnreferenced}
use Rattle.f11_image_store.specs.Freeing.{FreesMore, Freeing}
use Rattle.f11_store.specs.Pieces.{with_more_free}
use Rattle.f11_image_store.specs.StoreOf.{store_of}
use Rattle.f11_files.specs.Structure.{home_of, store_on, IsStructureFor, StaysFor}
use Rattle.f11_files.specs.declared.structure.Structure.{Structure}
use Rattle.f11_files.proofs.Removing.Freeing.{writes-then, writes-within, writes-none, breaks-then, breaks-within, stays-for, run-keeps}
use Rattle.f11_files.proofs.Removing.Freeing.{run-store}
use Rattle.f11_image_store.proofs.FreeingLemmas.{frees-none, frees-then, frees-blocks, freeing-more}
use Rattle.f11_files.proofs.Removing.Loss.{FreeAlike, frees-run, frees-nothing, alike-same, alike-then, first-freed, all-freed}

-- what is left of a header's blocks: those of this pointer, and those of the ones behind it
pub left-split : (runs : List (ℕ × ℕ)) (i left kept : ℕ) (run : ℕ × ℕ) → slice_get runs i ≡ Some run → kept ≡ min left run.1
    → drop left (blocks_in (drop i runs)) ≡ range_with_len (run.0 + kept) (run.1 - kept) ++ drop (left - kept)
    (blocks_in (drop (i + 1) runs))
left-split runs i left kept run at is =
    let behind : List ℕ = blocks_in (drop (i + 1) runs) in
    let rest : left - length (range_with_len run.0 run.1) ≡ left - kept = let count = length-range_with_len run.0 run.1 in
    omega (arith, count, is) in
    ap (drop left) (blocks_in-drop runs i run at) ∙ drop-append left (range_with_len run.0 run.1) behind
    ∙ ap (λ (n : ℕ). drop left (range_with_len run.0 run.1) ++ drop n behind) rest
    ∙ ap (λ (front : List ℕ). front ++ drop (left - kept) behind)
    (drop-range_with_len run.0 run.1 left ∙ ap (λ (k : ℕ). range_with_len (run.0 + k) (run.1 - k)) (sym is))

module _ (lbn count : ℕ) (rest : List ℕ) where
  abbrev all : List ℕ
  all = range_with_len lbn count ++ rest

  front-at : (k : ℕ) → lbn ≤ k → k < lbn + count → slice_get all (k - lbn) ≡ Some k
  front-at k low high =
      let place : lbn + (k - lbn) ≡ k = omega (arith, low) in
      slice_get-append_front (range_with_len lbn count) rest (k - lbn) k
      (range-slice_get lbn count (k - lbn) (omega (arith, low, high)) ∙ ap Some place)

  back-at : (i k : ℕ) → slice_get rest i ≡ Some k → slice_get all (count + i) ≡ Some k
  back-at i k at =
      let place : count + i - count ≡ i = omega arith in
      slice_get-append_back (range_with_len lbn count) rest (count + i) count (sym (length-range_with_len lbn count)) (omega arith)
      ∙ ap (slice_get rest) place ∙ at

  -- the first of them are unreferenced
  pub front-unreferenced : (v : Volume) → AreAllUnreferenced v all → 0 < count → AreUnreferenced v lbn count
  front-unreferenced v unreferenced some = record {
    inside = let last = unreferenced.inside _ (lbn + count - 1) (front-at (lbn + count - 1) (omega (arith, some)) (omega (arith, some))) in
        omega (arith, last, some);
    used = λ k low high. unreferenced.used _ k (front-at k low high);
    unnamed = λ k low high. unreferenced.unnamed _ k (front-at k low high);
  }

  -- none of the others is one of them
  outside : (v : Volume) → AreAllUnreferenced v all → (i k : ℕ) → slice_get rest i ≡ Some k → (k < lbn) ⊎ (lbn + count ≤ k)
  outside v unreferenced i k at = elim (cases_lt k lbn) [
    | inl below ↦ inl below
    | inr above ↦ elim (cases_lt k (lbn + count)) [
      | inl inside ↦ let same =
          unreferenced.apart _ _ k (front-at k above inside) (back-at i k at) in absurd (omega (arith, same, above, inside))
      | inr past ↦ inr past
    ]
  ]

  -- once those are marked free the others are unreferenced still
  pub rest-unreferenced : (old new : Image) (home : HomeFields) → HasSoundVolume old home → AreAllUnreferenced (volume_of old home) all
      → 0 < count → Marks true (storage_bitmap old home) lbn count old new
      → AreAllUnreferenced (volume_of new home) rest
  unfolding volume_of
  rest-unreferenced old new home sound unreferenced some marks =
      let kept = run-keeps old new home lbn count sound (front-unreferenced (volume_of old home) unreferenced some) marks in
      subst (λ (v : Volume). AreAllUnreferenced v rest) (sym kept.volume) (record {
        inside = λ i k at. unreferenced.inside _ k (back-at i k at);
        used = λ i k at. elim (outside (volume_of old home) unreferenced i k at) [
          | inl below ↦ marks.before k below ∙ unreferenced.used _ k (back-at i k at)
          | inr past ↦ marks.after k past ∙ unreferenced.used _ k (back-at i k at)
        ];
        unnamed = λ i k at. unreferenced.unnamed _ k (back-at i k at);
        apart = λ i j k one other. let same = unreferenced.apart _ _ k (back-at i k one) (back-at j k other) in omega (arith, same);
      })

-- A run of blocks more is free, and these are unreferenced.
record Gave (home : HomeFields) (lbn count : ℕ) (rest : List ℕ) (old new : Image) : Type 0 where
  table : table_of new home ≡ table_of old home
  store : store_of new home ≡ with_more_free (store_of old home) count
  frees : FreesBlocks (range_with_len lbn count) (volume_of old home) (volume_of new home)
  unreferenced : AreAllUnreferenced (volume_of new home) rest

gave : (home : HomeFields) (lbn count : ℕ) (rest : List ℕ) (old new : Disk) → HasSoundVolume old.image home
    → AreAllUnreferenced (volume_of old.image home) (range_with_len lbn count ++ rest)
    → (0 < count) ⊎ (count ≤ 0) → IsTrue old.honest → GivesRun home lbn count old new → Gave home lbn count rest old.image new.image
gave home lbn count rest old new sound unreferenced (inl some) honest gives =
    let one = front-unreferenced lbn count rest (volume_of old.image home) unreferenced some in
    record {
      table = (run-keeps old.image new.image home lbn count sound one (gives.marks honest)).index_file.table;
      store = run-store old.image new.image home lbn count sound one (gives.marks honest);
      frees = frees-run old.image new.image home lbn count (run-keeps old.image new.image home lbn count sound one (gives.marks honest))
          (gives.marks honest);
      unreferenced = rest-unreferenced lbn count rest old.image new.image home sound unreferenced some (gives.marks honest);
    }
gave home lbn count rest old new sound unreferenced (inr none) honest gives =
    let zero_is : count ≡ 0 = omega (arith, none) in
    let here : List ℕ = range_with_len lbn count ++ rest in
    let same : here ≡ rest = ap (λ (n : ℕ). range_with_len lbn n ++ rest) zero_is in
    let sum : (store_of old.image home).free ≡ (store_of old.image home).free + count = omega (arith, zero_is) in
    subst (λ (d : Disk). Gave home lbn count rest old.image d.image) (sym (gives.none zero_is)) (record {
      table = refl;
      store = ap (λ (free : ℕ). record (store_of old.image home) { free = free }) sum;
      frees =
          let v : Volume = volume_of old.image home in
          subst (λ (n : ℕ). FreesBlocks (range_with_len lbn n) v v) (sym zero_is) (frees-nothing v);
      unreferenced = subst (AreAllUnreferenced (volume_of old.image home)) same unreferenced;
    })

-- Of all these blocks the rest is still to be marked free; so many pointers are done.
pub record Giving (s t : Structure) (all rest : List ℕ) (pointers : ℕ) (old now : Disk) : Type 0 where
  pub is_for : IsStructureFor t now
  pub home : home_of t ≡ home_of s
  pub writes : WritesAtMost (Freeing (home_of s) (store_on s old) old) (4 * pointers) old now 0
  pub table : IsTrue old.honest → table_of now.image (home_of s) ≡ table_of old.image (home_of s)
  pub free : IsTrue old.honest
      → with_more_free (store_of now.image (home_of s)) (length rest) ≡ with_more_free (store_on s old) (length all)
  pub frees : IsTrue old.honest → FreesMore (store_on s old) (store_of now.image (home_of s))
  pub bits : IsTrue old.honest → FreeAlike all rest (volume_of old.image (home_of s)) (volume_of now.image (home_of s))
  pub unreferenced : IsTrue old.honest → AreAllUnreferenced (volume_of now.image (home_of s)) rest

pub giving-none : (s : Structure) (lbns : List ℕ) (old : Disk) → IsStructureFor s old
    → (IsTrue old.honest → AreAllUnreferenced (volume_of old.image (home_of s)) lbns) → Giving s s lbns lbns 0 old old
giving-none s lbns old for unreferenced = record {
  is_for = for;
  home = refl;
  writes = writes-none _ 0 old;
  table = λ _. refl;
  free = λ _. refl;
  frees = λ _. frees-none (store_on s old);
  bits = λ _. alike-same lbns (volume_of old.image (home_of s));
  unreferenced = unreferenced;
}

-- the pointer's blocks first
pub giving-at : {s t : Structure} {lbns : List ℕ} {old now : Disk} (runs : List (ℕ × ℕ)) (i left kept : ℕ) (run : ℕ × ℕ)
    → slice_get runs i ≡ Some run → kept ≡ min left run.1
    → Giving s t lbns (drop left (blocks_in (drop i runs))) i old now
    → Giving s t lbns (range_with_len (run.0 + kept) (run.1 - kept) ++ drop (left - kept) (blocks_in (drop (i + 1) runs))) i old now
giving-at {s} {t} {lbns} {old} {now} runs i left kept run at is giving =
    subst (λ (rest : List ℕ). Giving s t lbns rest i old now) (left-split runs i left kept run at is) giving

-- behind the last pointer none is left
pub giving-end : {s t : Structure} {lbns : List ℕ} {old now : Disk} (runs : List (ℕ × ℕ)) (i left : ℕ) → length runs ≤ i
    → Giving s t lbns (drop left (blocks_in (drop i runs))) i old now → Giving s t lbns [] i old now
giving-end {s} {t} {lbns} {old} {now} runs i left past giving =
    let none : drop left (blocks_in (drop i runs)) ≡ [] = ap (λ (rs : List (ℕ × ℕ)). drop left (blocks_in rs)) (drop_all i runs past)
    ∙ drop_all left [] (omega arith) in
    subst (λ (rest : List ℕ). Giving s t lbns rest i old now) none giving

-- so many free blocks more, and then more
more-twice : (s : Store) (m n : ℕ) → with_more_free (with_more_free s m) n ≡ with_more_free s (m + n)
more-twice s m n = let sum : s.free + m + n ≡ s.free + (m + n) = omega arith in ap (λ (free : ℕ). record s { free = free }) sum

module _ (s t : Structure) (all : List ℕ) (lbn count : ℕ) (rest : List ℕ) (pointers : ℕ) (old now : Disk)
    (giving : Giving s t all (range_with_len lbn count ++ rest) pointers old now) where
  -- in the words of what is kept now
  pub next-unreferenced : IsTrue now.honest → 0 < count → AreUnreferenced (volume_of now.image (home_of t)) lbn count
  next-unreferenced honest some =
      subst (λ (h : HomeFields). AreUnreferenced (volume_of now.image h) lbn count) (sym giving.home)
      (front-unreferenced lbn count rest (volume_of now.image (home_of s)) (giving.unreferenced (sym giving.writes.went.honest ∙ honest))
      some)

  module _ (u : Structure) (new : Disk) where
    pub giving-next : GivesRun (home_of t) lbn count now new → StaysFor false t u new → Giving s u all rest (pointers + 1) old new
    giving-next given stays =
        let gives : GivesRun (home_of s) lbn count now new = subst (λ (h : HomeFields). GivesRun h lbn count now new) giving.home given in
        record {
          is_for = stays-for stays;
          home = stays.home ∙ giving.home;
          writes = writes-within (λ _. omega arith)
              (writes-then (freeing-more (home_of s) (store_on s old) (store_of now.image (home_of s)) old now giving.writes.went.honest
              giving.frees) giving.writes gives.writes);
          table = λ honest. (done honest).table ∙ giving.table honest;
          free = λ honest.
              ap (λ (x : Store). with_more_free x (length rest)) (done honest).store
              ∙ more-twice (store_of now.image (home_of s)) count (length rest)
              ∙ ap (λ (n : ℕ). with_more_free (store_of now.image (home_of s)) n) (sym counted) ∙ giving.free honest;
          frees = λ honest.
              frees-then (store_on s old) (store_of now.image (home_of s)) (store_of new.image (home_of s)) (giving.frees honest)
              (subst (FreesMore (store_of now.image (home_of s))) (sym (done honest).store)
              (frees-blocks (store_of now.image (home_of s)) count));
          bits = λ honest.
              let was : Volume = volume_of now.image (home_of s) in
              let is : Volume = volume_of new.image (home_of s) in
              alike-then all (range_with_len lbn count ++ rest) rest (volume_of old.image (home_of s)) was is (giving.bits honest)
              (first-freed (range_with_len lbn count) rest was is (done honest).frees);
          unreferenced = λ honest. (done honest).unreferenced;
        }
      where
        counted : length (range_with_len lbn count ++ rest) ≡ count + length rest
        counted = length-append (range_with_len lbn count) rest ∙ ap (λ (n : ℕ). n + length rest) (length-range_with_len lbn count)

        done : IsTrue old.honest → Gave (home_of s) lbn count rest now.image new.image
        done honest =
            let now_honest : IsTrue now.honest = giving.writes.went.honest ∙ honest in
            gave (home_of s) lbn count rest now new (subst (HasSoundVolume now.image) giving.home (giving.is_for.sound now_honest))
            (giving.unreferenced honest) (cases_lt 0 count) now_honest
            (subst (λ (h : HomeFields). GivesRun h lbn count now new) giving.home given)

-- it was broken off
pub giving-breaks : {s t : Structure} {lbns rest : List ℕ} {pointers : ℕ} {old now new : Disk} {r : Refusal}
    → Giving s t lbns rest pointers old now → (most : ℕ) → pointers < most
    → BreaksOff (home_of t) (store_on t now) 4 r now new → BreaksOff (home_of s) (store_on s old) (4 * most) r old new
giving-breaks {now = now} {new = new} {r = r} giving most more breaks =
    let here = subst (λ (h : HomeFields). BreaksOff h (store_of now.image h) 4 r now new) giving.home breaks in
    breaks-within (λ _. omega (arith, more)) (breaks-then giving.frees giving.writes here)

-- all are
module _ (s t : Structure) (all : List ℕ) (pointers : ℕ) (old now : Disk) (giving : Giving s t all [] pointers old now) where
  pub giving-done : (most : ℕ) → pointers ≤ most → GivesBlocks (home_of s) all most old now
  giving-done most fewer = record {
    table = giving.table;
    store = λ honest.
        let none : (store_of now.image (home_of s)).free ≡ (store_of now.image (home_of s)).free + 0 = omega arith in
        ap (λ (free : ℕ). record (store_of now.image (home_of s)) { free = free }) none ∙ giving.free honest;
    frees = λ honest. all-freed all (volume_of old.image (home_of s)) (volume_of now.image (home_of s)) (giving.bits honest);
    writes = writes-within (λ _. omega (arith, fewer)) giving.writes;
  }

-- and what is kept is the disk's
pub giving-stays : {s t : Structure} {lbns rest : List ℕ} {pointers : ℕ} {old now : Disk} → Giving s t lbns rest pointers old now
    → StaysFor false s t now
giving-stays giving = record {
  home = giving.home;
  lies = λ _. giving.is_for.lies;
  sound = giving.is_for.sound;
  keeps = λ _. giving.is_for.keeps;
}
