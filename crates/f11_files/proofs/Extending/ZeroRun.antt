-- Blocks that are made zeros one after another: what holds of each of them holds of all.
use Rattle.std.proofs.Common.{◌≡◌, ◌+◌, ◌<◌, ◌≤◌, ℕ, zero, suc, true, IsTrue, Result, Ok, Err, OnOk, OnErr, length, refl, sym, subst}
use Rattle.std.proofs.Common.{arith}
use Rattle.std.specs.List.{range_with_len}
use Rattle.f11_dev.specs.Disk.{Disk}
use Rattle.f11_dev.specs.Zeros.{with_zeros_from, StopsAmongZeros, WritesZeros}
use Rattle.f11_home.specs.Home.{HomeFields}
use Rattle.f11_image_store.specs.Confines.{no_header}
use Rattle.f11_store.specs.Changes.{is_in}
use Rattle.f11_volume.specs.Volume.{volume_of}
use Rattle.f11_writes.specs.NameLaws.{AreUnreferenced}
use Rattle.f11_files.specs.Extending.Zeros.{Zeroes, FailsToZero}
use Rattle.f11_files.specs.Structure.{home_of, ConfinesTo, IsStructureFor}
use Rattle.f11_files.specs.declared.structure.Structure.{Structure}
use Rattle.f11_files.proofs.Confining.Parts.{other-failed, other-wrote, parts-none, stands-same, stands-within, to-parts, to-then}
use Rattle.f11_files.proofs.Extending.Zero.{fails-zero, unzeroed-order, zeroed-order, zeroes-more, zeroes-none}
use Rattle.f11_files.proofs.Removing.Loss.{in-run}

module _ (s : Structure) (lbn count : ℕ) (old : Disk) (for : IsStructureFor s old) (within : lbn + count ≤ length old.image)
    (unreferenced : IsTrue old.honest → AreUnreferenced (volume_of old.image (home_of s)) lbn count) where
  abbrev home : HomeFields
  home = home_of s

  abbrev Confined : Disk → Disk → Type 0
  Confined = ConfinesTo s no_header (range_with_len lbn count)

  -- so many of them are zeros
  abbrev after : ℕ → Disk
  after k = with_zeros_from lbn k old

  then : {a b c : Disk} → Confined a b → Confined b c → Confined a c
  then one two =
      to-then s s no_header no_header (range_with_len lbn count) (range_with_len lbn count)
      (stands-within s s no_header no_header (range_with_len lbn count) (λ n is. is) (stands-same s)) (λ l out. out) one two

  here : (k : ℕ) → k < count → is_in (range_with_len lbn count) (lbn + k) ≡ true
  here k few = in-run lbn count (lbn + k) (omega arith) (omega (arith, few))

  zeroes-first : (k : ℕ) → k ≤ count → Zeroes home lbn k old (after k)
  zeroes-first zero few = zeroes-none home lbn count old within for.sound unreferenced
  zeroes-first (suc k) few = subst (λ n. Zeroes home lbn n old (after (suc k))) next
      (zeroes-more home lbn count old within for.sound unreferenced k (after k) (after (suc k)) (omega (arith, few))
      (zeroes-first k (omega (arith, few))) refl)
    where
      next : k + 1 ≡ suc k
      next = omega arith

  confined-first : (k : ℕ) → k ≤ count → Confined old (after k)
  confined-first zero few = to-parts s no_header no_header (range_with_len lbn count) (λ n is. is) (parts-none s no_header old)
  confined-first (suc k) few = then (confined-first k (omega (arith, few)))
      (other-wrote s no_header (range_with_len lbn count) (lbn + k) _ (after k) (after (suc k)) (here k (omega (arith, few))) refl
      (zeroed-order home lbn count old within for.sound unreferenced k (after k) (after (suc k)) (omega (arith, few))
      (zeroes-first k (omega (arith, few))) refl))

  module _ {E : Type 0} (result : Result Unit E) (new : Disk) (writes : WritesZeros result lbn count old new) where
    pub run-zeroed : OnOk result (Zeroes home lbn count old new)
    run-zeroed = of result writes
      where
        of : (result : Result Unit E) → WritesZeros result lbn count old new → OnOk result (Zeroes home lbn count old new)
        of (Ok x) writes = subst (Zeroes home lbn count old) (sym writes.ok) (zeroes-first count (omega arith))
        of (Err e) writes = tt

    pub run-failed : OnErr result (FailsToZero home count old new)
    run-failed = of result writes
      where
        of : (result : Result Unit E) → WritesZeros result lbn count old new → OnErr result (FailsToZero home count old new)
        of (Ok x) writes = tt
        of (Err e) writes =
            let stops : StopsAmongZeros lbn count old new = writes.err in
            fails-zero home lbn count old within for.sound unreferenced stops.written (after stops.written) new stops.fewer
            (zeroes-first stops.written (omega (arith, stops.fewer))) stops.fails

    pub run-confined : Confined old new
    run-confined = of result writes
      where
        of : (result : Result Unit E) → WritesZeros result lbn count old new → Confined old new
        of (Ok x) writes = subst (Confined old) (sym writes.ok) (confined-first count (omega arith))
        of (Err e) writes =
            let stops : StopsAmongZeros lbn count old new = writes.err in
            let few : stops.written ≤ count = omega (arith, stops.fewer) in
            then (confined-first stops.written few)
            (other-failed s no_header (range_with_len lbn count) (lbn + stops.written) _ (after stops.written) new
            (here stops.written stops.fewer) stops.fails
            (unzeroed-order home lbn count old within for.sound unreferenced stops.written (after stops.written) new stops.fewer
            (zeroes-first stops.written few) stops.fails))
