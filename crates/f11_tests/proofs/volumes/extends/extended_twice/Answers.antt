use Rattle.std.proofs.Common.{◌≡◌, ◌+◌, ◌≤◌, ◌==◌, ℕ, zero, suc, false, IsTrue, Result, Ok, Err, refl, sym, subst, ap, arith, ◌∙◌}
use Rattle.std.specs.Prelude.{IfOk, OnOk}
use Rattle.std.proofs.lemmas.Bool.{ne_eqb}
use Rattle.f11_dev.specs.Disk.{Disk}
use Rattle.f11_home.specs.Home.{HomeFields}
use Rattle.f11_store.specs.Changes.{with_slots_added, Lengthens}
use Rattle.f11_store.specs.File.{need}
use Rattle.f11_store.specs.Headroom.{slots_first}
use Rattle.f11_store.specs.SlotsFirst.{IsReady}
use Rattle.f11_store.specs.Store.{Store, file_named}
use Rattle.f11_store.specs.declared.files.FileId.{FileId}
use Rattle.f11_store.proofs.SlotsFirst.{gained-is-ready}
use Rattle.f11_volume.specs.Volume.{Volume, volume_of}
use Rattle.f11_image_store.specs.Allocation.{AddsZeroSlots, GainsBlocks}
use Rattle.f11_image_store.specs.StoreOf.{store_of}
use Rattle.f11_image_store.proofs.AllocationLawLemmas.{gains-both}
use Rattle.f11_files.specs.Extending.Runs.{ExtendsFile}
use Rattle.f11_files.specs.Overall.{AllotsAfter}
use Rattle.f11_files.proofs.GrowingIndex.ZeroSlots.{zero-then}
use Rattle.f11_files.proofs.Overall.{extends-is}
use Rattle.f11_tests.proofs.volumes.extends.extended_twice.Goals as goal

-- how many slots there are once those that come first are there
ready-slots : (s t : Store) (k : ℕ) → IsReady s k t → t.slots ≡ s.slots + k
ready-slots s t k ready = ready.slots ∙ by_count k
  where
    by_count : (k : ℕ) → (with_slots_added k s).slots ≡ s.slots + k
    by_count zero = omega arith
    by_count (suc k) = refl

-- the same of a file that was extended
slots-after : (s t : Store) (f : FileId) (n : ℕ) → Lengthens s f n t → t.slots ≡ s.slots + slots_first s (need (file_named s f).room n)
slots-after s t f n makes =
    let headers : ℕ = need (file_named s f).room n in
    ap (λ (x : Store). x.slots) makes.makes.store_is
    ∙ ready-slots s makes.ready (slots_first s headers) (gained-is-ready s makes.ready headers makes.gains)

-- where none comes first, the rest is all
alone : (f n k : ℕ) (v w : Volume) → AllotsAfter k (GainsBlocks f n) v w → k ≡ 0 → GainsBlocks f n v w
alone f n zero v w a e = subst (λ (x : Volume). GainsBlocks f n x w) a.slots a.rest
alone f n (suc k) v w a e = absurd (cc)

-- the blocks of both calls, with the home block that the volume had
module _ (f : FileId) (h : HomeFields) (own : 4 ≤ f.number) where
  other : (f.number == 1) ≡ false
  other = ne_eqb f.number 1 (λ is. absurd (omega (arith, own, is)))

  abbrev added : ℕ → Disk → ℕ
  added n old = slots_first (store_of old.image h) (need (file_named (store_of old.image h) f).room n)

  slots-then : (n : ℕ) (old new : Disk) → IsTrue old.honest → ExtendsFile h f n old new
      → (store_of new.image h).slots ≡ (store_of old.image h).slots + added n old
  slots-then n old new honest extends =
      slots-after (store_of old.image h) (store_of new.image h) f n ((extends-is h f n old new other extends).makes honest)

  gains : (n : ℕ) (old new : Disk) → IsTrue old.honest → ExtendsFile h f n old new → added n old ≡ 0
      → GainsBlocks f.number n (volume_of old.image h) (volume_of new.image h)
  gains n old new honest extends none =
      alone f.number n (added n old) (volume_of old.image h) (volume_of new.image h)
      ((extends-is h f n old new other extends).allots honest).allots none

  twice : (n more : ℕ) (old mid new : Disk) → IsTrue old.honest → ExtendsFile h f n old mid → ExtendsFile h f more mid new
      → (store_of new.image h).slots ≡ (store_of old.image h).slots
      → GainsBlocks f.number (n + more) (volume_of old.image h) (volume_of new.image h)
  twice n more old mid new honest one two same =
      let then : IsTrue mid.honest = (extends-is h f n old mid other one).writes.went.honest ∙ honest in
      let first = slots-then n old mid honest one in
      let second = slots-then more mid new then two in
      gains-both f.number n more (volume_of old.image h) (volume_of mid.image h) (volume_of new.image h)
      (gains n old mid honest one (omega (arith, first, second, same))) (gains more mid new then two (omega (arith, first, second, same)))

  -- slots that aren't in use
  keeps : (n : ℕ) (old new : Disk) → IsTrue old.honest → ExtendsFile h f n old new
      → AddsZeroSlots (volume_of old.image h).table (volume_of new.image h).table
  keeps n old new honest extends = ((extends-is h f n old new other extends).allots honest).slots

  keeps-twice : (n more : ℕ) (old mid new : Disk) → IsTrue old.honest → ExtendsFile h f n old mid → ExtendsFile h f more mid new
      → AddsZeroSlots (volume_of old.image h).table (volume_of new.image h).table
  keeps-twice n more old mid new honest one two =
      zero-then (volume_of old.image h).table (volume_of mid.image h).table (volume_of new.image h).table (keeps n old mid honest one)
      (keeps more mid new ((extends-is h f n old mid other one).writes.went.honest ∙ honest) two)

on-ok : {T E P : Type 0} {Q : T → Type 0} (r : Result T E) → IfOk r Q → ((x : T) → Q x → P) → OnOk r P
on-ok (Ok x) is next = next x is
on-ok (Err e) is next = tt

-- the home blocks of the three
same-homes : (f : FileId) (n more : ℕ) (h0 h1 h2 : HomeFields) (old mid new : Disk) → 4 ≤ f.number → h1 ≡ h0 → h2 ≡ h1 → IsTrue old.honest
    → ExtendsFile h0 f n old mid → ExtendsFile h1 f more mid new → (store_of new.image h2).slots ≡ (store_of old.image h0).slots
    → GainsBlocks f.number (n + more) (volume_of old.image h0) (volume_of new.image h2)
same-homes f n more h0 h1 h2 old mid new own first second honest one two same =
    subst (λ (h : HomeFields). GainsBlocks f.number (n + more) (volume_of old.image h0) (volume_of new.image h)) (sym (second ∙ first))
    (twice f h0 own n more old mid new honest one (subst (λ (h : HomeFields). ExtendsFile h f more mid new) first two)
    (subst (λ (h : HomeFields). (store_of new.image h).slots ≡ (store_of old.image h0).slots) (second ∙ first) same))

unused-homes : (f : FileId) (n more : ℕ) (h0 h1 h2 : HomeFields) (old mid new : Disk) → 4 ≤ f.number → h1 ≡ h0 → h2 ≡ h1
    → IsTrue old.honest → ExtendsFile h0 f n old mid → ExtendsFile h1 f more mid new
    → AddsZeroSlots (volume_of old.image h0).table (volume_of new.image h2).table
unused-homes f n more h0 h1 h2 old mid new own first second honest one two =
    subst (λ (h : HomeFields). AddsZeroSlots (volume_of old.image h0).table (volume_of new.image h).table) (sym (second ∙ first))
    (keeps-twice f h0 own n more old mid new honest one (subst (λ (h : HomeFields). ExtendsFile h f more mid new) first two))

pub returns : goal.returns
returns g c =
    record {
      gains = λ honest same.
          on-ok c.extend-2.result c.extend-2.ensures.extended
          (λ blocks two. same-homes c.args.f c.args.n c.args.more _ _ _ _ _ _ c.requires.id.number c.extend.ensures.answers.home
          c.extend-2.ensures.answers.home
          honest c.in_ok-extend.ensures.extended.1 two.1 same);
      unused = λ honest.
          on-ok c.extend-2.result c.extend-2.ensures.extended
          (λ blocks two. unused-homes c.args.f c.args.n c.args.more _ _ _ _ _ _ c.requires.id.number c.extend.ensures.answers.home
          c.extend-2.ensures.answers.home honest c.in_ok-extend.ensures.extended.1 two.1);
    }
