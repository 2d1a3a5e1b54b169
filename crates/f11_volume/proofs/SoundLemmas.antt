-- A volume is sound exactly where it has no fault.
use Rattle.std.proofs.Common.{◌≡◌, ◌≢◌, ◌<◌, ◌+◌, ◌-◌, ◌⊎◌, inl, inr, ℕ, refl, subst, arith, List, Bool, true, false, ◌↔◌}
use Rattle.std.specs.Prelude.{IsTrue}
use Rattle.std.proofs.lemmas.Bool.{cases_eq, cases_lt, false_from_ne_true}
use Rattle.std.proofs.lemmas.Option.{slice_get_within, get_or_from_slice_get}
use Rattle.f11_chain.specs.header.Fields.{file_number, map_area}
use Rattle.f11_chain.specs.header.Header.{IsHeader, IsDead}
use Rattle.f11_chain.specs.map.HeaderBlock.{segment_number, blocks_named}
use Rattle.f11_chain.specs.index.Table.{Table, IsLive, IsNext}
use Rattle.f11_chain.specs.map.MapArea.{runs_of}
use Rattle.f11_chain.proofs.map.RunLemmas.{AreSome-runs_of}
use Rattle.f11_volume.specs.Faults.{IsVolumeFault, header_bad, pointer_outside, named_twice, named_free, wrong_link, linked_twice}
use Rattle.f11_volume.specs.Faults.{link_past_last, link_to_volume}
use Rattle.f11_volume.specs.Sound.{LinksOn, IsSoundVolume}
use Rattle.f11_volume.specs.Volume.{Volume, IsCell, HasPointer, IsLinked}
use Rattle.f11_volume.proofs.NamedLemmas.{named-by, names}

-- what can't fail holds, of numbers and tests
by : {P : Type 0} → P ⊎ (P → ⊥) → ¬ (¬ P) → P
by (inl p) q = p
by (inr n) q = absurd (q n)

pub same-stable : (a b : ℕ) → ¬ (a ≢ b) → a ≡ b
same-stable a b q = by (cases_eq a b) q

pub less-stable : (a b : ℕ) → ¬ (¬ (a < b)) → a < b
less-stable a b q = elim (cases_lt a b) [ inl less ↦ less | inr more ↦ absurd (q (λ less. omega (arith, less, more))) ]

pub true-stable : (b : Bool) → ¬ (¬ IsTrue b) → IsTrue b
true-stable true q = refl
true-stable false q = absurd (q (λ is. cc))

-- and so of headers
pub header-stable : (b : List ℕ) (n : ℕ) → ¬ (¬ IsHeader b n) → IsHeader b n
header-stable b n q = record {
  number = same-stable _ _ (λ not. q (λ is. not is.number));
  holds = true-stable _ (λ not. q (λ is. not is.holds));
  sum = same-stable _ _ (λ not. q (λ is. not is.sum));
}

pub live-stable : (t : Table) (n : ℕ) → ¬ (¬ IsLive t n) → IsLive t n
live-stable t n q = record {
  in_use = true-stable _ (λ not. q (λ is. not is.in_use));
  valid = header-stable _ _ (λ not. q (λ is. not is.valid));
}

pub next-stable : (t : Table) (n m : ℕ) → ¬ (¬ IsNext t n m) → IsNext t n m
next-stable t n m q = record {
  from = live-stable t n (λ not. q (λ is. not is.from));
  to = live-stable t m (λ not. q (λ is. not is.to));
  number = same-stable _ _ (λ not. q (λ is. not is.number));
  sequence = same-stable _ _ (λ not. q (λ is. not is.sequence));
  segment = same-stable _ _ (λ not. q (λ is. not is.segment));
}

abbrev pub HasNoFault : Volume → Type 0
HasNoFault v = (code a b : ℕ) → ¬ IsVolumeFault v code a b

module _ (v : Volume) (none : HasNoFault v) where
  headers : (n : ℕ) → v.table.in_use n ≡ true → IsDead (v.table.header n) ⊎ IsHeader (v.table.header n) n
  headers n used = elim (cases_eq (file_number (v.table.header n)) 0) [
    | inl dead ↦ inl dead
    | inr not ↦ inr (header-stable _ n (λ bad. none 7 n 0 (header_bad n used not bad)))
  ]

  inside : (n place lbn : ℕ) → IsCell v.table n place lbn → lbn < v.size
  unfolding blocks_named
  inside n place lbn cell =
      let is = named-by (runs_of (map_area (v.table.header n))) place lbn cell.names in
      less-stable _ _ (λ out. none 8 n is.pointer
      (pointer_outside n is.pointer is.run (record { live = cell.live; pointer = is.at }) (omega (arith, out, is.high))))

  apart : (n place m other lbn : ℕ) → IsCell v.table n place lbn → IsCell v.table m other lbn → (n ≡ m) × (place ≡ other)
  apart n place m other lbn one two =
      let twice : (n ≢ m) ⊎ (place ≢ other) → ⊥ = λ differ. none 9 lbn 0 (named_twice lbn (record {
        one = n;
        place = place;
        other = m;
        other_place = other;
        cell = one;
        other_cell = two;
        apart = differ;
      })) in
      (same-stable _ _ (λ not. twice (inl not)), same-stable _ _ (λ not. twice (inr not)))

  taken : (n place lbn : ℕ) → IsCell v.table n place lbn → v.free lbn ≡ false
  taken n place lbn cell =
      false_from_ne_true _ (λ free. none 10 lbn 0 (named_free lbn (record { header = n; place = place; cell = cell }) free))

  links : (n : ℕ) → IsLinked v.table n → LinksOn v.table n
  links n linked =
      let not_last : segment_number (v.table.header n) < 255 =
      less-stable _ _ (λ last. none 13 n 0 (link_past_last n linked (omega (arith, last)))) in
      record {
        not_last = not_last;
        here = same-stable _ _ (λ away. none 14 n 0 (link_to_volume n linked away));
        next = next-stable _ _ _ (λ wrong. none 11 n 0 (wrong_link n linked not_last wrong));
      }

  sound-from : IsSoundVolume v
  sound-from = record {
    headers = headers;
    inside = inside;
    apart = apart;
    taken = taken;
    links = links;
    once = λ n one other of also goes comes. same-stable _ _ (λ differ. none 12 n 0 (linked_twice n one other differ of also goes comes));
  }

outside : (v : Volume) → IsSoundVolume v → (n i : ℕ) (run : ℕ × ℕ) → HasPointer v.table n i run → v.size < run.0 + run.1 → ⊥
unfolding blocks_named
outside v sound n i run has out =
    let m : List ℕ = map_area (v.table.header n) in
    let some : 0 < run.1 = subst (λ (r : ℕ × ℕ). 0 < r.1) (get_or_from_slice_get (runs_of m) i run (0, 0) has.pointer)
    (AreSome-runs_of m i (0, 0) (slice_get_within (runs_of m) i run has.pointer)) in
    let named = names (runs_of m) i (run.1 - 1) run has.pointer (omega (arith, some)) in
    let low = sound.inside n named.0 (run.0 + (run.1 - 1)) (record { live = has.live; names = named.1 }) in
    omega (arith, out, low, some)

-- a sound volume has none
none-sound : (v : Volume) → IsSoundVolume v → HasNoFault v
none-sound v sound code a b (header_bad n used alive bad) = elim (sound.headers n used) [ inl dead ↦ alive dead | inr valid ↦ bad valid ]
none-sound v sound code a b (pointer_outside n i run has out) = outside v sound n i run has out
none-sound v sound code a b (named_twice lbn twice) =
    let one = sound.apart _ _ _ _ lbn twice.cell twice.other_cell in
    elim twice.apart [ inl differ ↦ differ one.0 | inr differ ↦ differ one.1 ]
none-sound v sound code a b (named_free lbn named free) = let used = sound.taken _ _ lbn named.cell in cc
none-sound v sound code a b (wrong_link n linked few wrong) = wrong (sound.links n linked).next
none-sound v sound code a b (linked_twice n one other differ of also goes comes) = differ (sound.once n one other of also goes comes)
none-sound v sound code a b (link_past_last n linked last) = let few = (sound.links n linked).not_last in omega (arith, few, last)
none-sound v sound code a b (link_to_volume n linked away) = away (sound.links n linked).here

pub no-fault-sound : (v : Volume) → HasNoFault v ↔ IsSoundVolume v
no-fault-sound v = (sound-from v, none-sound v)
