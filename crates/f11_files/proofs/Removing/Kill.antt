-- Headers that are killed, one after another, while each other slot keeps its block.
use Rattle.std.proofs.Common.{◌≡◌, ◌≢◌, ◌<◌, ◌≤◌, ◌==◌, ◌||◌, ℕ, Bool, true, false, List, ◌∷◌, set, inl, inr, refl, sym, ap, subst, ◌∙◌}
use Rattle.std.proofs.Common.{arith}
use Rattle.std.proofs.Math.Bool.{or-true}
use Rattle.std.proofs.lemmas.Bool.{cases_Bool, cases_eq, eq-eqb, false≢true, ne_eqb}
use Rattle.std.proofs.lemmas.List.{set-set, set_comm}
use Rattle.f11_dev.specs.Image.{Image}
use Rattle.f11_header.specs.Writing.{dead_header}
use Rattle.f11_home.specs.Home.{HomeFields}
use Rattle.f11_index.specs.IndexFile.{index_of}
use Rattle.f11_index.specs.Table.{Table, table_of, table_in}
use Rattle.f11_index.proofs.InUseLemmas.{in_use-some, in_use-slot}
use Rattle.f11_store.specs.Changes.{is_in}
use Rattle.f11_image_store.specs.Allocation.{Kills}
use Rattle.f11_files.specs.Removing.Drops.{KeepsBlocksBut}
use Rattle.f11_image_store.specs.SlotLaws.{KeepsOtherBlocks}

-- a byte that is 0 is 0 once another is
put-again : (l : List ℕ) (i j : ℕ) → i ≢ j → set l i 0 ≡ l → set (set l j 0) i 0 ≡ set l j 0
put-again l i j apart is = set_comm l j i 0 0 (λ same. apart (sym same)) ∙ ap (λ (m : List ℕ). set m j 0) is

-- a header that is killed twice is killed
pub dead-twice : (b : List ℕ) → dead_header (dead_header b) ≡ dead_header b
dead-twice b =
    let one : List ℕ = set b 2 0 in
    let two : List ℕ = set one 3 0 in
    let three : List ℕ = set two 510 0 in
    let first : set (dead_header b) 2 0 ≡ dead_header b =
    put-again three 2 511 (omega arith) (put-again two 2 510 (omega arith) (put-again one 2 3 (omega arith) (set-set b 2 0 0))) in
    let second : set (dead_header b) 3 0 ≡ dead_header b =
    put-again three 3 511 (omega arith) (put-again two 3 510 (omega arith) (set-set one 3 0 0)) in
    let third : set (dead_header b) 510 0 ≡ dead_header b = put-again three 510 511 (omega arith) (set-set two 510 0 0) in
    ap (λ (l : List ℕ). set (set (set l 3 0) 510 0) 511 0) first ∙ ap (λ (l : List ℕ). set (set l 510 0) 511 0) second
    ∙ ap (λ (l : List ℕ). set l 511 0) third ∙ set-set three 511 0 0

-- a slot in use is one of the table's
pub in_use-place : (image : Image) (home : HomeFields) (n : ℕ) → (table_of image home).in_use n ≡ true
    → (0 < n) × (n ≤ (table_of image home).slots)
unfolding table_in
in_use-place image home n used = (in_use-some (index_of image home) n used, in_use-slot (index_of image home) n used)

-- Slot n is one of the table's, and its header was killed.
pub record IsKilled (n : ℕ) (t u : Table) : Type 0 where
  pub some : 0 < n
  pub within : n ≤ t.slots
  pub kills : Kills n t u

-- Of the headers to be killed in one table these are left in another. Those that aren't were killed, and each other slot keeps its block.
pub record KillsAlike (xs ys : List ℕ) (t u : Table) : Type 0 where
  pub stays : KeepsBlocksBut xs t u
  pub fewer : (m : ℕ) → is_in xs m ≡ false → is_in ys m ≡ false
  pub alike : (m : ℕ) → 0 < m → m ≤ t.slots → dead_header (u.header m) ≡ dead_header (t.header m)
  pub killed : (m : ℕ) → is_in xs m ≡ true → is_in ys m ≡ false → IsKilled m t u

pub kills-same : (xs : List ℕ) (t : Table) → KillsAlike xs xs t t
kills-same xs t = record {
  stays = record { slots = refl; header = λ m some within out. refl };
  fewer = λ m out. out;
  alike = λ m some within. refl;
  killed = λ m is out. absurd (false≢true (sym out ∙ is));
}

-- a header that was killed before is as it was then
stays-killed : (ns : List ℕ) (t u v : Table) (n : ℕ) → KeepsBlocksBut ns u v → u.slots ≡ t.slots → is_in ns n ≡ false → IsKilled n t u
    → IsKilled n t v
stays-killed ns t u v n stays count out was = record {
  some = was.some;
  within = was.within;
  kills = stays.header n was.some (let few = was.within in omega (arith, count, few)) out ∙ was.kills;
}

pub kills-then : (xs ys zs : List ℕ) (t u v : Table) → KillsAlike xs ys t u → KillsAlike ys zs u v → KillsAlike xs zs t v
kills-then xs ys zs t u v one two = record {
  stays = record {
    slots = two.stays.slots ∙ one.stays.slots;
    header = λ m some within out. two.stays.header m some (place m within) (one.fewer m out) ∙ one.stays.header m some within out;
  };
  fewer = λ m out. two.fewer m (one.fewer m out);
  alike = λ m some within. two.alike m some (place m within) ∙ one.alike m some within;
  killed = λ m is gone. elim (cases_Bool (is_in ys m)) [
    | inl left ↦ later m (two.killed m left gone)
    | inr out ↦ stays-killed ys t u v m two.stays one.stays.slots out (one.killed m is out)
  ];
}
  where
    place : (m : ℕ) → m ≤ t.slots → m ≤ u.slots
    place m within = let count = one.stays.slots in omega (arith, count, within)

    later : (m : ℕ) → IsKilled m u v → IsKilled m t v
    later m was =
        let within : m ≤ t.slots = let count = one.stays.slots in let few = was.within in omega (arith, count, few) in
        record { some = was.some; within = within; kills = was.kills ∙ one.alike m was.some within }

-- what isn't among several is none of them
out-first : (n m : ℕ) (ns : List ℕ) → is_in (n ∷ ns) m ≡ false → m ≢ n
out-first n m ns out same = false≢true (sym out ∙ ap (λ (b : Bool). b || is_in ns m) (eq-eqb n m (sym same)))

out-rest : (n m : ℕ) (ns : List ℕ) → is_in (n ∷ ns) m ≡ false → is_in ns m ≡ false
out-rest n m ns out = elim (cases_Bool (is_in ns m)) [
  | inl is ↦ absurd (false≢true (sym out ∙ ap (λ (b : Bool). (n == m) || b) is ∙ or-true (n == m)))
  | inr none ↦ none
]

-- and what is, but not behind the first, is the first
is-first : (n m : ℕ) (ns : List ℕ) → is_in (n ∷ ns) m ≡ true → is_in ns m ≡ false → n ≡ m
is-first n m ns is out = elim (cases_eq n m) [
  | inl here ↦ here
  | inr away ↦ absurd (false≢true (sym out ∙ ap (λ (b : Bool). b || is_in ns m) (sym (ne_eqb n m away)) ∙ is))
]

-- the first of them was killed
pub kills-first : (n : ℕ) (ns : List ℕ) (t u : Table) → KeepsOtherBlocks n t u → IsKilled n t u → KillsAlike (n ∷ ns) ns t u
kills-first n ns t u others killed = record {
  stays = record { slots = others.slots; header = λ m some within out. others.header m some within (out-first n m ns out) };
  fewer = λ m out. out-rest n m ns out;
  alike = λ m some within. elim (cases_eq m n) [
    | inl here ↦ subst (λ (k : ℕ). dead_header (u.header k) ≡ dead_header (t.header k)) (sym here)
        (ap dead_header killed.kills ∙ dead-twice (t.header n))
    | inr away ↦ ap dead_header (others.header m some within away)
  ];
  killed = λ m is out. subst (λ (k : ℕ). IsKilled k t u) (is-first n m ns is out) killed;
}

-- it was killed before the others were
pub killed-both : (n : ℕ) (ns : List ℕ) (t u v : Table) → KeepsOtherBlocks n t u → IsKilled n t u → KeepsBlocksBut ns u v
    → ((m : ℕ) → is_in ns m ≡ true → (0 < m) × (m ≤ t.slots))
    → ((m : ℕ) → is_in ns m ≡ true → Kills m u v) → (m : ℕ) → is_in (n ∷ ns) m ≡ true → Kills m t v
killed-both n ns t u v others killed stays places rest m is = elim (cases_Bool (is_in ns m)) [
  | inl behind ↦ rest m behind ∙ (kills-first n ns t u others killed).alike m (places m behind).0 (places m behind).1
  | inr out ↦
      let here : n ≡ m = is-first n m ns is out in
      (stays-killed ns t u v m stays others.slots out (subst (λ (k : ℕ). IsKilled k t u) here killed)).kills
]
