-- Slots that are added while a file of the plain store grows piece by piece.
use Rattle.std.proofs.Common.{◌≡◌, ℕ, ◌+◌, ◌-◌, ◌<◌, ◌≤◌, ◌&&◌, ◌||◌, ◌==◌, Bool, true, false, List, ◌++◌, Option, Some, take, unwrap_or}
use Rattle.std.proofs.Common.{refl, sym, ◌∙◌, ap, subst, arith, if◌then◌else◌, nat_le, nat_lt}
use Rattle.std.proofs.lemmas.Bool.Decides.{nat_tests}
use Rattle.f11_store.specs.Changes.{is_in, next_sequence, with_more_slots}
use Rattle.f11_store.specs.File.{File, need, no_file}
use Rattle.f11_store.specs.Store.{Store, free_headers, free_slots}
use Rattle.f11_store.specs.Pieces.{file_numbered, with_longer_file, AddsBlocks, HasPlaces}
use Rattle.f11_store.proofs.PieceLemmas.{has-places, headers-longer, longer-before, needs-add}
use Rattle.f11_store.proofs.StoreLemmas.{same-store}
use Rattle.f11_store.proofs.TakenSlotLemmas.{above-none, first-free, more-headers}

-- a store with no slot more
pub no-slots : (s : Store) → s ≡ with_more_slots s 0
no-slots s = same-store s (with_more_slots s 0) (λ m. refl) refl (omega arith) (λ m. refl) (λ m. none m (s.last m)) refl refl refl refl
  where
    none : (m l : ℕ) → l ≡ (if nat_lt s.slots m && nat_le m (s.slots + 0) then 0 else l)
    none m l = grind (arith, nat_tests)

-- slots are added twice
pub slots-twice : (s : Store) (a b : ℕ) → with_more_slots (with_more_slots s a) b ≡ with_more_slots s (a + b)
slots-twice s a b =
    same-store (with_more_slots (with_more_slots s a) b) (with_more_slots s (a + b))
    (λ m. refl) refl (omega arith) (λ m. refl) (λ m. twice m (s.last m)) refl refl refl refl
  where
    twice : (m l : ℕ) →
        (if nat_lt (s.slots + a) m && nat_le m (s.slots + a + b) then 0 else if nat_lt s.slots m && nat_le m (s.slots + a) then 0 else l)
        ≡ (if nat_lt s.slots m && nat_le m (s.slots + (a + b)) then 0 else l)
    twice m l = grind (arith, nat_tests)

-- a file that grows once slots were added, in headers that were free before: the slots may as well be added then
pub longer-then-slots :
    (s : Store) (k a n : ℕ) (f : File) (blocks : List (List ℕ)) (added pointers room : ℕ) → added ≤ free_headers s →
    with_longer_file (with_more_slots s a) k f n blocks added pointers room ≡ with_more_slots
    (with_longer_file s k f n blocks added pointers room) a
longer-then-slots s k a n f blocks added pointers room few =
    same-store
    (with_longer_file (with_more_slots s a) k f n blocks added pointers room)
    (with_more_slots (with_longer_file s k f n blocks added pointers room) a)
    (λ m. ap (λ (slots : List ℕ). if m == k then Some (record f {
      held = f.held ++ slots;
      pointers = pointers;
      room = room;
      blocks = f.blocks ++ blocks;
    }) else s.file m) taken)
    refl refl
    (λ m. ap (λ (slots : List ℕ). is_in slots m || s.in_use m) taken)
    (λ m.
    ap (λ (slots : List ℕ). if is_in slots m then next_sequence ((with_more_slots s a).last m) else (with_more_slots s a).last m) taken
    ∙ swapped (is_in (take added (free_slots s)) m) (nat_lt s.slots m) (nat_le m (s.slots + a)) (s.last m)
    (λ above. above-none s added m (let high : s.slots < m = grind (arith, nat_tests) in high)))
    refl refl refl refl
  where
    taken : take added (free_slots (with_more_slots s a)) ≡ take added (free_slots s)
    taken = first-free s a added few

    swapped : (x above y : Bool) (l : ℕ) → (above ≡ true → x ≡ false) →
        (if x then next_sequence (if above && y then 0 else l) else if above && y then 0 else l)
        ≡ (if above && y then 0 else if x then next_sequence l else l)
    swapped x false y l h = refl
    swapped x true y l h =
        ap (λ (b : Bool). if b then next_sequence (if y then 0 else l) else if y then 0 else l) (h refl)
        ∙ ap (λ (b : Bool). if y then 0 else if b then next_sequence l else l) (sym (h refl))

-- the headers that the second piece takes are free after the first
pub headers-left :
    (s t u : Store) (k n a b most p q : ℕ) (blocks more : List (List ℕ)) → HasPlaces s k n most → p + q ≤ most
    → (one : AddsBlocks s k a p blocks t)
    (two : AddsBlocks t k b q more u) → two.added ≤ free_headers t
headers-left s t u k n a b most p q blocks more may few one two =
    let same : file_numbered s k ≡ one.before = ap (λ (o : Option File). unwrap_or o no_file) one.was in
    let enough : need one.before.room most ≤ free_headers s = subst (λ (f : File). need f.room most ≤ free_headers s) same
    may.has_room.headers in
    let left : free_headers t ≡ free_headers s - one.added =
    ap (λ (x : Store). free_headers x) one.store_is ∙ headers-longer s k a one.before blocks one.added one.pointers one.room in
    let fits : two.added ≤ need one.room q =
    subst (λ (f : File). two.added ≤ need f.room q) (longer-before s t u k a b p q blocks more one two) two.may_grow.headers in
    omega (arith, enough, left, fits, needs-add one.before most p q one.added one.pointers one.room one.may_grow few)

-- what may grow may where there are more slots
pub may-more : (s : Store) (k n most a : ℕ) → HasPlaces s k n most → HasPlaces (with_more_slots s a) k n most
may-more s k n most a may =
    let has = may.has_room in
    has-places (with_more_slots s a) k n most (file_numbered s k) may.is_file
    (record { segments = has.segments; blocks = has.blocks; headers = omega (arith, has.headers, more-headers s a) })
