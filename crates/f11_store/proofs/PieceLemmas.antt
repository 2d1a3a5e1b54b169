-- A file of the plain store that grows piece by piece.
use Rattle.std.proofs.Common.{◌≡◌, ◌≢◌, ℕ, zero, suc, ◌+◌, ◌-◌, ◌*◌, ◌<◌, ◌≤◌, ◌==◌, ◌||◌, ◌⊎◌, inl, inr, Bool, true, false, List, [], ◌∷◌}
use Rattle.std.proofs.Common.{◌++◌, Option, Some, None, length, take, drop, slice_index, unwrap_or, option_map, refl, sym, ◌∙◌, ap, subst}
use Rattle.std.proofs.Common.{arith, append_assoc, if◌then◌else◌, nat_lt}
use Rattle.std.proofs.Math.Bool.{or-true}
use Rattle.std.proofs.Math.Seq.{take-add}
use Rattle.std.proofs.lemmas.Bool.{cases_eq, eq-eqb, ne_eqb}
use Rattle.std.proofs.lemmas.Bool.Decides.{nat_tests}
use Rattle.std.proofs.lemmas.List.{append-nil, length-append, length-drop, length-take, replicate-append-replicate}
use Rattle.std.proofs.lemmas.Nat.{and_assoc}
use Rattle.f11_store.proofs.Frees.{same_limits_then}
use Rattle.f11_store.proofs.StoreLemmas.{none_first, none_rest, same_number, same-store}
use Rattle.f11_store.specs.Causes.{first_of, growth_causes}
use Rattle.f11_store.specs.Changes.{grown_file, is_in, next_sequence, with_change, with_grown_file, with_slots, Grows, MayGrow}
use Rattle.f11_store.specs.File.{File, need, no_file, without_contiguous, zero_block, zero_blocks}
use Rattle.f11_store.specs.Lags.{with_no_mark}
use Rattle.f11_store.specs.Store.{Store, free_headers, free_slots, least_free}
use Rattle.f11_store.specs.declared.refusals.Refusal.TheVariants.{DeviceFull, NoHeader, TooManySegments}
use Rattle.f11_store.specs.Pieces.{with_more_free, with_more_blocks, file_numbered, longer_file, with_longer_file, AddsBlocks, HasPlaces}
use Rattle.f11_store.specs.Pieces.{HasRoom, TakingAdds}
use Rattle.f11_store.proofs.TakenSlotLemmas.{both-in, free-left, used-none}

-- the contiguous mark that was cleared is clear
pub cleared-twice : (c : ℕ) → without_contiguous (without_contiguous c) ≡ without_contiguous c
cleared-twice c = and_assoc 65407 c 65407

pub not-more : (a b : ℕ) → nat_lt a b ≡ false → b ≤ a
not-more a b h = grind (arith, nat_tests)

-- room for n more blocks of a file, each of which may take a pointer
pub has-room : (s : Store) (f : File) (n : ℕ) → first_of (growth_causes s f n) ≡ None → HasRoom s f n n
has-room s f n h =
    let first = none_rest (nat_lt 256 (length f.held + need f.room n)) TooManySegments _ h in
    let second = none_rest (nat_lt s.free n) DeviceFull _ first in
    record {
      segments = not-more 256 (length f.held + need f.room n) (none_first _ TooManySegments _ h);
      blocks = not-more s.free n (none_first _ DeviceFull _ first);
      headers = not-more (free_headers s) (need f.room n) (none_first _ NoHeader _ second);
    }

-- the free headers once some were added
free-longer :
    (s : Store) (k n : ℕ) (f : File) (blocks : List (List ℕ)) (added pointers room : ℕ) →
    free_slots (with_longer_file s k f n blocks added pointers room) ≡ drop added (free_slots s)
free-longer s k n f blocks added pointers room = free-left s (with_longer_file s k f n blocks added pointers room) added refl refl

pub headers-longer :
    (s : Store) (k n : ℕ) (f : File) (blocks : List (List ℕ)) (added pointers room : ℕ) →
    free_headers (with_longer_file s k f n blocks added pointers room) ≡ free_headers s - added
headers-longer s k n f blocks added pointers room =
    ap length (free-longer s k n f blocks added pointers room) ∙ length-drop added (free_slots s)

-- n pointers need no fewer headers than some of them and the others
pub needs-add : (f : File) (n a b added pointers room : ℕ) → MayGrow f a added pointers room → a + b ≤ n
    → added + need room b ≤ need f.room n
needs-add f n a b zero pointers room may h = omega (arith, may.no_more, may.no_fewer, may.places, h)
needs-add f n a b (suc m) pointers room may h =
    let filled : room ≤ 101 = may.filled (omega arith) in
    omega (arith, may.headers, may.no_more, may.no_fewer, may.places, filled, h)

-- a file that grows twice: what it has then
file-twice :
    (s : Store) (k a : ℕ) (f : File) (one two : List (List ℕ)) (added pointers room more pointers' room' : ℕ) →
    longer_file (with_longer_file s k f a one added pointers room) (longer_file s f one added pointers room) two more pointers' room'
    ≡ longer_file s f (one ++ two) (added + more) pointers' room'
file-twice s k a f one two added pointers room more pointers' room' = λ i.
    record (longer_file s f (one ++ two) (added + more) pointers' room') {
      held = held i;
      blocks = append_assoc f.blocks one two i;
    }
  where
    free : List ℕ
    free = free_slots s

    held : (f.held ++ take added free) ++ take more (free_slots (with_longer_file s k f a one added pointers room)) ≡ f.held ++ take
        (added + more) free
    held =
        append_assoc f.held (take added free) _
        ∙ ap (λ (l : List ℕ). f.held ++ (take added free ++ take more l)) (free-longer s k a f one added pointers room)
        ∙ ap (λ (l : List ℕ). f.held ++ l) (sym (take-add added more free))

-- and the store
longer-twice :
    (s : Store) (k a b : ℕ) (f : File) (one two : List (List ℕ)) (added pointers room more pointers' room' : ℕ) →
    with_longer_file (with_longer_file s k f a one added pointers room) k (longer_file s f one added pointers room) b two more pointers'
    room'
    ≡ with_longer_file s k f (a + b) (one ++ two) (added + more) pointers' room'
longer-twice s k a b f one two added pointers room more pointers' room' =
    same-store
    (with_longer_file t k (longer_file s f one added pointers room) b two more pointers' room')
    (with_longer_file s k f (a + b) (one ++ two) (added + more) pointers' room')
    (λ n. two_writes (n == k) (s.file n)) (omega arith) refl
    (λ n. two_marks _ _ (s.in_use n) ∙ ap (λ (b : Bool). b || s.in_use n) (whole n))
    (λ n. two_numbers _ _ (s.last n) (apart n) ∙ ap (λ (b : Bool). if b then next_sequence (s.last n) else s.last n) (whole n))
    refl refl refl refl
  where
    t : Store
    t = with_longer_file s k f a one added pointers room

    slots : List ℕ
    slots = free_slots s

    whole : (n : ℕ) → (is_in (take added slots) n || is_in (take more (free_slots t)) n) ≡ is_in (take (added + more) slots) n
    whole n =
        ap (λ (l : List ℕ). is_in (take added slots) n || is_in (take more l) n) (free-longer s k a f one added pointers room)
        ∙ sym (both-in slots added more n)

    apart : (n : ℕ) → is_in (take added slots) n ≡ true → is_in (take more (free_slots t)) n ≡ false
    apart n e = used-none t more n (ap (λ (b : Bool). b || s.in_use n) e)

    two_writes : (here : Bool) (o : Option File) →
        (if here then Some (longer_file t (longer_file s f one added pointers room) two more pointers' room')
        else if here then Some (longer_file s f one added pointers room) else o)
        ≡ (if here then Some (longer_file s f (one ++ two) (added + more) pointers' room') else o)
    two_writes true o = ap Some (file-twice s k a f one two added pointers room more pointers' room')
    two_writes false o = refl

    two_marks : (x y z : Bool) → (y || (x || z)) ≡ ((x || y) || z)
    two_marks true y z = or-true y
    two_marks false y z = refl

    two_numbers : (x y : Bool) (l : ℕ) → (x ≡ true → y ≡ false) →
        (if y then next_sequence (if x then next_sequence l else l) else if x then next_sequence l else l)
        ≡ (if x || y then next_sequence l else l)
    two_numbers true y l h = ap (λ (b : Bool). if b then next_sequence (next_sequence l) else next_sequence l) (h refl)
    two_numbers false y l h = refl

-- by no block
longer-none :
    (s : Store) (k : ℕ) (f : File) → s.file k ≡ Some f → s ≡ with_longer_file s k f 0 [] 0 f.pointers f.room
longer-none s k f was =
    same-store s (with_longer_file s k f 0 [] 0 f.pointers f.room)
    (λ n. by_number n (cases_eq n k)) (omega arith) refl (λ n. refl) (λ n. refl) refl refl refl refl
  where
    same : f ≡ longer_file s f [] 0 f.pointers f.room
    same = λ i. record f { held = sym (append-nil f.held) i; blocks = sym (append-nil f.blocks) i }

    by_number : (n : ℕ) → (n ≡ k) ⊎ (n ≢ k) → s.file n ≡ (if n == k then Some (longer_file s f [] 0 f.pointers f.room) else s.file n)
    by_number n (inl e) =
        ap s.file e ∙ was ∙ ap Some same
        ∙ sym (ap (λ (b : Bool). if b then Some (longer_file s f [] 0 f.pointers f.room) else s.file n) (eq-eqb n k e))
    by_number n (inr e) = sym (ap (λ (b : Bool). if b then Some (longer_file s f [] 0 f.pointers f.room) else s.file n) (ne_eqb n k e))

pub none-adds : (s : Store) (k n most : ℕ) → HasPlaces s k n most → AddsBlocks s k 0 0 [] s
none-adds s k n most may = record {
  before = file_numbered s k;
  added = 0;
  pointers = (file_numbered s k).pointers;
  room = (file_numbered s k).room;
  was = may.is_file;
  may_grow = record {
    headers = omega arith;
    no_fewer = omega arith;
    no_more = omega arith;
    places = omega arith;
    filled = λ some.
        omega (arith, some);
  };
  store_is = longer-none s k (file_numbered s k) may.is_file;
}

pub none-zeros : (s : Store) (k n most : ℕ) → HasPlaces s k n most → AddsBlocks s k 0 0 (zero_blocks 0) s
unfolding zero_blocks
none-zeros s k n most may = none-adds s k n most may

-- a file that may grow is one with room
pub has-places : (s : Store) (k n most : ℕ) (f : File) → s.file k ≡ Some f → HasRoom s f n most → HasPlaces s k n most
has-places s k n most f was has =
    let same : f ≡ file_numbered s k = sym (ap (λ (o : Option File). unwrap_or o no_file) was) in
    record { is_file = was ∙ ap Some same; has_room = subst (λ (g : File). HasRoom s g n most) same has }

pub fewer-may : (s : Store) (k n m p q : ℕ) → HasPlaces s k n p → m ≤ n → q ≤ p → HasPlaces s k m q
fewer-may s k n m p q may few fewer =
    let has = may.has_room in record {
      is_file = may.is_file;
      has_room = record {
        segments = omega (arith, has.segments, fewer);
        blocks = omega (arith, has.blocks, few);
        headers = omega (arith, has.headers, fewer);
      };
    }

-- what has room for n blocks more has, after some of them, for the others
room-then :
    (s : Store) (k n a most p : ℕ) (f : File) (blocks : List (List ℕ)) (added pointers room : ℕ) → HasRoom s f n most
    → MayGrow f p added pointers room → a ≤ n →
    p ≤ most → HasRoom (with_longer_file s k f a blocks added pointers room) (longer_file s f blocks added pointers room) (n - a) (most - p)
room-then s k n a most p f blocks added pointers room has may few fewer =
    let need_less : added + need room (most - p) ≤ need f.room most = needs-add f most p (most - p) added pointers room may
    (omega (arith, fewer)) in
    record {
      segments = omega (arith, has.segments, need_less, length-append f.held (take added (free_slots s)), length-take added (free_slots s));
      blocks = omega (arith, has.blocks, few);
      headers = omega (arith, has.headers, need_less, headers-longer s k a f blocks added pointers room);
    }

pub others-may-grow :
    (s t : Store) (k n a most p : ℕ) (blocks : List (List ℕ)) → HasPlaces s k n most → AddsBlocks s k a p blocks t → a ≤ n → p ≤ most →
    HasPlaces t k (n - a) (most - p)
others-may-grow s t k n a most p blocks may e few fewer =
    let same : file_numbered s k ≡ e.before = ap (λ (o : Option File). unwrap_or o no_file) e.was in
    let has : HasRoom s e.before n most = subst (λ (g : File). HasRoom s g n most) same may.has_room in
    subst (λ (x : Store). HasPlaces x k (n - a) (most - p)) (sym e.store_is)
    (has-places (with_longer_file s k e.before a blocks e.added e.pointers e.room) k (n - a) (most - p)
    (longer_file s e.before blocks e.added e.pointers e.room)
    (ap (λ (b : Bool). if b then Some (longer_file s e.before blocks e.added e.pointers e.room) else s.file k) (same_number k))
    (room-then s k n a most p e.before blocks e.added e.pointers e.room has e.may_grow few fewer))

-- more pointers may be allowed
pub may-within : (f : File) (p q added pointers room : ℕ) → p ≤ q → MayGrow f p added pointers room → MayGrow f q added pointers room
may-within f p q added pointers room few may = record {
  headers = omega (arith, may.headers, few);
  no_fewer = may.no_fewer;
  no_more = omega (arith, may.no_more, few);
  places = may.places;
  filled = may.filled;
}

-- two pieces are one
may-twice :
    (f g : File) (a b added pointers room more pointers' room' : ℕ) → MayGrow f a added pointers room → g.pointers ≡ pointers
    → g.room ≡ room →
    MayGrow g b more pointers' room' → MayGrow f (a + b) (added + more) pointers' room'
may-twice f g a b added pointers room more pointers' room' one pointers_are room_is two = record {
  headers = by_number (added + more) refl;
  no_fewer = omega (arith, one.no_fewer, two.no_fewer, pointers_are);
  no_more = omega (arith, one.no_more, two.no_more, pointers_are);
  places = places;
  filled = filled;
}
  where
    places : pointers' + room' ≡ f.pointers + f.room + 102 * (added + more)
    places = omega (arith, one.places, two.places, pointers_are, room_is)

    filled : 0 < added + more → room' ≤ 101
    filled some = by_more more refl some
      where
        by_more : (m : ℕ) → more ≡ m → 0 < added + more → room' ≤ 101
        by_more zero e some =
            let first : room ≤ 101 = one.filled (omega (arith, some, e)) in
            omega (arith, first, e, two.places, two.no_fewer, pointers_are, room_is)
        by_more (suc m) e some = two.filled (omega (arith, e))

    by_number : (n : ℕ) → added + more ≡ n → added + more ≤ need f.room (a + b)
    by_number zero e = omega (arith, e)
    by_number (suc n) e =
        let last : room' ≤ 101 = filled (omega (arith, e)) in
        omega (arith, places, last, one.no_more, two.no_more, pointers_are)

-- what a file has that grew, as one that grows again
pub longer-before :
    (s t u : Store) (k a b p q : ℕ) (blocks more : List (List ℕ)) (one : AddsBlocks s k a p blocks t) (two : AddsBlocks t k b q more u) →
    two.before ≡ longer_file s one.before blocks one.added one.pointers one.room
longer-before s t u k a b p q blocks more one two =
    let longer : File = longer_file s one.before blocks one.added one.pointers one.room in
    let now : t.file k ≡ Some longer =
    ap (λ (x : Store). x.file k) one.store_is ∙ ap (λ (b : Bool). if b then Some longer else s.file k) (same_number k) in
    ap (λ (o : Option File). unwrap_or o no_file) (sym two.was ∙ now)

pub adds-twice :
    (s t u : Store) (k a b p q : ℕ) (blocks more : List (List ℕ)) (one : AddsBlocks s k a p blocks t) (two : AddsBlocks t k b q more u) →
    (whole : AddsBlocks s k (a + b) (p + q) (blocks ++ more) u) × (whole.added ≡ one.added + two.added)
adds-twice s t u k a b p q blocks more one two =
    let same = longer-before s t u k a b p q blocks more one two in (
      record {
        before = one.before;
        added = one.added + two.added;
        pointers = two.pointers;
        room = two.room;
        was = one.was;
        may_grow =
            may-twice one.before two.before p q one.added one.pointers one.room two.added two.pointers two.room one.may_grow
            (ap (λ (f : File). f.pointers) same) (ap (λ (f : File). f.room) same) two.may_grow;
        store_is =
            two.store_is
            ∙ (λ i. with_longer_file (one.store_is i) k (same i) b more two.added two.pointers two.room)
            ∙ longer-twice s k a b one.before blocks more one.added one.pointers one.room two.added two.pointers two.room;
      },
      refl,
    )

pub zeros-add : (a b : ℕ) → zero_blocks a ++ zero_blocks b ≡ zero_blocks (a + b)
unfolding zero_blocks
zeros-add a b = replicate-append-replicate a b zero_block

-- what a store has whose file's mark is cleared
pub free-cleared : (s : Store) (k : ℕ) → free_slots (with_change s k with_no_mark) ≡ free_slots s
unfolding free_slots
free-cleared s k = refl

changed-is : (s : Store) (k : ℕ) (change : File → File) (f : File) → s.file k ≡ Some f → (with_change s k change).file k ≡ Some (change f)
changed-is s k change f was =
    ap (λ (b : Bool). if b then option_map change (s.file k) else s.file k) (same_number k) ∙ ap (option_map change) was

pub cleared-may : (s : Store) (k n : ℕ) → s.file k ≡ Some (file_numbered s k) → first_of (growth_causes s (file_numbered s k) n) ≡ None
    → HasPlaces (with_change s k with_no_mark) k n n
cleared-may s k n was h =
    let f = file_numbered s k in
    let has = has-room s f n h in
    let left : free_headers (with_change s k with_no_mark) ≡ free_headers s = ap length (free-cleared s k) in
    has-places (with_change s k with_no_mark) k n n (with_no_mark f) (changed-is s k with_no_mark f was) (record {
      segments = has.segments;
      blocks = has.blocks;
      headers = omega (arith, has.headers, left);
    })

-- a file that grows once its mark was cleared is like one that grows at once
longer-cleared :
    (s : Store) (k n : ℕ) (f : File) (blocks : List (List ℕ)) (added pointers room : ℕ) →
    with_longer_file (with_change s k with_no_mark) k (with_no_mark f) n blocks added pointers room ≡ with_grown_file s k f n blocks added
    pointers room
unfolding free_slots
longer-cleared s k n f blocks added pointers room =
    same-store
    (with_longer_file (with_change s k with_no_mark) k (with_no_mark f) n blocks added pointers room)
    (with_grown_file s k f n blocks added pointers room)
    (λ m. two_writes (m == k) (s.file m)) refl refl (λ m. refl) (λ m. refl) refl refl refl refl
  where
    two_writes : (here : Bool) (o : Option File) →
        (if here then Some (longer_file (with_change s k with_no_mark) (with_no_mark f) blocks added pointers room)
        else if here then option_map with_no_mark (s.file k) else o)
        ≡ (if here then Some (grown_file s f blocks added pointers room) else o)
    two_writes true o = refl
    two_writes false o = refl

pub cleared-then :
    (s t : Store) (k n : ℕ) (blocks : List (List ℕ)) → s.file k ≡ Some (file_numbered s k)
    → (one : AddsBlocks (with_change s k with_no_mark) k n n blocks t) →
    (whole : Grows s k n blocks t) × (whole.added ≡ one.added)
cleared-then s t k n blocks was one =
    let f = file_numbered s k in
    let same : one.before ≡ with_no_mark f = ap (λ (o : Option File). unwrap_or o no_file) (sym one.was ∙ changed-is s k with_no_mark f was)
    in
    let may : MayGrow (with_no_mark f) n one.added one.pointers one.room = subst (λ (g : File). MayGrow g n one.added one.pointers one.room)
    same one.may_grow in (
      record {
        before = f;
        added = one.added;
        pointers = one.pointers;
        room = one.room;
        was = was;
        may_grow = record {
          headers = may.headers;
          no_fewer = may.no_fewer;
          no_more = may.no_more;
          places = may.places;
          filled = may.filled;
        };
        store_is =
            one.store_is
            ∙ ap (λ (g : File). with_longer_file (with_change s k with_no_mark) k g n blocks one.added one.pointers one.room) same
            ∙ longer-cleared s k n f blocks one.added one.pointers one.room;
      },
      refl,
    )

-- a change of a file that is there, seen where it is
pub changed-as : (s : Store) (k m : ℕ) (change : File → File) (f g : File) → s.file k ≡ Some f → change f ≡ g
    → (if m == k then option_map change (s.file k) else s.file m) ≡ (if m == k then Some g else s.file m)
changed-as s k m change f g was is = ap (λ (o : Option File). if m == k then o else s.file m) (ap (option_map change) was ∙ ap Some is)

-- a file whose last header names n blocks more
pub named-adds :
    (s : Store) (k count more most : ℕ) (blocks : List (List ℕ)) → HasPlaces (with_more_free s count) k count most → more ≤ most
    → more ≤ (file_numbered s k).room →
    (e : AddsBlocks (with_more_free s count) k count most blocks (with_change s k (with_more_blocks more blocks))) × (e.added ≡ 0)
named-adds s k count more most blocks may few fits = (
  record {
    before = f;
    added = 0;
    pointers = f.pointers + more;
    room = f.room - more;
    was = may.is_file;
    may_grow = record {
      headers = omega arith;
      no_fewer = omega arith;
      no_more = omega (arith, few);
      places = omega (arith, fits);
      filled = λ none. omega (arith, none);
    };
    store_is =
        same-store (with_change s k (with_more_blocks more blocks))
        (with_longer_file (with_more_free s count) k f count blocks 0 (f.pointers + more) (f.room - more))
        (λ m. changed-as s k m (with_more_blocks more blocks) f _ may.is_file same)
        (omega arith) refl (λ m. refl) (λ m. refl) refl refl refl refl;
  },
  refl,
)
  where
    f : File
    f = file_numbered s k

    same : with_more_blocks more blocks f ≡ longer_file (with_more_free s count) f blocks 0 (f.pointers + more) (f.room - more)
    same = λ i. record (with_more_blocks more blocks f) { held = sym (append-nil f.held) i }

-- the first of some slots is the least
first-is : (slots : List ℕ) → 1 ≤ length slots → take 1 slots ≡ slice_index slots 0 ∷ []
first-is [] h = absurd (omega (arith, h))
first-is (n ∷ ns) h = refl

-- a file with header m more, which names these blocks by so many pointers
abbrev pub with_linked : ℕ → ℕ → List (List ℕ) → File → File
with_linked m more blocks f =
    record f { held = f.held ++ m ∷ []; pointers = f.pointers + more; room = 102 - more; blocks = f.blocks ++ blocks }

pub linked-adds :
    (s : Store) (k count more m : ℕ) (blocks : List (List ℕ)) → HasPlaces (with_more_free s count) k count more → 0 < more → more ≤ 102
    → (file_numbered s k).room ≡ 0 → m ≡ least_free s →
    (e : AddsBlocks (with_more_free s count) k count more blocks (with_change (with_slots s (m ∷ [])) k (with_linked m more blocks)))
    × (e.added ≡ 1)
unfolding free_slots
linked-adds s k count more m blocks may some few full least = (
  record {
    before = f;
    added = 1;
    pointers = f.pointers + more;
    room = 102 - more;
    was = may.is_file;
    may_grow = record {
      headers = omega (arith, some, full);
      no_fewer = omega arith;
      no_more = omega arith;
      places = omega (arith, full, few);
      filled = λ added. omega (arith, some);
    };
    store_is =
        same-store (with_change (with_slots s (m ∷ [])) k (with_linked m more blocks))
        (with_longer_file (with_more_free s count) k f count blocks 1 (f.pointers + more) (102 - more))
        (λ n. changed-as s k n (with_linked m more blocks) f _ may.is_file same)
        (omega arith) refl
        (λ n. ap (λ (l : List ℕ). is_in l n || s.in_use n) (sym taken))
        (λ n. ap (λ (l : List ℕ). if is_in l n then next_sequence (s.last n) else s.last n) (sym taken))
        refl refl refl refl;
  },
  refl,
)
  where
    f : File
    f = file_numbered s k

    taken : take 1 (free_slots (with_more_free s count)) ≡ m ∷ []
    taken =
        first-is (free_slots s) (let has = may.has_room in omega (arith, has.headers, some, full))
        ∙ ap (λ (n : ℕ). n ∷ []) (sym least)

    same : with_linked m more blocks f ≡ longer_file (with_more_free s count) f blocks 1 (f.pointers + more) (102 - more)
    same = λ i. record (with_linked m more blocks f) { held = f.held ++ sym taken i }

pub taking-adds : TakingAdds
taking-adds s t u a b h first second = record {
  files = λ n. second.files n ∙ first.files n;
  free = omega (arith, first.free, second.free);
  unused = λ n e. first.unused n (second.unused n e);
  slots_free = omega (arith, first.slots_free, second.slots_free);
  last = λ n. later n (second.last n);
  no_header = λ e n. second.no_header e n ∙ first.no_header refl n;
  slots = second.slots ∙ first.slots;
  limits = same_limits_then s t u first.limits second.limits;
}
  where
    later : (n : ℕ) → (u.last n ≡ t.last n) ⊎ ((t.in_use n ≡ false) × (u.last n ≡ next_sequence (t.last n)))
        → (u.last n ≡ s.last n) ⊎ ((s.in_use n ≡ false) × (u.last n ≡ next_sequence (s.last n)))
    later n (inl e) = inl (e ∙ first.no_header refl n)
    later n (inr (free, e)) = inr (first.unused n free, e ∙ ap next_sequence (first.no_header refl n))
