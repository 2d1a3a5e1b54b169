-- A file of the plain store that grows piece by piece, whether its blocks are slots or not.
use Rattle.std.proofs.Common.{◌≡◌, ℕ, ◌+◌, ◌-◌, ◌<◌, ◌≤◌, ◌==◌, ◌++◌, ◌∷◌, Bool, true, false, IsTrue, List, [], refl, sym, ◌∙◌, ap, subst}
use Rattle.std.proofs.Common.{arith}
use Rattle.f11_store.specs.Changes.{with_change, with_more_slots, with_slots, Extends}
use Rattle.f11_store.specs.File.{zero_blocks}
use Rattle.f11_store.specs.Store.{Store, free_headers, least_free}
use Rattle.f11_store.specs.Pieces.{file_numbered, new_blocks, with_blocks_named, with_longer_file, with_more_blocks, with_more_free}
use Rattle.f11_store.specs.Pieces.{with_slots_if, AddsBlocks, GrowsAs, GrowsIf, GrowsUnmarked, HasPlaces, MayGrowAs}
use Rattle.f11_store.specs.Pieces.{ClearedGrows, ClearedMayGrow, FewerMayGrow, GrowsAsExtends, GrowsAsIndex, GrowsTwice, GrowsWithin}
use Rattle.f11_store.specs.Pieces.{NoneGrows, OthersMayGrow}
use Rattle.f11_store.proofs.AddedSlotLemmas.{headers-left, longer-then-slots, may-more, no-slots, slots-twice}
use Rattle.f11_store.proofs.PieceLemmas.{adds-twice, cleared-may, cleared-then, fewer-may, linked-adds, may-within, named-adds, none-adds}
use Rattle.f11_store.proofs.PieceLemmas.{none-zeros, others-may-grow, with_linked, zeros-add}
use Rattle.f11_store.proofs.StoreLemmas.{other_number}

-- what slots leave
file-kept : (slots : Bool) (n : ℕ) (s : Store) → (with_slots_if slots n s).file ≡ s.file
file-kept true n s = refl
file-kept false n s = refl

limit-kept : (slots : Bool) (n : ℕ) (s : Store) → (with_slots_if slots n s).limit ≡ s.limit
limit-kept true n s = refl
limit-kept false n s = refl

-- how many there are
slots-then : (slots : Bool) (n : ℕ) (s : Store) → IsTrue slots → (with_slots_if slots n s).slots ≡ s.slots + n
slots-then true n s is = refl
slots-then false n s is = absurd (cc)

blocks-then : (slots : Bool) (a b : ℕ) → new_blocks slots a ++ new_blocks slots b ≡ new_blocks slots (a + b)
blocks-then true a b = refl
blocks-then false a b = zeros-add a b

pub none-grow : NoneGrows
none-grow s k n most may = by_kind (k == 1)
  where
    by_kind : (slots : Bool) → GrowsIf slots s k 0 0 s
    by_kind true = record { grown = s; grows = none-adds s k n most may.places; store_is = no-slots s }
    by_kind false = record { grown = s; grows = none-zeros s k n most may.places; store_is = refl }

-- slots may as well be added at the end
grown-twice : (slots : Bool) (s t u : Store) (k n most a b p q : ℕ) → HasPlaces s k n most → p + q ≤ most
    → (one : GrowsIf slots s k a p t) (two : GrowsIf slots t k b q u)
    → (whole : GrowsIf slots s k (a + b) (p + q) u) × (whole.grows.added ≡ one.grows.added + two.grows.added)
grown-twice slots s t u k n most a b p q may few one two =
    let both =
    subst (λ (bs : List (List ℕ)). (whole : AddsBlocks s k (a + b) (p + q) bs after) × (whole.added ≡ one.grows.added + two.grows.added))
    (blocks-then slots a b)
    (adds-twice s g after k a b p q (new_blocks slots a) (new_blocks slots b) one.grows second) in (
      record {
        grown = after;
        grows = both.0;
        store_is = two.store_is
            ∙ ap (with_slots_if slots b) (two.grows.store_is ∙ ap (λ (x : Store). regrown x) one.store_is) ∙ swapped slots;
      },
      both.1,
    )
  where
    g : Store
    g = one.grown

    regrown : Store → Store
    regrown x = with_longer_file x k two.grows.before b (new_blocks slots b) two.grows.added two.grows.pointers two.grows.room

    after : Store
    after = regrown g

    second : AddsBlocks g k b q (new_blocks slots b) after
    second = record {
      before = two.grows.before;
      added = two.grows.added;
      pointers = two.grows.pointers;
      room = two.grows.room;
      was = sym (ap (λ (x : Store). x.file k) one.store_is ∙ ap (λ f. f k) (file-kept slots a g)) ∙ two.grows.was;
      may_grow = two.grows.may_grow;
      store_is = refl;
    }

    few-left : two.grows.added ≤ free_headers g
    few-left = headers-left s g after k n a b most p q (new_blocks slots a) (new_blocks slots b) may few one.grows second

    swapped : (x : Bool) → with_slots_if x b (regrown (with_slots_if x a g)) ≡ with_slots_if x (a + b) after
    swapped true =
        ap (λ (y : Store). with_more_slots y b)
        (longer-then-slots g k a b two.grows.before (new_blocks slots b) two.grows.added two.grows.pointers two.grows.room few-left)
        ∙ slots-twice after a b
    swapped false = refl

pub grows-twice : GrowsTwice
grows-twice s t u k n most a b p q may few one two = grown-twice (k == 1) s t u k n most a b p q may.places few one two

pub grows-within : GrowsWithin
grows-within s t k n p q few one = (
  record {
    grown = one.grown;
    grows = record {
      before = one.grows.before;
      added = one.grows.added;
      pointers = one.grows.pointers;
      room = one.grows.room;
      was = one.grows.was;
      may_grow = may-within one.grows.before p q one.grows.added one.grows.pointers one.grows.room few one.grows.may_grow;
      store_is = one.grows.store_is;
    };
    store_is = one.store_is;
  },
  refl,
)

pub fewer-may-grow : FewerMayGrow
fewer-may-grow s k n m p q may few fewer =
    record { places = fewer-may s k n m p q may.places few fewer; within = λ is. omega (arith, may.within is, few) }

pub others-may : OthersMayGrow
others-may s t k n a most p may one few fewer = record {
  places = subst (λ (x : Store). HasPlaces x k (n - a) (most - p)) (sym one.store_is) (by_kind (k == 1));
  within = λ is.
      let there : t.slots ≡ one.grown.slots + a = ap (λ (x : Store). x.slots) one.store_is ∙ slots-then (k == 1) a one.grown is in
      let limit_is : t.limit ≡ one.grown.limit = ap (λ (x : Store). x.limit) one.store_is ∙ limit-kept (k == 1) a one.grown in
      let slots : one.grown.slots ≡ s.slots = ap (λ (x : Store). x.slots) one.grows.store_is in
      let limit : one.grown.limit ≡ s.limit = ap (λ (x : Store). x.limit) one.grows.store_is in
      omega (arith, there, limit_is, slots, limit, may.within is, few);
}
  where
    rest : HasPlaces one.grown k (n - a) (most - p)
    rest = others-may-grow s one.grown k n a most p (new_blocks (k == 1) a) may.places one.grows few fewer

    by_kind : (slots : Bool) → HasPlaces (with_slots_if slots a one.grown) k (n - a) (most - p)
    by_kind true = may-more one.grown k (n - a) (most - p) a rest
    by_kind false = rest

-- blocks that are no slots
pub as-adds : (s t : Store) (k n most : ℕ) → GrowsIf false s k n most t → AddsBlocks s k n most (zero_blocks n) t
as-adds s t k n most one = record {
  before = one.grows.before;
  added = one.grows.added;
  pointers = one.grows.pointers;
  room = one.grows.room;
  was = one.grows.was;
  may_grow = one.grows.may_grow;
  store_is = one.store_is ∙ one.grows.store_is;
}

pub cleared-may-grow : ClearedMayGrow
cleared-may-grow s k n was none within = record { places = cleared-may s k n was none; within = within }

pub cleared-grows : ClearedGrows
cleared-grows s t k n was one =
    let whole = cleared-then s one.grown k n (new_blocks (k == 1) n) was one.grows in
    (record { grown = one.grown; grows = whole.0; store_is = one.store_is }, whole.1)

as-extends : (slots : Bool) (s t : Store) (k n : ℕ) → slots ≡ false → (one : GrowsUnmarked slots s k n t)
    → (whole : Extends s k n t) × (whole.added ≡ one.grows.added)
as-extends true s t k n none one = absurd (cc)
as-extends false s t k n none one = (
  record {
    before = one.grows.before;
    added = one.grows.added;
    pointers = one.grows.pointers;
    room = one.grows.room;
    was = one.grows.was;
    may_grow = one.grows.may_grow;
    store_is = one.store_is ∙ one.grows.store_is;
  },
  refl,
)

pub grows-as-extends : GrowsAsExtends
grows-as-extends s t k n apart one = as-extends (k == 1) s t k n (other_number k 1 apart) one

pub grows-as-index : GrowsAsIndex
grows-as-index s t n one = record { grown = one.grown; grows = one.grows; store_is = one.store_is }

-- a file whose last header names n blocks more has grown
pub named-grown :
    (s : Store) (k count more most : ℕ) → MayGrowAs (with_more_free s count) k count most → more ≤ most → more ≤ (file_numbered s k).room →
    (e : GrowsAs (with_more_free s count) k count most (with_blocks_named k more count s)) × (e.grows.added ≡ 0)
named-grown s k count more most may few fits =
    let named = named-adds s k count more most (new_blocks (k == 1) count) may.places few fits in
    (record { grown = with_change s k (with_more_blocks more (new_blocks (k == 1) count)); grows = named.0; store_is = refl }, named.1)

-- and so has one that has header m more, which names them by so many pointers
pub linked-grown :
    (s : Store) (k count more m : ℕ) → MayGrowAs (with_more_free s count) k count more → 0 < more → more ≤ 102
    → (file_numbered s k).room ≡ 0 →
    m ≡ least_free s →
    (e : GrowsAs (with_more_free s count) k count more
    (with_slots_if (k == 1) count (with_change (with_slots s (m ∷ [])) k (with_linked m more (new_blocks (k == 1) count)))))
    × (e.grows.added ≡ 1)
linked-grown s k count more m may some few full least =
    let linked = linked-adds s k count more m (new_blocks (k == 1) count) may.places some few full least in (
      record {
        grown = with_change (with_slots s (m ∷ [])) k (with_linked m more (new_blocks (k == 1) count));
        grows = linked.0;
        store_is = refl;
      },
      linked.1,
    )
