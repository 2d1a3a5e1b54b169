-- A store whose index file gets slots before headers are taken.
use Rattle.std.proofs.Common.{◌≡◌, ℕ, zero, suc, ◌+◌, ◌≤◌, ◌==◌, ◌&&◌, Bool, true, false, nat_le, if◌then◌else◌, List, [], ◌++◌}
use Rattle.std.proofs.Common.{Option, Some, None, option_map, take, unwrap_or, refl, sym, ◌∙◌, ap, subst, arith}
use Rattle.std.proofs.lemmas.Bool.{le-ltb, ne_eqb}
use Rattle.std.proofs.lemmas.List.{append-nil}
use Rattle.f11_store.specs.Changes.{EntersAt, EntersAtEnd, GetsSlots, grown_file, with_end_after, with_entry}
use Rattle.f11_store.specs.Changes.{with_more_slots, with_slots_added}
use Rattle.f11_store.specs.Directory.{entry_count, needs_block}
use Rattle.f11_store.specs.File.{File, need, no_file, without_contiguous, zero_blocks}
use Rattle.f11_store.specs.Headroom.{slots_first}
use Rattle.f11_store.specs.SlotsFirst.{IsReady}
use Rattle.f11_store.specs.Store.{Store, file_named, free_slots, index_file}
use Rattle.f11_store.specs.declared.files.FileId.{FileId}
use Rattle.f11_store.proofs.PieceLemmas.{cleared-twice}
use Rattle.f11_store.proofs.SlotsFirst.{HasRoom, first-fit, gained-is-ready}
use Rattle.f11_making.specs.AsBefore.{IndexAfter, IsGrownIndex, as_it_was, grown}

-- the index file once it has them
pub index-gained : (s t : Store) (headers : ℕ) → GetsSlots (slots_first s headers) s t → IndexAfter s t (slots_first s headers)
index-gained s t headers gains = by_count (slots_first s headers) (first-fit s headers) gains
  where
    by_count : (n : ℕ) → HasRoom s n → GetsSlots n s t → IndexAfter s t n
    by_count zero fits e = as_it_was refl (ap (λ (x : Store). x.file 1) e)
    by_count (suc n) fits e =
        let before : File = e.grows.before in
        let same : index_file s ≡ before = ap (λ (o : Option File). unwrap_or o no_file) e.grows.was in
        let none : e.grows.added ≡ 0 = omega (arith, e.grows.may_grow.headers, fits.places, ap (λ (f : File). f.room) same) in
        grown (omega arith) before (grown_file s before [] e.grows.added e.grows.pointers e.grows.room) e.grows.was
        (ap (λ (x : Store). x.file 1) (e.store_is ∙ ap (λ (x : Store). with_more_slots x (suc n)) e.grows.store_is))
        (record {
          sequence = refl;
          owner = refl;
          protection = refl;
          characteristics = refl;
          ident = refl;
          attr = refl;
          held = ap (λ (i : ℕ). before.held ++ take i (free_slots s)) {x = e.grows.added} {y = 0} none ∙ append-nil before.held;
          no_fewer = e.grows.may_grow.no_fewer;
          no_more = e.grows.may_grow.no_more;
          places = omega (arith, none, e.grows.may_grow.places);
          blocks = append-nil before.blocks;
        })

-- where it stays
pub index-stays : (s t u : Store) (n : ℕ) → u.file 1 ≡ t.file 1 → IndexAfter s t n → IndexAfter s u n
index-stays s t u n same (as_it_was none e) = as_it_was none (same ∙ e)
index-stays s t u n same (grown some f g was now alike) = grown some f g was (same ∙ now) alike

-- and where it gets more
grown-then : (f g h : File) (a b : ℕ) → IsGrownIndex f g a → IsGrownIndex g h b → IsGrownIndex f h (a + b)
grown-then f g h a b one two = record {
  sequence = two.sequence ∙ one.sequence;
  owner = two.owner ∙ one.owner;
  protection = two.protection ∙ one.protection;
  characteristics = two.characteristics ∙ ap without_contiguous one.characteristics ∙ cleared-twice f.characteristics;
  ident = two.ident ∙ one.ident;
  attr = two.attr ∙ one.attr;
  held = two.held ∙ one.held;
  no_fewer = omega (arith, one.no_fewer, two.no_fewer);
  no_more = omega (arith, one.no_more, two.no_more);
  places = two.places ∙ one.places;
  blocks = two.blocks ∙ one.blocks;
}

pub index-then : (s t u : Store) (a b : ℕ) → IndexAfter s t a → IndexAfter t u b → IndexAfter s u (a + b)
index-then s t u a b (as_it_was none e) (as_it_was none' e') = as_it_was (omega (arith, none, none')) (e' ∙ e)
index-then s t u a b (as_it_was none e) (grown some f g was now alike) =
    grown (omega (arith, some)) f g (sym e ∙ was) now
    (subst (λ (n : ℕ). IsGrownIndex f g n) {x = b} {y = a + b} (omega (arith, none)) alike)
index-then s t u a b (grown some f g was now alike) (as_it_was none e) =
    grown (omega (arith, some)) f g was (e ∙ now) (subst (λ (n : ℕ). IsGrownIndex f g n) {x = a} {y = a + b} (omega (arith, none)) alike)
index-then s t u a b (grown some f g was now alike) (grown some' f' g' was' now' alike') =
    let o : Some g ≡ Some f' = sym now ∙ was' in
    let same : g ≡ f' = cc in
    grown (omega (arith, some, some')) f g' was now'
    (grown-then f g g' a b alike (subst (λ (x : File). IsGrownIndex x g' b) (sym same) alike'))

-- how many slots there are then
pub ready-slots : (s t : Store) (n : ℕ) → IsReady s n t → t.slots ≡ s.slots + n
ready-slots s t n ready = ready.slots ∙ by_count n
  where
    by_count : (n : ℕ) → (with_slots_added n s).slots ≡ s.slots + n
    by_count zero = omega arith
    by_count (suc n) = refl

-- those that there were keep what they were last given
pub ready-last : (s t : Store) (n m : ℕ) → IsReady s n t → m ≤ s.slots → t.last m ≡ s.last m
ready-last s t n m ready within = ap (λ (l : ℕ → ℕ). l m) ready.last ∙ by_count n
  where
    by_count : (n : ℕ) → (with_slots_added n s).last m ≡ s.last m
    by_count zero = refl
    by_count (suc n) = ap (λ (b : Bool). if b && nat_le m (s.slots + suc n) then 0 else s.last m) (le-ltb s.slots m within)

-- a file from 4 on is another than the index file
pub not-index : (n least : ℕ) → 2 ≤ least → least ≤ n → (n == 1) ≡ false
not-index n least late own = ne_eqb n 1 (λ is. absurd (omega (arith, own, late, is)))

-- A name was entered from a store whose index file got slots first, and nothing was changed then but the directory.
pub record EntersFrom (t u : Store) (d : FileId) : Type 0 where
  pub ready : Store
  pub added : ℕ
  pub is-ready : IsReady t added ready
  pub index : IndexAfter t ready added
  pub others : (k : ℕ) → (k == d.number) ≡ false → u.file k ≡ ready.file k
  pub access : u.access ≡ ready.access
  pub slots : u.slots ≡ ready.slots

-- the directory alone, from the store as it is
nothing-gained : (t : Store) → IsReady t 0 t
nothing-gained t = record {
  others = λ m other. refl;
  free = omega arith;
  slots = refl;
  in_use = refl;
  last = refl;
  access = refl;
  limits = record { bitmap_blocks = refl; index_bitmap_blocks = refl; limit = refl };
}

pub enters-from : (o : Option ℕ) (t u : Store) (d : FileId) (r : List ℕ) → EntersAt o t d r u → EntersFrom t u d
enters-from (Some i) t u d r e = record {
  ready = t;
  added = 0;
  is-ready = nothing-gained t;
  index = as_it_was refl refl;
  others = λ k apart. ap (λ (x : Store). x.file k) e
      ∙ ap (λ b. if b then option_map (with_entry i r) (t.file d.number) else t.file k) apart;
  access = ap (λ (x : Store). x.access) e;
  slots = ap (λ (x : Store). x.slots) e;
}
enters-from None t u d r e = by (needs_block (file_named t d)) e
  where
    i : ℕ
    i = entry_count (file_named t d)

    end : File → File
    end g = with_end_after i (with_entry i r g)

    by : (b : Bool) → EntersAtEnd b t d i r u → EntersFrom t u d
    by false e = record {
      ready = t;
      added = 0;
      is-ready = nothing-gained t;
      index = as_it_was refl refl;
      others = λ k apart. ap (λ (x : Store). x.file k) e ∙ ap (λ b. if b then option_map end (t.file d.number) else t.file k) apart;
      access = ap (λ (x : Store). x.access) e;
      slots = ap (λ (x : Store). x.slots) e;
    }
    by true (v, h, e) =
        let headers : ℕ = need (file_named t d).room 1 in
        let grows = h.makes in
        record {
          ready = h.ready;
          added = slots_first t headers;
          is-ready = gained-is-ready t h.ready headers h.gains;
          index = index-gained t h.ready headers h.gains;
          others = λ k apart.
              ap (λ (x : Store). x.file k) e ∙ ap (λ b. if b then option_map end (v.file d.number) else v.file k) apart
              ∙ ap (λ (x : Store). x.file k) grows.store_is
              ∙ ap (λ b. if b then Some (grown_file h.ready grows.before (zero_blocks 1) grows.added grows.pointers grows.room)
              else h.ready.file k) apart;
          access = ap (λ (x : Store). x.access) e ∙ ap (λ (x : Store). x.access) grows.store_is;
          slots = ap (λ (x : Store). x.slots) e ∙ ap (λ (x : Store). x.slots) grows.store_is;
        }
