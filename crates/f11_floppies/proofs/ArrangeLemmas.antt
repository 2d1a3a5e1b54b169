-- Blocks read out of an image in sector order and put back, sector by sector.
use Rattle.std.proofs.Common.{◌≡◌, ◌≢◌, ◌⊎◌, ℕ, ◌+◌, ◌-◌, ◌*◌, ◌<◌, ◌≤◌, List, ◌++◌, length, take, drop, get_or, replicate}
use Rattle.std.proofs.Common.{inl, inr, refl, sym, subst, ap, ◌∙◌, arith}
use Rattle.std.proofs.Math.Nat.{min-eq_left}
use Rattle.std.proofs.lemmas.Bool.{cases_lt}
use Rattle.std.proofs.lemmas.List.{get_or_append_left, get_or-append_right, get_or-drop, get_or-replicate, get_or-take, get_or_past}
use Rattle.std.proofs.lemmas.List.{length-drop, length-replicate, length-take}
use Rattle.std.proofs.lemmas.List.FromFn.{fill_by_all}
use Rattle.f11_bytes.specs.Block.{zero_block}
use Rattle.f11_bytes.specs.Part.{with_bytes}
use Rattle.f11_bytes.proofs.PartLemmas.{length-with_bytes, slice_index-with_bytes_before, slice_index-with_bytes_behind}
use Rattle.f11_floppies.specs.Order.{block_count, place, sector_bytes, sectors_of_block, start_of}
use Rattle.f11_floppies.specs.Arrange.{PutsBlock, logical_block}
use Rattle.f11_floppies.specs.declared.order.Order.{Order}
use Rattle.f11_floppies.proofs.PlaceLemmas.{next-sector, place-in_sector, places-apart, sector-fits, sectors-fill}

-- a byte that was put
inside : (b : List ℕ) (at : ℕ) (bytes : List ℕ) (i : ℕ) → at ≤ length b → at ≤ i → i < at + length bytes
    → get_or (with_bytes b at bytes) i 0 ≡ get_or bytes (i - at) 0
inside b at bytes i long from to =
    get_or-append_right (take at b) (bytes ++ drop (at + length bytes) b) at i 0 (omega (arith, length-take at b)) from
    ∙ get_or_append_left bytes (drop (at + length bytes) b) 0 (i - at) (omega (arith, from, to))

-- The first k sectors of a block were read into these 512 bytes, of which the others are zeros.
pub record HasRead (order : Order) (image : List ℕ) (lbn k : ℕ) (block : List ℕ) : Type 0 where
  pub size : length block ≡ 512
  pub read : (i : ℕ) → i < sector_bytes order * k → get_or block i 0 ≡ get_or image (place order lbn i) 0
  pub rest : (i : ℕ) → sector_bytes order * k ≤ i → get_or block i 0 ≡ 0

zeros-at : (n i z : ℕ) → get_or (replicate n z) i z ≡ z
zeros-at n i z = elim (cases_lt i n) [
  | inl within ↦ get_or-replicate n i z z within
  | inr past ↦ get_or_past (replicate n z) i z (omega (arith, past, length-replicate n z))
]

pub read-none : (order : Order) (image : List ℕ) (lbn : ℕ) (block : List ℕ) → block ≡ zero_block → HasRead order image lbn 0 block
unfolding zero_block
read-none order image lbn block is = record {
  size = ap length is ∙ length-replicate {A = ℕ} 512 0;
  read = λ i none. absurd (omega (arith, none));
  rest = λ i behind. ap (λ (l : List ℕ). get_or l i 0) is ∙ zeros-at 512 i 0;
}

-- a byte of the sector that is read, where the image has it and where it doesn't
sector-read : (image block bytes : List ℕ) (start at size i p : ℕ) → bytes ≡ take size (drop start image) → at + size ≤ length block
    → at ≤ i → i < at + size → p ≡ start + (i - at) → get_or block i 0 ≡ 0
    → get_or (with_bytes block at bytes) i 0 ≡ get_or image p 0
sector-read image block bytes start at size i p sector fits from to stands zero_there = elim (cases_lt i (at + length bytes)) [
  | inl has ↦ inside block at bytes i (omega (arith, fits)) from has
      ∙ ap (λ (l : List ℕ). get_or l (i - at) 0) sector
      ∙ get_or-take size (drop start image) (i - at) 0 (omega (arith, from, to))
      ∙ get_or-drop start image (i - at) 0 ∙ ap (λ (n : ℕ). get_or image n 0) (sym stands)
  | inr lacks ↦ slice_index-with_bytes_behind block at bytes i (omega (arith, fits)) lacks ∙ zero_there
      ∙ sym (get_or_past image p 0 (omega (
        arith,
        lacks,
        from,
        to,
        stands,
        ap length sector,
        length-take size (drop start image),
        length-drop start image,
      )))
]

pub read-more : (order : Order) (image : List ℕ) (lbn k : ℕ) (block bytes new : List ℕ) → k < sectors_of_block order
    → HasRead order image lbn k block
    → bytes ≡ take (sector_bytes order) (drop (start_of order (sectors_of_block order * lbn + k)) image)
    → new ≡ with_bytes block (sector_bytes order * k) bytes → HasRead order image lbn (k + 1) new
read-more order image lbn k block bytes new below has sector is = subst (HasRead order image lbn (k + 1)) (sym is) record {
  size = length-with_bytes block at bytes (omega (arith, few, fits)) ∙ has.size;
  read = λ i within. elim (cases_lt i at) [
    | inl before ↦ slice_index-with_bytes_before block at bytes i (omega (arith, fits)) before ∙ has.read i before
    | inr from ↦ sector-read image block bytes start at size i (place order lbn i) sector fits from
        (omega (arith, within, next-sector order k))
        (place-in_sector order lbn k i from (omega (arith, within, next-sector order k)))
        (has.rest i from)
  ];
  rest = λ i behind. slice_index-with_bytes_behind block at bytes i (omega (arith, fits))
      (omega (arith, few, behind, next-sector order k)) ∙ has.rest i (omega (arith, behind, next-sector order k));
}
  where
    size : ℕ
    size = sector_bytes order

    at : ℕ
    at = sector_bytes order * k

    start : ℕ
    start = start_of order (sectors_of_block order * lbn + k)

    fits : sector_bytes order * k + sector_bytes order ≤ length block
    fits = omega (arith, sector-fits order k below, has.size)

    few : length bytes ≤ sector_bytes order
    few = omega (arith, ap length sector, length-take (sector_bytes order) (drop (start_of order (sectors_of_block order * lbn + k)) image))

-- the same of what the code has in hand
pub read-next : (order : Order) (image : List ℕ) (lbn k count size start : ℕ) (block bytes new : List ℕ) → k < count
    → HasRead order image lbn k block → count ≡ sectors_of_block order → size ≡ sector_bytes order
    → start ≡ start_of order (count * lbn + k) → bytes ≡ take size (drop start image) → new ≡ with_bytes block (size * k) bytes
    → HasRead order image lbn (k + 1) new
read-next order image lbn k count size start block bytes new below has counts sizes starts sector is =
    read-more order image lbn k block bytes new (omega (arith, below, counts)) has
    (sector ∙ ap (λ (n : ℕ). take n (drop start image)) sizes ∙ ap (λ (n : ℕ). take (sector_bytes order) (drop n image))
    (starts ∙ ap (λ (n : ℕ). start_of order (n * lbn + k)) counts))
    (is ∙ ap (λ (n : ℕ). with_bytes block (n * k) bytes) sizes)

pub read-all : (order : Order) (image : List ℕ) (lbn k : ℕ) (block : List ℕ) → k ≡ sectors_of_block order
    → HasRead order image lbn k block → block ≡ logical_block order image lbn
unfolding logical_block
read-all order image lbn k block all has =
    fill_by_all (λ i. get_or image (place order lbn i) 0) block 512 0 has.size
    (λ i within. has.read i (omega (arith, within, ap (λ (n : ℕ). sector_bytes order * n) all, sectors-fill order)))

-- The first k sectors of a block were put into an image, and all other bytes are as they were.
pub record HasPut (order : Order) (lbn k : ℕ) (block old new : List ℕ) : Type 0 where
  pub size : length new ≡ length old
  pub there : (i : ℕ) → i < sector_bytes order * k → get_or new (place order lbn i) 0 ≡ get_or block i 0
  pub others : (at : ℕ) → ((i : ℕ) → i < sector_bytes order * k → at ≢ place order lbn i) → get_or new at 0 ≡ get_or old at 0

pub put-none : (order : Order) (lbn : ℕ) (block old : List ℕ) → HasPut order lbn 0 block old old
put-none order lbn block old = record {
  size = refl;
  there = λ i none. absurd (omega (arith, none));
  others = λ at apart. refl;
}

-- a byte outside what was put
outside : (b : List ℕ) (at : ℕ) (bytes : List ℕ) (i : ℕ) → at ≤ length b → (i < at) ⊎ (at + length bytes ≤ i)
    → get_or (with_bytes b at bytes) i 0 ≡ get_or b i 0
outside b at bytes i long where_it_is = elim where_it_is [
  | inl before ↦ slice_index-with_bytes_before b at bytes i long before
  | inr behind ↦ slice_index-with_bytes_behind b at bytes i long behind
]

-- a byte that isn't one of so many from one on is before or behind them
no-one-of : (p start size : ℕ) → ((j : ℕ) → j < size → p ≢ start + j) → (p < start) ⊎ (start + size ≤ p)
no-one-of p start size apart = elim (cases_lt p start) [
  | inl before ↦ inl before
  | inr from ↦ elim (cases_lt p (start + size)) [
    | inl within ↦ absurd (apart (p - start) (omega (arith, from, within)) (omega (arith, from)))
    | inr behind ↦ inr behind
  ]
]

pub put-more : (order : Order) (lbn k : ℕ) (block old now bytes new : List ℕ) → lbn < block_count order → k < sectors_of_block order
    → start_of order (sectors_of_block order * lbn + k) + sector_bytes order ≤ length now
    → length block ≡ 512 → HasPut order lbn k block old now
    → bytes ≡ take (sector_bytes order) (drop (sector_bytes order * k) block)
    → new ≡ with_bytes now (start_of order (sectors_of_block order * lbn + k)) bytes → HasPut order lbn (k + 1) block old new
put-more order lbn k block old now bytes new is_block below room long has sector is =
    subst (HasPut order lbn (k + 1) block old) (sym is) record {
      size = length-with_bytes now start bytes (omega (arith, many, room)) ∙ has.size;
      there = λ i within. elim (cases_lt i at) [
        | inl before ↦ outside now start bytes (place order lbn i) (omega (arith, room)) (around (place order lbn i)
            (λ j in_sector same. let one : i ≡ at + j =
            (places-apart order lbn lbn i (at + j) is_block is_block (omega (arith, before, fits)) (omega (arith, in_sector, fits))
            (same ∙ sym (stands j in_sector))).1 in omega (arith, one, before)))
            ∙ has.there i before
        | inr from ↦ ap (λ (n : ℕ). get_or (with_bytes now start bytes) n 0)
            (place-in_sector order lbn k i from (omega (arith, within, next-sector order k)))
            ∙ inside now start bytes (start + (i - at)) (omega (arith, room)) (omega arith)
            (omega (arith, from, within, many, next-sector order k))
            ∙ ap (λ (n : ℕ). get_or bytes n 0) (omega (arith, from))
            ∙ ap (λ (l : List ℕ). get_or l (i - at) 0) sector
            ∙ get_or-take size (drop at block) (i - at) 0 (omega (arith, from, within, next-sector order k))
            ∙ get_or-drop at block (i - at) 0
            ∙ ap (λ (n : ℕ). get_or block n 0) (omega (arith, from))
      ];
      others = λ p apart. outside now start bytes p (omega (arith, room)) (around p
          (λ j in_sector same. apart (at + j) (omega (arith, in_sector, next-sector order k)) (same ∙ sym (stands j in_sector))))
          ∙ has.others p (λ i before. apart i (omega (arith, before, next-sector order k)));
    }
  where
    size : ℕ
    size = sector_bytes order

    at : ℕ
    at = sector_bytes order * k

    start : ℕ
    start = start_of order (sectors_of_block order * lbn + k)

    fits : sector_bytes order * k + sector_bytes order ≤ 512
    fits = sector-fits order k below

    many : length bytes ≡ sector_bytes order
    many = ap length sector ∙ length-take (sector_bytes order) (drop (sector_bytes order * k) block)
        ∙ min-eq_left (omega (arith, length-drop (sector_bytes order * k) block, sector-fits order k below, long))

    stands : (j : ℕ) → j < sector_bytes order
        → place order lbn (sector_bytes order * k + j) ≡ start_of order (sectors_of_block order * lbn + k) + j
    stands j in_sector = place-in_sector order lbn k (sector_bytes order * k + j) (omega arith) (omega (arith, in_sector))
        ∙ ap (λ (n : ℕ). start_of order (sectors_of_block order * lbn + k) + n) (omega arith)

    around : (p : ℕ)
        → ((j : ℕ) → j < sector_bytes order → p ≢ start_of order (sectors_of_block order * lbn + k) + j)
        → (p < start_of order (sectors_of_block order * lbn + k))
        ⊎ (start_of order (sectors_of_block order * lbn + k) + length bytes ≤ p)
    around p apart = subst (λ (n : ℕ). (p < start_of order (sectors_of_block order * lbn + k))
        ⊎ (start_of order (sectors_of_block order * lbn + k) + n ≤ p))
        (sym many) (no-one-of p (start_of order (sectors_of_block order * lbn + k)) (sector_bytes order) apart)

-- the same of what the code has in hand
pub put-next : (order : Order) (lbn k count size start : ℕ) (block old now bytes new : List ℕ) → lbn < block_count order → k < count
    → length block ≡ 512 → HasPut order lbn k block old now → count ≡ sectors_of_block order → size ≡ sector_bytes order
    → start ≡ start_of order (count * lbn + k) → start + sector_bytes order ≤ length old
    → bytes ≡ take size (drop (size * k) block) → new ≡ with_bytes now start bytes → HasPut order lbn (k + 1) block old new
put-next order lbn k count size start block old now bytes new is_block below long has counts sizes starts room sector is =
    put-more order lbn k block old now bytes new is_block (omega (arith, below, counts))
    (omega (arith, room, begins, has.size)) long has
    (sector ∙ ap (λ (n : ℕ). take n (drop (n * k) block)) sizes)
    (is ∙ ap (λ (n : ℕ). with_bytes now n bytes) begins)
  where
    begins : start ≡ start_of order (sectors_of_block order * lbn + k)
    begins = starts ∙ ap (λ (n : ℕ). start_of order (n * lbn + k)) counts

pub put-all : (order : Order) (lbn k : ℕ) (block old new : List ℕ) → k ≡ sectors_of_block order → HasPut order lbn k block old new
    → PutsBlock order lbn block old new
put-all order lbn k block old new all has = record {
  size = has.size;
  there = λ i within. has.there i (omega (arith, within, full));
  others = λ at apart. has.others at (λ i before. apart i (omega (arith, before, full)));
}
  where
    full : sector_bytes order * k ≡ 512
    full = ap (λ (n : ℕ). sector_bytes order * n) all ∙ sectors-fill order
