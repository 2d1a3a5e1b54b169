-- What carries zeros from block to block.
use Rattle.std.proofs.Common.{◌≡◌, ◌⊎◌, ℕ, zero, suc, ◌+◌, ◌<◌, List, length, true, false, refl, inl, inr, subst, ap, ◌∙◌, arith}
use Rattle.std.proofs.Common.{Result, Ok, Err, IsErr}
use Rattle.std.proofs.lemmas.List.{length-set}
use Rattle.f11_bytes.specs.Block.{zero_block}
use Rattle.f11_dev.specs.Disk.{Disk, with_transfer, with_block_at}
use Rattle.f11_dev.specs.Zeros.{with_zeros_from, StopsAmongZeros, WritesZeros}

-- they change nothing of how many blocks there are
pub zeros-size : (lbn count : ℕ) (d : Disk) → length (with_zeros_from lbn count d).image ≡ length d.image
zeros-size lbn zero d = refl
zeros-size lbn (suc count) d =
    length-set (with_zeros_from lbn count d).image (lbn + count) zero_block ∙ zeros-size lbn count d

-- one more
zeros-next : (lbn count : ℕ) (d : Disk)
    → with_transfer true (with_block_at (lbn + count) zero_block (with_zeros_from lbn count d)) ≡ with_zeros_from lbn (count + 1) d
zeros-next lbn count d = ap (λ n. with_zeros_from lbn n d) next
  where
    next : suc count ≡ count + 1
    next = omega arith

pub zeros-more : (lbn count : ℕ) (block : List ℕ) (old now new : Disk) → block ≡ zero_block → now ≡ with_zeros_from lbn count old
    → new ≡ with_transfer true (with_block_at (lbn + count) block now) → new ≡ with_zeros_from lbn (count + 1) old
zeros-more lbn count block old now new is so_far more =
    more ∙ ap (λ (b : List ℕ). with_transfer true (with_block_at (lbn + count) b now)) is
    ∙ ap (λ d. with_transfer true (with_block_at (lbn + count) zero_block d)) so_far ∙ zeros-next lbn count old

-- some and then more are all of them
zeros-join : (lbn a b : ℕ) (d : Disk) → with_zeros_from (lbn + a) b (with_zeros_from lbn a d) ≡ with_zeros_from lbn (a + b) d
zeros-join lbn a zero d = ap (λ n. with_zeros_from lbn n d) all
  where
    all : a ≡ a + 0
    all = omega arith
zeros-join lbn a (suc b) d =
    ap (λ now. with_transfer true (with_block_at ((lbn + a) + b) zero_block now)) (zeros-join lbn a b d)
    ∙ ap (λ n. with_transfer true (with_block_at n zero_block (with_zeros_from lbn (a + b) d))) at
    ∙ zeros-next lbn (a + b) d ∙ ap (λ n. with_zeros_from lbn n d) all
  where
    at : (lbn + a) + b ≡ lbn + (a + b)
    at = omega arith

    all : (a + b) + 1 ≡ a + suc b
    all = omega arith

-- the next one failed
pub zeros-stop : (lbn count most : ℕ) (block : List ℕ) (old now new : Disk) → block ≡ zero_block → now ≡ with_zeros_from lbn count old
    → count < most → (new ≡ with_transfer false now) ⊎ (new ≡ with_transfer false (with_block_at (lbn + count) block now))
    → StopsAmongZeros lbn most old new
zeros-stop lbn count most block old now new is so_far fewer fails = record {
  written = count;
  fewer = fewer;
  fails = subst (λ d. (new ≡ with_transfer false d) ⊎ (new ≡ with_transfer false (with_block_at (lbn + count) zero_block d))) so_far
      (subst (λ (b : List ℕ). (new ≡ with_transfer false now) ⊎ (new ≡ with_transfer false (with_block_at (lbn + count) b now))) is fails);
}

-- some, and then a stop among the others
pub zeros-stop-later : (lbn a b most : ℕ) (old now new : Disk) → now ≡ with_zeros_from lbn a old → a + b < most + 1
    → StopsAmongZeros (lbn + a) b now new → StopsAmongZeros lbn most old new
zeros-stop-later lbn a b most old now new so_far few stops = record {
  written = a + stops.written;
  fewer = omega (arith, few, stops.fewer);
  fails = elim stops.fails [
    | inl kept ↦ inl (kept ∙ ap (with_transfer false) all)
    | inr lands ↦ inr (lands ∙ ap (with_transfer false)
        (ap (with_block_at ((lbn + a) + stops.written) zero_block) all
        ∙ ap (λ n. with_block_at n zero_block (with_zeros_from lbn (a + stops.written) old)) at))
  ];
}
  where
    all : with_zeros_from (lbn + a) stops.written now ≡ with_zeros_from lbn (a + stops.written) old
    all = ap (with_zeros_from (lbn + a) stops.written) so_far ∙ zeros-join lbn a stops.written old

    at : (lbn + a) + stops.written ≡ lbn + (a + stops.written)
    at = omega arith

-- a call that failed so
pub zeros-failed : {E : Type 0} (result : Result Unit E) (lbn count : ℕ) (old new : Disk) → IsErr result
    → StopsAmongZeros lbn count old new → WritesZeros result lbn count old new
zeros-failed (Ok x) lbn count old new never stops = let no : false ≡ true = never in cc
zeros-failed (Err e) lbn count old new failed stops = record { ok = tt; err = stops }

-- a piece more
pub zeros-piece : (lbn a b : ℕ) (old now new : Disk) → now ≡ with_zeros_from lbn a old → new ≡ with_zeros_from (lbn + a) b now
    → new ≡ with_zeros_from lbn (a + b) old
zeros-piece lbn a b old now new so_far more = more ∙ ap (with_zeros_from (lbn + a) b) so_far ∙ zeros-join lbn a b old
