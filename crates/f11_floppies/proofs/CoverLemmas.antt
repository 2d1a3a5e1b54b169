-- That each place of an image in sector order behind a track 0 that isn't used is some block's.
use Rattle.std.proofs.Common.{◌≡◌, ℕ, ◌+◌, ◌-◌, ◌*◌, ◌/◌, ◌%◌, ◌<◌, ◌≤◌, inl, inr, refl, ap, ◌∙◌, arith}
use Rattle.std.proofs.lemmas.Bool.{cases_lt}
use Rattle.f11_floppies.specs.Laws.{IsPlace}
use Rattle.f11_floppies.specs.Order.{image_size, interleaved, start_of, unused_bytes}
use Rattle.f11_floppies.specs.declared.order.Order.{Order}
use Rattle.f11_floppies.specs.declared.order.Order.TheVariants.{Rx01, Rx02, Rx50}

-- which logical sector of track q + 1 is on a sector
pub record Logical (n skew q s : ℕ) : Type 0 where
  pub logical : ℕ
  pub track : logical / n ≡ q
  pub sector : interleaved n skew logical ≡ s + 1

even-26 : (q s m r : ℕ) → s < 26 → m ≡ (s + 20 * q) % 26 → m ≡ 2 * r → interleaved 26 6 (26 * q + r) ≡ s + 1
even-26 q s m r fits is even = grind arith

odd-26 : (q s m r : ℕ) → s < 26 → m ≡ (s + 20 * q) % 26 → m + 25 ≡ 2 * r → interleaved 26 6 (26 * q + r) ≡ s + 1
odd-26 q s m r fits is odd = grind arith

even-10 : (q s m r : ℕ) → s < 10 → m ≡ (s + 8 * q) % 10 → m ≡ 2 * r → interleaved 10 2 (10 * q + r) ≡ s + 1
even-10 q s m r fits is even = grind arith

odd-10 : (q s m r : ℕ) → s < 10 → m ≡ (s + 8 * q) % 10 → m + 9 ≡ 2 * r → interleaved 10 2 (10 * q + r) ≡ s + 1
odd-10 q s m r fits is odd = grind arith

logical-26 : (q s : ℕ) → s < 26 → Logical 26 6 q s
logical-26 q s fits = elim (cases_lt (m % 2) 1) [
  | inl even ↦ record {
    logical = 26 * q + m / 2;
    track = omega arith;
    sector = even-26 q s m (m / 2) fits refl (omega (arith, even));
  }
  | inr odd ↦ record {
    logical = 26 * q + (m + 25) / 2;
    track = omega arith;
    sector = odd-26 q s m ((m + 25) / 2) fits refl (omega (arith, odd));
  }
]
  where
    m : ℕ
    m = (s + 20 * q) % 26

logical-10 : (q s : ℕ) → s < 10 → Logical 10 2 q s
logical-10 q s fits = elim (cases_lt (m % 2) 1) [
  | inl even ↦ record {
    logical = 10 * q + m / 2;
    track = omega arith;
    sector = even-10 q s m (m / 2) fits refl (omega (arith, even));
  }
  | inr odd ↦ record {
    logical = 10 * q + (m + 9) / 2;
    track = omega arith;
    sector = odd-10 q s m ((m + 9) / 2) fits refl (omega (arith, odd));
  }
]
  where
    m : ℕ
    m = (s + 8 * q) % 10

pub each-place : (order : Order) (at : ℕ) → unused_bytes order ≤ at → at < image_size order → IsPlace order at
each-place Rx01 at from to =
    let there : Logical 26 6 (at / 128 / 26 - 1) (at / 128 % 26) = logical-26 (at / 128 / 26 - 1) (at / 128 % 26) (omega arith) in
    let l : ℕ = there.logical in
    let starts : start_of Rx01 l ≡ 128 * (at / 128) = omega (arith, there.track, there.sector) in
    let is : 4 * (l / 4) + (128 * (l % 4) + at % 128) / 128 ≡ l = omega arith in
    record {
      block = l / 4;
      byte = 128 * (l % 4) + at % 128;
      is_block = omega (arith, there.track);
      in_block = omega arith;
      stands = ap (λ (n : ℕ). start_of Rx01 n + (128 * (l % 4) + at % 128) % 128) is ∙ omega (arith, starts);
    }
each-place Rx02 at from to =
    let there : Logical 26 6 (at / 256 / 26 - 1) (at / 256 % 26) = logical-26 (at / 256 / 26 - 1) (at / 256 % 26) (omega arith) in
    let l : ℕ = there.logical in
    let starts : start_of Rx02 l ≡ 256 * (at / 256) = omega (arith, there.track, there.sector) in
    let is : 2 * (l / 2) + (256 * (l % 2) + at % 256) / 256 ≡ l = omega arith in
    record {
      block = l / 2;
      byte = 256 * (l % 2) + at % 256;
      is_block = omega (arith, there.track);
      in_block = omega arith;
      stands = ap (λ (n : ℕ). start_of Rx02 n + (256 * (l % 2) + at % 256) % 256) is ∙ omega (arith, starts);
    }
each-place Rx50 at from to =
    let there : Logical 10 2 ((at / 512 / 10 + 79) % 80) (at / 512 % 10) =
    logical-10 ((at / 512 / 10 + 79) % 80) (at / 512 % 10) (omega arith) in
    let l : ℕ = there.logical in
    let starts : start_of Rx50 l ≡ 512 * (at / 512) = omega (arith, there.track, there.sector) in
    let is : 1 * l + at % 512 / 512 ≡ l = omega arith in
    record {
      block = l;
      byte = at % 512;
      is_block = omega (arith, there.track);
      in_block = omega arith;
      stands = ap (λ (n : ℕ). start_of Rx50 n + at % 512 % 512) is ∙ omega (arith, starts);
    }
