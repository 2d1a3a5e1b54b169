-- The header of a fresh volume's own file, among its blocks.
use Rattle.std.proofs.Common.{◌<◌, ◌≤◌, ◌+◌, ◌-◌, ℕ, List, subst, arith}
use Rattle.f11_layout.specs.Fresh.{IsFreshBlock}
use Rattle.f11_layout.specs.FreshHeader.{IsFreshHeader}
use Rattle.f11_layout.specs.Places.{first_header}
use Rattle.f11_layout.specs.declared.layout.Layout.{Layout}

pub own-header : (l : Layout) (n : ℕ) (b : List ℕ) → 16 ≤ l.slots → 0 < n → n ≤ 5 → IsFreshHeader l n b
    → IsFreshBlock l (first_header l.max_files + (n - 1)) b
own-header l n b slots some few fresh = record {
  boot = λ at. absurd (omega (arith, at));
  home = λ at. absurd (omega (arith, at));
  index_bitmap = λ i below at. absurd (omega (arith, at, below));
  own_header = λ m below at. subst (λ (k : ℕ). IsFreshHeader l k b) (omega (arith, at, some)) fresh;
  free_header = λ m from below at. absurd (omega (arith, at, from, few));
  control = λ at. absurd (omega (arith, at, few, slots));
  bitmap = λ i below at. absurd (omega (arith, at, few, slots));
  directory = λ at. absurd (omega (arith, at, few, slots));
}
