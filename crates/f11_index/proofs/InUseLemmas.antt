-- What a slot in use has.
use Rattle.std.proofs.Common.{◌≡◌, ℕ, ◌-◌, ◌<◌, ◌≤◌, true, arith}
use Rattle.std.proofs.lemmas.Bool.{and_parts, leb-true, ltb-true}
use Rattle.f11_index.specs.IndexFile.{Index, slots, is_in_use, header_lbn}
use Rattle.f11_index.specs.Kept.{IndexLiesWithin}

-- it is one of the slots
pub in_use-some : (index : Index) (n : ℕ) → is_in_use index n ≡ true → 0 < n
unfolding is_in_use
in_use-some index n is = ltb-true _ _ (and_parts _ _ is).0

pub in_use-slot : (index : Index) (n : ℕ) → is_in_use index n ≡ true → n ≤ slots index
unfolding is_in_use
in_use-slot index n is = leb-true _ _ (and_parts _ _ (and_parts _ _ is).1).0

-- its header is on the device
pub header-within : (index : Index) (n blocks : ℕ) → IndexLiesWithin index blocks → 0 < n → n ≤ slots index → header_lbn index n < blocks
unfolding header_lbn
header-within index n blocks within some slot = within.headers (n - 1) 0 (omega (arith, some, slot))
