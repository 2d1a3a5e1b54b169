-- The list of all headers of an image, and those that a scan finds.
use Rattle.std.proofs.Common.{◌≡◌, ◌≢◌, ℕ, zero, suc, ◌+◌, ◌-◌, ◌<◌, ◌≤◌, List, [], ◌∷◌, length, Bool, true, Option, Some, None}
use Rattle.std.proofs.Common.{inl, inr, refl, ap, sym, ◌∙◌, arith}
use Rattle.std.specs.Prelude.{cond, filter, is_some}
use Rattle.std.specs.List.{range_with_len}
use Rattle.std.proofs.lemmas.Bool.{cases_lt}
use Rattle.f11_dev.specs.Image.{Image, image_block}
use Rattle.f11_scan.specs.Laws.{Scans}
use Rattle.f11_scan.specs.Scan.{HasNoHeader, headers_from}
use Rattle.f11_scan.specs.Uses.{use_of_block}
use Rattle.f11_scan.specs.declared.header_use.HeaderUse.{HeaderUse}

-- whether a block of an image is a header
abbrev is_header_at : Image → ℕ → Bool
is_header_at image lbn = is_some (use_of_block (image_block image lbn))

-- the headers among n blocks
abbrev headers_in : Image → ℕ → ℕ → List ℕ
headers_in image from n = filter (is_header_at image) (range_with_len from n)

-- the first of them is one, or isn't
in-kept : (image : Image) (from n : ℕ) → is_header_at image from ≡ true
    → headers_in image from (suc n) ≡ from ∷ headers_in image (from + 1) n
in-kept image from n is =
    ap (λ (t : Bool). cond t (from ∷ headers_in image (from + 1) n) (headers_in image (from + 1) n)) is

in-left : (image : Image) (from n : ℕ) → use_of_block (image_block image from) ≡ None
    → headers_in image from (suc n) ≡ headers_in image (from + 1) n
in-left image from n none =
    ap (λ (o : Option HeaderUse). cond (is_some o) (from ∷ headers_in image (from + 1) n) (headers_in image (from + 1) n)) none

-- none of them is one
in-none : (image : Image) (from n : ℕ) → ((lbn : ℕ) → from ≤ lbn → lbn < from + n → use_of_block (image_block image lbn) ≡ None)
    → headers_in image from n ≡ []
in-none image from zero none = refl
in-none image from (suc n) none =
    in-left image from n (none from (omega arith) (omega arith))
    ∙ in-none image (from + 1) n (λ lbn above below. none lbn (omega (arith, above)) (omega (arith, below)))

-- those up to a place aren't
in-passed : (image : Image) (from to n m : ℕ) → from ≤ to → from + n ≡ to + m → HasNoHeader image from to
    → headers_in image from n ≡ headers_in image to m
in-passed image from to zero m behind same none =
    let at : from ≡ to = omega (arith, behind, same) in
    let few : zero ≡ m = omega (arith, behind, same) in
    λ k. headers_in image (at k) (few k)
in-passed image from to (suc n) m behind same none = elim (cases_lt from to) [
  | inl before ↦ in-left image from n (none from (omega arith) before)
      ∙ in-passed image (from + 1) to n m (omega (arith, before)) (omega (arith, same))
      (λ lbn above below. none lbn (omega (arith, above)) below)
  | inr there ↦
      let at : from ≡ to = omega (arith, behind, there) in
      let few : suc n ≡ m = omega (arith, at, same) in
      λ k. headers_in image (at k) (few k)
]

is_some-from : (o : Option HeaderUse) → o ≢ None → is_some o ≡ true
is_some-from (Some u) some = refl
is_some-from None some = absurd (some refl)

-- the first of the list is the one before which there is none, and where there is none the list is empty
pub from-next : (image : Image) (from lbn : ℕ) → from ≤ lbn → lbn < length image → HasNoHeader image from lbn
    → use_of_block (image_block image lbn) ≢ None → headers_from image from ≡ lbn ∷ headers_from image (lbn + 1)
from-next image from lbn behind within none some =
    let left : length image - lbn ≡ suc (length image - (lbn + 1)) = omega (arith, within) in
    in-passed image from lbn (length image - from) (length image - lbn) behind (omega (arith, behind, within)) none
    ∙ ap (λ (n : ℕ). headers_in image lbn n) left
    ∙ in-kept image lbn (length image - (lbn + 1)) (is_some-from (use_of_block (image_block image lbn)) some)

pub from-none : (image : Image) (from : ℕ) → HasNoHeader image from (length image) → headers_from image from ≡ []
from-none image from none = in-none image from (length image - from) (λ lbn above below. none lbn above (omega (arith, above, below)))

-- a scan finds just the headers of the list, in order
pub scans-each : (image : Image) (from : ℕ) (found : List ℕ) → Scans image from found → found ≡ headers_from image from
scans-each image from [] none = sym (from-none image from none)
scans-each image from (lbn ∷ rest) (behind, within, none, some, more) =
    ap (λ (l : List ℕ). lbn ∷ l) (scans-each image (lbn + 1) rest more) ∙ sym (from-next image from lbn behind within none some)
