use Rattle.std.proofs.Common.{◌≡◌, ◌≢◌, ◌∙◌, ◌<◌, ℕ, true, false, length, sym, ap, subst, arith, slice_index}
use Rattle.f11_dev.specs.Image.{Image}
use Rattle.f11_bits.specs.Bitmap.{Bitmap, is_free}
use Rattle.f11_bits.specs.Storage.{IsFor}
use Rattle.f11_bits.proofs.LawLemmas.{IsFor-write}
use Rattle.f11_tests.proofs.structures.bitmap.take_zero_take.Goals as goal

-- what was free is none of the bitmap's own blocks, which are used
none_of_its_own : (bitmap now : Bitmap) (image : Image) (lbn : ℕ) → now ≡ bitmap → is_free image bitmap lbn ≡ true
    → ((i : ℕ) → i < length bitmap.places → is_free image bitmap (slice_index bitmap.places i) ≡ false)
    → (i : ℕ) → i < length now.places → slice_index now.places i ≢ lbn
none_of_its_own bitmap now image lbn same free used =
    let P : Bitmap → Type 0 = λ b. (i : ℕ) → i < length b.places → slice_index b.places i ≢ lbn in
    subst P (sym same) (λ i inside is. let clash : true ≡ false = sym free ∙ ap (is_free image bitmap) (sym is) ∙ used i inside in cc)

pub take-requires-2-clause-storage : goal.take-requires-2-clause-storage
take-requires-2-clause-storage g c =
    let takes = (rw c.in-Some.is at c.in_ok-lbn.ensures.found).takes in
    subst (IsFor c.take.new.self) (sym c.in_ok-write.ensures.writes.ok) (IsFor-write c.take.new.self _ true c.in-Some.lbn _ (λ honest.
    let before = sym takes.marked.went.honest ∙ honest in
    let first = takes.first before in
    none_of_its_own _ _ _ _ c.take.ensures.same (first.each c.in-Some.lbn (omega arith) (omega (arith, first.some)))
    (c.requires.used before))
    c.in_ok-lbn.ensures.storage)
