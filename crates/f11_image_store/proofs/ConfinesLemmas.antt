-- Which images spare the blocks that calls don't change on their own account.
use Rattle.std.proofs.Common.{◌≡◌, ◌≢◌, ◌-◌, ◌<◌, ◌≤◌, ℕ, Bool, true, false, List, length, set, get_or, sym, ap, ◌∙◌, arith}
use Rattle.f11_bits.specs.Bitmap.{Bitmap, KeepsOthers}
use Rattle.f11_bits.proofs.BitmapLemmas.{slice_get-set_other}
use Rattle.f11_dev.specs.Image.{Image}
use Rattle.f11_index.specs.IndexFile.{Index, slots, header_lbn}
use Rattle.f11_store.specs.Changes.{is_in}
use Rattle.f11_image_store.specs.Confines.{IsNoPart, Spares, AreAlike}

-- a block that is one of those
pub spares-other : (headers : ℕ → Bool) (index : Index) (bitmap : Bitmap) (others : List ℕ) (old : Image) (lbn : ℕ) (block : List ℕ)
    → ((l : ℕ) → IsNoPart headers index bitmap l → is_in others l ≡ false → lbn ≢ l)
    → Spares headers index bitmap others old (set old lbn block)
spares-other headers index bitmap others old lbn block apart l none out = slice_get-set_other old lbn l block (apart l none out)

-- header n
pub header-apart : (headers : ℕ → Bool) (index : Index) (bitmap : Bitmap) (n lbn : ℕ) → headers n ≡ true → 0 < n → n ≤ slots index
    → lbn ≡ header_lbn index n → (l : ℕ) → IsNoPart headers index bitmap l → lbn ≢ l
header-apart headers index bitmap n lbn may some slot at l none same = none.header n may some slot (sym at ∙ same)

-- what is no part before is none after
pub alike-part : (headers : ℕ → Bool) (index after : Index) (bitmap later : Bitmap) → AreAlike index after bitmap later → (lbn : ℕ)
    → IsNoPart headers index bitmap lbn → IsNoPart headers after later lbn
unfolding header_lbn
alike-part headers index after bitmap later alike lbn none = record {
  header = λ n is some slot same.
      none.header n is some (let count = ap (λ (hs : List ℕ). length hs) alike.headers in omega (arith, slot, count))
      (ap (λ (hs : List ℕ). get_or hs (n - 1) 0) (sym alike.headers) ∙ same);
  index_bitmap = λ k within same. none.index_bitmap k (let count = alike.bitmap_blocks in omega (arith, within, count))
      (let at = alike.bitmap_lbn in omega (arith, at, same));
  storage = λ i within same. none.storage i (let count = ap (λ (ps : List ℕ). length ps) alike.places in omega (arith, within, count))
      (ap (λ (ps : List ℕ). get_or ps i 0) (sym alike.places) ∙ same);
}

-- blocks of the bitmap
pub spares-bitmap : (headers : ℕ → Bool) (index : Index) (bitmap : Bitmap) (others : List ℕ) (old image : Image)
    → KeepsOthers bitmap old image → Spares headers index bitmap others old image
spares-bitmap headers index bitmap others old image keeps l none out = keeps.others l none.storage
