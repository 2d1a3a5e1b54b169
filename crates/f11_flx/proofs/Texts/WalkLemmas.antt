-- A walk over the records of a file.
use Rattle.std.proofs.Common.{◌≡◌, inl, inr, ℕ, ◌+◌, ◌-◌, ◌<◌, ◌≤◌, ltb, List, [], ◌∷◌, length, take, drop, get_or, Option, Some, None}
use Rattle.std.proofs.Common.{refl, sym, ap, ◌∙◌, arith, length-drop, lt-ltb}
use Rattle.std.specs.Prelude.{slice_range, option_and_then, option_map}
use Rattle.std.specs.List.{concat}
use Rattle.std.proofs.lemmas.Bool.{cases_lt, cond-true}
use Rattle.std.proofs.lemmas.List.{length-take, length-take-le, drop-drop, drop-take, drop_all, take-take, get_or-drop, get_or-take}
use Rattle.f11_bytes.specs.Words.{word}
use Rattle.f11_store.specs.File.{File, length_of}
use Rattle.f11_flx.specs.Records.{layout_of, some_of, head_of, size_of, pad_of, records_in, records_of}
use Rattle.f11_flx.specs.Walk.{Walk, bytes_left, end_by, place_of, size_by, walk_from_start, TakesRecord}
use Rattle.f11_flx.specs.declared.layout.Layout.{Layout}
use Rattle.f11_flx.specs.declared.layout.Layout.TheVariants.{Fixed, Variable}
use Rattle.f11_flx.proofs.Texts.RecordLemmas.{first_record-fits, first_record-past, records_in-first, records_in-none, with_first}

-- how many bytes are before a walk
pub length-bytes_left : (w : Walk) (content : List ℕ) → w.end ≤ length content → length (bytes_left w content) ≡ w.end - w.next
length-bytes_left w content within =
    omega (arith, length-drop {A = ℕ} w.next (take w.end content), length-take-le {A = ℕ} w.end content within)

-- a byte before it
get_or-bytes_left : (w : Walk) (content : List ℕ) (i : ℕ) → w.next + i < w.end
    → get_or (bytes_left w content) i 0 ≡ get_or content (w.next + i) 0
get_or-bytes_left w content i below = get_or-drop w.next (take w.end content) i 0 ∙ get_or-take w.end content (w.next + i) 0 below

-- what the next record's size is told by
pub size_of-bytes_left : (w : Walk) (content : List ℕ) → w.next + head_of w.layout ≤ w.end
    → size_of w.layout (bytes_left w content) ≡ size_by w.layout (word content w.next)
size_of-bytes_left w content within = of_layout w.layout within
  where
    of_layout : (layout : Layout) → w.next + head_of layout ≤ w.end
        → size_of layout (bytes_left w content) ≡ size_by layout (word content w.next)
    of_layout (Fixed size) within = refl
    of_layout Variable within =
        let low = get_or-bytes_left w content 0 (omega arith) in
        let high = get_or-bytes_left w content 1 (omega arith) in
        let here : w.next + 0 ≡ w.next = omega arith in
        omega (arith, low, high, ap (λ (i : ℕ). get_or content i 0) here)

-- bytes of those before it
slice_range-bytes_left : (w : Walk) (content : List ℕ) (from to : ℕ) → from ≤ to → w.next + to ≤ w.end
    → slice_range (bytes_left w content) from to ≡ slice_range content (w.next + from) (w.next + to)
slice_range-bytes_left w content from to order within =
    let whole : w.end ≡ w.next + from + (w.end - (w.next + from)) = omega arith in
    let count : to - from ≡ w.next + to - (w.next + from) = omega arith in
    ap (take (to - from)) (drop-drop from w.next (take w.end content)
    ∙ ap (λ (n : ℕ). drop (w.next + from) (take n content)) whole
    ∙ drop-take (w.next + from) (w.end - (w.next + from)) content)
    ∙ take-take (to - from) (w.end - (w.next + from)) (drop (w.next + from) content) (omega arith)
    ∙ ap (λ (n : ℕ). take n (drop (w.next + from) content)) count

pub taken_is_first : (old new : Walk) (content : List ℕ) (first size : ℕ) → 0 < some_of old.layout → old.end ≤ length content
    → old.next < old.end
    → TakesRecord old new (word content old.next) first size
    → records_in old.layout (bytes_left old content) ≡ option_map
    (λ (more : List (List ℕ)). slice_range content first (first + size) ∷ more) (records_in new.layout (bytes_left new content))
taken_is_first old new content first size some long more taken =
    let layout = old.layout in
    let bytes = bytes_left old content in
    let head = head_of layout in
    let length_is = length-bytes_left old content long in
    let size_is : size_of layout bytes ≡ size = size_of-bytes_left old content (omega (arith, taken.first_is, taken.within))
    ∙ sym taken.size_is in
    let fits : head + size_of layout bytes ≤ length bytes = omega (arith, length_is, size_is, taken.first_is, taken.within) in
    let own = slice_range-bytes_left old content head (head + size) (omega arith) (omega (arith, taken.first_is, taken.within)) in
    let first_at : old.next + head ≡ first = sym taken.first_is in
    let end_at : old.next + (head + size) ≡ first + size = omega (arith, taken.first_is) in
    let next_at : old.next + (head + size + pad_of layout size) ≡ first + size + pad_of layout size = omega (arith, taken.first_is) in
    records_in-first layout bytes some (omega (arith, length_is))
    ∙ ap (λ (f : Option (List ℕ × List ℕ)). with_first f (records_in layout))
    (first_record-fits layout bytes fits
    ∙ ap (λ (n : ℕ). Some (slice_range bytes head (head + n), drop (head + n + pad_of layout n) bytes)) size_is
    ∙ ap (λ (b : List ℕ). Some (b, drop (head + size + pad_of layout size) bytes))
    (own ∙ ap (λ (n : ℕ). slice_range content n (old.next + (head + size))) first_at ∙ ap (slice_range content first) end_at)
    ∙ ap (λ (b : List ℕ). Some (slice_range content first (first + size), b))
    (drop-drop (head + size + pad_of layout size) old.next (take old.end content) ∙ ap (λ (n : ℕ). drop n (take old.end content))
    next_at))
    ∙ ap (λ (w : Walk). option_map (λ (m : List (List ℕ)). slice_range content first (first + size) ∷ m)
    (records_in w.layout (bytes_left w content))) (sym taken.goes_on)

pub refused_is_bad : (old : Walk) (content : List ℕ) → 0 < some_of old.layout → old.end ≤ length content → old.next < old.end
    → old.end < end_by old (word content old.next) → records_in old.layout (bytes_left old content) ≡ None
refused_is_bad old content some long more past =
    let layout = old.layout in
    let bytes = bytes_left old content in
    let length_is = length-bytes_left old content long in
    let too_long : length bytes < head_of layout + size_of layout bytes = elim (cases_lt old.end (old.next + head_of layout)) [
      | inl cut ↦ omega (arith, length_is)
      | inr whole ↦ omega (arith, length_is, size_of-bytes_left old content whole)
    ] in
    records_in-first layout bytes some (omega (arith, length_is))
    ∙ ap (λ (f : Option (List ℕ × List ℕ)). with_first f (records_in layout)) (first_record-past layout bytes too_long)

pub end_has_none : (w : Walk) (content : List ℕ) → place_of w ≡ None → records_in w.layout (bytes_left w content) ≡ Some []
end_has_none w content ended = elim (cases_lt w.next w.end) [
  | inl below ↦ absurd (none_is (sym ended ∙ cond-true (ltb w.next w.end) (Some w.next) None (lt-ltb w.next w.end below)))
  | inr past ↦ ap (records_in w.layout) (drop_all w.next (take w.end content) (omega (arith, length-take {A = ℕ} w.end content)))
      ∙ records_in-none w.layout
]
  where
    none_is : {x : ℕ} → None ≡ Some x → ⊥
    none_is is = cc

pub start_has_all : (file : File) (layout : Layout) → layout_of file.attr ≡ Some layout
    → records_of file ≡ records_in layout (bytes_left (walk_from_start layout file.attr (length_of file)) (concat file.blocks))
start_has_all file layout is =
    ap (option_and_then (λ (l : Layout).
    records_in l (bytes_left (walk_from_start layout file.attr (length_of file)) (concat file.blocks)))) is
