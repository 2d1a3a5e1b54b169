-- The text of a file's records, a byte read at a time.
use Rattle.std.proofs.Common.{◌≡◌, ℕ, zero, suc, ◌+◌, ◌-◌, ◌*◌, ◌%◌, ◌<◌, ◌≤◌, Bool, true, false, eqb, IsTrue, List, [], ◌∷◌, ◌++◌, length}
use Rattle.std.proofs.Common.{take, drop, Option, Some, None, refl, sym, ap, ◌∙◌, arith, append_assoc}
use Rattle.std.specs.Prelude.{slice_range, option_map, option_and_then, unwrap_or}
use Rattle.std.proofs.lemmas.Bool.{cond_both}
use Rattle.std.proofs.lemmas.Bool.Decides.{nat_tests}
use Rattle.std.proofs.lemmas.Iterator.Adapters.{option_map_id}
use Rattle.f11_store.specs.File.{File, end_of}
use Rattle.std.specs.List.{concat}
use Rattle.std.proofs.lemmas.List.{length-take-le}
use Rattle.f11_flx.specs.Lines.{line_end, text_with}
use Rattle.f11_flx.specs.Place.{text_in, text_from, text_at_bad, pads, has_place, is_ending, ending_at, ReadsByte, RefusesByte}
use Rattle.f11_flx.specs.Records.{layout_of, some_of, head_of, size_of, pad_of, first_record, records_in, good_in}
use Rattle.f11_flx.specs.Records.{Which, all, good, records_by}
use Rattle.f11_flx.specs.ToText.{converted_by, text_by}
use Rattle.f11_flx.specs.declared.layout.Layout.{Layout}
use Rattle.f11_flx.specs.declared.layout.Layout.TheVariants.{Fixed, Variable}
use Rattle.f11_flx.specs.declared.line_end.LineEnd.{LineEnd}
use Rattle.f11_flx.specs.declared.place.Place.{Place}
use Rattle.f11_flx.specs.declared.place.Place.TheVariants as place
use Rattle.f11_flx.specs.declared.to_text.ToText.{ToText}
use Rattle.f11_flx.proofs.Texts.RecordLemmas.{first_record-fits, first_record-past, good_in-first, records_in-first, with_first, with_good}

-- one after another
option_map-map : {A B C : Type 0} (f : B → C) (g : A → B) (o : Option A) → option_map f (option_map g o) ≡ option_map (λ x. f (g x)) o
option_map-map f g None = refl
option_map-map f g (Some x) = refl

-- a record more in the text
text_with-more : (ends : LineEnd) (own : List ℕ) (records : Option (List (List ℕ)))
    → option_map (text_with ends) (option_map (λ (more : List (List ℕ)). own ∷ more) records)
    ≡ option_map (λ (text : List ℕ). own ++ (line_end ends ++ text)) (option_map (text_with ends) records)
text_with-more ends own None = refl
text_with-more ends own (Some records) = ap Some (append_assoc own (line_end ends) (text_with ends records))

-- the first record, and the others
records_by-first : (which : Which) (layout : Layout) (bytes own rest : List ℕ) → 0 < some_of layout → 0 < length bytes
    → first_record layout bytes ≡ Some (own, rest)
    → records_by which layout bytes ≡ option_map (λ (more : List (List ℕ)). own ∷ more) (records_by which layout rest)
records_by-first all layout bytes own rest some long is =
    records_in-first layout bytes some long ∙ ap (λ (f : Option (List ℕ × List ℕ)). with_first f (records_in layout)) is
records_by-first good layout bytes own rest some long is =
    ap Some (good_in-first layout bytes some long ∙ ap (λ (f : Option (List ℕ × List ℕ)). with_good f (good_in layout)) is)

-- the text of the first record, and that of the others
pub text_in-first : (ends : LineEnd) (which : Which) (layout : Layout) (bytes own rest : List ℕ) → 0 < some_of layout → 0 < length bytes
    → head_of layout + size_of layout bytes ≤ length bytes
    → slice_range bytes (head_of layout) (head_of layout + size_of layout bytes) ≡ own
    → drop (head_of layout + size_of layout bytes + pad_of layout (size_of layout bytes)) bytes ≡ rest
    → text_in ends which layout bytes ≡ option_map (λ (text : List ℕ). own ++ (line_end ends ++ text)) (text_in ends which layout rest)
unfolding text_in
text_in-first ends which layout bytes own rest some long fits own_is rest_is =
    let first : first_record layout bytes ≡ Some (own, rest) =
    first_record-fits layout bytes fits
    ∙ ap (λ (b : List ℕ). Some (b, drop (head_of layout + size_of layout bytes + pad_of layout (size_of layout bytes)) bytes)) own_is
    ∙ ap (λ (b : List ℕ). Some (own, b)) rest_is in
    ap (option_map (text_with ends)) (records_by-first which layout bytes own rest some long first)
    ∙ text_with-more ends own (records_by which layout rest)

-- where it goes past the end there is no text, and that of the good ones ends
pub text_in-past : (ends : LineEnd) (which : Which) (layout : Layout) (bytes : List ℕ) → 0 < some_of layout → 0 < length bytes
    → length bytes < head_of layout + size_of layout bytes → text_in ends which layout bytes ≡ text_at_bad which
unfolding text_in
text_in-past ends all layout bytes some long past =
    ap (option_map (text_with ends)) (records_in-first layout bytes some long
    ∙ ap (λ (f : Option (List ℕ × List ℕ)). with_first f (records_in layout)) (first_record-past layout bytes past))
text_in-past ends good layout bytes some long past =
    ap (λ (records : List (List ℕ)). Some (text_with ends records)) (good_in-first layout bytes some long
    ∙ ap (λ (f : Option (List ℕ × List ℕ)). with_good f (good_in layout)) (first_record-past layout bytes past))

-- what ends a line has two bytes at most
pub ending_at-few : (at : Place) → 1 + ending_at at ≤ 3
ending_at-few place.Record = omega arith
ending_at-few (place.High low) = omega arith
ending_at-few (place.Within left pad) = cond_both (eqb left 0) 2 0 (λ (n : ℕ). 1 + n ≤ 3) (λ is. omega arith) (λ is. omega arith)
ending_at-few (place.LineFeed pad) = omega arith
ending_at-few place.Pad = omega arith

-- the first byte of a fixed record
pub reads-fixed : (size byte rest : ℕ) → 0 < size → size - 1 ≤ rest
    → ReadsByte (Fixed size) place.Record (place.Within (size - 1) false) byte rest (Some byte)
reads-fixed size byte rest some fits = record {
  text = λ ends which bytes is.
      let count : 0 + size - 0 ≡ suc (size - 1) = omega arith in
      let end : 0 + size + 0 ≡ suc (size - 1 + 0) = omega arith in
      text_in-first ends which (Fixed size) (byte ∷ bytes) (byte ∷ take (size - 1) bytes) (drop (size - 1 + 0) bytes) some (omega arith)
      (omega arith)
      (ap (λ (n : ℕ). take n (byte ∷ bytes)) count) (ap (λ (n : ℕ). drop n (byte ∷ bytes)) end)
      ∙ sym (option_map-map (λ (more : List ℕ). byte ∷ more) (λ (more : List ℕ). take (size - 1) bytes ++ (line_end ends ++ more))
      (text_in ends which (Fixed size) (drop (size - 1 + 0) bytes)));
  wanted = fits;
  placed = refl;
  few = ending_at-few (place.Within (size - 1) false);
}

-- one that goes past the end
pub refuses-fixed : (size byte rest : ℕ) → 0 < size → rest < size - 1 → RefusesByte (Fixed size) place.Record byte rest
refuses-fixed size byte rest some past ends which bytes is =
    text_in-past ends which (Fixed size) (byte ∷ bytes) some (omega arith) (omega arith)

-- the low byte of a length word
pub reads-low : (byte rest : ℕ) → 0 < rest → ReadsByte Variable place.Record (place.High byte) byte rest None
reads-low byte rest more = record {
  text = λ ends which bytes is. sym (option_map_id (text_in ends which Variable (byte ∷ bytes)));
  wanted = more;
  placed = refl;
  few = omega arith;
}

pub refuses-low : (byte rest : ℕ) → rest ≡ 0 → RefusesByte Variable place.Record byte rest
refuses-low byte rest none ends which bytes is =
    let some : 0 < 2 = omega arith in text_in-past ends which Variable (byte ∷ bytes) some (omega arith) (omega arith)

-- a pad byte where the length is odd
pads-odd : (n : ℕ) → pads (eqb (n % 2) 1) ≡ n % 2
pads-odd n = grind (arith, nat_tests)

-- the high byte
pub reads-high : (low byte size rest : ℕ) → size ≡ byte * 256 + low → size ≤ rest
    → ReadsByte Variable (place.High low) (place.Within size (eqb (size % 2) 1)) byte rest None
reads-high low byte size rest size_is fits = record {
  text = λ ends which bytes is.
      let whole = low ∷ byte ∷ bytes in
      let some : 0 < 2 = omega arith in
      let told : size_of Variable whole ≡ size = omega arith in
      let count : 2 + size_of Variable whole - 2 ≡ size = omega arith in
      let end : 2 + size_of Variable whole + size_of Variable whole % 2 ≡ suc (suc (size + size % 2)) =
      omega (arith, ap (λ (n : ℕ). n % 2) told) in
      let pad : size + size % 2 ≡ size + pads (eqb (size % 2) 1) = omega (arith, pads-odd size) in
      text_in-first ends which Variable whole (take size bytes) (drop (size + pads (eqb (size % 2) 1)) bytes) some (omega arith)
      (omega arith)
      (ap (λ (n : ℕ). take n bytes) count) (ap (λ (n : ℕ). drop n whole) end ∙ ap (λ (n : ℕ). drop n bytes) pad)
      ∙ sym (option_map_id (option_map (λ (more : List ℕ). take size bytes ++ (line_end ends ++ more))
      (text_in ends which Variable (drop (size + pads (eqb (size % 2) 1)) bytes))));
  wanted = fits;
  placed = refl;
  few = omega (arith, ending_at-few (place.Within size (eqb (size % 2) 1)));
}

pub refuses-high : (low byte size rest : ℕ) → size ≡ byte * 256 + low → rest < size → RefusesByte Variable (place.High low) byte rest
refuses-high low byte size rest size_is past ends which bytes is =
    let some : 0 < 2 = omega arith in
    text_in-past ends which Variable (low ∷ byte ∷ bytes) some (omega arith) (omega arith)

-- records that lie so may stop within one
placed-within : (layout : Layout) (left : ℕ) (pad : Bool) → IsTrue (has_place layout (place.Within left pad))
placed-within (Fixed size) left pad = refl
placed-within Variable left pad = refl

-- a number that isn't 0
pub some-left : (n : ℕ) → eqb n 0 ≡ false → 0 < n
some-left zero none = absurd (differ none)
  where
    differ : true ≡ false → ⊥
    differ is = cc
some-left (suc n) none = omega arith

-- a byte of a record
pub reads-within : (layout : Layout) (left : ℕ) (pad : Bool) (byte rest : ℕ) → is_ending (place.Within left pad) ≡ false → left ≤ rest + 1
    → ReadsByte layout (place.Within left pad) (place.Within (left - 1) pad) byte rest (Some byte)
reads-within layout left pad byte rest more fits = let some : 0 < left = some-left left more in record {
  text = λ ends which bytes is.
      let count : left ≡ suc (left - 1) = omega arith in
      let end : left + pads pad ≡ suc (left - 1 + pads pad) = omega arith in
      ap (λ (n : ℕ). option_map (λ (more : List ℕ). take n (byte ∷ bytes) ++ (line_end ends ++ more))
      (text_in ends which layout (drop (left + pads pad) (byte ∷ bytes)))) count
      ∙ ap (λ (n : ℕ). option_map (λ (more : List ℕ). byte ∷ (take (left - 1) bytes ++ (line_end ends ++ more)))
      (text_in ends which layout (drop n (byte ∷ bytes)))) end
      ∙ sym (option_map-map (λ (more : List ℕ). byte ∷ more) (λ (more : List ℕ). take (left - 1) bytes ++ (line_end ends ++ more))
      (text_in ends which layout (drop (left - 1 + pads pad) bytes)));
  wanted = omega arith;
  placed = placed-within layout (left - 1) pad;
  few = ending_at-few (place.Within (left - 1) pad);
}

-- a byte that is refused by how many are behind it is refused where as many follow
pub refuses-on : (layout : Layout) (at : Place) (byte rest : ℕ) → 0 < rest → RefusesByte layout at byte (rest - 1)
    → (ends : LineEnd) (which : Which) (bytes : List ℕ) → rest ≤ length bytes + 1
    → text_from ends which layout at (take rest (byte ∷ bytes)) ≡ text_at_bad which
refuses-on layout at byte rest some refuses ends which bytes long =
    let count : rest ≡ suc (rest - 1) = omega arith in
    ap (λ (n : ℕ). text_from ends which layout at (take n (byte ∷ bytes))) count
    ∙ refuses ends which (take (rest - 1) bytes) (length-take-le (rest - 1) bytes (omega arith))

-- the good records always have a text
good-from : (ends : LineEnd) (layout : Layout) (at : Place) (bytes : List ℕ)
    → (text : List ℕ) × (text_from ends good layout at bytes ≡ Some text)
unfolding text_in
good-from ends layout place.Record bytes = (_, refl)
good-from ends layout (place.High low) bytes = (_, refl)
good-from ends layout (place.Within left pad) bytes = (_, refl)
good-from ends layout (place.LineFeed pad) bytes = (_, refl)
good-from ends layout place.Pad bytes = (_, refl)

pub good-is : (s : ToText) (bytes : List ℕ) → (text : List ℕ) × (text_by good s bytes ≡ Some text)
good-is s bytes = good-from s.ends s.layout s.place (take s.rest bytes)

-- the text of a file whose records lie so
pub converted_by-in : (ends : LineEnd) (which : Which) (file : File) (layout : Layout) → layout_of file.attr ≡ Some layout
    → text_in ends which layout (take (end_of file) (concat file.blocks)) ≡ converted_by ends which file
unfolding text_in
converted_by-in ends all file layout is =
    sym (ap (λ (l : Option Layout). option_map (text_with ends)
    (option_and_then (λ (how : Layout). records_in how (take (end_of file) (concat file.blocks))) l)) is)
converted_by-in ends good file layout is =
    sym (ap (λ (l : Option Layout). Some (text_with ends
    (unwrap_or (option_map (λ (how : Layout). good_in how (take (end_of file) (concat file.blocks))) l) []))) is)
