-- What is read of a file, and what its copy is.
use Rattle.std.proofs.Common.{◌≡◌, ℕ, ◌≤◌, List, ◌++◌, length, take, drop, Option, Some, None, All, refl, sym, ap, ◌∙◌, arith}
use Rattle.std.specs.Prelude.{option_and_then, option_map}
use Rattle.std.specs.List.{concat}
use Rattle.std.proofs.lemmas.List.{take-append-drop, take-append-le}
use Rattle.std.proofs.lemmas.List.Folds.{concat-append}
use Rattle.f11_store.specs.File.{File, end_of, length_of}
use Rattle.f11_flx.specs.Conversion.{copied_to_rt}
use Rattle.f11_flx.specs.CopyToRt.{HasWholeBlocks}
use Rattle.f11_flx.specs.Lines.{in_whole_blocks, text_of}
use Rattle.f11_flx.specs.Place.{text_from}
use Rattle.f11_flx.specs.Records.{all, layout_of, records_in, records_of}
use Rattle.f11_flx.specs.Source.{StartsText, up_to_end}
use Rattle.f11_flx.specs.Spelled.{image_of}
use Rattle.f11_flx.specs.ToText.{HasNoText, converted_text, rest_of, text_left}
use Rattle.f11_flx.specs.declared.layout.Layout.{Layout}
use Rattle.f11_flx.specs.declared.mode.CopyMode.TheVariants.{Text}
use Rattle.f11_flx.specs.declared.to_text.ToText.{ToText}
use Rattle.f11_flx.proofs.Texts.PourLemmas.{whole-length}

module _ (f : File) where
  pub image-is : (given : List (List ℕ)) → length given ≡ up_to_end f.attr (length_of f) → given ≡ take (length given) f.blocks
      → given ≡ image_of f
  image-is given size is = is ∙ ap (λ (n : ℕ). take n f.blocks) size

  copied-by : (r : Option (List (List ℕ))) (bytes : List ℕ) → option_map text_of r ≡ Some bytes →
      option_map (λ records. in_whole_blocks (text_of records)) r ≡ Some (in_whole_blocks bytes)
  copied-by None bytes h = absurd (cc)
  copied-by (Some records) bytes h = let same : text_of records ≡ bytes = cc in ap (λ (b : List ℕ). Some (in_whole_blocks b)) same

  pub copied-text : (bytes : List ℕ) → converted_text f ≡ Some bytes → copied_to_rt Text f ≡ Some (in_whole_blocks bytes)
  copied-text bytes h = copied-by (records_of f) bytes h

  none-by : (r : Option (List (List ℕ))) → option_map text_of r ≡ None → option_map (λ records. in_whole_blocks (text_of records)) r ≡ None
  none-by None h = refl
  none-by (Some records) h = absurd (cc)

  pub uncopied-text : converted_text f ≡ None → copied_to_rt Text f ≡ None
  uncopied-text h = none-by (records_of f) h

  -- the file's bytes begin with those of its first blocks
  bytes-are : (given : List (List ℕ)) → given ≡ take (length given) f.blocks
      → concat f.blocks ≡ concat given ++ concat (drop (length given) f.blocks)
  bytes-are given is =
      ap concat (sym (take-append-drop (length given) f.blocks))
      ∙ concat-append (take (length given) f.blocks) (drop (length given) f.blocks)
      ∙ ap (λ (l : List (List ℕ)). concat l ++ concat (drop (length given) f.blocks)) (sym is)

  module _ (text : ToText) (starts : StartsText f.attr (length_of f) text) (given : List (List ℕ))
      (is : given ≡ take (length given) f.blocks) where
    -- its text is that of its first blocks, where its end is in them
    pub left-same : length given ≡ up_to_end f.attr (length_of f) → All (λ b. length b ≡ 512) given
        → text_left text (concat f.blocks) ≡ text_left text (concat given)
    left-same size whole =
        let enough : rest_of text ≤ length (concat given) = omega (arith, starts.rest_is, whole-length given whole, size) in
        let same : take (rest_of text) (concat f.blocks) ≡ take (rest_of text) (concat given) =
        ap (take (rest_of text)) (bytes-are given is)
        ∙ take-append-le (rest_of text) (concat given) (concat (drop (length given) f.blocks)) enough in
        ap (text_from text.ends all text.layout text.place) same

    pub text-is : (bytes : List ℕ) → length given ≡ up_to_end f.attr (length_of f) → All (λ b. length b ≡ 512) given
        → text_left text (concat given) ≡ Some bytes →
        converted_text f ≡ Some bytes
    text-is bytes size whole some =
        sym (starts.starts f refl refl) ∙ left-same size whole ∙ some

    pub no-text : HasWholeBlocks f → HasNoText text (concat given) → converted_text f ≡ None
    no-text whole none =
        let enough : rest_of text ≤ length (concat given ++ concat (drop (length given) f.blocks)) =
        omega (arith, starts.rest_is, whole-length f.blocks whole, ap (λ (l : List ℕ). length l) (bytes-are given is)) in
        sym (starts.starts f refl refl) ∙ ap (text_left text) (bytes-are given is) ∙ none (concat (drop (length given) f.blocks)) enough

  layout-none : (o : Option Layout) (bytes : Layout → Option (List (List ℕ))) → o ≡ None
      → option_map text_of (option_and_then bytes o) ≡ None
  layout-none o bytes h = ap (λ (x : Option Layout). option_map text_of (option_and_then bytes x)) h

  pub no-layout : layout_of f.attr ≡ None → converted_text f ≡ None
  no-layout h = layout-none (layout_of f.attr) (λ layout. records_in layout (take (end_of f) (concat f.blocks))) h
