-- The attributes of a copy.
use Rattle.std.proofs.Common.{◌≡◌, ℕ, ◌+◌, ◌-◌, ◌*◌, ◌/◌, ◌%◌, List, ◌∷◌, ◌++◌, length, take, Some, refl, ap, ◌∙◌, arith, length-append}
use Rattle.std.proofs.Common.{eqb, ne_eqb}
use Rattle.std.specs.Prelude.{option_and_then, replicate}
use Rattle.std.specs.List.{concat}
use Rattle.std.proofs.Math.Seq.{take-append_seam}
use Rattle.std.proofs.lemmas.Bool.{cond-false}
use Rattle.f11_bytes.specs.Words.{long, word, word_bytes}
use Rattle.f11_store.specs.Directory.{with_end}
use Rattle.f11_store.specs.File.{File, end_of, length_of, stated_end}
use Rattle.f11_flx.specs.Lines.{in_whole_blocks}
use Rattle.f11_flx.specs.Records.{layout_of, records_in, records_of}
use Rattle.f11_flx.specs.Spelled.{image_attributes, image_attributes_to, text_attributes, variable_records}
use Rattle.f11_flx.specs.declared.layout.Layout.{Layout}
use Rattle.f11_flx.specs.declared.layout.Layout.TheVariants.{Variable}
use Rattle.f11_flx.proofs.Texts.RecordLemmas.{records_come_back}

-- how the records of a text lie
layout_of-text : (longest allocation end : ℕ) → layout_of (text_attributes longest allocation end) ≡ Some Variable
unfolding layout_of with_end
layout_of-text longest allocation end = refl

-- the end that is stated
pub stated_end-with_end : (attr : List ℕ) (allocation end : ℕ) → long (with_end attr allocation end) 8 ≡ end / 512 + 1
    → word (with_end attr allocation end) 12 ≡ end % 512 → stated_end (with_end attr allocation end) ≡ end
unfolding stated_end
stated_end-with_end attr allocation end block byte =
    let some = ne_eqb (long (with_end attr allocation end) 8) 0 (λ none. absurd (omega arith)) in
    cond-false (eqb (long (with_end attr allocation end) 8) 0) 0
    ((long (with_end attr allocation end) 8 - 1) * 512 + word (with_end attr allocation end) 12) some ∙ omega (arith, block, byte)

pub stated_end-text : (longest allocation end : ℕ) → stated_end (text_attributes longest allocation end) ≡ end
unfolding with_end
stated_end-text longest allocation end =
    stated_end-with_end (2 ∷ 2 ∷ (word_bytes longest ++ replicate 28 0)) allocation end (omega arith) (omega arith)

pub stated_end-image : (blocks end : ℕ) → stated_end (image_attributes_to blocks end) ≡ end
unfolding with_end
stated_end-image blocks end =
    stated_end-with_end (1 ∷ 0 ∷ (word_bytes 512 ++ replicate 28 0)) blocks end (omega arith) (omega arith)

pub image_ends_with_blocks : (blocks : ℕ) → stated_end (image_attributes blocks) ≡ 512 * blocks
image_ends_with_blocks blocks = stated_end-image blocks (512 * blocks)

pub copy_has_lines : (lines : List (List ℕ)) (file : File) (longest : ℕ)
    → file.attr ≡ text_attributes longest (length_of file) (length (variable_records lines))
    → concat file.blocks ≡ in_whole_blocks (variable_records lines) → length (concat file.blocks) ≡ 512 * length_of file
    → records_of file ≡ Some lines
copy_has_lines lines file longest attr content whole =
    let bytes = variable_records lines in
    let zeros : List ℕ = replicate ((512 - length bytes % 512) % 512) 0 in
    let stated = ap stated_end attr ∙ stated_end-text longest (length_of file) (length bytes) in
    let end : end_of file ≡ length bytes = omega (arith, stated, whole, ap length content, length-append bytes zeros) in
    ap (option_and_then (λ (how : Layout). records_in how (take (end_of file) (concat file.blocks))))
    (ap layout_of attr ∙ layout_of-text longest (length_of file) (length bytes))
    ∙ ap (λ (b : List ℕ). records_in Variable (take (end_of file) b)) content
    ∙ ap (λ (n : ℕ). records_in Variable (take n (bytes ++ zeros))) end
    ∙ ap (records_in Variable) (take-append_seam bytes zeros)
    ∙ records_come_back lines
