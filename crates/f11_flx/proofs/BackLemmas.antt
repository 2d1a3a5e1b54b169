-- Copies of copies.
use Rattle.std.proofs.Common.{◌≡◌, ℕ, ◌+◌, ◌*◌, ◌/◌, List, length, take, Some, sym, ap, ◌∙◌, arith}
use Rattle.std.specs.Prelude.{All, option_map}
use Rattle.std.specs.List.{concat}
use Rattle.std.proofs.lemmas.List.{take_all}
use Rattle.f11_store.specs.File.{File, end_of, length_of, stated_end}
use Rattle.f11_flx.specs.Conversion.{Copy, HoldsCopy, copied_from_rt, copied_lines, copied_to_rt}
use Rattle.f11_flx.specs.Laws.{IsOneLine}
use Rattle.f11_flx.specs.Lines.{has_long_line, in_whole_blocks, lines_of, text_of, without_zeros}
use Rattle.f11_flx.specs.Records.{records_of}
use Rattle.f11_flx.specs.Spelled.{image_attributes, longest_of, text_attributes, variable_records}
use Rattle.f11_flx.specs.declared.mode.CopyMode.TheVariants.{Image, Text}
use Rattle.f11_flx.proofs.Made.CopyLemmas.{copy_has_lines, image_ends_with_blocks}
use Rattle.f11_flx.proofs.Texts.LineLemmas.{lines_come_back}
use Rattle.f11_flx.proofs.FromRt.PassedLemmas.{some-of}

-- all of a list
take-all : (n : ℕ) (blocks : List (List ℕ)) → n ≡ length blocks → take n blocks ≡ blocks
take-all n blocks is = take_all n blocks (omega (arith, is))

pub image_comes_back : (file : File) (copy : Copy) → copied_from_rt Image file.blocks ≡ Some copy → HoldsCopy file copy
    → copied_to_rt Image file ≡ Some (concat file.blocks)
image_comes_back file copy is holds =
    let same : record { content = concat file.blocks; attr = image_attributes (length file.blocks) } ≡ copy = cc in
    let stated : stated_end file.attr ≡ 512 * length file.blocks = ap stated_end (holds.attr ∙ ap (λ (c : Copy). c.attr) (sym same))
    ∙ image_ends_with_blocks (length file.blocks) in
    let all : (end_of file + 511) / 512 ≡ length file.blocks = omega (arith, stated) in
    ap (λ (b : List (List ℕ)). Some (concat b)) (take-all ((end_of file + 511) / 512) file.blocks all)

-- the records of a text that was copied are its lines
pub copied-has-lines : (blocks : List (List ℕ)) (file : File) (copy : Copy) → copied_from_rt Text blocks ≡ Some copy → HoldsCopy file copy
    → length (concat file.blocks) ≡ 512 * length_of file →
    records_of file ≡ Some (lines_of (without_zeros (concat blocks)))
copied-has-lines blocks file copy is holds whole =
    let lines = lines_of (without_zeros (concat blocks)) in
    let same : copied_lines lines ≡ copy = (some-of (has_long_line lines) (copied_lines lines) copy is).1 in
    let bytes : concat file.blocks ≡ in_whole_blocks (variable_records lines) = holds.content ∙ ap (λ (c : Copy). c.content) (sym same) in
    let blocks_are : length (in_whole_blocks (variable_records lines)) / 512 ≡ length_of file = omega (arith, whole, ap length bytes) in
    let attr : file.attr ≡ text_attributes (longest_of lines) (length_of file) (length (variable_records lines)) =
    holds.attr ∙ ap (λ (c : Copy). c.attr) (sym same)
    ∙ ap (λ (n : ℕ). text_attributes (longest_of lines) n (length (variable_records lines))) blocks_are in
    copy_has_lines lines file (longest_of lines) attr bytes whole

pub text_comes_back : (records blocks : List (List ℕ)) (file : File) (copy : Copy) → All IsOneLine records
    → concat blocks ≡ in_whole_blocks (text_of records)
    → copied_from_rt Text blocks ≡ Some copy → HoldsCopy file copy → length (concat file.blocks) ≡ 512 * length_of file
    → copied_to_rt Text file ≡ Some (concat blocks)
text_comes_back records blocks file copy plain content is holds whole =
    let lines : lines_of (without_zeros (concat blocks)) ≡ records = ap (λ (b : List ℕ). lines_of (without_zeros b)) content
    ∙ lines_come_back records plain in
    ap (option_map (λ (r : List (List ℕ)). in_whole_blocks (text_of r))) (copied-has-lines blocks file copy is holds whole ∙ ap Some lines)
    ∙ ap Some (sym content)
