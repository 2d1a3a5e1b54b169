-- A copy is no directory, so it is never entered into itself.
use Rattle.std.proofs.Common.{◌≡◌, ℕ, ◌/◌, ◌==◌, ◌&&◌, Bool, true, false, not, List, length, Some, refl, sym, ap, ◌∙◌}
use Rattle.std.specs.Prelude.{slice_index, unwrap_or}
use Rattle.std.specs.List.{concat}
use Rattle.std.proofs.lemmas.Bool.{and_right, eqb-true}
use Rattle.f11_bytes.specs.Words.{word}
use Rattle.f11_store.specs.Causes.{causes_of}
use Rattle.f11_store.specs.Directory.{is_directory, with_end}
use Rattle.f11_store.specs.File.{File, no_file}
use Rattle.f11_store.specs.Store.{Store, file_named}
use Rattle.f11_store.specs.declared.files.FileId.{FileId}
use Rattle.f11_store.specs.declared.requests.Request.TheVariants as request
use Rattle.f11_runs.proofs.AccessLemmas.{there-file, there-is, true-false}
use Rattle.f11_making.specs.Asking.{Grants, Who, asks, plain}
use Rattle.f11_flx.specs.Conversion.{Copy, copied_from_rt, copied_lines}
use Rattle.f11_flx.specs.Lines.{has_long_line, in_whole_blocks, lines_of, without_zeros}
use Rattle.f11_flx.specs.Spelled.{image_attributes, longest_of, text_attributes, variable_records}
use Rattle.f11_flx.specs.declared.mode.CopyMode.{CopyMode}
use Rattle.f11_flx.specs.declared.mode.CopyMode.TheVariants.{Image, Text}
use Rattle.f11_flx.proofs.FromRt.PassedLemmas.{some-of}
use Rattle.f11_flx.proofs.ToRt.ReadingLemmas.{causes-none}

-- a name is entered into a directory, which a file that is none isn't
pub apart-from : (who : Who) (id d : FileId) (name : List ℕ) (f : File) (t v : Store) → t.file id.number ≡ Some f → is_directory f ≡ false
    → Grants plain who (asks (request.Enter d name id)) t v →
    (id.number == d.number) ≡ false
apart-from who id d name f t v is none g = by (id.number == d.number) refl
  where
    by : (b : Bool) → (id.number == d.number) ≡ b → b ≡ false
    by false same = refl
    by true same =
        let causes = causes-none (causes_of t who.task who.caller (request.Enter d name id)) g.3.no_cause in
        let here = there-is t d causes.1.1.0 in
        let files : Some f ≡ Some here.file = sym is ∙ ap t.file (eqb-true id.number d.number same) ∙ here.is in
        let one : f ≡ here.file = cc in
        let named : file_named t d ≡ f = ap (λ o. unwrap_or o no_file) (there-file t d here) ∙ sym one in
        absurd (true-false (ap (λ b. not b) (sym (ap is_directory named ∙ none)) ∙ causes.1.1.1.1.1.1.0))

-- a copy is no directory
image-is-none : (blocks : ℕ) (f : File) → f.attr ≡ image_attributes blocks → is_directory f ≡ false
unfolding is_directory with_end
image-is-none blocks f is =
    ap (λ (a : List ℕ). (word f.ident 6 == 6778) && (slice_index a 0 == 1) && (word a 2 == 16)) is ∙ and_right _ false refl

text-is-none : (longest allocation end : ℕ) (f : File) → f.attr ≡ text_attributes longest allocation end → is_directory f ≡ false
unfolding is_directory with_end
text-is-none longest allocation end f is =
    ap (λ (a : List ℕ). (word f.ident 6 == 6778) && (slice_index a 0 == 1) && (word a 2 == 16)) is
    ∙ ap (λ (b : Bool). b && (word (text_attributes longest allocation end) 2 == 16)) (and_right (word f.ident 6 == 6778) false refl)

pub copy-is-none : (m : CopyMode) (blocks : List (List ℕ)) (copy : Copy) (f : File) → copied_from_rt m blocks ≡ Some copy
    → f.attr ≡ copy.attr → is_directory f ≡ false
copy-is-none Image blocks copy f is attr =
    let same : record { content = concat blocks; attr = image_attributes (length blocks) } ≡ copy = cc in
    image-is-none (length blocks) f (attr ∙ ap (λ (c : Copy). c.attr) (sym same))
copy-is-none Text blocks copy f is attr =
    let lines = lines_of (without_zeros (concat blocks)) in
    let same = (some-of (has_long_line lines) (copied_lines lines) copy is).1 in
    text-is-none (longest_of lines) (length (in_whole_blocks (variable_records lines)) / 512) (length (variable_records lines)) f
    (attr ∙ ap (λ (c : Copy). c.attr) (sym same))
