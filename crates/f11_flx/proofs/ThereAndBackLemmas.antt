-- Two copies, one after the other.
use Rattle.std.proofs.Common.{◌≡◌, ℕ, ◌*◌, ◌/◌, ◌+◌, ◌==◌, Bool, true, false, List, [], ◌∷◌, length, Option, Some, None, All, unwrap_or}
use Rattle.std.proofs.Common.{refl, sym, ap, ◌∙◌, subst, arith}
use Rattle.std.specs.Prelude.{option_map, slice_index_or}
use Rattle.std.specs.List.{concat}
use Rattle.std.specs.Option.{option_and_then}
use Rattle.std.proofs.lemmas.Bool.{eqb-true}
use Rattle.std.proofs.lemmas.List.Elements.{All-take}
use Rattle.f11_store.specs.File.{File, end_of, no_file}
use Rattle.f11_store.specs.Store.{Store, file_named, of_sequence}
use Rattle.f11_store.specs.declared.files.FileId.{FileId}
use Rattle.f11_store.proofs.SlotsFirst.{no_index}
use Rattle.f11_runs.proofs.AccessLemmas.{there-file, there-is}
use Rattle.rt11_volume.specs.Files.{HasFile, file_area}
use Rattle.rt11_volume.specs.Named.{files_named}
use Rattle.rt11_volume.specs.Store.{Area, RtStore}
use Rattle.rt11_volume.proofs.Named.Laws.{file-first}
use Rattle.f11_making.specs.Asking.{Who}
use Rattle.f11_flx.specs.Conversion.{Copy, HoldsCopy, copied_from_rt, copied_lines, copied_to_rt}
use Rattle.f11_making.specs.Making.{as_file, new_id}
use Rattle.f11_flx.specs.CopyFromRt.{CopiesFromRt}
use Rattle.f11_flx.specs.Lines.{has_long_line, in_whole_blocks, lines_of, text_of, without_zeros}
use Rattle.f11_flx.specs.MakingLaws.{HasCopyOf}
use Rattle.f11_flx.specs.Records.{records_of}
use Rattle.f11_flx.specs.Spelled.{image_attributes, image_of}
use Rattle.f11_flx.specs.ThereAndBack.{FileComesBack, HasImageOf, HasLinesOf, HasTextOf, IsBack, IsRtBack, AreWhole, RtFileComesBack}
use Rattle.f11_flx.specs.ThereAndBack.{SourceIsKept}
use Rattle.f11_flx.specs.declared.mode.CopyMode.{CopyMode}
use Rattle.f11_flx.specs.declared.mode.CopyMode.TheVariants.{Image, Text}
use Rattle.f11_flx.proofs.BackLemmas.{copied-has-lines, image_comes_back}
use Rattle.f11_flx.proofs.Texts.LineLemmas.{lines_come_back, without_zeros-in_whole_blocks}
use Rattle.f11_flx.proofs.FromRt.MadeLemmas.{copy-of}
use Rattle.f11_flx.proofs.FromRt.MakingLemmas.{same-blocks}
use Rattle.f11_flx.proofs.FromRt.PassedLemmas.{some-of}
use Rattle.f11_flx.proofs.Texts.PourLemmas.{whole-length}
use Rattle.f11_flx.proofs.ToRt.ReadingLemmas.{accessed, source_stays}
use Rattle.f11_flx.proofs.SmallLemmas.{some-one}

-- the only file of a name is the one that is found by it
only-found : (name : List ℕ) (t : RtStore) (file : Area) → files_named name t ≡ file ∷ [] → (found : HasFile name t)
    → file_area found ≡ file
only-found name t file one found =
    let first = file-first name t found in
    let same : file_area found ∷ first.more ≡ file ∷ [] = sym first.named ∙ one in
    ap (λ (l : List Area). slice_index_or l 0 file) same

-- A file is the copy of the RT-11 file of a name, of so many blocks.
record IsCopied (m : CopyMode) (name : List ℕ) (t : RtStore) (blocks : ℕ) (file : File) : Type 0 where
  pub source : HasFile name t
  pub copy : Copy
  pub converted : copied_from_rt m (file_area source).contents ≡ Some copy
  pub holds : HoldsCopy file copy
  pub blocks_are : length file.blocks ≡ blocks
  pub whole : All (λ block. length block ≡ 512) file.blocks

is-copied : (m : CopyMode) (name : List ℕ) (who : Who) (lun : ℕ) (dir : FileId) (to : List ℕ) (protection blocks : ℕ) (t : RtStore)
    (s s' : Store) → CopiesFromRt m name who lun dir to protection blocks t s s' →
    IsCopied m name t blocks (file_named s' (new_id s))
is-copied m name who lun dir to protection blocks t s s' h =
    let c = copy-of m name who lun dir to protection blocks t s s' h in
    let named = ap (λ (o : Option File). unwrap_or o no_file)
    (there-file s' (new_id s) (record { file = c.made.file; is = c.made.there; sequence = c.made.sequence_is })) in
    subst (λ (f : File). IsCopied m name t blocks f) (sym named)
    (record { source = c.source; copy = c.copy; converted = c.converted; holds = c.holds; blocks_are = c.blocks_are; whole = c.whole })

module _ (source file : File) (name : List ℕ) (t : RtStore) (content : List ℕ) (back : ℕ) where
  -- blocks as they are, there and back
  image-back : (blocks : ℕ) → copied_to_rt Image source ≡ Some content → length content ≡ 512 * blocks
      → (h : IsCopied Image name t back file) → concat (file_area h.source).contents ≡ content →
      length (file_area h.source).contents ≡ blocks → HasImageOf source file blocks back
  image-back blocks converted size h bytes count =
      let contents = (file_area h.source).contents in
      let same : record { content = concat contents; attr = image_attributes (length contents) } ≡ h.copy = some-one h.converted in
      let all : concat file.blocks ≡ content = h.holds.content ∙ ap (λ (c : Copy). c.content) (sym same) ∙ bytes in
      let is : concat file.blocks ≡ concat (image_of source) = all ∙ sym (some-one converted) in
      let many : back ≡ blocks = omega (arith, whole-length file.blocks h.whole, h.blocks_are, ap (λ (l : List ℕ). length l) all, size) in
      record {
        content_is = is;
        attr_is = h.holds.attr ∙ ap (λ (c : Copy). c.attr) (sym same) ∙ ap image_attributes count;
        blocks_are = h.blocks_are ∙ many;
        as_many = many;
        each = λ whole. same-blocks (image_of source) file.blocks
            (All-take (λ b. length b ≡ 512) ((end_of source + 511) / 512) source.blocks whole) h.whole is;
      }

  -- the lines of a text, there and back
  text-back : copied_to_rt Text source ≡ Some content → (h : IsCopied Text name t back file)
      → concat (file_area h.source).contents ≡ content → HasLinesOf source file back
  text-back converted h bytes = by (records_of source) refl converted
    where
      by : (o : Option (List (List ℕ))) → records_of source ≡ o → option_map (λ records. in_whole_blocks (text_of records)) o ≡ Some content
          → HasLinesOf source file back
      by None are is = absurd (cc)
      by (Some records) are is =
          let all : concat (file_area h.source).contents ≡ in_whole_blocks (text_of records) = bytes ∙ sym (some-one is) in
          let first = lines_of (without_zeros (concat (file_area h.source).contents)) in
          let lines : first ≡ lines_of (without_zeros (in_whole_blocks (text_of records))) = ap (λ (b : List ℕ). lines_of (without_zeros b))
          all in
          let same : lines_of (without_zeros (in_whole_blocks (text_of records))) ≡ lines_of (without_zeros (text_of records)) =
          ap lines_of (without_zeros-in_whole_blocks (text_of records)) in
          let found = copied-has-lines (file_area h.source).contents file h.copy h.converted h.holds (whole-length file.blocks h.whole) in
          let made = some-of (has_long_line first) (copied_lines first) h.copy h.converted in
          record {
            records = records;
            are = are;
            holds = subst (λ (c : Copy). HoldsCopy file c) (sym made.1 ∙ ap (λ (l : List (List ℕ)). copied_lines l) (lines ∙ same)) h.holds;
            lines_are = found ∙ ap Some (lines ∙ same);
            same = λ plain. found ∙ ap Some (lines ∙ lines_come_back records plain);
            blocks_are = h.blocks_are;
          }

pub file-comes-back : FileComesBack
file-comes-back m who who' lun lun' source dir name to day protection blocks back s s' u u' t t' there h =
    by m there.converted (is-copied m name who' lun' dir to protection back t' u u' h)
  where
    area : (found : HasFile name t') → file_area found ≡ there.made.file
    area found = only-found name t' there.made.file there.made.one found

    bytes : (found : HasFile name t') → concat (file_area found).contents ≡ there.content
    bytes found = ap (λ (a : Area). concat a.contents) (area found) ∙ there.made.content_is

    by : (m : CopyMode) → copied_to_rt m (file_named s source) ≡ Some there.content → IsCopied m name t' back (file_named u' (new_id u))
        → IsBack m (file_named s source) (file_named u' (new_id u)) blocks back
    by Image converted k =
        image-back (file_named s source) (file_named u' (new_id u)) name t' there.content back blocks converted there.blocks_are k
        (bytes k.source)
        (ap (λ (a : Area). length a.contents) (area k.source) ∙ there.made.blocks_are)
    by Text converted k = text-back (file_named s source) (file_named u' (new_id u)) name t' there.content back converted k (bytes k.source)

pub source-is-kept : SourceIsKept
source-is-kept m who who' lun lun' source dir name to day protection blocks back s s' u t t' tidy apart there h =
    by (source.number == (new_id s).number) refl
  where
    c : HasCopyOf m name (as_file to dir protection h.attr h.pieces) who'.caller (new_id s') back t' s' u
    c = copy-of m name who' lun' dir to protection back t' s' u h

    stays : s' ≡ s
    stays = source_stays m who lun source name day blocks s s' t t' there

    by : (b : Bool) → (source.number == (new_id s).number) ≡ b → file_named u source ≡ file_named s source
    by true same =
        let here = there-is s source (accessed who lun source s there.asked.0 there.asked.1).0.there in
        let free : s.in_use (new_id s).number ≡ false = subst (λ (x : Store). x.in_use (new_id x).number ≡ false) stays c.made.was_free in
        let none : s.file source.number ≡ None = tidy source.number (ap s.in_use (eqb-true source.number (new_id s).number same) ∙ free) in
        let some : Some here.file ≡ None = sym here.is ∙ none in
        absurd (cc)
    by false same =
        let own : (source.number == 1) ≡ false = no_index source (accessed who lun source s there.asked.0 there.asked.1).0.own in
        let other : (source.number == (new_id s').number) ≡ false = subst (λ (x : Store). (source.number == (new_id x).number) ≡ false)
        (sym stays) same in
        let kept : u.file source.number ≡ s.file source.number = c.made.others source.number other apart own
        ∙ ap (λ (x : Store). x.file source.number) stays in
        ap (λ (o : Option File). unwrap_or (option_and_then (of_sequence source.sequence) o) no_file) kept

module _ (file : File) (name : List ℕ) (t : RtStore) (content : List ℕ) (blocks : ℕ) where
  -- the lines of an RT-11 text, there and back
  rt-text-back : (h : IsCopied Text name t blocks file) → copied_to_rt Text file ≡ Some content
      → HasTextOf (file_area h.source).contents content
  rt-text-back h converted =
      let lines = lines_of (without_zeros (concat (file_area h.source).contents)) in
      let text : copied_to_rt Text file ≡ Some (in_whole_blocks (text_of lines)) =
      ap (option_map (λ (r : List (List ℕ)). in_whole_blocks (text_of r)))
      (copied-has-lines (file_area h.source).contents file h.copy h.converted h.holds (whole-length file.blocks h.whole)) in
      let is : content ≡ in_whole_blocks (text_of lines) = some-one (sym converted ∙ text) in
      record {
        lines_are = is;
        same = λ records plain all.
            is ∙ ap (λ (b : List ℕ). in_whole_blocks (text_of (lines_of (without_zeros b)))) all
            ∙ ap (λ (r : List (List ℕ)). in_whole_blocks (text_of r)) (lines_come_back records plain) ∙ sym all;
      }

  -- its blocks as they are
  rt-image-back : (h : IsCopied Image name t blocks file) → copied_to_rt Image file ≡ Some content → AreWhole (file_area h.source).contents
      → content ≡ concat (file_area h.source).contents
  rt-image-back h converted whole =
      let contents = (file_area h.source).contents in
      let copy : record { content = concat contents; attr = image_attributes (length contents) } ≡ h.copy = some-one h.converted in
      let same : file.blocks ≡ contents = same-blocks contents file.blocks whole h.whole
      (h.holds.content ∙ ap (λ (c : Copy). c.content) (sym copy)) in
      let back : copied_to_rt Image file ≡ Some (concat file.blocks) =
      image_comes_back file h.copy (ap (λ (l : List (List ℕ)). copied_from_rt Image l) same ∙ h.converted) h.holds in
      some-one (sym converted ∙ back) ∙ ap concat same

pub rt-file-comes-back : RtFileComesBack
rt-file-comes-back m who who' lun lun' dir name name' to day protection blocks back s s' s'' t u u' h there =
    let k = is-copied m name who lun dir to protection blocks t s s' h in
    record { source = k.source; file = there.made.file; one = there.made.one; back = by m k there.converted }
  where
    by : (m : CopyMode) → (k : IsCopied m name t blocks (file_named s' (new_id s)))
        → copied_to_rt m (file_named s' (new_id s)) ≡ Some there.content →
        IsRtBack m (file_area k.source).contents there.made.file.contents
    by Image k converted =
        let content : AreWhole (file_area k.source).contents
        → concat there.made.file.contents ≡ concat (file_area k.source).contents = λ whole. there.made.content_is
        ∙ rt-image-back (file_named s' (new_id s)) name t there.content blocks k converted whole in
        record {
          content_is = content;
          each = λ whole whole'. same-blocks (file_area k.source).contents there.made.file.contents whole
              whole' (content whole);
        }
    by Text k converted =
        subst (λ (l : List ℕ). HasTextOf (file_area k.source).contents l) (sym there.made.content_is)
        (rt-text-back (file_named s' (new_id s)) name t there.content blocks k converted)
