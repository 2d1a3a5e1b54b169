-- Laws of the conversions: what becomes of records and lines on the way and back (profile).
use Rattle.std.specs.Prelude.{◌≡◌, ℕ, ◌+◌, ◌*◌, ◌<◌, ◌≤◌, false, List, [], ◌∷◌, ◌++◌, length, slice_range, Some, None, option_map, All}
use Rattle.std.specs.List.{concat}
use Rattle.f11_bytes.specs.Words.{word}
use Rattle.f11_store.specs.File.{File, length_of, stated_end}
use Rattle.f11_flx.specs.Conversion.{Copy, HoldsCopy, copied_from_rt, copied_to_rt}
use Rattle.f11_flx.specs.Lines.{without_zeros, has_crlf, lines_of, text_of, in_whole_blocks}
use Rattle.f11_flx.specs.Records.{Which, good_in, layout_of, some_of, records_in, records_of}
use Rattle.f11_flx.specs.Spelled.{image_attributes, text_attributes, variable_records}
use Rattle.f11_flx.specs.ToText.{ends_record, rest_of, text_by, text_left, Converts, StopsAt}
use Rattle.f11_flx.specs.ToRecords.{bytes_to_come, gives, is_too_long, longest_given, longest_with, open_of}
use Rattle.f11_flx.specs.Walk.{Walk, bytes_left, end_by, place_of, walk_from_start, TakesRecord}
use Rattle.f11_flx.specs.declared.to_text.ToText.{ToText}
use Rattle.f11_flx.specs.declared.to_records.ToRecords.{ToRecords}
use Rattle.f11_flx.specs.declared.layout.Layout.{Layout}
use Rattle.f11_flx.specs.declared.layout.Layout.TheVariants.{Variable}
use Rattle.f11_flx.specs.declared.mode.CopyMode.TheVariants.{Image, Text}

-- a record that is one line: no zero byte and no CR LF stands in it
pub record IsOneLine (line : List ℕ) : Type 0 where
  pub no_zeros : without_zeros line ≡ line
  pub no_end : has_crlf line ≡ false

-- records that are lines each come back from their text
abbrev pub LinesComeBack : Type 0
LinesComeBack = (records : List (List ℕ)) → All IsOneLine records → lines_of (without_zeros (in_whole_blocks (text_of records))) ≡ records

-- lines come back from the records that spell them
abbrev pub RecordsComeBack : Type 0
RecordsComeBack = (lines : List (List ℕ)) → records_in Variable (variable_records lines) ≡ Some lines

-- a line ends at its CR LF, and a last one with the text
abbrev pub LineEnds : Type 0
LineEnds = (line text : List ℕ) → has_crlf line ≡ false → lines_of (line ++ (13 ∷ 10 ∷ text)) ≡ line ∷ lines_of text

abbrev pub LastLineEnds : Type 0
LastLineEnds = (line : List ℕ) → has_crlf line ≡ false → 0 < length line → lines_of line ≡ line ∷ []

-- the record that a walk takes is the first of the bytes before it, and the others are those before it afterwards
abbrev pub TakenIsFirst : Type 0
TakenIsFirst =
    (old new : Walk) (content : List ℕ) (first size : ℕ) →
    0 < some_of old.layout → old.end ≤ length content → old.next < old.end →
    TakesRecord old new (word content old.next) first size →
    records_in old.layout (bytes_left old content)
    ≡ option_map (λ more. slice_range content first (first + size) ∷ more) (records_in new.layout (bytes_left new content))

-- a walk that can't take it stands before bytes that aren't records
abbrev pub RefusedIsBad : Type 0
RefusedIsBad =
    (old : Walk) (content : List ℕ) →
    0 < some_of old.layout → old.end ≤ length content → old.next < old.end →
    old.end < end_by old (word content old.next) →
    records_in old.layout (bytes_left old content) ≡ None

-- a walk at the end has no records before it
abbrev pub EndHasNone : Type 0
EndHasNone = (w : Walk) (content : List ℕ) → place_of w ≡ None → records_in w.layout (bytes_left w content) ≡ Some []

-- before a walk that begins are the records of the file
abbrev pub StartHasAll : Type 0
StartHasAll =
    (file : File) (layout : Layout) → layout_of file.attr ≡ Some layout →
    records_of file ≡ records_in layout (bytes_left (walk_from_start layout file.attr (length_of file)) (concat file.blocks))

-- where no record goes past the end all of them are good
abbrev pub AllAreGood : Type 0
AllAreGood = (layout : Layout) (bytes : List ℕ) (records : List (List ℕ)) → records_in layout bytes ≡ Some records →
    good_in layout bytes ≡ records

-- a file that is read to its end has no more text to come
abbrev pub TextEnds : Type 0
TextEnds = (which : Which) (s : ToText) (bytes : List ℕ) → rest_of s ≡ 0 → ends_record s ≡ false → text_by which s bytes ≡ Some []

-- where the source has the rest of a file that has no text, a conversion fills the target or refuses
abbrev pub TextIsRefused : Type 0
TextIsRefused =
    (old new : ToText) (source target : List ℕ) (used from to : ℕ) →
    Converts old new source used target from to → StopsAt new source used to →
    rest_of old ≤ length source → text_left old source ≡ None → to ≡ 512

-- a text that is read to its end and whose last line is ended has no more records to come, and what was found of its lines
-- holds of all of them
pub record HasNoMore (s : ToRecords) : Type 0 where
  pub bytes : bytes_to_come s [] ≡ []
  pub longest : longest_with s [] ≡ longest_given s
  pub long : is_too_long s [] ≡ false

abbrev pub RecordsEnd : Type 0
RecordsEnd = (s : ToRecords) → open_of s ≡ 0 → gives s ≡ false → HasNoMore s

-- the records of a text's lines take at most twice its bytes, and two more
abbrev pub RecordsAreFew : Type 0
RecordsAreFew = (bytes : List ℕ) → length (variable_records (lines_of (without_zeros bytes))) ≤ 2 * length bytes + 2

-- a file with the attributes and the bytes of a copied text has its lines as records
abbrev pub CopyHasLines : Type 0
CopyHasLines =
    (lines : List (List ℕ)) (file : File) (longest : ℕ) →
    file.attr ≡ text_attributes longest (length_of file) (length (variable_records lines)) →
    concat file.blocks ≡ in_whole_blocks (variable_records lines) → length (concat file.blocks) ≡ 512 * length_of file →
    records_of file ≡ Some lines

-- the attributes of an image say that the file ends with its last block
abbrev pub ImageEndsWithBlocks : Type 0
ImageEndsWithBlocks = (blocks : ℕ) → stated_end (image_attributes blocks) ≡ 512 * blocks

-- blocks that were copied as they are, and back, are the same
abbrev pub ImageComesBack : Type 0
ImageComesBack = (file : File) (copy : Copy) → copied_from_rt Image file.blocks ≡ Some copy → HoldsCopy file copy →
    copied_to_rt Image file ≡ Some (concat file.blocks)

-- and so is a text of lines each of which is one
abbrev pub TextComesBack : Type 0
TextComesBack =
    (records blocks : List (List ℕ)) (file : File) (copy : Copy) →
    All IsOneLine records → concat blocks ≡ in_whole_blocks (text_of records) →
    copied_from_rt Text blocks ≡ Some copy → HoldsCopy file copy → length (concat file.blocks) ≡ 512 * length_of file →
    copied_to_rt Text file ≡ Some (concat blocks)
