-- Worked examples: records, lines and attributes with what becomes of them.
use Rattle.std.specs.Prelude.{◌≡◌, ℕ, ◌-◌, List, [], ◌∷◌, ◌++◌, length, Some, None, codes, replicate}
use Rattle.f11_store.specs.File.{File, no_file}
use Rattle.f11_flx.specs.Conversion.{copied_from_rt, copied_lines, copied_to_rt}
use Rattle.f11_flx.specs.Lines.{lines_of, text_of, without_zeros}
use Rattle.f11_flx.specs.Records.{layout_of, records_in}
use Rattle.f11_flx.specs.Spelled.{image_attributes, text_attributes, variable_records}
use Rattle.f11_flx.specs.declared.layout.Layout.TheVariants.{Fixed, Variable}
use Rattle.f11_flx.specs.declared.mode.CopyMode.TheVariants as CopyMode
use Rattle.f11_flx.specs.declared.mode.CopyMode.TheVariants.{Text}

-- fixed records of 4 bytes
abbrev pub FixedRecords : Type 0
FixedRecords = records_in (Fixed 4) (codes "ABCDEFGH") ≡ Some (codes "ABCD" ∷ codes "EFGH" ∷ [])

-- of which the second goes past the end
abbrev pub FixedRecordCut : Type 0
FixedRecordCut = records_in (Fixed 4) (codes "ABCDEF") ≡ None

-- variable records, whose last pad byte is past the end
abbrev pub VariableRecords : Type 0
VariableRecords = records_in Variable (1 ∷ 0 ∷ 65 ∷ 0 ∷ 0 ∷ 0 ∷ 1 ∷ 0 ∷ 66 ∷ []) ≡ Some (codes "A" ∷ [] ∷ codes "B" ∷ [])

-- and one whose length word is cut
abbrev pub LengthWordCut : Type 0
LengthWordCut = records_in Variable (1 ∷ 0 ∷ 65 ∷ 0 ∷ 1 ∷ []) ≡ None

-- attributes by which the records can't be read: record type 3, fixed records of an odd size and of none, record attribute 8
abbrev pub BadLayouts : Type 0
BadLayouts =
    (layout_of (3 ∷ 0 ∷ 4 ∷ 0 ∷ []) ≡ None) × (layout_of (1 ∷ 0 ∷ 3 ∷ 0 ∷ []) ≡ None) ×
    (layout_of (1 ∷ 0 ∷ 0 ∷ 0 ∷ []) ≡ None) × (layout_of (2 ∷ 8 ∷ 4 ∷ 0 ∷ []) ≡ None)

-- the text of two records
abbrev pub TextOfRecords : Type 0
TextOfRecords = text_of (codes "A" ∷ codes "B" ∷ []) ≡ 65 ∷ 13 ∷ 10 ∷ 66 ∷ 13 ∷ 10 ∷ []

-- two lines, the last without CR LF, and zeros
abbrev pub LinesOfText : Type 0
LinesOfText = lines_of (without_zeros (65 ∷ 13 ∷ 0 ∷ 10 ∷ 66 ∷ 0 ∷ 0 ∷ [])) ≡ codes "A" ∷ codes "B" ∷ []

-- CR and LF that end no line
abbrev pub OtherBytes : Type 0
OtherBytes = lines_of (65 ∷ 13 ∷ 13 ∷ 10 ∷ 10 ∷ 66 ∷ 13 ∷ []) ≡ (65 ∷ 13 ∷ []) ∷ (10 ∷ 66 ∷ 13 ∷ []) ∷ []

-- the records that spell two lines
abbrev pub RecordsOfLines : Type 0
RecordsOfLines = variable_records (codes "A" ∷ codes "B" ∷ []) ≡ 1 ∷ 0 ∷ 65 ∷ 0 ∷ 1 ∷ 0 ∷ 66 ∷ 0 ∷ []

-- a line of 2,048 bytes: its record ends in the fifth block, behind 2 bytes of it
abbrev pub LongestLine : Type 0
LongestLine = text_attributes 2048 5 2050 ≡ 2 ∷ 2 ∷ 0 ∷ 8 ∷ 0 ∷ 0 ∷ 5 ∷ 0 ∷ 0 ∷ 0 ∷ 5 ∷ 0 ∷ 2 ∷ 0 ∷ replicate 18 0

-- no line at all, and one that ends with a block
abbrev pub EdgeOfBlock : Type 0
EdgeOfBlock =
    (text_attributes 0 0 0 ≡ 2 ∷ 2 ∷ 0 ∷ 0 ∷ 0 ∷ 0 ∷ 0 ∷ 0 ∷ 0 ∷ 0 ∷ 1 ∷ 0 ∷ 0 ∷ 0 ∷ replicate 18 0)
    × (text_attributes 510 1 512 ≡ 2 ∷ 2 ∷ 254 ∷ 1 ∷ 0 ∷ 0 ∷ 1 ∷ 0 ∷ 0 ∷ 0 ∷ 2 ∷ 0 ∷ 0 ∷ 0 ∷ replicate 18 0)

-- three blocks copied as they are
abbrev pub Image : Type 0
Image = image_attributes 3 ≡ 1 ∷ 0 ∷ 0 ∷ 2 ∷ 0 ∷ 0 ∷ 3 ∷ 0 ∷ 0 ∷ 0 ∷ 4 ∷ 0 ∷ 0 ∷ 0 ∷ replicate 18 0

-- a file of these blocks and attributes
abbrev pub file_with : List ℕ → List (List ℕ) → File
file_with attr blocks = record no_file { attr = attr; blocks = blocks }

-- a block that begins with these bytes, with zeros behind them
abbrev pub block_of : List ℕ → List ℕ
block_of bytes = bytes ++ replicate (512 - length bytes) 0

-- fixed records of 4 bytes, the end behind so many: record type 1, record size 4, F.HIBK and F.EFBK 1
abbrev pub fixed_file : ℕ → File
fixed_file end = file_with (1 ∷ 0 ∷ 4 ∷ 0 ∷ 0 ∷ 0 ∷ 1 ∷ 0 ∷ 0 ∷ 0 ∷ 1 ∷ 0 ∷ end ∷ 0 ∷ replicate 18 0) (block_of (codes "ABCDEFGH") ∷ [])

-- two of them as the lines of a text, and two of which the end cuts the second
abbrev pub FixedToRt : Type 0
FixedToRt =
    (copied_to_rt Text (fixed_file 8) ≡ Some (block_of (codes "ABCD" ++ (13 ∷ 10 ∷ (codes "EFGH" ++ (13 ∷ 10 ∷ []))))))
    × (copied_to_rt Text (fixed_file 6) ≡ None)

-- a text whose last line has no end: its lines as records, and those as a text again
abbrev pub two_lines : List (List ℕ)
two_lines = codes "A" ∷ codes "B" ∷ []

abbrev pub TextFromRt : Type 0
TextFromRt =
    (copied_from_rt Text (block_of (65 ∷ 13 ∷ 10 ∷ 66 ∷ []) ∷ []) ≡ Some (copied_lines two_lines))
    × (copied_lines two_lines ≡ record { content = block_of (1 ∷ 0 ∷ 65 ∷ 0 ∷ 1 ∷ 0 ∷ 66 ∷ 0 ∷ []); attr = text_attributes 1 1 8 })
    × (copied_to_rt Text (file_with (text_attributes 1 1 8) (block_of (1 ∷ 0 ∷ 65 ∷ 0 ∷ 1 ∷ 0 ∷ 66 ∷ 0 ∷ []) ∷ [])) ≡
    Some (block_of (65 ∷ 13 ∷ 10 ∷ 66 ∷ 13 ∷ 10 ∷ [])))

-- a block of zeros has no line, and a file without blocks is one of no blocks
abbrev pub NothingCopied : Type 0
NothingCopied =
    (copied_from_rt Text (block_of [] ∷ []) ≡ Some (record { content = []; attr = text_attributes 0 0 0 }))
    × (copied_to_rt CopyMode.Image (file_with (replicate 32 0) []) ≡ Some [])
