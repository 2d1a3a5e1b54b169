-- What a copy is, made of a file on the other side (RSX-11M Utilities manual, FLX).
use Rattle.std.specs.Prelude.{◌≡◌, ℕ, ◌/◌, if◌then◌else◌, List, length, Option, Some, None, option_map}
use Rattle.std.specs.List.{concat}
use Rattle.f11_store.specs.File.{File}
use Rattle.f11_flx.specs.Lines.{has_long_line, in_whole_blocks, lines_of, text_of, without_zeros}
use Rattle.f11_flx.specs.Records.{records_of}
use Rattle.f11_flx.specs.Spelled.{image_attributes, image_of, longest_of, text_attributes, variable_records}
use Rattle.f11_flx.specs.declared.mode.CopyMode.{CopyMode}
use Rattle.f11_flx.specs.declared.mode.CopyMode.TheVariants.{Image, Text}

-- the content of a copy on an RT-11 volume: the file's blocks up to its end, or the text of its records with zeros to the end of a
-- block; none where the records can't be read
abbrev pub copied_to_rt : CopyMode → File → Option (List ℕ)
copied_to_rt Image file = Some (concat (image_of file))
copied_to_rt Text file = option_map (λ records. in_whole_blocks (text_of records)) (records_of file)

-- a copy on a Files-11 volume: its content and its user attributes
pub record Copy : Type 0 where
  pub content : List ℕ
  pub attr : List ℕ

-- the lines of a text as variable records, with zeros to the end of a block; the end is behind the last pad byte
abbrev pub copied_lines : List (List ℕ) → Copy
copied_lines lines =
    let bytes = variable_records lines in
    record {
      content = in_whole_blocks bytes;
      attr =
          text_attributes (longest_of lines) (length (in_whole_blocks bytes) / 512) (length bytes);
    }

-- the copy of an RT-11 file of these blocks: the blocks as they are, or the lines of the text; none where a line is too long
abbrev pub copied_from_rt : CopyMode → List (List ℕ) → Option Copy
copied_from_rt Image blocks = Some (record { content = concat blocks; attr = image_attributes (length blocks) })
copied_from_rt Text blocks =
    let lines = lines_of (without_zeros (concat blocks)) in
    if has_long_line lines then None else Some (copied_lines lines)

-- The file holds the copy.
pub record HoldsCopy (file : File) (copy : Copy) : Type 0 where
  pub content : concat file.blocks ≡ copy.content
  pub attr : file.attr ≡ copy.attr
