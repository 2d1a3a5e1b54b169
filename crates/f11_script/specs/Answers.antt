-- The text of an answer (profile).
use Rattle.std.specs.Prelude.{ℕ, ◌/◌, ◌%◌, ◌==◌, ◌<◌, false, List, [], ◌∷◌, ◌++◌, length, take, Option}
use Rattle.std.specs.Prelude.{Result, Ok, Err, codes, slice_index, if◌then◌else◌}
use Rattle.std.specs.Fmt.{decimal, digit_glyph}
use Rattle.std.specs.Io.KnownBytes.{Appends}
use Rattle.std.specs.List.{flat_map}
use Rattle.f11_bytes.specs.Trailing.{without_trailing}
use Rattle.f11_bytes.specs.Words.{word, long}
use Rattle.f11_rad50.specs.Name.{is_name, name_text}
use Rattle.f11_store.specs.File.{name_words}
use Rattle.f11_store.specs.declared.callers.Uic.{Uic}
use Rattle.f11_store.specs.declared.files.Attr.{Attr}
use Rattle.f11_store.specs.declared.files.FileId.{FileId}
use Rattle.f11_store.specs.declared.refusals.Refusal.{Refusal}
use Rattle.f11_store.specs.declared.requests.Reply.{Reply}
use Rattle.f11_store.specs.declared.requests.Reply.TheVariants as reply
use Rattle.f11_store.specs.declared.requests.Request.{Request}
use Rattle.f11_store.specs.declared.requests.Request.TheVariants as request
use Rattle.f11_store.specs.Refusal.{refusal_name}
use Rattle.f11_store.specs.Text.{octal_digits, uic_text, id_text}

-- a byte in two lower-case hex digits
abbrev pub hex_digits : ℕ → List ℕ
hex_digits byte = digit_glyph false (byte / 16) ∷ digit_glyph false (byte % 16) ∷ []

-- bytes up to the last one that isn't 0
abbrev pub without_zeros : List ℕ → List ℕ
without_zeros bytes = without_trailing (λ c. c == 0) bytes

-- a block in hex up to its last byte that isn't 0, and a hyphen for a block of zeros
abbrev pub data_text : List ℕ → List ℕ
data_text block = if length (without_zeros block) == 0 then codes "-" else flat_map hex_digits (without_zeros block)

-- the text of a name, and a question mark for words that are none
abbrev pub name_or_mark : List ℕ → List ℕ
name_or_mark words = if is_name words then name_text words else codes "?"

-- a record type, a record size, and an end of file: its block and the byte in it
abbrev pub fields_text : ℕ → ℕ → ℕ → ℕ → List ℕ
fields_text rtyp rsiz efbk ffby = codes " rtyp " ++ (decimal rtyp
    ++ (codes " rsiz " ++ (decimal rsiz ++ (codes " efbk " ++ (decimal efbk ++ (codes " ffby " ++ decimal ffby))))))

-- what is shown of user attributes: the record type, the record size, F.EFBK and F.FFBY
-- (Files-11 On-Disk Structure Level 1, file attributes)
abbrev pub user_attr_text : List ℕ → List ℕ
user_attr_text attr = fields_text (slice_index attr 0) (word attr 2) (long attr 8) (word attr 12)

-- an owner, a protection word and characteristics, in octal, before a name
abbrev pub owner_text : Uic → ℕ → ℕ → List ℕ
owner_text owner protection characteristics = codes "ok owner " ++ (uic_text owner
    ++ (codes " prot " ++ (octal_digits protection ++ (codes " char " ++ (octal_digits characteristics ++ codes " name ")))))

-- a file's attributes
abbrev pub attr_text : Attr → List ℕ
attr_text a =
    owner_text a.owner a.protection a.characteristics ++ (name_or_mark (name_words a.ident) ++ user_attr_text a.attr)

-- what a request is answered where nothing is told but that it is done: ReadBlock shows the block
abbrev pub done_text : Request → List ℕ → List ℕ
done_text (request.ReadBlock _ _) block = codes "ok data " ++ data_text block
done_text _ block = codes "ok"

-- an identification, a count of things, and the counts of a volume
abbrev pub told_file_text : FileId → List ℕ
told_file_text id = codes "ok file " ++ id_text id

abbrev pub count_text : List ℕ → ℕ → List ℕ
count_text things count = codes "ok " ++ (things ++ (codes " " ++ decimal count))

abbrev pub space_text : ℕ → ℕ → ℕ → List ℕ
space_text free headers slots =
    codes "ok free " ++ (decimal free ++ (codes " headers " ++ (decimal headers ++ (codes " slots " ++ decimal slots))))

-- the text of a reply to a request, with the caller's block after it
abbrev pub reply_text : Request → List ℕ → Reply → List ℕ
reply_text r block reply.Done = done_text r block
reply_text r block (reply.Created id) = told_file_text id
reply_text r block (reply.Length blocks) = count_text (codes "blocks") blocks
reply_text r block (reply.Slots slots) = count_text (codes "slots") slots
reply_text r block (reply.Found id) = told_file_text id
reply_text r block (reply.Attr a) = attr_text a
reply_text r block (reply.Space free headers slots) = space_text free headers slots

-- a refusal is told by its name
abbrev pub answer_text : Request → List ℕ → Result Reply Refusal → List ℕ
answer_text r block (Ok reply) = reply_text r block reply
answer_text r block (Err refusal) = codes "no " ++ refusal_name refusal

-- the line of an answer
abbrev pub answer_line : Request → List ℕ → Result Reply Refusal → List ℕ
answer_line r block answer = answer_text r block answer ++ 10 ∷ []

-- the line that answers a bad line
abbrev pub bad_line_text : List ℕ
bad_line_text = codes "bad line" ++ 10 ∷ []

-- some first bytes of a text were written, and not all
abbrev pub AppendsSome : Option (List ℕ) → Option (List ℕ) → List ℕ → Type 0
AppendsSome old new text = (n : ℕ) × (n < length text) × Appends old new (take n text)
