-- What each line of the script language asks: for each verb its arguments and its request (profile).
use Rattle.std.specs.Prelude.{ℕ, ◌==◌, List, ◌∷◌, ◌++◌, Option, Some, None, option_map, slice_index, replicate, if◌then◌else◌}
use Rattle.f11_bytes.specs.Words.{word_bytes, long_bytes}
use Rattle.f11_rad50.specs.Name.{words_spelled}
use Rattle.f11_store.specs.Ident.{ident_with}
use Rattle.f11_store.specs.declared.files.Change.TheVariants as change
use Rattle.f11_store.specs.declared.requests.Request.{Request}
use Rattle.f11_store.specs.declared.requests.Request.TheVariants as request
use Rattle.f11_script.specs.declared.verb.Verb.{Verb}
use Rattle.f11_script.specs.declared.verb.Verb.TheVariants as verb
use Rattle.f11_script.specs.Reading.{◌>>=◌, argument, at_end}
use Rattle.f11_script.specs.Fields.{number_of, word_of, byte_of, lun_of, protection_of, octal_byte_of}
use Rattle.f11_script.specs.Fields.{id_of, mode_of, is_hex, hex_block, filled_block}

-- a request, and what the caller's block becomes
pub record Ask : Type 0 where
  pub request : Request
  pub block : List ℕ → List ℕ

-- a request that leaves the block as it is
abbrev pub asks : Request → Ask
asks r = record { request = r; block = λ before. before }

-- a request for a block with this content
abbrev pub asks_with : Request → List ℕ → Ask
asks_with r content = record { request = r; block = λ before. content }

-- user attributes: record type, record attributes, record size, F.HIBK, F.EFBK and F.FFBY, and zeros behind them
-- (Files-11 On-Disk Structure Level 1, file attributes)
unfoldable pub attr_bytes : ℕ → ℕ → ℕ → ℕ → ℕ → ℕ → List ℕ
attr_bytes rtyp ratt rsiz hibk efbk ffby =
    rtyp ∷ ratt ∷ (word_bytes rsiz ++ (long_bytes hibk ++ (long_bytes efbk ++ (word_bytes ffby ++ replicate 18 0))))

-- the attributes of a new file: those of a directory where the type is DIR (6778 in Radix-50), and zeros
unfoldable pub attr_for : List ℕ → List ℕ
attr_for words = if slice_index words 3 == 6778 then attr_bytes 1 0 16 0 0 0 else attr_bytes 0 0 0 0 0 0

-- CREATE name word
unfoldable pub create_asks : List (List ℕ) → Option Ask
create_asks words = do
  name ← argument words_spelled words
  word ← argument protection_of name.1
  at_end word.1 (asks (request.Create word.0 (ident_with name.0) (attr_for name.0)))

-- EXTEND lun n
unfoldable pub extend_asks : List (List ℕ) → Option Ask
extend_asks words = do
  lun ← argument lun_of words
  n ← argument number_of lun.1
  at_end n.1 (asks (request.Extend lun.0 n.0))

-- CONTIG lun n
unfoldable pub contiguous_asks : List (List ℕ) → Option Ask
contiguous_asks words = do
  lun ← argument lun_of words
  n ← argument number_of lun.1
  at_end n.1 (asks (request.Contiguous lun.0 n.0))

-- TRUNCATE lun n
unfoldable pub truncate_asks : List (List ℕ) → Option Ask
truncate_asks words = do
  lun ← argument lun_of words
  n ← argument number_of lun.1
  at_end n.1 (asks (request.Truncate lun.0 n.0))

-- DELETE f
unfoldable pub delete_asks : List (List ℕ) → Option Ask
delete_asks words = do
  f ← argument id_of words
  at_end f.1 (asks (request.Delete f.0))

-- GROW n
unfoldable pub grow_asks : List (List ℕ) → Option Ask
grow_asks words = do
  n ← argument number_of words
  at_end n.1 (asks (request.GrowIndex n.0))

-- ACCESS f mode lun
unfoldable pub access_asks : List (List ℕ) → Option Ask
access_asks words = do
  f ← argument id_of words
  mode ← argument mode_of f.1
  lun ← argument lun_of mode.1
  at_end lun.1 (asks (request.Access f.0 mode.0 lun.0))

-- CLOSE lun
unfoldable pub close_asks : List (List ℕ) → Option Ask
close_asks words = do
  lun ← argument lun_of words
  at_end lun.1 (asks (request.Deaccess lun.0))

-- RELEASE
unfoldable pub release_asks : List (List ℕ) → Option Ask
release_asks words = at_end words (asks request.Release)

-- READ lun vbn
unfoldable pub read_asks : List (List ℕ) → Option Ask
read_asks words = do
  lun ← argument lun_of words
  vbn ← argument number_of lun.1
  at_end vbn.1 (asks (request.ReadBlock lun.0 vbn.0))

-- FILL lun vbn octal
unfoldable pub fill_asks : List (List ℕ) → Option Ask
fill_asks words = do
  lun ← argument lun_of words
  vbn ← argument number_of lun.1
  byte ← argument octal_byte_of vbn.1
  at_end byte.1 (asks_with (request.WriteBlock lun.0 vbn.0) (filled_block byte.0))

-- the hex digits of one to 512 bytes
abbrev pub hex_of : List ℕ → Option (List ℕ)
hex_of text = if is_hex text then Some text else None

-- WRITE lun vbn hex
unfoldable pub write_asks : List (List ℕ) → Option Ask
write_asks words = do
  lun ← argument lun_of words
  vbn ← argument number_of lun.1
  hex ← argument hex_of vbn.1
  at_end hex.1 (asks_with (request.WriteBlock lun.0 vbn.0) (hex_block hex.0))

-- FIND d name
unfoldable pub find_asks : List (List ℕ) → Option Ask
find_asks words = do
  d ← argument id_of words
  name ← argument words_spelled d.1
  at_end name.1 (asks (request.Find d.0 name.0))

-- ENTER d name f
unfoldable pub enter_asks : List (List ℕ) → Option Ask
enter_asks words = do
  d ← argument id_of words
  name ← argument words_spelled d.1
  f ← argument id_of name.1
  at_end f.1 (asks (request.Enter d.0 name.0 f.0))

-- REMOVE d name
unfoldable pub remove_asks : List (List ℕ) → Option Ask
remove_asks words = do
  d ← argument id_of words
  name ← argument words_spelled d.1
  at_end name.1 (asks (request.Remove d.0 name.0))

-- ATTR f
unfoldable pub attr_asks : List (List ℕ) → Option Ask
attr_asks words = do
  f ← argument id_of words
  at_end f.1 (asks (request.ReadAttr f.0))

-- SETATTR f rtyp ratt rsiz hibk efbk ffby
unfoldable pub set_attr_asks : List (List ℕ) → Option Ask
set_attr_asks words = do
  f ← argument id_of words
  rtyp ← argument byte_of f.1
  ratt ← argument byte_of rtyp.1
  rsiz ← argument word_of ratt.1
  hibk ← argument number_of rsiz.1
  efbk ← argument number_of hibk.1
  ffby ← argument word_of efbk.1
  at_end ffby.1 (asks (request.WriteAttr f.0 (change.Attr (attr_bytes rtyp.0 ratt.0 rsiz.0 hibk.0 efbk.0 ffby.0))))

-- PROTECT f word
unfoldable pub protect_asks : List (List ℕ) → Option Ask
protect_asks words = do
  f ← argument id_of words
  word ← argument protection_of f.1
  at_end word.1 (asks (request.WriteAttr f.0 (change.Protect word.0)))

-- SPACE
unfoldable pub space_asks : List (List ℕ) → Option Ask
space_asks words = at_end words (asks request.Space)

-- what a verb asks with the words behind it
abbrev pub verb_asks : Verb → List (List ℕ) → Option Ask
verb_asks verb.Create words = create_asks words
verb_asks verb.Extend words = extend_asks words
verb_asks verb.Contiguous words = contiguous_asks words
verb_asks verb.Truncate words = truncate_asks words
verb_asks verb.Delete words = delete_asks words
verb_asks verb.Grow words = grow_asks words
verb_asks verb.Access words = access_asks words
verb_asks verb.Close words = close_asks words
verb_asks verb.Release words = release_asks words
verb_asks verb.Read words = read_asks words
verb_asks verb.Fill words = fill_asks words
verb_asks verb.Write words = write_asks words
verb_asks verb.Find words = find_asks words
verb_asks verb.Enter words = enter_asks words
verb_asks verb.Remove words = remove_asks words
verb_asks verb.Attr words = attr_asks words
verb_asks verb.SetAttr words = set_attr_asks words
verb_asks verb.Protect words = protect_asks words
verb_asks verb.Space words = space_asks words

-- the request and the block that are asked for, with the caller's block before it
abbrev pub with_block : List ℕ → Option Ask → Option (Request × List ℕ)
with_block before ask = option_map (λ a. (a.request, a.block before)) ask
