-- How requests are spelled as lines, apart from how lines are read (profile).
use Rattle.std.specs.Prelude.{◌≡◌, ℕ, ◌≤◌, true, length, List, [], ◌∷◌, codes}
use Rattle.std.specs.Fmt.{decimal}
use Rattle.std.specs.List.{join_with_byte}
use Rattle.f11_rad50.specs.Name.{IsName, name_text}
use Rattle.f11_store.specs.Ident.{ident_with}
use Rattle.f11_store.specs.Run.{Call}
use Rattle.f11_store.specs.Text.{id_text, octal_digits, uic_text}
use Rattle.f11_store.specs.declared.callers.Uic.{Uic}
use Rattle.f11_store.specs.declared.files.FileId.{FileId}
use Rattle.f11_store.specs.declared.files.Mode.{Mode}
use Rattle.f11_store.specs.declared.files.Mode.TheVariants as mode
use Rattle.f11_store.specs.declared.files.Change.TheVariants as change
use Rattle.f11_store.specs.declared.requests.Request.TheVariants as request
use Rattle.f11_script.specs.Lines.{request_line, line_of}
use Rattle.f11_script.specs.Fields.{filled_block, hex_block, is_hex}
use Rattle.f11_script.specs.Requests.{Ask, asks, asks_with, attr_for, attr_bytes}

-- what a line can say behind its user's code
pub data Sentence : Type 0 where
  create : List ℕ → ℕ → Sentence
  extend : ℕ → ℕ → Sentence
  contiguous : ℕ → ℕ → Sentence
  truncate : ℕ → ℕ → Sentence
  delete : FileId → Sentence
  grow : ℕ → Sentence
  access : FileId → Mode → ℕ → Sentence
  close : ℕ → Sentence
  release : Sentence
  read : ℕ → ℕ → Sentence
  fill : ℕ → ℕ → ℕ → Sentence
  write : ℕ → ℕ → List ℕ → Sentence
  find : FileId → List ℕ → Sentence
  enter : FileId → List ℕ → FileId → Sentence
  remove : FileId → List ℕ → Sentence
  attr : FileId → Sentence
  set_attr : FileId → ℕ → ℕ → ℕ → ℕ → ℕ → ℕ → Sentence
  protect : FileId → ℕ → Sentence
  space : Sentence

-- a mode of access
abbrev pub mode_text : Mode → List ℕ
mode_text mode.Read = codes "R"
mode_text mode.Locked = codes "L"
mode_text mode.Write = codes "W"

-- its words: a verb and its arguments
abbrev pub sentence_words : Sentence → List (List ℕ)
sentence_words (create name word) = codes "CREATE" ∷ name_text name ∷ octal_digits word ∷ []
sentence_words (extend lun n) = codes "EXTEND" ∷ decimal lun ∷ decimal n ∷ []
sentence_words (contiguous lun n) = codes "CONTIG" ∷ decimal lun ∷ decimal n ∷ []
sentence_words (truncate lun n) = codes "TRUNCATE" ∷ decimal lun ∷ decimal n ∷ []
sentence_words (delete f) = codes "DELETE" ∷ id_text f ∷ []
sentence_words (grow n) = codes "GROW" ∷ decimal n ∷ []
sentence_words (access f m lun) = codes "ACCESS" ∷ id_text f ∷ mode_text m ∷ decimal lun ∷ []
sentence_words (close lun) = codes "CLOSE" ∷ decimal lun ∷ []
sentence_words release = codes "RELEASE" ∷ []
sentence_words (read lun vbn) = codes "READ" ∷ decimal lun ∷ decimal vbn ∷ []
sentence_words (fill lun vbn byte) = codes "FILL" ∷ decimal lun ∷ decimal vbn ∷ octal_digits byte ∷ []
sentence_words (write lun vbn hex) = codes "WRITE" ∷ decimal lun ∷ decimal vbn ∷ hex ∷ []
sentence_words (find d name) = codes "FIND" ∷ id_text d ∷ name_text name ∷ []
sentence_words (enter d name f) = codes "ENTER" ∷ id_text d ∷ name_text name ∷ id_text f ∷ []
sentence_words (remove d name) = codes "REMOVE" ∷ id_text d ∷ name_text name ∷ []
sentence_words (attr f) = codes "ATTR" ∷ id_text f ∷ []
sentence_words (set_attr f rtyp ratt rsiz hibk efbk ffby) =
    codes "SETATTR" ∷ id_text f ∷ decimal rtyp ∷ decimal ratt ∷ decimal rsiz ∷ decimal hibk ∷ decimal efbk ∷ decimal ffby ∷ []
sentence_words (protect f word) = codes "PROTECT" ∷ id_text f ∷ octal_digits word ∷ []
sentence_words space = codes "SPACE" ∷ []

-- what it asks
abbrev pub sentence_asks : Sentence → Ask
sentence_asks (create name word) = asks (request.Create word (ident_with name) (attr_for name))
sentence_asks (extend lun n) = asks (request.Extend lun n)
sentence_asks (contiguous lun n) = asks (request.Contiguous lun n)
sentence_asks (truncate lun n) = asks (request.Truncate lun n)
sentence_asks (delete f) = asks (request.Delete f)
sentence_asks (grow n) = asks (request.GrowIndex n)
sentence_asks (access f m lun) = asks (request.Access f m lun)
sentence_asks (close lun) = asks (request.Deaccess lun)
sentence_asks release = asks request.Release
sentence_asks (read lun vbn) = asks (request.ReadBlock lun vbn)
sentence_asks (fill lun vbn byte) = asks_with (request.WriteBlock lun vbn) (filled_block byte)
sentence_asks (write lun vbn hex) = asks_with (request.WriteBlock lun vbn) (hex_block hex)
sentence_asks (find d name) = asks (request.Find d name)
sentence_asks (enter d name f) = asks (request.Enter d name f)
sentence_asks (remove d name) = asks (request.Remove d name)
sentence_asks (attr f) = asks (request.ReadAttr f)
sentence_asks (set_attr f rtyp ratt rsiz hibk efbk ffby) = asks
    (request.WriteAttr f (change.Attr (attr_bytes rtyp ratt rsiz hibk efbk ffby)))
sentence_asks (protect f word) = asks (request.WriteAttr f (change.Protect word))
sentence_asks space = asks request.Space

-- an identification of two words, on a volume that stands alone
pub record IsId (id : FileId) : Type 0 where
  pub number : id.number ≤ 65535
  pub sequence : id.sequence ≤ 65535
  pub volume : id.volume ≡ 0

-- its values are in range
abbrev pub IsInRange : Sentence → Type 0
IsInRange (create name word) = IsName name × (word ≤ 65535)
IsInRange (extend lun n) = (lun ≤ 3) × (n ≤ 4294967295)
IsInRange (contiguous lun n) = (lun ≤ 3) × (n ≤ 4294967295)
IsInRange (truncate lun n) = (lun ≤ 3) × (n ≤ 4294967295)
IsInRange (delete f) = IsId f
IsInRange (grow n) = n ≤ 4294967295
IsInRange (access f m lun) = IsId f × (lun ≤ 3)
IsInRange (close lun) = lun ≤ 3
IsInRange release = Unit {0}
IsInRange (read lun vbn) = (lun ≤ 3) × (vbn ≤ 4294967295)
IsInRange (fill lun vbn byte) = (lun ≤ 3) × (vbn ≤ 4294967295) × (byte ≤ 255)
IsInRange (write lun vbn hex) = (lun ≤ 3) × (vbn ≤ 4294967295) × (is_hex hex ≡ true)
IsInRange (find d name) = IsId d × IsName name
IsInRange (enter d name f) = IsId d × IsName name × IsId f
IsInRange (remove d name) = IsId d × IsName name
IsInRange (attr f) = IsId f
IsInRange (set_attr f rtyp ratt rsiz hibk efbk ffby) =
    IsId f × (rtyp ≤ 255) × (ratt ≤ 255) × (rsiz ≤ 65535) × (hibk ≤ 4294967295) × (efbk ≤ 4294967295) × (ffby ≤ 65535)
IsInRange (protect f word) = IsId f × (word ≤ 65535)
IsInRange space = Unit {0}

-- the words of a line: a task, a user's code and a sentence
abbrev pub line_words : ℕ → Uic → Sentence → List (List ℕ)
line_words task uic s = octal_digits task ∷ uic_text uic ∷ sentence_words s

-- the call that they ask for, with the caller's block before it
abbrev pub line_call : ℕ → Uic → Sentence → List ℕ → Call
line_call task uic s block = record {
  task = task;
  caller = uic;
  request = (sentence_asks s).request;
  block = (sentence_asks s).block block;
}

-- the line: its words with single spaces between them
abbrev pub line_text : ℕ → Uic → Sentence → List ℕ
line_text task uic s = join_with_byte 32 (line_words task uic s)

-- what is spelled is read: for each verb, the line of a request is read as that request
abbrev pub SpelledIsRead : Type 0
SpelledIsRead =
    (task : ℕ) (uic : Uic) (s : Sentence) (block : List ℕ) → task ≤ 7 → uic.group ≤ 255 → uic.member ≤ 255 → IsInRange s →
    length (line_text task uic s) ≤ 1200 → line_of (line_text task uic s) block ≡ request_line (line_call task uic s block)
