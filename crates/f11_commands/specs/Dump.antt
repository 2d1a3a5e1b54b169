-- What a block holds as a file header, in lines (profile).
use Rattle.std.specs.Prelude.{◌≡◌, ◌≢◌, ℕ, List, [], ◌∷◌, ◌++◌, codes}
use Rattle.std.specs.Fmt.{decimal}
use Rattle.std.specs.List.{concat, flat_map}
use Rattle.f11_header.specs.Fields.{
  file_number,
  file_sequence,
  owner_group,
  owner_member,
  protection,
  characteristics,
  check_word,
  ident_area,
  map_area,
}
use Rattle.f11_header.specs.Header.{IsDead, IsHeader}
use Rattle.f11_catalog.specs.map.MapArea.{link, runs_of, segment}
use Rattle.f11_rad50.specs.Name.{IsName, name_text}
use Rattle.f11_store.specs.File.{name_words}
use Rattle.f11_store.specs.Text.{octal_digits, uic_text, id_text}
use Rattle.f11_commands.specs.declared.dump.Fields.{Fields}

-- the fields of a header that its line shows; the next header of the file is that of the link
abbrev pub fields_of : List ℕ → Fields
fields_of b = record {
  id = record { number = file_number b; sequence = file_sequence b; volume = 0 };
  segment = segment (map_area b);
  owner = record { group = owner_group b; member = owner_member b };
  protection = protection b;
  characteristics = characteristics b;
  link = link (map_area b);
  sum = check_word b;
}

-- the line of the fields of header n: owner, protection word and characteristics in octal, all else in decimal
abbrev pub fields_line : ℕ → Fields → List ℕ
fields_line n fields = concat (codes "header " ∷ decimal n
    ∷ codes " file " ∷ id_text fields.id
    ∷ codes " segment " ∷ decimal fields.segment
    ∷ codes " owner " ∷ uic_text fields.owner
    ∷ codes " prot " ∷ octal_digits fields.protection
    ∷ codes " char " ∷ octal_digits fields.characteristics
    ∷ codes " link " ∷ decimal fields.link.number ∷ codes "," ∷ decimal fields.link.sequence
    ∷ codes " sum " ∷ decimal fields.sum
    ∷ codes " good" ∷ (10 ∷ []) ∷ [])

-- the line of a valid header n
abbrev pub header_line : List ℕ → ℕ → List ℕ
header_line b n = fields_line n (fields_of b)

-- the line of a name
abbrev pub name_line : List ℕ → List ℕ
name_line words = codes "name " ++ (name_text words ++ 10 ∷ [])

-- the line of five words: that of their name, and a question mark where they are none
pub record IsNameLine (words line : List ℕ) : Type 0 where
  pub name : IsName words → line ≡ name_line words
  pub no_name : ¬ IsName words → line ≡ codes "name ?" ++ 10 ∷ []

-- a file's first header, of segment 0, has the line of its ident area's name, and no other header has one
pub record IsNamePart (b part : List ℕ) : Type 0 where
  pub first : segment (map_area b) ≡ 0 → IsNameLine (name_words (ident_area b)) part
  pub extension : segment (map_area b) ≢ 0 → part ≡ []

-- the line of a retrieval pointer: the LBN of its first block, and how many blocks it names
abbrev pub run_line : ℕ × ℕ → List ℕ
run_line run = codes "run " ++ (decimal run.0 ++ (codes " " ++ (decimal run.1 ++ 10 ∷ [])))

-- a line for each retrieval pointer, in order
abbrev pub run_lines : List (ℕ × ℕ) → List ℕ
run_lines runs = flat_map run_line runs

-- the lines of the retrieval pointers in a map area
abbrev pub map_lines : List ℕ → List ℕ
map_lines m = run_lines (runs_of m)

-- the lines of a valid header n: its fields, its name, its retrieval pointers
pub record IsHeaderText (b : List ℕ) (n : ℕ) (text : List ℕ) : Type 0 where
  pub name : List ℕ
  pub is_name : IsNamePart b name
  pub is_text : text ≡ header_line b n ++ (name ++ map_lines (map_area b))

-- the line of a dead header
abbrev pub dead_line : ℕ → List ℕ
dead_line n = codes "header " ++ (decimal n ++ (codes " dead" ++ 10 ∷ []))

-- the line of a block that isn't dead and is no valid header n
abbrev pub bad_line : ℕ → List ℕ
bad_line n = codes "header " ++ (decimal n ++ (codes " bad" ++ 10 ∷ []))

-- what a block holds as header n
pub record IsDump (b : List ℕ) (n : ℕ) (text : List ℕ) : Type 0 where
  pub valid : IsHeader b n → IsHeaderText b n text
  pub dead : IsDead b → text ≡ dead_line n
  pub bad : ¬ IsHeader b n → ¬ IsDead b → text ≡ bad_line n
