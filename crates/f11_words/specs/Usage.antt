-- The commands, and the words that each takes (profile).
use Rattle.std.specs.Prelude.{Bool, true, false, ℕ, List, [], ◌∷◌, ◌++◌, Option, Some, codes}
use Rattle.f11_words.specs.declared.usage.Subcommand.{Subcommand}
use Rattle.f11_words.specs.declared.usage.Subcommand.TheVariants.{
  Del,
  Dump,
  FlxFromRt,
  FlxToRt,
  Get,
  Home,
  Init,
  Ls,
  Mkdir,
  Name,
  Prot,
  Purge,
  Put,
  Ren,
  Rights,
  RtCopy,
  RtDel,
  RtGet,
  RtInit,
  RtList,
  RtLs,
  RtProt,
  RtPut,
  RtRen,
  RtSqueeze,
  RtVfy,
  Run,
  Trunc,
  Vfy,
}

-- a word of a command, by its name: `--NAME`, which may be there; a hyphen and a letter, which may be, before all others; one behind
-- `--NAME`, or one by its place, and whether it has to be there
pub data Word : Type 0 where
  flag : List ℕ → Word
  letter : List ℕ → ℕ → Word
  option : List ℕ → Bool → Word
  place : List ℕ → Bool → Word

-- one by its place that has to be there
abbrev pub needed : List ℕ → Word
needed name = place name true

-- the commands
abbrev pub all_commands : List Subcommand
all_commands =
    Del ∷ Dump ∷ FlxFromRt ∷ FlxToRt ∷ Get ∷ Home ∷ Init ∷ Ls ∷ Mkdir ∷ Name ∷ Prot ∷ Purge ∷ Put ∷ Ren ∷ Rights ∷ RtCopy ∷ RtDel ∷ RtGet
    ∷ RtInit ∷ RtList ∷ RtLs ∷ RtProt ∷ RtPut ∷ RtRen ∷ RtSqueeze ∷ RtVfy ∷ Run ∷ Trunc ∷ Vfy ∷ []

-- a command's name
abbrev pub name_of : Subcommand → List ℕ
name_of Del = codes "del"
name_of Dump = codes "dump"
name_of FlxFromRt = codes "flx-from-rt"
name_of FlxToRt = codes "flx-to-rt"
name_of Get = codes "get"
name_of Home = codes "home"
name_of Init = codes "init"
name_of Ls = codes "ls"
name_of Mkdir = codes "mkdir"
name_of Name = codes "name"
name_of Prot = codes "prot"
name_of Purge = codes "purge"
name_of Put = codes "put"
name_of Ren = codes "ren"
name_of Rights = codes "rights"
name_of RtCopy = codes "rt-copy"
name_of RtDel = codes "rt-del"
name_of RtGet = codes "rt-get"
name_of RtInit = codes "rt-init"
name_of RtList = codes "rt-list"
name_of RtLs = codes "rt-ls"
name_of RtProt = codes "rt-prot"
name_of RtPut = codes "rt-put"
name_of RtRen = codes "rt-ren"
name_of RtSqueeze = codes "rt-squeeze"
name_of RtVfy = codes "rt-vfy"
name_of Run = codes "run"
name_of Trunc = codes "trunc"
name_of Vfy = codes "vfy"

-- the words of a file on a Files-11 volume, whose directory has a word of this name, and of one on an RT-11 volume
abbrev pub file_words : List ℕ → List Word
file_words directory = needed (codes "image") ∷ needed directory ∷ needed (codes "name") ∷ []

abbrev pub rt_file_words : List Word
rt_file_words = needed (codes "rt") ∷ needed (codes "rt-name") ∷ []

-- the words that say how something is done to several files: `-n` (110), and `--stop`
abbrev pub told_word : Word
told_word = letter (codes "n") 110

abbrev pub manner_words : List Word
manner_words = told_word ∷ flag (codes "stop") ∷ []

-- The words of a command. The folder of `get --all` stands in the directory's place, that of `rt-get --all` in the name's, and so does the
-- first file of the host of `put --each` and `rt-put --each`, behind which the others stand.
abbrev pub words_of : Subcommand → List Word
words_of Del = manner_words ++ file_words (codes "dir")
words_of Dump = needed (codes "image") ∷ needed (codes "number") ∷ []
words_of FlxFromRt = option (codes "mode") true ∷ (rt_file_words ++ file_words (codes "uic"))
words_of FlxToRt = option (codes "mode") true ∷ (file_words (codes "uic") ++ rt_file_words)
words_of Get =
    told_word ∷ flag (codes "all") ∷ flag (codes "blocks") ∷ option (codes "mode") false ∷ needed (codes "image") ∷ needed (codes "dir")
    ∷ place (codes "name") false ∷ place (codes "host") false ∷ []
words_of Home = needed (codes "image") ∷ []
words_of Init = option (codes "blocks") true ∷ option (codes "slots") true ∷ option (codes "label") true ∷ option (codes "max") false
    ∷ needed (codes "image") ∷ []
words_of Ls = letter (codes "l") 108 ∷ needed (codes "image") ∷ place (codes "dir") false ∷ []
words_of Mkdir = needed (codes "image") ∷ needed (codes "dir") ∷ []
words_of Name = needed (codes "text") ∷ []
words_of Prot = manner_words ++ file_words (codes "dir") ++ needed (codes "word") ∷ []
words_of Purge = manner_words ++ needed (codes "image") ∷ needed (codes "dir") ∷ place (codes "name") false ∷ []
words_of Put =
    manner_words ++ flag (codes "all") ∷ flag (codes "each") ∷ flag (codes "fit") ∷ option (codes "mode") false ∷ needed (codes "image")
    ∷ needed (codes "dir") ∷ place (codes "name") false ∷ place (codes "host") false ∷ []
words_of Ren = file_words (codes "dir") ++ needed (codes "new") ∷ []
words_of Rights = needed (codes "uic") ∷ needed (codes "owner") ∷ needed (codes "word") ∷ []
words_of RtCopy =
    flag (codes "onto") ∷ option (codes "blocks") false ∷ option (codes "segments") false ∷ needed (codes "old") ∷ needed (codes "new") ∷ []
words_of RtDel = needed (codes "rt") ∷ needed (codes "name") ∷ []
words_of RtGet =
    flag (codes "all") ∷ option (codes "mode") false ∷ needed (codes "rt") ∷ needed (codes "name") ∷ place (codes "host") false ∷ []
words_of RtInit = option (codes "blocks") true ∷ option (codes "segments") true ∷ needed (codes "image") ∷ []
words_of RtList = needed (codes "image") ∷ []
words_of RtLs = needed (codes "rt") ∷ []
words_of RtProt = flag (codes "off") ∷ needed (codes "rt") ∷ needed (codes "name") ∷ []
words_of RtPut =
    manner_words ++ flag (codes "each") ∷ flag (codes "fit") ∷ option (codes "mode") false ∷ needed (codes "rt") ∷ needed (codes "name")
    ∷ place (codes "host") false ∷ []
words_of RtRen = needed (codes "rt") ∷ needed (codes "name") ∷ needed (codes "new") ∷ []
words_of RtSqueeze = needed (codes "rt") ∷ []
words_of RtVfy = needed (codes "image") ∷ []
words_of Run = flag (codes "quiet") ∷ needed (codes "image") ∷ needed (codes "script") ∷ []
words_of Trunc = manner_words ++ file_words (codes "dir")
words_of Vfy = flag (codes "update") ∷ needed (codes "image") ∷ []

-- what a user gives for a word: this text, or none; or, of a flag, whether it is there
pub data Given : Type 0 where
  says : Option (List ℕ) → Given
  is_there : Bool → Given

-- a text that is there
abbrev pub text : List ℕ → Given
text word = says (Some word)

-- the words as they are written,
abbrev pub written : List Word → List Given → List (List ℕ)
written (flag name ∷ words) (is_there true ∷ given) = (codes "--" ++ name) ∷ written words given
written (letter name c ∷ words) (is_there true ∷ given) = (45 ∷ c ∷ []) ∷ written words given
written (option name is_needed ∷ words) (says (Some word) ∷ given) = (codes "--" ++ name) ∷ word ∷ written words given
written (place name is_needed ∷ words) (says (Some word) ∷ given) = word ∷ written words given
written (_ ∷ words) (_ ∷ given) = written words given
written _ _ = []

-- and the user's own texts among them
abbrev pub texts_in : List Given → List (List ℕ)
texts_in (says (Some word) ∷ given) = word ∷ texts_in given
texts_in (_ ∷ given) = texts_in given
texts_in [] = []
