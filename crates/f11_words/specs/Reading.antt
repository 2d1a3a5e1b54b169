-- What `clap` has of a command's words, and what is read of them (profile).
use Rattle.std.specs.Prelude.{◌≡◌, Bool, true, false, List, ◌∷◌, Option, Some, MatchOption, codes, map, option_map}
use Rattle.clap.specs.Words.{Row, Text, first_of, first_value, found_of, one_of, one_text}
use Rattle.clap.specs.declared.parser.matches.ArgMatches.{ArgMatches}
use Rattle.f11_words.specs.Asking.{Asks, IsUnreadable}
use Rattle.f11_words.specs.Lines.{
  CommandLine,
  command_in,
  del_line,
  dump_line,
  from_rt_line,
  get_all_line,
  get_blocks_line,
  get_line,
  given_in,
  home_line,
  init_line,
  ls_line,
  mkdir_line,
  name_line,
  prot_line,
  purge_line,
  put_all_line,
  put_each_line,
  put_line,
  quiet_run_line,
  ren_line,
  rights_line,
  rt_copy_line,
  rt_copy_onto_line,
  rt_del_line,
  rt_get_all_line,
  rt_get_line,
  rt_init_line,
  rt_list_line,
  rt_ls_line,
  rt_prot_line,
  rt_put_each_line,
  rt_put_line,
  rt_ren_line,
  rt_squeeze_line,
  rt_unprot_line,
  rt_vfy_line,
  run_line,
  to_rt_line,
  trunc_line,
  update_line,
  ls_in_line,
  vfy_line,
}
use Rattle.f11_words.specs.Usage.{Given, Word, flag, is_there, letter, name_of, option, place, says, words_of}
use Rattle.f11_words.specs.declared.usage.Subcommand.{Subcommand}
use Rattle.f11_words.specs.declared.usage.Subcommand.TheVariants.{
  Del,
  Dump,
  FlxFromRt,
  FlxToRt,
  Get,
  Home,
  Init,
  Ls,
  Mkdir,
  Name,
  Prot,
  Purge,
  Put,
  Ren,
  Rights,
  RtCopy,
  RtDel,
  RtGet,
  RtInit,
  RtList,
  RtLs,
  RtProt,
  RtPut,
  RtRen,
  RtSqueeze,
  RtVfy,
  Run,
  Trunc,
  Vfy,
}
use Rattle.f11_words.specs.declared.words.Manner.{Manner}
use Rattle.f11_words.specs.declared.words.Words.{Words}

-- what clap has of a word: of a flag or a letter, the text `true` or `false`
abbrev pub as_found : Given → Option Text
as_found (says text) = text
as_found (is_there true) = Some (codes "true")
as_found (is_there false) = Some (codes "false")

-- what it has of one among all,
abbrev pub found : Word → List Row → Option Text
found (flag name) rows = one_of name rows
found (letter name c) rows = one_of name rows
found (option name is_needed) rows = first_of name rows
found (place name is_needed) rows = first_of name rows

-- and of the words of a command that was met
abbrev pub met_words : List Word → Option (Text × List Row) → Option (Text × List (Option Text))
met_words words = option_map (λ (p : Text × List Row). (p.0, map (λ word. found word p.1) words))

-- What clap met is a command line's command, with what that gives for its words.
abbrev pub Meets : CommandLine → Option (Text × List Row) → Type 0
Meets line met = met_words (words_of (command_in line)) met ≡ Some (name_of (command_in line), map as_found (given_in line))

-- a command's words have this of one,
abbrev pub Has : Word → Option Text → ArgMatches → Type 0
Has (flag name) given matches = one_text (found_of matches) name ≡ given
Has (letter name c) given matches = one_text (found_of matches) name ≡ given
Has (option name is_needed) given matches = first_value (found_of matches) name ≡ given
Has (place name is_needed) given matches = first_value (found_of matches) name ≡ given

-- a text of this name,
abbrev pub HasText : Text → Text → ArgMatches → Type 0
HasText name text matches = first_value (found_of matches) name ≡ Some text

-- a flag or a letter that is there or isn't,
abbrev pub HasFlag : Text → Bool → ArgMatches → Type 0
HasFlag name is matches = one_text (found_of matches) name ≡ as_found (is_there is)

-- and this of all
abbrev pub HasAll : List Word → List Given → ArgMatches → Type 0
HasAll (word ∷ words) (given ∷ more) matches = Has word (as_found given) matches × HasAll words more matches
HasAll _ _ matches = Unit {0}

-- A command's words are read: where they are those of a command line, as what it asks for, and as nothing only where one is unreadable.
abbrev pub Reads : CommandLine → ArgMatches → Option Words → Type 0
Reads line matches result =
    HasAll (words_of (command_in line)) (given_in line) matches → MatchOption result (IsUnreadable line) (Asks line)

-- What the words of `get` are read as: for one file up to the end that it states, or up to its last block, or for all files.
pub record ReadsGet (matches : ArgMatches) (result : Option Words) : Type 0 where
  pub file : (told : Bool) (mode : Option Text) → (image dir name host : Text)
      → Reads (get_line told mode image dir name host) matches result
  pub blocks : (told : Bool) (image dir name host : Text) → Reads (get_blocks_line told image dir name host) matches result
  pub all : (mode : Option Text) → (image folder : Text) → Reads (get_all_line mode image folder) matches result

-- What those of `put` are: for one file under a name, for each of some under its own, or for those of a folder.
pub record ReadsPut (matches : ArgMatches) (result : Option Words) : Type 0 where
  pub file : (mode : Option Text) → (image dir name host : Text) → Reads (put_line mode image dir name host) matches result
  pub each : (manner : Manner) (fitted : Bool) (mode : Option Text) → (image dir host : Text)
      → Reads (put_each_line manner fitted mode image dir host) matches result
  pub all : (mode : Option Text) → (folder image : Text) → Reads (put_all_line mode folder image) matches result

-- What those of `rt-copy` are: to a fresh volume, or to one that is there.
pub record ReadsRtCopy (matches : ArgMatches) (result : Option Words) : Type 0 where
  pub fresh : (blocks segments : Option Text) → (old new : Text) → Reads (rt_copy_line blocks segments old new) matches result
  pub onto : (old new : Text) → Reads (rt_copy_onto_line old new) matches result

-- What those of `rt-get` are: for one file, or for all files.
pub record ReadsRtGet (matches : ArgMatches) (result : Option Words) : Type 0 where
  pub file : (mode : Option Text) → (rt name host : Text) → Reads (rt_get_line mode rt name host) matches result
  pub all : (rt folder : Text) → Reads (rt_get_all_line rt folder) matches result

-- What those of `rt-put` are: for one file under a name, or for each of some under its own.
pub record ReadsRtPut (matches : ArgMatches) (result : Option Words) : Type 0 where
  pub file : (mode : Option Text) → (rt name host : Text) → Reads (rt_put_line mode rt name host) matches result
  pub each : (manner : Manner) (fitted : Bool) (mode : Option Text) → (rt host : Text)
      → Reads (rt_put_each_line manner fitted mode rt host) matches result

-- What those of `ls` are: for all directories, or for one, by long lines or short ones.
pub record ReadsLs (matches : ArgMatches) (result : Option Words) : Type 0 where
  pub all : (long : Bool) (image : Text) → Reads (ls_line long image) matches result
  pub one : (long : Bool) (image dir : Text) → Reads (ls_in_line long image dir) matches result

-- What those of `rt-prot` are: with the file protected, or so no more.
pub record ReadsRtProt (matches : ArgMatches) (result : Option Words) : Type 0 where
  pub on : (rt name : Text) → Reads (rt_prot_line rt name) matches result
  pub off : (rt name : Text) → Reads (rt_unprot_line rt name) matches result

-- What those of `run` are: with what is refused told, or not.
pub record ReadsRun (matches : ArgMatches) (result : Option Words) : Type 0 where
  pub told : (image script : Text) → Reads (run_line image script) matches result
  pub quiet : (image script : Text) → Reads (quiet_run_line image script) matches result

-- What those of `vfy` are: to verify alone, or to give back what lies idle.
pub record ReadsVfy (matches : ArgMatches) (result : Option Words) : Type 0 where
  pub alone : (image : Text) → Reads (vfy_line image) matches result
  pub update : (image : Text) → Reads (update_line image) matches result

-- What a command's words are read as.
abbrev pub ReadsWords : Subcommand → ArgMatches → Option Words → Type 0
ReadsWords Del matches result = (manner : Manner) (image dir name : Text) → Reads (del_line manner image dir name) matches result
ReadsWords Dump matches result = (image number : Text) → Reads (dump_line image number) matches result
ReadsWords FlxFromRt matches result =
    (mode rt rt_name image uic name : Text) → Reads (from_rt_line mode rt rt_name image uic name) matches result
ReadsWords FlxToRt matches result =
    (mode image uic name rt rt_name : Text) → Reads (to_rt_line mode image uic name rt rt_name) matches result
ReadsWords Get matches result = ReadsGet matches result
ReadsWords Home matches result = (image : Text) → Reads (home_line image) matches result
ReadsWords Init matches result =
    (blocks slots label : Text) → (max : Option Text) → (image : Text) → Reads (init_line blocks slots label max image) matches result
ReadsWords Ls matches result = ReadsLs matches result
ReadsWords Mkdir matches result = (image dir : Text) → Reads (mkdir_line image dir) matches result
ReadsWords Name matches result = (word : Text) → Reads (name_line word) matches result
ReadsWords Prot matches result =
    (manner : Manner) (image dir name word : Text) → Reads (prot_line manner image dir name word) matches result
ReadsWords Purge matches result =
    (manner : Manner) (image dir : Text) → (name : Option Text) → Reads (purge_line manner image dir name) matches result
ReadsWords Put matches result = ReadsPut matches result
ReadsWords Ren matches result = (image dir name new : Text) → Reads (ren_line image dir name new) matches result
ReadsWords Rights matches result = (caller owner word : Text) → Reads (rights_line caller owner word) matches result
ReadsWords RtCopy matches result = ReadsRtCopy matches result
ReadsWords RtDel matches result = (rt name : Text) → Reads (rt_del_line rt name) matches result
ReadsWords RtGet matches result = ReadsRtGet matches result
ReadsWords RtInit matches result = (blocks segments image : Text) → Reads (rt_init_line blocks segments image) matches result
ReadsWords RtList matches result = (image : Text) → Reads (rt_list_line image) matches result
ReadsWords RtLs matches result = (rt : Text) → Reads (rt_ls_line rt) matches result
ReadsWords RtProt matches result = ReadsRtProt matches result
ReadsWords RtPut matches result = ReadsRtPut matches result
ReadsWords RtRen matches result = (rt name new : Text) → Reads (rt_ren_line rt name new) matches result
ReadsWords RtSqueeze matches result = (rt : Text) → Reads (rt_squeeze_line rt) matches result
ReadsWords RtVfy matches result = (image : Text) → Reads (rt_vfy_line image) matches result
ReadsWords Run matches result = ReadsRun matches result
ReadsWords Trunc matches result = (manner : Manner) (image dir name : Text) → Reads (trunc_line manner image dir name) matches result
ReadsWords Vfy matches result = ReadsVfy matches result
