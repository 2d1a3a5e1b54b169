-- What is read of the words of a command that clap met.
use Rattle.std.proofs.Common.{◌≡◌, ◌∙◌, List, MatchOption, [], ◌∷◌, None, Option, Some, ap, drop, find, map, option_map, refl}
use Rattle.std.proofs.Common.{slice_index_or, subst, sym}
use Rattle.std.specs.Option.{option_map_or}
use Rattle.std.specs.Str.{bytes_eq}
use Rattle.clap.specs.Words.{Row, Text, found_of, rows_of, subcommand_name_of, subcommand_rows_of}
use Rattle.clap.specs.declared.parser.matches.ArgMatches.{ArgMatches}
use Rattle.clap.specs.declared.parser.matches.ArgMatches.TheViews.{out-ArgMatches}
use Rattle.clap.proofs.WalkLemmas.{first_value-rows, one_text-rows}
use Rattle.f11_words.specs.Asking.{Asks, IsUnreadable}
use Rattle.f11_words.specs.Lines.{
  CommandLine,
  command_in,
  given_in,
  del_line,
  dump_line,
  from_rt_line,
  get_all_line,
  get_blocks_line,
  get_line,
  home_line,
  init_line,
  ls_line,
  mkdir_line,
  name_line,
  prot_line,
  purge_line,
  put_all_line,
  put_each_line,
  put_line,
  quiet_run_line,
  ren_line,
  rights_line,
  rt_copy_line,
  rt_copy_onto_line,
  rt_del_line,
  rt_get_all_line,
  rt_get_line,
  rt_init_line,
  rt_list_line,
  rt_ls_line,
  rt_prot_line,
  rt_put_each_line,
  rt_put_line,
  rt_ren_line,
  rt_squeeze_line,
  rt_unprot_line,
  rt_vfy_line,
  run_line,
  to_rt_line,
  trunc_line,
  update_line,
  ls_in_line,
  vfy_line,
}
use Rattle.f11_words.specs.Reading.{Has, HasAll, Meets, Reads, ReadsWords, as_found, found, met_words}
use Rattle.f11_words.specs.Usage.{Given, Word, all_commands, flag, letter, name_of, option, place, words_of}
use Rattle.f11_words.specs.declared.usage.Subcommand.{Subcommand}
use Rattle.f11_words.specs.declared.usage.Subcommand.TheVariants.{
  Del,
  Dump,
  FlxFromRt,
  FlxToRt,
  Get,
  Home,
  Init,
  Ls,
  Mkdir,
  Name,
  Prot,
  Purge,
  Put,
  Ren,
  Rights,
  RtCopy,
  RtDel,
  RtGet,
  RtInit,
  RtList,
  RtLs,
  RtProt,
  RtPut,
  RtRen,
  RtSqueeze,
  RtVfy,
  Run,
  Trunc,
  Vfy,
}
use Rattle.f11_words.specs.declared.words.Words.{Words}

-- no two commands have one name
named : Text → Option Subcommand
named name = find (λ command. bytes_eq (name_of command) name) all_commands

named-is : (command : Subcommand) → named (name_of command) ≡ Some command
unfolding named
named-is Del = refl
named-is Dump = refl
named-is FlxFromRt = refl
named-is FlxToRt = refl
named-is Get = refl
named-is Home = refl
named-is Init = refl
named-is Ls = refl
named-is Mkdir = refl
named-is Name = refl
named-is Prot = refl
named-is Purge = refl
named-is Put = refl
named-is Ren = refl
named-is Rights = refl
named-is RtCopy = refl
named-is RtDel = refl
named-is RtGet = refl
named-is RtInit = refl
named-is RtList = refl
named-is RtLs = refl
named-is RtProt = refl
named-is RtPut = refl
named-is RtRen = refl
named-is RtSqueeze = refl
named-is RtVfy = refl
named-is Run = refl
named-is Trunc = refl
named-is Vfy = refl

pub same-command : (a b : Subcommand) → name_of a ≡ name_of b → a ≡ b
same-command a b same =
    let both : Some a ≡ Some b = sym (named-is a) ∙ ap named same ∙ named-is b in cc

-- what was met is a command line's command,
pub met-name : (words : List Word) (met : Option (Text × List Row)) (name : Text) (values : List (Option Text))
    → met_words words met ≡ Some (name, values) → option_map (λ p. p.0) met ≡ Some name
met-name words None name values is = cc
met-name words (Some met) name values is = ap (option_map (λ p. p.0)) is

-- with its words
met-values : (words : List Word) (met : Option (Text × List Row)) (rows : List Row) (name : Text) (values : List (Option Text))
    → Some rows ≡ option_map (λ p. p.1) met → met_words words met ≡ Some (name, values) → map (λ word. found word rows) words ≡ values
met-values words None rows name values its is = cc
met-values words (Some met) rows name values its is =
    let same : rows ≡ met.1 = cc in
    ap (λ (l : List Row). map (λ word. found word l) words) same
    ∙ ap (λ (o : Option (Text × List (Option Text))). option_map_or (λ p. p.1) o []) is

has : (matches : ArgMatches) (word : Word) (value : Option Text) → found word (rows_of (found_of matches)) ≡ value → Has word value matches
has matches (flag name) value is = one_text-rows (found_of matches) name ∙ is
has matches (letter name c) value is = one_text-rows (found_of matches) name ∙ is
has matches (option name is_needed) value is = first_value-rows (found_of matches) name ∙ is
has matches (place name is_needed) value is = first_value-rows (found_of matches) name ∙ is

has-all : (matches : ArgMatches) (words : List Word) (given : List Given)
    → map (λ word. found word (rows_of (found_of matches))) words ≡ map as_found given → HasAll words given matches
has-all matches [] given is = tt
has-all matches (word ∷ words) [] is = tt
has-all matches (word ∷ words) (value ∷ given) is = (
  has matches word (as_found value) (ap (λ (l : List (Option Text)). slice_index_or l 0 None) is),
  has-all matches words given (ap (drop 1) is),
)

-- what is read of each command line's words
reads-line : (matches : ArgMatches) (result : Option Words) (line : CommandLine) → ReadsWords (command_in line) matches result
    → Reads line matches result
reads-line matches result (del_line manner image dir name) reads = reads manner image dir name
reads-line matches result (dump_line image number) reads = reads image number
reads-line matches result (from_rt_line mode rt rt_name image uic name) reads = reads mode rt rt_name image uic name
reads-line matches result (to_rt_line mode image uic name rt rt_name) reads = reads mode image uic name rt rt_name
reads-line matches result (get_line told mode image dir name host) reads = reads.file told mode image dir name host
reads-line matches result (get_blocks_line told image dir name host) reads = reads.blocks told image dir name host
reads-line matches result (get_all_line mode image folder) reads = reads.all mode image folder
reads-line matches result (home_line image) reads = reads image
reads-line matches result (init_line blocks slots label max image) reads = reads blocks slots label max image
reads-line matches result (ls_line long image) reads = reads.all long image
reads-line matches result (ls_in_line long image dir) reads = reads.one long image dir
reads-line matches result (mkdir_line image dir) reads = reads image dir
reads-line matches result (name_line word) reads = reads word
reads-line matches result (prot_line manner image dir name word) reads = reads manner image dir name word
reads-line matches result (purge_line manner image dir name) reads = reads manner image dir name
reads-line matches result (put_line mode image dir name host) reads = reads.file mode image dir name host
reads-line matches result (put_each_line manner fitted mode image dir host) reads = reads.each manner fitted mode image dir host
reads-line matches result (put_all_line mode folder image) reads = reads.all mode folder image
reads-line matches result (ren_line image dir name new) reads = reads image dir name new
reads-line matches result (rights_line caller owner word) reads = reads caller owner word
reads-line matches result (rt_copy_line blocks segments old new) reads = reads.fresh blocks segments old new
reads-line matches result (rt_copy_onto_line old new) reads = reads.onto old new
reads-line matches result (rt_del_line rt name) reads = reads rt name
reads-line matches result (rt_get_line mode rt name host) reads = reads.file mode rt name host
reads-line matches result (rt_get_all_line rt folder) reads = reads.all rt folder
reads-line matches result (rt_init_line blocks segments image) reads = reads blocks segments image
reads-line matches result (rt_list_line image) reads = reads image
reads-line matches result (rt_ls_line rt) reads = reads rt
reads-line matches result (rt_prot_line rt name) reads = reads.on rt name
reads-line matches result (rt_unprot_line rt name) reads = reads.off rt name
reads-line matches result (rt_put_line mode rt name host) reads = reads.file mode rt name host
reads-line matches result (rt_put_each_line manner fitted mode rt host) reads = reads.each manner fitted mode rt host
reads-line matches result (rt_ren_line rt name new) reads = reads rt name new
reads-line matches result (rt_squeeze_line rt) reads = reads rt
reads-line matches result (rt_vfy_line image) reads = reads image
reads-line matches result (run_line image script) reads = reads.told image script
reads-line matches result (quiet_run_line image script) reads = reads.quiet image script
reads-line matches result (trunc_line manner image dir name) reads = reads manner image dir name
reads-line matches result (vfy_line image) reads = reads.alone image
reads-line matches result (update_line image) reads = reads.update image

-- The name that clap met is that of what it has of the words.
twice : {A B C : Type 0} (f : B → C) (g : A → B) (o : Option A) → option_map f (option_map g o) ≡ option_map (λ a. f (g a)) o
twice f g None = refl
twice f g (Some a) = refl

rows-name : (matches : ArgMatches) → option_map (λ p. p.0) (subcommand_rows_of matches) ≡ subcommand_name_of matches
rows-name matches = twice (λ p. p.0) _ (out-ArgMatches matches).subcommand

pub name-met : (matches : ArgMatches) (name : Text) → Some name ≡ subcommand_name_of matches → (line : CommandLine)
    → Meets line (subcommand_rows_of matches) → name ≡ name_of (command_in line)
name-met matches name its line is =
    let both : Some name ≡ Some (name_of (command_in line)) =
    its ∙ sym (rows-name matches) ∙ met-name (words_of (command_in line)) (subcommand_rows_of matches) _ _ is
    in
    cc

-- A command was met under its name, and its words were read.
pub met-reads : (matches : ArgMatches) (name : Text) → Some name ≡ subcommand_name_of matches → (command : Subcommand)
    → name ≡ name_of command → (given : ArgMatches)
    → Some (rows_of (found_of given)) ≡ option_map (λ p. p.1) (subcommand_rows_of matches) → (result : Option Words)
    → ReadsWords command given result → (line : CommandLine) → Meets line (subcommand_rows_of matches)
    → MatchOption result (IsUnreadable line) (Asks line)
met-reads matches name its command named given rows result reads line is =
    reads-line given result line
    (subst (λ (c : Subcommand). ReadsWords c given result)
    (same-command command (command_in line) (sym named ∙ name-met matches name its line is))
    reads)
    (has-all given (words_of (command_in line)) (given_in line)
    (met-values (words_of (command_in line)) (subcommand_rows_of matches) _ _ _ rows is))
