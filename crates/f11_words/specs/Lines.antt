-- Command lines as users write them (profile).
use Rattle.std.specs.Prelude.{◌≡◌, ℕ, ◌==◌, All, Bool, true, false, List, [], ◌∷◌, ◌++◌, Option, None}
use Rattle.f11_words.specs.Usage.{Given, is_there, name_of, says, text, texts_in, words_of, written}
use Rattle.f11_words.specs.declared.usage.Subcommand.{Subcommand}
use Rattle.f11_words.specs.declared.usage.Subcommand.TheVariants.{
  Del,
  Dump,
  FlxFromRt,
  FlxToRt,
  Get,
  Home,
  Init,
  Ls,
  Mkdir,
  Name,
  Prot,
  Purge,
  Put,
  Ren,
  Rights,
  RtCopy,
  RtDel,
  RtGet,
  RtInit,
  RtList,
  RtLs,
  RtProt,
  RtPut,
  RtRen,
  RtSqueeze,
  RtVfy,
  Run,
  Trunc,
  Vfy,
}
use Rattle.f11_words.specs.declared.words.Manner.{Manner}
use Rattle.f11_words.specs.declared.words.Manner.TheVariants.{GoesOn, Stops, Tells}

-- nothing is done, and it is told what would be; or none is done behind one that is refused
abbrev pub is_told : Manner → Bool
is_told Tells = true
is_told _ = false

abbrev pub is_stopping : Manner → Bool
is_stopping Stops = true
is_stopping _ = false

-- by both
abbrev pub manner_from : Bool → Bool → Manner
manner_from true stops = Tells
manner_from false true = Stops
manner_from false false = GoesOn

-- what is given so
abbrev pub manner_given : Manner → List Given
manner_given manner = is_there (is_told manner) ∷ is_there (is_stopping manner) ∷ []

-- A command, with its words.
pub data CommandLine : Type 0 where
  del_line : Manner → (image dir name : List ℕ) → CommandLine
  dump_line : (image number : List ℕ) → CommandLine
  from_rt_line : (mode rt rt_name image uic name : List ℕ) → CommandLine
  to_rt_line : (mode image uic name rt rt_name : List ℕ) → CommandLine
  get_line : (told : Bool) → (mode : Option (List ℕ)) → (image dir name host : List ℕ) → CommandLine
  get_blocks_line : (told : Bool) → (image dir name host : List ℕ) → CommandLine
  get_all_line : (mode : Option (List ℕ)) → (image folder : List ℕ) → CommandLine
  home_line : (image : List ℕ) → CommandLine
  init_line : (blocks slots label : List ℕ) → (max : Option (List ℕ)) → (image : List ℕ) → CommandLine
  ls_line : (long : Bool) (image : List ℕ) → CommandLine
  ls_in_line : (long : Bool) (image dir : List ℕ) → CommandLine
  mkdir_line : (image dir : List ℕ) → CommandLine
  name_line : (word : List ℕ) → CommandLine
  prot_line : Manner → (image dir name word : List ℕ) → CommandLine
  purge_line : Manner → (image dir : List ℕ) → (name : Option (List ℕ)) → CommandLine
  put_line : (mode : Option (List ℕ)) → (image dir name host : List ℕ) → CommandLine
  put_each_line : Manner → (fitted : Bool) → (mode : Option (List ℕ)) → (image dir host : List ℕ) → CommandLine
  put_all_line : (mode : Option (List ℕ)) → (folder image : List ℕ) → CommandLine
  ren_line : (image dir name new : List ℕ) → CommandLine
  rights_line : (caller owner word : List ℕ) → CommandLine
  rt_copy_line : (blocks segments : Option (List ℕ)) → (old new : List ℕ) → CommandLine
  rt_copy_onto_line : (old new : List ℕ) → CommandLine
  rt_del_line : (rt name : List ℕ) → CommandLine
  rt_get_line : (mode : Option (List ℕ)) → (rt name host : List ℕ) → CommandLine
  rt_get_all_line : (rt folder : List ℕ) → CommandLine
  rt_init_line : (blocks segments image : List ℕ) → CommandLine
  rt_list_line : (image : List ℕ) → CommandLine
  rt_ls_line : (rt : List ℕ) → CommandLine
  rt_prot_line : (rt name : List ℕ) → CommandLine
  rt_unprot_line : (rt name : List ℕ) → CommandLine
  rt_put_line : (mode : Option (List ℕ)) → (rt name host : List ℕ) → CommandLine
  rt_put_each_line : Manner → (fitted : Bool) → (mode : Option (List ℕ)) → (rt host : List ℕ) → CommandLine
  rt_ren_line : (rt name new : List ℕ) → CommandLine
  rt_squeeze_line : (rt : List ℕ) → CommandLine
  rt_vfy_line : (image : List ℕ) → CommandLine
  run_line : (image script : List ℕ) → CommandLine
  quiet_run_line : (image script : List ℕ) → CommandLine
  trunc_line : Manner → (image dir name : List ℕ) → CommandLine
  vfy_line : (image : List ℕ) → CommandLine
  update_line : (image : List ℕ) → CommandLine

-- which command it is,
abbrev pub command_in : CommandLine → Subcommand
command_in (del_line manner image dir name) = Del
command_in (dump_line image number) = Dump
command_in (from_rt_line mode rt rt_name image uic name) = FlxFromRt
command_in (to_rt_line mode image uic name rt rt_name) = FlxToRt
command_in (get_line told mode image dir name host) = Get
command_in (get_blocks_line told image dir name host) = Get
command_in (get_all_line mode image folder) = Get
command_in (home_line image) = Home
command_in (init_line blocks slots label max image) = Init
command_in (ls_line long image) = Ls
command_in (ls_in_line long image dir) = Ls
command_in (mkdir_line image dir) = Mkdir
command_in (name_line word) = Name
command_in (prot_line manner image dir name word) = Prot
command_in (purge_line manner image dir name) = Purge
command_in (put_line mode image dir name host) = Put
command_in (put_each_line manner fitted mode image dir host) = Put
command_in (put_all_line mode folder image) = Put
command_in (ren_line image dir name new) = Ren
command_in (rights_line caller owner word) = Rights
command_in (rt_copy_line blocks segments old new) = RtCopy
command_in (rt_copy_onto_line old new) = RtCopy
command_in (rt_del_line rt name) = RtDel
command_in (rt_get_line mode rt name host) = RtGet
command_in (rt_get_all_line rt folder) = RtGet
command_in (rt_init_line blocks segments image) = RtInit
command_in (rt_list_line image) = RtList
command_in (rt_ls_line rt) = RtLs
command_in (rt_prot_line rt name) = RtProt
command_in (rt_unprot_line rt name) = RtProt
command_in (rt_put_line mode rt name host) = RtPut
command_in (rt_put_each_line manner fitted mode rt host) = RtPut
command_in (rt_ren_line rt name new) = RtRen
command_in (rt_squeeze_line rt) = RtSqueeze
command_in (rt_vfy_line image) = RtVfy
command_in (run_line image script) = Run
command_in (quiet_run_line image script) = Run
command_in (trunc_line manner image dir name) = Trunc
command_in (vfy_line image) = Vfy
command_in (update_line image) = Vfy

-- and what it gives for each of the words that the command takes
abbrev pub given_in : CommandLine → List Given
given_in (del_line manner image dir name) = manner_given manner ++ text image ∷ text dir ∷ text name ∷ []
given_in (dump_line image number) = text image ∷ text number ∷ []
given_in (from_rt_line mode rt rt_name image uic name) = text mode ∷ text rt ∷ text rt_name ∷ text image ∷ text uic ∷ text name ∷ []
given_in (to_rt_line mode image uic name rt rt_name) = text mode ∷ text image ∷ text uic ∷ text name ∷ text rt ∷ text rt_name ∷ []
given_in (get_line told mode image dir name host) =
    is_there told ∷ is_there false ∷ is_there false ∷ says mode ∷ text image ∷ text dir ∷ text name ∷ text host ∷ []
given_in (get_blocks_line told image dir name host) =
    is_there told ∷ is_there false ∷ is_there true ∷ says None ∷ text image ∷ text dir ∷ text name ∷ text host ∷ []
given_in (get_all_line mode image folder) =
    is_there false ∷ is_there true ∷ is_there false ∷ says mode ∷ text image ∷ text folder ∷ says None ∷ says None ∷ []
given_in (home_line image) = text image ∷ []
given_in (init_line blocks slots label max image) = text blocks ∷ text slots ∷ text label ∷ says max ∷ text image ∷ []
given_in (ls_line long image) = is_there long ∷ text image ∷ says None ∷ []
given_in (ls_in_line long image dir) = is_there long ∷ text image ∷ text dir ∷ []
given_in (mkdir_line image dir) = text image ∷ text dir ∷ []
given_in (name_line word) = text word ∷ []
given_in (prot_line manner image dir name word) = manner_given manner ++ text image ∷ text dir ∷ text name ∷ text word ∷ []
given_in (purge_line manner image dir name) = manner_given manner ++ text image ∷ text dir ∷ says name ∷ []
given_in (put_line mode image dir name host) =
    manner_given GoesOn ++ is_there false ∷ is_there false ∷ is_there false ∷ says mode ∷ text image ∷ text dir ∷ text name ∷ text host ∷ []
given_in (put_each_line manner fitted mode image dir host) =
    manner_given manner ++ is_there false ∷ is_there true ∷ is_there fitted ∷ says mode ∷ text image ∷ text dir ∷ text host ∷ says None ∷ []
given_in (put_all_line mode folder image) =
    manner_given GoesOn ++ is_there true ∷ is_there false ∷ is_there false ∷ says mode ∷ text folder ∷ text image ∷ says None ∷ says None
    ∷ []
given_in (ren_line image dir name new) = text image ∷ text dir ∷ text name ∷ text new ∷ []
given_in (rights_line caller owner word) = text caller ∷ text owner ∷ text word ∷ []
given_in (rt_copy_line blocks segments old new) = is_there false ∷ says blocks ∷ says segments ∷ text old ∷ text new ∷ []
given_in (rt_copy_onto_line old new) = is_there true ∷ says None ∷ says None ∷ text old ∷ text new ∷ []
given_in (rt_del_line rt name) = text rt ∷ text name ∷ []
given_in (rt_get_line mode rt name host) = is_there false ∷ says mode ∷ text rt ∷ text name ∷ text host ∷ []
given_in (rt_get_all_line rt folder) = is_there true ∷ says None ∷ text rt ∷ text folder ∷ says None ∷ []
given_in (rt_init_line blocks segments image) = text blocks ∷ text segments ∷ text image ∷ []
given_in (rt_list_line image) = text image ∷ []
given_in (rt_ls_line rt) = text rt ∷ []
given_in (rt_prot_line rt name) = is_there false ∷ text rt ∷ text name ∷ []
given_in (rt_unprot_line rt name) = is_there true ∷ text rt ∷ text name ∷ []
given_in (rt_put_line mode rt name host) =
    manner_given GoesOn ++ is_there false ∷ is_there false ∷ says mode ∷ text rt ∷ text name ∷ text host ∷ []
given_in (rt_put_each_line manner fitted mode rt host) =
    manner_given manner ++ is_there true ∷ is_there fitted ∷ says mode ∷ text rt ∷ text host ∷ says None ∷ []
given_in (rt_ren_line rt name new) = text rt ∷ text name ∷ text new ∷ []
given_in (rt_squeeze_line rt) = text rt ∷ []
given_in (rt_vfy_line image) = text image ∷ []
given_in (run_line image script) = is_there false ∷ text image ∷ text script ∷ []
given_in (quiet_run_line image script) = is_there true ∷ text image ∷ text script ∷ []
given_in (trunc_line manner image dir name) = manner_given manner ++ text image ∷ text dir ∷ text name ∷ []
given_in (vfy_line image) = is_there false ∷ text image ∷ []
given_in (update_line image) = is_there true ∷ text image ∷ []

-- the words of a command line behind the program's name, options first
abbrev pub words_given : CommandLine → List (List ℕ)
words_given line = name_of (command_in line) ∷ written (words_of (command_in line)) (given_in line)

-- a word that begins with a hyphen (45) is an option
abbrev pub is_option : List ℕ → Bool
is_option [] = false
is_option (b ∷ bs) = b == 45

-- Words are those of a command line: the program's name stands before them, and none of the user's own is an option.
pub record IsLineOf (line : CommandLine) (words : List (List ℕ)) : Type 0 where
  pub program : List ℕ
  pub is_line : words ≡ program ∷ words_given line
  pub plain : All (λ word. is_option word ≡ false) (texts_in (given_in line))
