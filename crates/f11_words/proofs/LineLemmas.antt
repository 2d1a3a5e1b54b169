-- What clap makes of a command line.
use Rattle.std.proofs.Common.{ap, ap₂, arith, ◌∙◌, sym, ◌≡◌, ◌≤◌, ◌&&◌, ◌++◌, Bool, List, [], ◌∷◌, None, Some, codes, false, find, fold}
use Rattle.std.proofs.Common.{is_some, length, map, option_map, refl, true}
use Rattle.std.proofs.lemmas.List.{append-nil, append_assoc}
use Rattle.std.specs.List.{list_all}
use Rattle.std.specs.Option.{option_map_or}
use Rattle.std.specs.Str.{bytes_eq}
use Rattle.clap.specs.Simple.{App, Shape, built, entered, label_of, names_of}
use Rattle.clap.specs.Takes.{built_takes, default_passes, entered_passes, is_valid, level_passes, settle_passes, walk_passes}
use Rattle.clap.specs.Walk.{Held, Names, Rule, Text, Walk, answers_to, finished, idle, nothing_held, rows_after, subcommand_met, walk}
use Rattle.clap.specs.Walk.{walk_from, walked}
use Rattle.clap.specs.Words.{is_simple, is_simple_and_free, subcommand_of, takes}
use Rattle.clap.proofs.OnLiterals.{clap_on_literals}
use Rattle.f11_words.specs.Lines.{CommandLine, command_in, given_in, words_given}
use Rattle.f11_words.specs.Reading.{Meets, met_words}
use Rattle.f11_words.specs.Told.{program_app}
use Rattle.f11_words.specs.Usage.{name_of, texts_in, words_of}
use Rattle.f11_words.specs.declared.usage.Subcommand.{Subcommand}
use Rattle.f11_words.specs.declared.usage.Subcommand.TheVariants.{
  Del,
  Dump,
  FlxFromRt,
  FlxToRt,
  Get,
  Home,
  Init,
  Ls,
  Mkdir,
  Name,
  Prot,
  Purge,
  Put,
  Ren,
  Rights,
  RtCopy,
  RtDel,
  RtGet,
  RtInit,
  RtList,
  RtLs,
  RtProt,
  RtPut,
  RtRen,
  RtSqueeze,
  RtVfy,
  Run,
  Trunc,
  Vfy,
}
use Rattle.f11_words.proofs.BehindLemmas.{behind, found-behind, leaf, takes-behind}
use Rattle.f11_words.proofs.WalkLemmas.{ArePlain}

pub is_simple-program : is_simple program_app ≡ true
unfolding clap_on_literals
is_simple-program = refl

pub is_simple_and_free-program : is_simple_and_free program_app ≡ true
unfolding clap_on_literals
is_simple_and_free-program = refl

-- a walk that has met a subcommand keeps the words behind it
abbrev pub stopped_at : Held → Text → List Text → Walk
stopped_at h name met = record (walk_from h) { stopped = Some (name, met) }

walk-stopped : (c : List Rule) (names : Names) (h : Held) (name : Text) (met words : List Text)
    → fold (walked c names) (stopped_at h name met) words ≡ stopped_at h name (met ++ words)
unfolding walked
walk-stopped c names h name met [] = ap (stopped_at h name) (sym (append-nil met))
walk-stopped c names h name met (word ∷ words) =
    walk-stopped c names h name (met ++ word ∷ []) words ∙ ap (stopped_at h name) (append_assoc met (word ∷ []) words)

passes-stopped : (s : Shape) (names : Names) (h : Held) (name : Text) (met words : List Text)
    → walk_passes s names (stopped_at h name met) words ≡ true
unfolding walk_passes walked
passes-stopped s names h name met [] = refl
passes-stopped s names h name met (word ∷ words) = passes-stopped s names h name (met ++ word ∷ []) words

pub walk-command : (c : List Rule) (names : Names) (h : Held) (name : Text) (words : List Text) → subcommand_met names idle name ≡ Some name
    → walk c names h (name ∷ words) ≡ stopped_at h name words
unfolding walked
walk-command c names h name words met = rw met (walk-stopped c names h name [] words)

passes-command : (s : Shape) (names : Names) (h : Held) (name : Text) (words : List Text) → subcommand_met names idle name ≡ Some name
    → bytes_eq name (codes "help") ≡ false → walk_passes s names (walk_from h) (name ∷ words) ≡ true
unfolding walk_passes walked
passes-command s names h name words met no_help = rw (met, no_help) (passes-stopped s names h name [] words)

-- A built command takes the words of a subcommand where that takes them.
pub takes-command : (b : App) (name : Text) (words : List Text) → subcommand_met (names_of b) idle name ≡ Some name
    → bytes_eq name (codes "help") ≡ false → entered_passes b (Some (name, words)) ≡ true
    → (settle_passes b.top.rules b.top.args_override_self nothing_held && (list_all default_passes b.top.rules
    && is_valid b.top (finished b.top.rules nothing_held) (is_some (entered b (Some (name, words)))))) ≡ true
    → built_takes b nothing_held (name ∷ words) ≡ true
takes-command b name words met no_help passes others =
    ap (λ (w : Walk). entered_passes b w.stopped && (walk_passes b.top (names_of b) (walk_from nothing_held) (name ∷ words)
    && (settle_passes b.top.rules b.top.args_override_self w.held && (list_all default_passes b.top.rules
    && is_valid b.top (finished b.top.rules w.held) (is_some (entered b w.stopped))))))
    (walk-command b.top.rules (names_of b) nothing_held name words met)
    ∙ rw (passes, passes-command b.top (names_of b) nothing_held name words met no_help) others

-- each command is met by its name, which is no call for help, and built alone
command-met : (command : Subcommand) → (subcommand_met (names_of (built program_app)) idle (name_of command) ≡ Some (name_of command))
    × (bytes_eq (name_of command) (codes "help") ≡ false)
    × (find (λ s. answers_to (name_of command) (label_of s)) (built program_app).subs ≡ Some (leaf command))
    × ((leaf command).name ≡ name_of command)
command-met Del = (refl, refl, refl, refl)
command-met Dump = (refl, refl, refl, refl)
command-met FlxFromRt = (refl, refl, refl, refl)
command-met FlxToRt = (refl, refl, refl, refl)
command-met Get = (refl, refl, refl, refl)
command-met Home = (refl, refl, refl, refl)
command-met Init = (refl, refl, refl, refl)
command-met Ls = (refl, refl, refl, refl)
command-met Mkdir = (refl, refl, refl, refl)
command-met Name = (refl, refl, refl, refl)
command-met Prot = (refl, refl, refl, refl)
command-met Purge = (refl, refl, refl, refl)
command-met Put = (refl, refl, refl, refl)
command-met Ren = (refl, refl, refl, refl)
command-met Rights = (refl, refl, refl, refl)
command-met RtCopy = (refl, refl, refl, refl)
command-met RtDel = (refl, refl, refl, refl)
command-met RtGet = (refl, refl, refl, refl)
command-met RtInit = (refl, refl, refl, refl)
command-met RtList = (refl, refl, refl, refl)
command-met RtLs = (refl, refl, refl, refl)
command-met RtProt = (refl, refl, refl, refl)
command-met RtPut = (refl, refl, refl, refl)
command-met RtRen = (refl, refl, refl, refl)
command-met RtSqueeze = (refl, refl, refl, refl)
command-met RtVfy = (refl, refl, refl, refl)
command-met Run = (refl, refl, refl, refl)
command-met Trunc = (refl, refl, refl, refl)
command-met Vfy = (refl, refl, refl, refl)

-- clap takes a command line's words,
pub takes-line : (line : CommandLine) (program : Text) → ArePlain (texts_in (given_in line))
    → takes program_app (program ∷ words_given line) ≡ true
takes-line line program plain =
    let met = command-met (command_in line) in
    ap (λ (p : Bool). p && built_takes (built program_app) nothing_held (words_given line)) is_simple-program
    ∙ takes-command (built program_app) (name_of (command_in line)) (behind line) met.0 met.1
    (ap (λ o. option_map_or (λ s. level_passes s [] nothing_held (behind line) false) o true) met.2 ∙ takes-behind line plain) refl

-- and meets its command, with what it gives for each word
pub meets-line : (line : CommandLine) (program : Text) → ArePlain (texts_in (given_in line))
    → Meets line (subcommand_of program_app (program ∷ words_given line))
meets-line line program plain =
    let met = command-met (command_in line) in
    ap (λ (w : Walk). met_words (words_of (command_in line)) (entered (built program_app) w.stopped))
    (walk-command (built program_app).top.rules (names_of (built program_app)) nothing_held (name_of (command_in line)) (behind line) met.0)
    ∙ ap (λ o. met_words (words_of (command_in line)) (option_map (λ s. (s.name, rows_after s.rules [] (behind line))) o)) met.2
    ∙ ap₂ (λ name values. Some (name, values)) met.3 (found-behind line plain)

-- no words at all are no command's
pub subcommand_of-none : {X : Type 0} (text : X → Text) (words : List X) → length words ≤ 1
    → subcommand_of program_app (map text words) ≡ None
unfolding clap_on_literals
subcommand_of-none text [] few = refl
subcommand_of-none text (program ∷ []) few = refl
subcommand_of-none text (program ∷ word ∷ words) few = absurd (omega (arith, few))
