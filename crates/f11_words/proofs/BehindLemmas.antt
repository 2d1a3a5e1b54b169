-- What clap makes of the words of one command, behind its name.
use Rattle.std.proofs.Common.{ap, ◌∙◌, ◌≡◌, ◌&&◌, Bool, List, [], None, Option, Some, false, map, refl, true}
use Rattle.std.specs.List.{list_all}
use Rattle.clap.specs.Simple.{Shape, built_leaf}
use Rattle.clap.specs.Takes.{default_passes, is_valid, level_passes, settle_passes, walk_passes}
use Rattle.clap.specs.Walk.{Held, finished, nothing_held, rows_after, walk_from}
use Rattle.clap.specs.Words.{Text}
use Rattle.clap.proofs.OnLiterals.{clap_on_literals}
use Rattle.f11_words.specs.Lines.{
  CommandLine,
  command_in,
  given_in,
  del_line,
  dump_line,
  from_rt_line,
  get_all_line,
  get_blocks_line,
  get_line,
  home_line,
  init_line,
  ls_line,
  mkdir_line,
  name_line,
  prot_line,
  purge_line,
  put_all_line,
  put_each_line,
  put_line,
  quiet_run_line,
  ren_line,
  rights_line,
  rt_copy_line,
  rt_copy_onto_line,
  rt_del_line,
  rt_get_all_line,
  rt_get_line,
  rt_init_line,
  rt_list_line,
  rt_ls_line,
  rt_prot_line,
  rt_put_each_line,
  rt_put_line,
  rt_ren_line,
  rt_squeeze_line,
  rt_unprot_line,
  rt_vfy_line,
  run_line,
  to_rt_line,
  trunc_line,
  update_line,
  ls_in_line,
  vfy_line,
}
use Rattle.f11_words.specs.Reading.{as_found, found}
use Rattle.f11_words.specs.Told.{command_app}
use Rattle.f11_words.specs.Usage.{texts_in, words_of, written}
use Rattle.f11_words.specs.declared.usage.Subcommand.{Subcommand}
use Rattle.f11_words.specs.declared.usage.Subcommand.TheVariants.{
  Del,
  Dump,
  FlxFromRt,
  FlxToRt,
  Get,
  Home,
  Init,
  Ls,
  Mkdir,
  Name,
  Prot,
  Purge,
  Put,
  Ren,
  Rights,
  RtCopy,
  RtDel,
  RtGet,
  RtInit,
  RtList,
  RtLs,
  RtProt,
  RtPut,
  RtRen,
  RtSqueeze,
  RtVfy,
  Run,
  Trunc,
  Vfy,
}
use Rattle.f11_words.specs.declared.words.Manner.TheVariants.{GoesOn, Stops, Tells}
use Rattle.f11_words.proofs.WalkLemmas.{AreInOrderFrom, ArePlain, TakesFirst, TakesWords, held_from, passes-all, taken_from, walk-all}

-- a command as it is built, beside the others
abbrev pub leaf : Subcommand → Shape
leaf command = built_leaf (command_app command).top

-- how it takes its words
takes-words : (command : Subcommand) → TakesWords (leaf command) 1 (words_of command)
unfolding clap_on_literals
takes-words Del = (tt, (λ h rest. (refl, refl), (λ h word. refl, (λ h word. refl, (λ h word. refl, tt)))))
takes-words Dump = (λ h word. refl, (λ h word. refl, tt))
takes-words FlxFromRt =
    (λ h word rest. (refl, refl, refl), (λ h word. refl, (λ h word. refl, (λ h word. refl, (λ h word. refl, (λ h word. refl, tt))))))
takes-words FlxToRt =
    (λ h word rest. (refl, refl, refl), (λ h word. refl, (λ h word. refl, (λ h word. refl, (λ h word. refl, (λ h word. refl, tt))))))
takes-words Get = (
  tt,
  (
    λ h rest. (refl, refl),
    (
      λ h rest. (refl, refl),
      (λ h word rest. (refl, refl, refl), (λ h word. refl, (λ h word. refl, (λ h word. refl, (λ h word. refl, tt))))),
    ),
  ),
)
takes-words Home = (λ h word. refl, tt)
takes-words Init = (
  λ h word rest. (refl, refl, refl),
  (λ h word rest. (refl, refl, refl), (λ h word rest. (refl, refl, refl), (λ h word rest. (refl, refl, refl), (λ h word. refl, tt)))),
)
takes-words Ls = (tt, (λ h word. refl, (λ h word. refl, tt)))
takes-words Mkdir = (λ h word. refl, (λ h word. refl, tt))
takes-words Name = (λ h word. refl, tt)
takes-words Prot = (tt, (λ h rest. (refl, refl), (λ h word. refl, (λ h word. refl, (λ h word. refl, (λ h word. refl, tt))))))
takes-words Purge = (tt, (λ h rest. (refl, refl), (λ h word. refl, (λ h word. refl, (λ h word. refl, tt)))))
takes-words Put = (
  tt,
  (
    λ h rest. (refl, refl),
    (
      λ h rest. (refl, refl),
      (
        λ h rest. (refl, refl),
        (
          λ h rest. (refl, refl),
          (λ h word rest. (refl, refl, refl), (λ h word. refl, (λ h word. refl, (λ h word. refl, (λ h word. refl, tt))))),
        ),
      ),
    ),
  ),
)
takes-words Ren = (λ h word. refl, (λ h word. refl, (λ h word. refl, (λ h word. refl, tt))))
takes-words Rights = (λ h word. refl, (λ h word. refl, (λ h word. refl, tt)))
takes-words RtCopy = (
  λ h rest. (refl, refl),
  (λ h word rest. (refl, refl, refl), (λ h word rest. (refl, refl, refl), (λ h word. refl, (λ h word. refl, tt)))),
)
takes-words RtDel = (λ h word. refl, (λ h word. refl, tt))
takes-words RtGet =
    (λ h rest. (refl, refl), (λ h word rest. (refl, refl, refl), (λ h word. refl, (λ h word. refl, (λ h word. refl, tt)))))
takes-words RtInit = (λ h word rest. (refl, refl, refl), (λ h word rest. (refl, refl, refl), (λ h word. refl, tt)))
takes-words RtList = (λ h word. refl, tt)
takes-words RtLs = (λ h word. refl, tt)
takes-words RtProt = (λ h rest. (refl, refl), (λ h word. refl, (λ h word. refl, tt)))
takes-words RtPut = (
  tt,
  (
    λ h rest. (refl, refl),
    (
      λ h rest. (refl, refl),
      (λ h rest. (refl, refl), (λ h word rest. (refl, refl, refl), (λ h word. refl, (λ h word. refl, (λ h word. refl, tt))))),
    ),
  ),
)
takes-words RtRen = (λ h word. refl, (λ h word. refl, (λ h word. refl, tt)))
takes-words RtSqueeze = (λ h word. refl, tt)
takes-words RtVfy = (λ h word. refl, tt)
takes-words Run = (λ h rest. (refl, refl), (λ h word. refl, (λ h word. refl, tt)))
takes-words Trunc = (tt, (λ h rest. (refl, refl), (λ h word. refl, (λ h word. refl, (λ h word. refl, tt)))))
takes-words Vfy = (λ h rest. (refl, refl), (λ h word. refl, tt))

-- and a letter, where it comes first
takes-first : (command : Subcommand) → TakesFirst (leaf command) (words_of command)
unfolding clap_on_literals
takes-first Del = λ rest. (refl, refl)
takes-first Dump = tt
takes-first FlxFromRt = tt
takes-first FlxToRt = tt
takes-first Get = λ rest. (refl, refl)
takes-first Home = tt
takes-first Init = tt
takes-first Ls = λ rest. (refl, refl)
takes-first Mkdir = tt
takes-first Name = tt
takes-first Prot = λ rest. (refl, refl)
takes-first Purge = λ rest. (refl, refl)
takes-first Put = λ rest. (refl, refl)
takes-first Ren = tt
takes-first Rights = tt
takes-first RtCopy = tt
takes-first RtDel = tt
takes-first RtGet = tt
takes-first RtInit = tt
takes-first RtList = tt
takes-first RtLs = tt
takes-first RtProt = tt
takes-first RtPut = λ rest. (refl, refl)
takes-first RtRen = tt
takes-first RtSqueeze = tt
takes-first RtVfy = tt
takes-first Run = tt
takes-first Trunc = λ rest. (refl, refl)
takes-first Vfy = tt

-- the words behind a command's name, and what is held behind them
abbrev pub behind : CommandLine → List Text
behind line = written (words_of (command_in line)) (given_in line)

abbrev end_of : CommandLine → Held
end_of line = held_from (leaf (command_in line)) (words_of (command_in line)) (given_in line)

abbrev is_taken : CommandLine → Bool
is_taken line = taken_from (leaf (command_in line)) (words_of (command_in line)) (given_in line)

-- the command takes them,
abbrev passes_at : Shape → Bool → Held → Bool
passes_at s passes h = passes && (settle_passes s.rules s.args_override_self h && (list_all default_passes s.rules
    && is_valid s (finished s.rules h) false))

-- each line's words are in order, are taken, and are found as the line gives them
abbrev is_found : CommandLine → List (Option Text)
is_found line = map (λ word. found word (finished (leaf (command_in line)).rules (end_of line))) (words_of (command_in line))

line-met : (line : CommandLine) → AreInOrderFrom (words_of (command_in line)) (given_in line)
    × (passes_at (leaf (command_in line)) (is_taken line) (end_of line) ≡ true) × (is_found line ≡ map as_found (given_in line))
unfolding clap_on_literals
line-met (del_line GoesOn image dir name) = (tt, refl, refl)
line-met (del_line Stops image dir name) = (tt, refl, refl)
line-met (del_line Tells image dir name) = (tt, refl, refl)
line-met (dump_line image number) = (tt, refl, refl)
line-met (from_rt_line mode rt rt_name image uic name) = (tt, refl, refl)
line-met (to_rt_line mode image uic name rt rt_name) = (tt, refl, refl)
line-met (get_line false None image dir name host) = (tt, refl, refl)
line-met (get_line true None image dir name host) = (tt, refl, refl)
line-met (get_line false (Some mode) image dir name host) = (tt, refl, refl)
line-met (get_line true (Some mode) image dir name host) = (tt, refl, refl)
line-met (get_blocks_line false image dir name host) = (tt, refl, refl)
line-met (get_blocks_line true image dir name host) = (tt, refl, refl)
line-met (get_all_line None image folder) = (refl, refl, refl)
line-met (get_all_line (Some mode) image folder) = (refl, refl, refl)
line-met (home_line image) = (tt, refl, refl)
line-met (init_line blocks slots label None image) = (tt, refl, refl)
line-met (init_line blocks slots label (Some max) image) = (tt, refl, refl)
line-met (ls_line false image) = (refl, refl, refl)
line-met (ls_line true image) = (refl, refl, refl)
line-met (ls_in_line false image dir) = (tt, refl, refl)
line-met (ls_in_line true image dir) = (tt, refl, refl)
line-met (mkdir_line image dir) = (tt, refl, refl)
line-met (name_line word) = (tt, refl, refl)
line-met (prot_line GoesOn image dir name word) = (tt, refl, refl)
line-met (prot_line Stops image dir name word) = (tt, refl, refl)
line-met (prot_line Tells image dir name word) = (tt, refl, refl)
line-met (purge_line GoesOn image dir None) = (refl, refl, refl)
line-met (purge_line Stops image dir None) = (refl, refl, refl)
line-met (purge_line Tells image dir None) = (refl, refl, refl)
line-met (purge_line GoesOn image dir (Some name)) = (tt, refl, refl)
line-met (purge_line Stops image dir (Some name)) = (tt, refl, refl)
line-met (purge_line Tells image dir (Some name)) = (tt, refl, refl)
line-met (put_line None image dir name host) = (tt, refl, refl)
line-met (put_line (Some mode) image dir name host) = (tt, refl, refl)
line-met (put_each_line GoesOn false None image dir host) = (refl, refl, refl)
line-met (put_each_line Stops false None image dir host) = (refl, refl, refl)
line-met (put_each_line Tells false None image dir host) = (refl, refl, refl)
line-met (put_each_line GoesOn true None image dir host) = (refl, refl, refl)
line-met (put_each_line Stops true None image dir host) = (refl, refl, refl)
line-met (put_each_line Tells true None image dir host) = (refl, refl, refl)
line-met (put_each_line GoesOn false (Some mode) image dir host) = (refl, refl, refl)
line-met (put_each_line Stops false (Some mode) image dir host) = (refl, refl, refl)
line-met (put_each_line Tells false (Some mode) image dir host) = (refl, refl, refl)
line-met (put_each_line GoesOn true (Some mode) image dir host) = (refl, refl, refl)
line-met (put_each_line Stops true (Some mode) image dir host) = (refl, refl, refl)
line-met (put_each_line Tells true (Some mode) image dir host) = (refl, refl, refl)
line-met (put_all_line None folder image) = (refl, refl, refl)
line-met (put_all_line (Some mode) folder image) = (refl, refl, refl)
line-met (ren_line image dir name new) = (tt, refl, refl)
line-met (rights_line caller owner word) = (tt, refl, refl)
line-met (rt_copy_line None None old new) = (tt, refl, refl)
line-met (rt_copy_line None (Some segments) old new) = (tt, refl, refl)
line-met (rt_copy_line (Some blocks) None old new) = (tt, refl, refl)
line-met (rt_copy_line (Some blocks) (Some segments) old new) = (tt, refl, refl)
line-met (rt_copy_onto_line old new) = (tt, refl, refl)
line-met (rt_del_line rt name) = (tt, refl, refl)
line-met (rt_get_line None rt name host) = (tt, refl, refl)
line-met (rt_get_line (Some mode) rt name host) = (tt, refl, refl)
line-met (rt_get_all_line rt folder) = (refl, refl, refl)
line-met (rt_init_line blocks segments image) = (tt, refl, refl)
line-met (rt_list_line image) = (tt, refl, refl)
line-met (rt_ls_line rt) = (tt, refl, refl)
line-met (rt_prot_line rt name) = (tt, refl, refl)
line-met (rt_unprot_line rt name) = (tt, refl, refl)
line-met (rt_put_line None rt name host) = (tt, refl, refl)
line-met (rt_put_line (Some mode) rt name host) = (tt, refl, refl)
line-met (rt_put_each_line GoesOn false None rt host) = (refl, refl, refl)
line-met (rt_put_each_line Stops false None rt host) = (refl, refl, refl)
line-met (rt_put_each_line Tells false None rt host) = (refl, refl, refl)
line-met (rt_put_each_line GoesOn true None rt host) = (refl, refl, refl)
line-met (rt_put_each_line Stops true None rt host) = (refl, refl, refl)
line-met (rt_put_each_line Tells true None rt host) = (refl, refl, refl)
line-met (rt_put_each_line GoesOn false (Some mode) rt host) = (refl, refl, refl)
line-met (rt_put_each_line Stops false (Some mode) rt host) = (refl, refl, refl)
line-met (rt_put_each_line Tells false (Some mode) rt host) = (refl, refl, refl)
line-met (rt_put_each_line GoesOn true (Some mode) rt host) = (refl, refl, refl)
line-met (rt_put_each_line Stops true (Some mode) rt host) = (refl, refl, refl)
line-met (rt_put_each_line Tells true (Some mode) rt host) = (refl, refl, refl)
line-met (rt_ren_line rt name new) = (tt, refl, refl)
line-met (rt_squeeze_line rt) = (tt, refl, refl)
line-met (rt_vfy_line image) = (tt, refl, refl)
line-met (run_line image script) = (tt, refl, refl)
line-met (quiet_run_line image script) = (tt, refl, refl)
line-met (trunc_line GoesOn image dir name) = (tt, refl, refl)
line-met (trunc_line Stops image dir name) = (tt, refl, refl)
line-met (trunc_line Tells image dir name) = (tt, refl, refl)
line-met (vfy_line image) = (tt, refl, refl)
line-met (update_line image) = (tt, refl, refl)

pub takes-behind : (line : CommandLine) → ArePlain (texts_in (given_in line))
    → level_passes (leaf (command_in line)) [] nothing_held (behind line) false ≡ true
takes-behind line plain =
    let s = leaf (command_in line) in
    ap (λ h. passes_at s (walk_passes s [] (walk_from nothing_held) (behind line)) h)
    (walk-all s (words_of (command_in line)) (given_in line) (takes-first (command_in line)) (takes-words (command_in line))
    (line-met line).0 plain)
    ∙ ap (λ b. passes_at s b (end_of line))
    (passes-all s (words_of (command_in line)) (given_in line) (takes-first (command_in line)) (takes-words (command_in line))
    (line-met line).0 plain)
    ∙ (line-met line).1

-- and has of each word what the line gives for it
pub found-behind : (line : CommandLine) → ArePlain (texts_in (given_in line))
    → map (λ word. found word (rows_after (leaf (command_in line)).rules [] (behind line))) (words_of (command_in line))
    ≡ map as_found (given_in line)
found-behind line plain =
    let s = leaf (command_in line) in
    ap (λ h. map (λ word. found word (finished s.rules h)) (words_of (command_in line)))
    (walk-all s (words_of (command_in line)) (given_in line) (takes-first (command_in line)) (takes-words (command_in line))
    (line-met line).0 plain)
    ∙ (line-met line).2
