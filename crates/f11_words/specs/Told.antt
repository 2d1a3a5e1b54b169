-- The commands as `clap` is told of them (profile).
use Rattle.std.specs.Prelude.{Some, codes, fold}
use Rattle.clap.specs.Words.{App, Rule, new_app, new_rule, with_rule, with_subcommand}
use Rattle.clap.specs.declared.builder.action.ArgAction.TheVariants.{Set, SetTrue}
use Rattle.f11_words.specs.Usage.{Word, all_commands, flag, letter, name_of, option, place, words_of}
use Rattle.f11_words.specs.declared.usage.Subcommand.{Subcommand}
use Rattle.f11_words.specs.declared.usage.Word.{Word as TableWord}
use Rattle.f11_words.specs.declared.usage.Word.TheVariants as table

-- a word of the table
abbrev pub as_word : TableWord → Word
as_word (table.Flag name) = flag name.now
as_word (table.Letter name c) = letter name.now c
as_word (table.Option name is_needed) = option name.now is_needed
as_word (table.Place name is_needed) = place name.now is_needed

-- how clap is told of a word,
abbrev pub rule_for : Word → Rule
rule_for (flag name) = record (new_rule name) { long = Some name; action = Some SetTrue }
rule_for (letter name c) = record (new_rule name) { short = Some c; action = Some SetTrue }
rule_for (option name is_needed) = record (new_rule name) { long = Some name; required = is_needed; action = Some Set }
rule_for (place name is_needed) = record (new_rule name) { required = is_needed; action = Some Set }

-- of a command,
abbrev pub with_word : App → Word → App
with_word app word = with_rule app (rule_for word)

abbrev pub command_app : Subcommand → App
command_app command = fold with_word (new_app (name_of command)) (words_of command)

-- and of all
abbrev pub with_command : App → Subcommand → App
with_command app command = with_subcommand app (command_app command).top

abbrev pub program_app : App
program_app = fold with_command (new_app (codes "f11_pip")) all_commands
