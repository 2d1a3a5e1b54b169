use Rattle.std.proofs.Common.{◌≡◌, fold, take}
use Rattle.clap.specs.Words.{app_of, new_app}
use Rattle.f11_words.specs.Usage.{name_of}
use Rattle.f11_words.proofs.ToldLemmas.{with_table_word}
use Rattle.f11_words.proofs.program.told.Given as goal

-- the words so far
abbrev pub invariant-loop-word : goal.invariant-loop-word
invariant-loop-word l = app_of l.made ≡ fold with_table_word (new_app (name_of l.fn.command)) (take l.word-index l.word-items)
