-- What clap is told of, word by word and command by command.
use Rattle.std.proofs.Common.{◌≡◌, ◌&&◌, Bool, List, [], ◌∷◌, false, fold, map, not, refl, true}
use Rattle.clap.specs.Words.{App}
use Rattle.f11_words.specs.Told.{as_word, with_word}
use Rattle.f11_words.specs.Usage.{Word}
use Rattle.f11_words.specs.declared.usage.Word.{Word as TableWord}

abbrev pub with_table_word : App → TableWord → App
with_table_word app word = with_word app (as_word word)

-- word by word of the table, or of what it says
pub by-words : (app : App) (words : List TableWord) → fold with_table_word app words ≡ fold with_word app (map as_word words)
by-words app [] = refl
by-words app (word ∷ words) = by-words (with_table_word app word) words

-- the third of the settings isn't made
pub third_not : (a b c d : Bool) → (a && (not b && (not c && d))) ≡ true → c ≡ false
third_not true false false d all = refl
third_not true false true d all = cc
third_not true true c d all = cc
third_not false b c d all = cc

-- a command with words is a plain one still
pub plain-words : (app : App) (words : List Word) → (fold with_word app words).top.is_plain ≡ app.top.is_plain
plain-words app [] = refl
plain-words app (word ∷ words) = plain-words (with_word app word) words
