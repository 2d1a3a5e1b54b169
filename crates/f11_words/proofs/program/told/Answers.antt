use Rattle.std.proofs.Common.{◌∙◌, ap, ap₂, fold, sym, take_all}
use Rattle.std.proofs.lemmas.List.Sums.{fold_more}
use Rattle.clap.specs.Words.{App, new_app, with_rule}
use Rattle.f11_words.specs.Told.{with_word}
use Rattle.f11_words.specs.Usage.{name_of}
use Rattle.f11_words.proofs.ToldLemmas.{by-words, with_table_word}
use Rattle.f11_words.proofs.program.told.Goals as goal

pub loop-word-preserved : goal.loop-word-preserved
loop-word-preserved c =
    c.in_ok-made.ensures.shape c.arg.ensures.local ∙ ap₂ with_rule c.loop-word.invariant c.arg.ensures.rule
    ∙ sym (fold_more with_table_word (new_app (name_of c.args.command)) c.words-word-items.result.now c.loop-word.word-index _
    c.loop-word-test.true)

pub returns : goal.returns
returns c =
    let words = c.words-word-items.result.now in
    let empty : App = new_app (name_of c.args.command) in
    c.loop-word.invariant ∙ ap (fold with_table_word empty) (take_all c.loop-word.word-index words c.loop-word-test.false)
    ∙ by-words empty words ∙ ap (fold with_word empty) c.words-word-items.ensures
