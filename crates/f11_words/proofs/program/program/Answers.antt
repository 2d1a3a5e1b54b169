use Rattle.std.proofs.Common.{◌∙◌, ◌≡◌, ◌<◌, List, ap, ap₂, arith, codes, fold, length, subst, sym, take}
use Rattle.std.proofs.lemmas.List.Sums.{fold_more}
use Rattle.clap.specs.Words.{App, app_of, new_app, with_subcommand}
use Rattle.f11_words.specs.Usage.{name_of, words_of}
use Rattle.f11_words.specs.Told.{command_app, with_command}
use Rattle.f11_words.specs.declared.usage.Subcommand.{Subcommand}
use Rattle.f11_words.proofs.ToldLemmas.{plain-words, third_not}
use Rattle.f11_words.proofs.program.program.Goals as goal

pub loop-command-init : goal.loop-command-init
loop-command-init c = c.new-program.ensures.app

pub loop-command-preserved : goal.loop-command-preserved
loop-command-preserved c =
    let told : app_of c.in_ok-told.field-0 ≡ command_app _ = c.in_ok-told.ensures in
    let plain = ap (λ (a : App). a.top.is_plain) told ∙ plain-words (new_app (name_of _)) (words_of _) in
    c.in_ok-program.ensures.shape (third_not _ _ _ _ plain)
    ∙ ap₂ with_subcommand c.loop-command.invariant (ap (λ (a : App). a.top) told)
    ∙ sym (fold_more with_command (new_app (codes "f11_pip")) c.all-command-items.result c.loop-command.command-index _
    (subst (λ (l : List Subcommand). c.loop-command.command-index < length l) (sym c.all-command-items.ensures) c.loop-command-test.true))

pub returns : goal.returns
returns c =
    let empty : App = new_app (codes "f11_pip") in
    let all : c.loop-command.command-index ≡ 29 = omega (arith, c.loop-command-test.false, c.loop-command.auto.command-index-end) in
    c.loop-command.invariant
    ∙ ap (λ n. fold with_command empty (take n c.all-command-items.result)) all
    ∙ ap (λ commands. fold with_command empty (take 29 commands)) c.all-command-items.ensures
