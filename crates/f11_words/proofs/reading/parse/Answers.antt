use Rattle.std.proofs.Common.{◌≡◌, ◌∙◌, ap, ap₂, inr, map, refl, subst, sym}
use Rattle.clap.specs.Words.{fault_of, is_simple, is_simple_and_free, subcommand_of, takes}
use Rattle.f11_words.specs.Asking.{Asks, IsUnreadable}
use Rattle.f11_words.specs.Reading.{Meets}
use Rattle.f11_words.specs.declared.reading.Failure.TheVariants.{Usage}
use Rattle.f11_words.proofs.LineLemmas.{is_simple-program, is_simple_and_free-program, meets-line, subcommand_of-none, takes-line}
use Rattle.f11_words.proofs.ReadingLemmas.{out-of-memory}
use Rattle.f11_words.proofs.reading.parse.Goals as goal

pub returns-in_err-matches-clause-asks : goal.returns-in_err-matches-clause-asks
returns-in_err-matches-clause-asks g c line is =
    out-of-memory (Asks line) (λ failure. (failure ≡ Usage) × IsUnreadable line) c.from_residual-in_err-matches.result _
    c.from_residual-in_err-matches.ensures.1
    (c.in_err-matches.ensures.passes (ap₂ takes c.in_ok-program.ensures is.is_line ∙ takes-line line is.program is.plain))

pub returns-in_err-matches-clause-met : goal.returns-in_err-matches-clause-met
returns-in_err-matches-clause-met g c line is_taken is =
    out-of-memory (Asks line) (λ failure. (failure ≡ Usage) × IsUnreadable line) c.from_residual-in_err-matches.result _
    c.from_residual-in_err-matches.ensures.1
    (c.in_err-matches.ensures.passes (ap (λ app. takes app (map g.S.AsStr.text c.args.words.now)) c.in_ok-program.ensures ∙ is_taken))

pub returns-clause-asks : goal.returns-clause-asks
returns-clause-asks g c line is =
    let simple = ap is_simple c.in_ok-program.ensures ∙ is_simple-program in
    let met = (c.in_ok-matches.ensures.matches simple).1 ∙ ap₂ subcommand_of c.in_ok-program.ensures is.is_line in
    inr (refl, c.in-None.ensures.asks line (subst (Meets line) (sym met) (meets-line line is.program is.plain)))

pub returns-clause-met : goal.returns-clause-met
returns-clause-met g c line is_taken is =
    let simple = ap is_simple c.in_ok-program.ensures ∙ is_simple-program in
    let met = (c.in_ok-matches.ensures.matches simple).1
    ∙ ap (λ app. subcommand_of app (map g.S.AsStr.text c.args.words.now)) c.in_ok-program.ensures in
    inr (refl, c.in-None.ensures.asks line (subst (Meets line) (sym met) is))

pub returns-in-Some-clause-asks : goal.returns-in-Some-clause-asks
returns-in-Some-clause-asks g c line is =
    let simple = ap is_simple c.in_ok-program.ensures ∙ is_simple-program in
    let met = (c.in_ok-matches.ensures.matches simple).1 ∙ ap₂ subcommand_of c.in_ok-program.ensures is.is_line in
    c.in-Some.ensures.asks line (subst (Meets line) (sym met) (meets-line line is.program is.plain))

pub returns-in-Some-clause-met : goal.returns-in-Some-clause-met
returns-in-Some-clause-met g c line is_taken is =
    let simple = ap is_simple c.in_ok-program.ensures ∙ is_simple-program in
    let met = (c.in_ok-matches.ensures.matches simple).1
    ∙ ap (λ app. subcommand_of app (map g.S.AsStr.text c.args.words.now)) c.in_ok-program.ensures in
    c.in-Some.ensures.asks line (subst (Meets line) (sym met) is)

pub returns-in-Some-clause-refused : goal.returns-in-Some-clause-refused
returns-in-Some-clause-refused g c faulty =
    let free = ap is_simple_and_free c.in_ok-program.ensures ∙ is_simple_and_free-program in
    absurd (faulty (sym (ap (λ app. fault_of app (map g.S.AsStr.text c.args.words.now)) c.in_ok-program.ensures)
    ∙ c.in_ok-matches.ensures.kinds free))

pub returns-in-Some-clause-none : goal.returns-in-Some-clause-none
returns-in-Some-clause-none g c few =
    let simple = ap is_simple c.in_ok-program.ensures ∙ is_simple-program in
    let met = (c.in_ok-matches.ensures.matches simple).1
    ∙ ap (λ app. subcommand_of app (map g.S.AsStr.text c.args.words.now)) c.in_ok-program.ensures in
    let none = c.in-Some.ensures.none (met ∙ subcommand_of-none g.S.AsStr.text c.args.words.now few) in
    absurd cc
