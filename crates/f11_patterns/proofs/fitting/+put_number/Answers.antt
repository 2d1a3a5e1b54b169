use Rattle.std.proofs.Common.{◌≡◌, ◌<◌, ◌+◌, ◌/◌, ◌%◌, ◌∷◌, ◌++◌, [], ap, append-nil, append_assoc, arith, length, length-append, rules}
use Rattle.std.proofs.Common.{sym, ◌∙◌}
use Rattle.f11_patterns.specs.Fitting.{numeral}
use Rattle.f11_patterns.proofs.FittingLemmas.{length-numeral-step, numeral-step, numeral-zero}
use Rattle.f11_patterns.proofs.fitting.+put_number.Goals as goal

pub returns-then-number-eq0 : goal.returns-then-number-eq0
returns-then-number-eq0 t c = rw (c.if-number-eq0.true, numeral-zero) (sym (append-nil c.args.into.now.items))

pub put_number-requires : goal.put_number-requires
put_number-requires t c =
    let some : 0 < c.args.number = omega arith in
    (search (rules, arith), omega (arith, length-numeral-step c.args.number some, c.requires.room))

pub push-requires : goal.push-requires
push-requires t c =
    let some : 0 < c.args.number = omega arith in
    let long : length c.put_number.new.into.items ≡ length c.args.into.now.items + length (numeral (c.args.number / 10)) =
    ap length c.put_number.ensures ∙ length-append c.args.into.now.items (numeral (c.args.number / 10)) in
    (search (rules, arith), omega (arith, long, length-numeral-step c.args.number some, c.requires.room))

pub returns : goal.returns
returns t c =
    let some : 0 < c.args.number = omega arith in
    c.push.ensures.items
    ∙ ap (λ xs. xs ++ (48 + c.args.number % 10) ∷ []) c.put_number.ensures
    ∙ append_assoc c.args.into.now.items (numeral (c.args.number / 10)) ((48 + c.args.number % 10) ∷ [])
    ∙ ap (λ xs. c.args.into.now.items ++ xs) (sym (numeral-step c.args.number some))
