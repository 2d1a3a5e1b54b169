use Rattle.std.proofs.Common.{◌∷◌, [], IsOk, ap, arith, length, length-append, refl, rules, subst, sym, ◌∙◌}
use Rattle.f11_patterns.specs.Fitting.{candidate}
use Rattle.f11_patterns.proofs.FittingLemmas.{candidate-spelled, only-ok, six, text-length}
use Rattle.f11_patterns.proofs.fitting.candidate.Goals as goal

pub fitted_text-text-requires-clause-number : goal.fitted_text-text-requires-clause-number
fitted_text-text-requires-clause-number c = omega (arith, six c.args.part.now c.args.number c.requires.some c.requires.few)

pub push-requires : goal.push-requires
push-requires c =
    let few = six c.args.part.now c.args.number c.requires.some c.requires.few in
    let short = text-length 9 c.args.number c.args.part.now (omega (arith, few)) in
    let same = ap length c.fitted_text-text.ensures.text in
    (search (rules, arith), omega (arith, short, same))

pub push-requires-2 : goal.push-requires-2
push-requires-2 c =
    let few = six c.args.part.now c.args.number c.requires.some c.requires.few in
    let short = text-length 9 c.args.number c.args.part.now (omega (arith, few)) in
    let same = ap length c.fitted_text-text.ensures.text in
    let more = ap length c.push.ensures.items ∙ length-append c.fitted_text-text.result.items (59 ∷ []) in
    (search (rules, arith), omega (arith, short, same, more))

pub unwrap-requires : goal.unwrap-requires
unwrap-requires c =
    let spells = candidate-spelled c.args.part.now c.args.number c.requires.some c.requires.few c.fitted_text-text.result.items
    c.push.new.self.items c.as_slice.result.now c.fitted_text-text.ensures.text c.push.ensures.items
    (c.as_slice.ensures.value ∙ c.push-2.ensures.items) in
    subst IsOk (sym (c.parse.ensures.every (candidate c.args.part.now c.args.number) spells)) refl

pub returns : goal.returns
returns c =
    let spells = candidate-spelled c.args.part.now c.args.number c.requires.some c.requires.few c.fitted_text-text.result.items
    c.push.new.self.items c.as_slice.result.now c.fitted_text-text.ensures.text c.push.ensures.items
    (c.as_slice.ensures.value ∙ c.push-2.ensures.items) in
    let same = c.parse.ensures.every (candidate c.args.part.now c.args.number) spells in
    only-ok c.parse.result c.unwrap.result (candidate c.args.part.now c.args.number) c.unwrap.ensures same
