use Rattle.std.proofs.Common.{IsOk, refl, subst, sym, ◌∙◌}
use Rattle.f11_patterns.proofs.FittingLemmas.{only-ok}
use Rattle.f11_actions.specs.RtNamed.{rt_candidate}
use Rattle.f11_actions.proofs.RtNamedLemmas.{rt-candidate-spelled, rt-six}
use Rattle.f11_actions.proofs.rt_named.candidate.Goals as goal

pub fitted_text-text-requires-clause-number : goal.fitted_text-text-requires-clause-number
fitted_text-text-requires-clause-number c = rt-six c.args.part.now c.args.number c.requires.some c.requires.few

pub unwrap-requires : goal.unwrap-requires
unwrap-requires c =
    let spells = rt-candidate-spelled c.args.part.now c.args.number c.requires.some c.requires.few c.as_slice.result.now
    (c.as_slice.ensures.value ∙ c.fitted_text-text.ensures.text) in
    subst IsOk (sym (c.parse.ensures.every (rt_candidate c.args.part.now c.args.number) spells)) refl

pub returns : goal.returns
returns c =
    let spells = rt-candidate-spelled c.args.part.now c.args.number c.requires.some c.requires.few c.as_slice.result.now
    (c.as_slice.ensures.value ∙ c.fitted_text-text.ensures.text) in
    let same = c.parse.ensures.every (rt_candidate c.args.part.now c.args.number) spells in
    only-ok c.parse.result c.unwrap.result (rt_candidate c.args.part.now c.args.number) c.unwrap.ensures same
