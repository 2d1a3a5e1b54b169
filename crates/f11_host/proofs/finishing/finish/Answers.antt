use Rattle.std.proofs.Common.{inr}
use Rattle.std.proofs.lemmas.Result.{IfErr-weaker, IfOk-weaker}
use Rattle.f11_host.proofs.finishing.finish.Goals as goal

pub returns-clause-granted : goal.returns-clause-granted
returns-clause-granted g c = λ first blocks.
    let k = c.in_ok-ask.ensures.granted in
    IfOk-weaker c.enter.result _ _ (λ _ granted. (c.ask.new.service, (k.0, _, k.1, k.2), granted))
    (c.enter.ensures.granted first blocks)

pub returns-clause-denied : goal.returns-clause-denied
returns-clause-denied g c = λ first blocks.
    let k = c.in_ok-ask.ensures.granted in
    IfErr-weaker c.enter.result _ _ (λ _ denied. inr (c.ask.new.service, (k.0, _, k.1, k.2), denied))
    (c.enter.ensures.denied first blocks)
