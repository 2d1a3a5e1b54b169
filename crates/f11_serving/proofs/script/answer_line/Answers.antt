use Rattle.std.proofs.lemmas.Result.{err_from_is_err_and}
use Rattle.f11_runs.specs.Each.{answer_with, call_with}
use Rattle.f11_serving.proofs.ServedLemmas.{one-request}
use Rattle.f11_serving.proofs.script.answer_line.Goals as goal

pub returns-in_ok-reply-in-Asks : goal.returns-in_ok-reply-in-Asks
returns-in_ok-reply-in-Asks g c =
    let asked = rw c.in-Asks.is at c.parse.ensures.exact in
    record {
      answers = (
        _,
        one-request g.S.Asked.service.serves _ _ (call_with c.in-Asks.task c.in-Asks.caller c.in-Asks.request c.parse.new.block)
            (answer_with c.serve-answer.result c.serve-answer.new.block) _ _ asked c.serve-answer.ensures.serves,
        c.in_ok-reply-in-Asks.ensures.done,
      );
    }

pub returns-in_err-reply-in-Asks : goal.returns-in_err-reply-in-Asks
returns-in_err-reply-in-Asks g c =
    let asked = rw c.in-Asks.is at c.parse.ensures.exact in
    let p = err_from_is_err_and c.from_residual.result c.from_residual.ensures.1 in
    record {
      answers = rw (p.1, p.2) (
        _,
        1,
        one-request g.S.Asked.service.serves _ _ (call_with c.in-Asks.task c.in-Asks.caller c.in-Asks.request c.parse.new.block)
            (answer_with c.serve-answer.result c.serve-answer.new.block) _ _ asked c.serve-answer.ensures.serves,
        c.in_err-reply-in-Asks.ensures.failed,
        c.in_err-reply-in-Asks.ensures.error,
      );
    }
