use Rattle.std.proofs.Common.{arith}
use Rattle.f11_script.proofs.InputLemmas.{byte_taken}
use Rattle.f11_script.proofs.input.ScriptReader.next.Goals as goal

pub returns-then-self-eq-LIMIT : goal.returns-then-self-eq-LIMIT
returns-then-self-eq-LIMIT g c =
    let s = c.refill.new.self in
    record {
      next = (
        c.in_ok-refill.ensures.filled.0,
        (omega (arith, c.if-self-eq-LIMIT.true), omega (arith, s.in_piece, c.if-self.false)),
        c.in_ok-refill.ensures.count,
      );
    }

pub returns : goal.returns
returns g c =
    let s = c.refill.new.self in
    record {
      next = (
        byte_taken _ s.piece s.at s.end _ (omega (arith, s.in_piece, c.if-self.false)) s.whole c.in_ok-refill.ensures.filled.0,
        omega (arith, c.in_ok-refill.ensures.count),
      );
    }
