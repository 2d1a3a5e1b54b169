use Rattle.std.proofs.Common.{ℕ, List, length, ap, arith}
use Rattle.std.proofs.lemmas.List.{length-drop}
use Rattle.rt11_text.proofs.from_host.FromHost.make_ready.Goals as goal
use Rattle.rt11_text.proofs.from_host.FromHost.make_ready.Goals.{else-wanted-gt0-via-then-wanted-gt0+else-self-len}
use Rattle.rt11_text.proofs.from_host.FromHost.make_ready.Goals.{else-wanted-gt0-via-else-wanted-gt0}

pub returns-else-wanted-gt0-clause-end : goal.returns-else-wanted-gt0-clause-end
returns-else-wanted-gt0-clause-end g c wanted none =
    let size = ap (λ (l : List ℕ). length l) none in
    elim c.else-wanted-gt0.branch [
      | else-wanted-gt0-via-then-wanted-gt0+else-self-len w ↦
          absurd (omega (
            arith,
            size,
            length-drop c.args.self.now.given c.args.self.now.text.items,
            w.if-self-len.false,
            w.len.ensures.value,
          ))
      | else-wanted-gt0-via-else-wanted-gt0 w ↦ absurd (omega (arith, wanted, w.if-wanted-gt0.false))
    ]
