use Rattle.std.proofs.Common.{◌≡◌, ◌≤◌, ◌*◌, ℕ, List, ◌++◌, drop, length}
use Rattle.rt11_text.specs.ToHost.{text_behind}
use Rattle.rt11_text.proofs.to_host.ToHost.convert.Given as goal

-- so many bytes were taken
abbrev pub invariant-loop-at : goal.invariant-loop-at
invariant-loop-at l = record {
  gives : (rest : List ℕ) → text_behind l.fn.self (l.source ++ rest) ≡ l.into.items ++ text_behind l.self (drop l.at l.source ++ rest);
  few : length l.into.items ≤ 2 * l.at;
}
