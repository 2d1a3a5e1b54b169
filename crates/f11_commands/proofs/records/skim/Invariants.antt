use Rattle.std.proofs.Common.{ℕ, ◌+◌, ◌-◌, ◌*◌, List, length}
use Rattle.f11_flx.specs.ToText.{ending_of}
use Rattle.f11_commands.proofs.TakingTextLemmas.{Giving}
use Rattle.f11_commands.proofs.records.skim.Given as goal

-- the bytes so far were converted
abbrev pub invariant-loop-piece : goal.invariant-loop-piece
invariant-loop-piece l = record {
  given : List ℕ;
  held : Giving l.fn.text l.text l.source l.used given;
}

abbrev pub decreases-loop-piece : goal.decreases-loop-piece
decreases-loop-piece l = ending_of l.text + 3 * (length l.source - l.used)
