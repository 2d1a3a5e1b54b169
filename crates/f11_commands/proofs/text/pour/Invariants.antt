use Rattle.std.proofs.Common.{◌≡◌, ℕ, ◌+◌, ◌-◌, ◌*◌, List, length}
use Rattle.std.specs.Io.KnownBytes.{Appends}
use Rattle.f11_flx.specs.ToText.{ending_of}
use Rattle.f11_commands.proofs.TakingTextLemmas.{Giving}
use Rattle.f11_commands.proofs.text.pour.Given as goal

-- the bytes so far were converted, and what they give was written
abbrev pub invariant-loop-used : goal.invariant-loop-used
invariant-loop-used g l = record {
  given : List ℕ;
  counted : length given ≡ l.count;
  held : Giving l.fn.text l.text l.source l.used given;
  takes : Appends (g.W.Write.contents l.fn.writer) (g.W.Write.contents l.writer) given;
}

abbrev pub decreases-loop-used : goal.decreases-loop-used
decreases-loop-used g l = ending_of l.text + 3 * (length l.source - l.used)
