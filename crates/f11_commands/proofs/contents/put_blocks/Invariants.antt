use Rattle.std.proofs.Common.{ℕ, List}
use Rattle.std.specs.Io.KnownBytes.{Appends}
use Rattle.f11_index.specs.Kept.{index_kept}
use Rattle.f11_commands.proofs.TakingOutLemmas.{Taken}
use Rattle.f11_commands.proofs.contents.put_blocks.Given as goal

-- so many blocks were read, and what they hold before the end was written
abbrev pub invariant-loop-left : goal.invariant-loop-left
invariant-loop-left g l = record {
  k : ℕ;
  text : List ℕ;
  taken : Taken (index_kept l.index) l.fn.file l.reader l.fn.end l.left k text (g.D.Device.disk l.fn.device) (g.D.Device.disk l.device);
  takes : Appends (g.W.Write.contents l.fn.writer) (g.W.Write.contents l.writer) text;
}

abbrev pub decreases-loop-left : goal.decreases-loop-left
decreases-loop-left g l = l.left
