use Rattle.std.proofs.Common.{ℕ, List}
use Rattle.std.specs.Io.KnownBytes.{Appends}
use Rattle.std.specs.List.{concat}
use Rattle.f11_commands.proofs.RtTakingLemmas.{ReadsFirst}
use Rattle.f11_commands.proofs.rt_area.write_blocks.Given as goal

-- so many blocks were read and written
abbrev pub invariant-loop-place : goal.invariant-loop-place
invariant-loop-place g l = record {
  given : List (List ℕ);
  reads : ReadsFirst l.first l.place given (g.D.Device.disk l.fn.device) (g.D.Device.disk l.device);
  text : Appends (g.H.Write.contents l.fn.host) (g.H.Write.contents l.host) (concat given);
}
