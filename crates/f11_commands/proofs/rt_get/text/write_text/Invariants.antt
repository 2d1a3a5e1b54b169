use Rattle.std.proofs.Common.{◌≡◌, ◌≤◌, ◌*◌, ℕ, List, length}
use Rattle.std.specs.Io.KnownBytes.{Appends}
use Rattle.f11_commands.proofs.RtTakingLemmas.{ReadsFirst}
use Rattle.f11_commands.proofs.RtTextLemmas.{Gives}
use Rattle.f11_commands.proofs.rt_get.text.write_text.Given as goal

-- so many blocks were read, and what they give was written
abbrev pub invariant-loop-place : goal.invariant-loop-place
invariant-loop-place g l = record {
  read : List (List ℕ);
  given : List ℕ;
  reads : ReadsFirst l.first l.place read (g.D.Device.disk l.fn.device) (g.D.Device.disk l.device);
  gives : Gives read given l.text;
  takes : Appends (g.H.Write.contents l.fn.host) (g.H.Write.contents l.host) given;
  size : l.bytes ≡ length given;
  few : l.bytes ≤ 1024 * l.place;
}
