use Rattle.std.proofs.Common.{ℕ, List}
use Rattle.f11_commands.proofs.RtFillLemmas.{Filled}
use Rattle.f11_commands.proofs.rt_put.filling.fill.Given as goal

-- so many blocks were filled
abbrev pub invariant-loop-place : goal.invariant-loop-place
invariant-loop-place g l = record {
  taken : List ℕ;
  pieces : List (List ℕ);
  filled : Filled g.D.Device.disk l.name l.bytes l.place l.left taken pieces (g.R.Read.remaining l.fn.host) (g.R.Read.remaining l.host)
      l.fn.volume l.volume;
}
