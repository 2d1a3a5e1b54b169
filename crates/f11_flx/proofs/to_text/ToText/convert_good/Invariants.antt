use Rattle.std.proofs.Common.{◌+◌, ◌-◌, ◌≤◌, length}
use Rattle.f11_flx.specs.Puts.{PutsAt}
use Rattle.f11_flx.specs.ToText.{Converts}
use Rattle.f11_flx.proofs.to_text.ToText.convert_good.Given as goal

-- the bytes so far are converted
abbrev pub invariant-loop-to : goal.invariant-loop-to
invariant-loop-to l = record {
  converts : Converts l.fn.self l.self l.source l.used l.target l.from l.to;
  puts : PutsAt l.fn.target l.target l.from l.to;
  room : l.to ≤ 512;
}

abbrev pub decreases-loop-to : goal.decreases-loop-to
decreases-loop-to l = length l.source - l.used + (512 - l.to)
