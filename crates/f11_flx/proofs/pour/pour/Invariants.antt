use Rattle.std.proofs.Common.{◌+◌, ◌-◌, ◌*◌, ◌<◌, length}
use Rattle.f11_flx.specs.Filling.{Pouring, out_of}
use Rattle.f11_flx.specs.ToText.{ending_of}
use Rattle.f11_flx.proofs.pour.pour.Given as goal

-- the bytes so far are converted, and the block isn't full
abbrev pub invariant-loop-read : goal.invariant-loop-read
invariant-loop-read g l = record {
  held : Pouring g.T.Takes.took l.name l.fn.text l.text l.source l.used (out_of l.fn.out) (out_of l.out) l.fn.target l.target;
  room : l.out.to < 512;
}

abbrev pub decreases-loop-read : goal.decreases-loop-read
decreases-loop-read g l = l.out.to + ending_of l.text + 3 * (length l.source - l.used)
