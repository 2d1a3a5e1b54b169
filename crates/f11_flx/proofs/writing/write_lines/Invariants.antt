use Rattle.std.proofs.Common.{◌<◌, ◌≤◌, length, drop}
use Rattle.f11_making.specs.Asking.{who_asks}
use Rattle.f11_flx.specs.Filling.{out_of}
use Rattle.f11_flx.specs.ToRecords.{bytes_to_come}
use Rattle.f11_flx.specs.Writing.{WritesPieces}
use Rattle.f11_flx.proofs.writing.write_lines.Given as goal

-- the bytes so far are converted, and the block isn't full
abbrev pub invariant-loop-read : goal.invariant-loop-read
invariant-loop-read g l = record {
  held : WritesPieces g.S.Asked.service (who_asks l.by.task l.by.uic) l.by.lun l.fn.lines l.lines l.source (drop l.used l.source)
      (out_of l.fn.out) (out_of l.out) l.fn.service l.service;
  room : l.out.to < 512;
  within : l.used ≤ length l.source;
}

abbrev pub decreases-loop-read : goal.decreases-loop-read
decreases-loop-read g l = length (bytes_to_come l.lines (drop l.used l.source))
