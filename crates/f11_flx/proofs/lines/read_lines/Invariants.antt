use Rattle.std.proofs.Common.{◌<◌}
use Rattle.f11_making.specs.Asking.{who_asks}
use Rattle.f11_flx.specs.Filling.{out_of}
use Rattle.f11_flx.specs.Passes.{ReadsLines}
use Rattle.f11_flx.proofs.lines.read_lines.Given as goal

-- the blocks so far were read, and those of their lines that are full were written
abbrev pub invariant-loop-place : goal.invariant-loop-place
invariant-loop-place g l = record {
  held : ReadsLines g.S.Asked.service g.E.Device.disk (who_asks l.by.task l.by.uic) l.by.lun l.name l.place l.fn.lines l.lines
      (out_of l.fn.out) (out_of l.out) l.fn.rt l.rt l.fn.service l.service;
  room : l.out.to < 512;
}
