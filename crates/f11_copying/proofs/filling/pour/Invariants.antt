use Rattle.std.proofs.Common.{◌-◌}
use Rattle.f11_making.specs.Asking.{who_asks}
use Rattle.f11_copying.specs.Copies.{pours}
use Rattle.f11_copying.specs.Courses.{both}
use Rattle.f11_copying.proofs.CourseLemmas.{RunsBack}
use Rattle.f11_copying.proofs.filling.pour.Given as goal

-- what the rest gives from here, all gives from the start
abbrev pub invariant-loop-place : goal.invariant-loop-place
invariant-loop-place g l =
    RunsBack g.S.Asked.service g.B.Blocks.gives (who_asks l.fn.by.task l.fn.by.uic) (pours l.fn.by.lun 0 l.fn.blocks)
    (both l.fn.service l.fn.source) (pours l.fn.by.lun l.place (l.fn.blocks - l.place)) (both l.service l.source)
