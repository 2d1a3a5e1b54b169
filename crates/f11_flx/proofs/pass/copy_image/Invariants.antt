use Rattle.f11_making.specs.Asking.{who_asks}
use Rattle.f11_flx.specs.Passes.{CopiesImage}
use Rattle.f11_flx.proofs.pass.copy_image.Given as goal

-- the blocks so far were copied
abbrev pub invariant-loop-place : goal.invariant-loop-place
invariant-loop-place g l =
    CopiesImage g.S.Asked.service g.E.Device.disk (who_asks l.by.task l.by.uic) l.by.lun l.name l.place l.fn.rt l.rt l.fn.service l.service
