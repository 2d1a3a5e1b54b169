use Rattle.f11_making.specs.Asking.{who_asks}
use Rattle.f11_host.proofs.FillLemmas.{Written}
use Rattle.f11_host.proofs.filling.write_bytes.Given as goal

-- so many blocks were written
abbrev pub invariant-loop-place : goal.invariant-loop-place
invariant-loop-place g l =
    Written g.S.Asked.service (who_asks l.by.task l.by.uic) l.by.lun l.bytes l.place l.left (g.R.Read.remaining l.fn.host)
    (g.R.Read.remaining l.host) l.fn.service l.service
