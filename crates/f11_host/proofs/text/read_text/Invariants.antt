use Rattle.f11_making.specs.Asking.{who_asks}
use Rattle.f11_flx.specs.Filling.{out_of}
use Rattle.f11_host.proofs.TextLemmas.{Reading}
use Rattle.f11_host.proofs.text.read_text.Given as goal

-- all were read but so many, and the blocks of their lines that are full were written
abbrev pub invariant-loop-left : goal.invariant-loop-left
invariant-loop-left g l =
    Reading g.S.Asked.service (who_asks l.by.task l.by.uic) l.by.lun l.bytes l.left l.cr l.fn.lines l.lines (out_of l.fn.out) (out_of l.out)
    (g.R.Read.remaining l.fn.host) (g.R.Read.remaining l.host) l.fn.service l.service

abbrev pub decreases-loop-left : goal.decreases-loop-left
decreases-loop-left g l = l.left
