use Rattle.f11_making.specs.Asking.{who_asks}
use Rattle.f11_flx.specs.Filling.{out_of}
use Rattle.f11_flx.proofs.ToRt.CopiesLemmas.{TextSoFar}
use Rattle.f11_flx.proofs.copies.copy_text.Given as goal

-- the first k blocks are converted
abbrev pub invariant-loop-k : goal.invariant-loop-k
invariant-loop-k g l =
    TextSoFar g.S.Asked.service g.T.Takes.took (who_asks l.by.task l.by.uic) l.by.lun l.name l.fn.text l.text l.k (out_of l.out)
    l.fn.service l.service l.fn.target l.target
