use Rattle.f11_making.specs.Asking.{who_asks}
use Rattle.f11_flx.specs.Copies.{CopiesBlocks}
use Rattle.f11_flx.proofs.copies.copy_blocks.Given as goal

-- the first k blocks are copied
abbrev pub invariant-loop-k : goal.invariant-loop-k
invariant-loop-k g l =
    CopiesBlocks g.S.Asked.service g.T.Takes.took (who_asks l.by.task l.by.uic) l.by.lun l.name l.k l.fn.service l.service l.fn.target
    l.target
