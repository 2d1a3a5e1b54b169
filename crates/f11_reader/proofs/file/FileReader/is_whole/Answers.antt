use Rattle.std.proofs.Common.{Ok, ap, nat_eq}
use Rattle.f11_store.specs.declared.files.FileId.{FileId}
use Rattle.f11_reader.proofs.MissingLemmas.{ending-all, ending-more, ending-none}
use Rattle.f11_reader.proofs.file.FileReader.is_whole.Goals as goal

pub loop-init : goal.loop-init
loop-init g c = record { k = 0; ending = ending-none _ _ _ c.requires.reading }

pub loop-preserved : goal.loop-preserved
loop-preserved g c = record {
  k = _;
  ending = ending-more _ _ _ _ _ _ c.loop.invariant.ending _ _ (c.in_ok-next_header.ensures.steps (ap Ok c.if-branch.true))
      c.in_ok-next_header.ensures.reading;
}

pub returns-clause-tells : goal.returns-clause-tells
returns-clause-tells g c =
    ending-all _ _ _ _ _ _ c.loop.invariant.ending _ _ (c.in_ok-next_header.ensures.none (ap Ok c.if-branch.false)) _
    (ap (λ (id : FileId). nat_eq id.number 0) c.link.ensures)
