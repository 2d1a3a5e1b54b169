use Rattle.std.proofs.lemmas.Result.{IfOk-weaker}
use Rattle.f11_vfy.proofs.Surveying.Over.{over-volume, judges-volume, judges-frame}
use Rattle.f11_vfy.proofs.verifier.examine.Goals as goal

pub returns-in-Framed-clause-judges : goal.returns-in-Framed-clause-judges
returns-in-Framed-clause-judges g c =
    IfOk-weaker c.examine_volume.result _ _
    (λ found is. judges-volume _ _ _ _ _ (rw c.in-Framed.is at c.in_ok-frame.ensures.frames) c.args.of _ _ is)
    c.examine_volume.ensures.judges

pub returns-in-Framed-clause-failed : goal.returns-in-Framed-clause-failed
returns-in-Framed-clause-failed g c is =
    over-volume _ _ _ _ _ 1 (rw c.in-Framed.is at c.in_ok-frame.ensures.frames) (c.examine_volume.ensures.failed is)

pub returns-in-Framed-clause-no_memory : goal.returns-in-Framed-clause-no_memory
returns-in-Framed-clause-no_memory g c is =
    over-volume _ _ _ _ _ 0 (rw c.in-Framed.is at c.in_ok-frame.ensures.frames) (c.examine_volume.ensures.no_memory is)

pub returns-in_ok-one_fault-in-Faulty-clause-judges : goal.returns-in_ok-one_fault-in-Faulty-clause-judges
returns-in_ok-one_fault-in-Faulty-clause-judges g c =
    rw c.new.ensures
    (judges-frame c.args.of _ _ _ _ _ (rw c.in-Faulty.is at c.in_ok-frame.ensures.frames) c.in_ok-one_fault-in-Faulty.ensures)
