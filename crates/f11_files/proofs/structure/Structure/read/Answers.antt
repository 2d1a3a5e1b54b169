use Rattle.std.proofs.Common.{Err, refl, sym, ap, subst}
use Rattle.std.proofs.lemmas.Bool.{both_ways}
use Rattle.f11_vfy.specs.Frames.Read.{frame_index, frame_bitmap}
use Rattle.f11_files.specs.Opening.Opens.{ArePlacesApart}
use Rattle.f11_files.proofs.Opening.Opens.{no-home, frame-faulty, frame-fails, not-apart-damage, opens}
use Rattle.f11_files.proofs.structure.Structure.read.Goals as goal

pub returns-in-Err-NoHome-clause-refused : goal.returns-in-Err-NoHome-clause-refused
returns-in-Err-NoHome-clause-refused g c =
    no-home _ (g.met.D.Device.is_image c.args.device.now) c.requires _ (c.in-Err-NoHome.ensures.none (ap Err c.in-Err-NoHome.field-0-is))

pub returns-in-Ok-Faulty-clause-refused : goal.returns-in-Ok-Faulty-clause-refused
returns-in-Ok-Faulty-clause-refused g c =
    frame-faulty _ (g.met.D.Device.is_image c.args.device.now) c.requires _ _ c.in-Ok.ensures.found _ _ _
    (rw c.in-Ok-Faulty.field-0-is at c.in-Ok-Faulty.ensures.frames)

pub returns-in-Err-clause-refused : goal.returns-in-Err-clause-refused
returns-in-Err-clause-refused g c =
    rw c.structure_fault.ensures
    (frame-fails _ (g.met.D.Device.is_image c.args.device.now) c.requires _ _ c.in-Ok.ensures.found _ c.in-Err.fault
    (λ is. c.in-Err.ensures.failed (ap Err is)) (λ is. c.in-Err.ensures.no_memory (ap Err is)))

pub returns-then-not-are_apart-clause-refused : goal.returns-then-not-are_apart-clause-refused
returns-then-not-are_apart-clause-refused g c =
    not-apart-damage _ (g.met.D.Device.is_image c.args.device.now) c.requires _ _ c.in-Ok.ensures.found _
    (frame_bitmap c.in-Ok-Framed.frame) _ (rw c.in-Ok-Framed.field-0-is at c.in-Ok-Framed.ensures.frames)
    (λ apart. both_ways c.are_apart.result c.if-not-are_apart.true
    (c.are_apart.ensures.1 (subst ArePlacesApart (sym c.places.ensures) apart)))

pub returns-in-Ok-load-clause-reads : goal.returns-in-Ok-load-clause-reads
returns-in-Ok-load-clause-reads g c =
    opens _ (g.met.D.Device.is_image c.args.device.now) c.requires _ _ c.in-Ok.ensures.found (frame_index c.in-Ok-Framed.frame)
    (frame_bitmap c.in-Ok-Framed.frame) _
    (rw c.in-Ok-Framed.field-0-is at c.in-Ok-Framed.ensures.frames) _ _ refl c.into_index.ensures
    (rw (c.places-2.ensures, c.size.ensures) at c.in-Ok-load.ensures.loads)
