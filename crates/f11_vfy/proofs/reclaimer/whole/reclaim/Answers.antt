use Rattle.f11_vfy.proofs.Reclaiming.Behind.{accepted-then}
use Rattle.f11_vfy.proofs.reclaimer.whole.reclaim.Goals as goal

pub again-requires : goal.again-requires
again-requires g c =
    accepted-then (g.D.Device.disk c.device-device.result) (g.D.Device.disk c.reclaim_image.new.device)
    (g.met.D.Device.is_image c.device-device.result)
    (g.met.D.Device.is_image c.reclaim_image.new.device) c.device-device.ensures.accepted c.in-Ok.ensures.reclaimed
