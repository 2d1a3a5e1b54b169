-- A device with an accepted volume on it.
use Rattle.f11_dev.specs.declared.device.Device.{Ghosts}
use Rattle.f11_vfy.specs.declared.accepted.Accepted.{Accepted}

-- the device
abbrev pub device_of : {D : Type 0} {G : Ghosts D} → Accepted D G → D
device_of a = a.device
