-- The texts of the faults of looking for the home block (profile).
use Rattle.std.specs.Prelude.{ℕ, List, codes}
use Rattle.f11_home.specs.declared.home.HomeFault.{HomeFault}
use Rattle.f11_home.specs.declared.home.HomeFault.TheVariants.{NoHome, DeviceFault}

-- its text
abbrev pub home_fault_text : HomeFault → List ℕ
home_fault_text NoHome = codes "no home block"
home_fault_text DeviceFault = codes "device fault"
