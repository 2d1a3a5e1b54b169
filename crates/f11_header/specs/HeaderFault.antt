-- The texts of the faults of a header (profile).
use Rattle.std.specs.Prelude.{ℕ, List, codes}
use Rattle.f11_header.specs.declared.validity.HeaderFault.{HeaderFault}
use Rattle.f11_header.specs.declared.validity.HeaderFault.TheVariants.{Dead, Bad}

abbrev pub header_fault_text : HeaderFault → List ℕ
header_fault_text Dead = codes "dead"
header_fault_text Bad = codes "bad"
