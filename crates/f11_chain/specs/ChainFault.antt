-- The texts of the faults of a file's headers (profile).
use Rattle.std.specs.Prelude.{ℕ, List, codes}
use Rattle.f11_chain.specs.declared.fault.ChainFault.{ChainFault}
use Rattle.f11_chain.specs.declared.fault.ChainFault.TheVariants.{EndOfFile, DeviceFault, Damaged}

abbrev pub chain_fault_text : ChainFault → List ℕ
chain_fault_text EndOfFile = codes "end of file"
chain_fault_text DeviceFault = codes "device fault"
chain_fault_text Damaged = codes "damaged"
