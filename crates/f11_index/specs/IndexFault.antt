-- The texts of the faults of an index file (profile).
use Rattle.std.specs.Prelude.{ℕ, List, codes, ◌++◌}
use Rattle.std.specs.Fmt.{decimal}
use Rattle.f11_index.specs.declared.fault.IndexFault.{IndexFault}
use Rattle.f11_index.specs.declared.fault.IndexFault.TheVariants.{Misplaced, PastSlots, DeviceFault, NoMemory}

abbrev pub index_fault_text : IndexFault → List ℕ
index_fault_text Misplaced = codes "index file misplaced"
index_fault_text (PastSlots n) = codes "index bit " ++ (decimal n ++ codes " past the slots")
index_fault_text DeviceFault = codes "device fault"
index_fault_text NoMemory = codes "no memory"

-- where the fault is a bit past the slots, this holds of its number
abbrev pub IfPast : IndexFault → (ℕ → Type 0) → Type 0
IfPast Misplaced P = Unit
IfPast (PastSlots n) P = P n
IfPast DeviceFault P = Unit
IfPast NoMemory P = Unit
