-- What a file of an RT-11 volume that was found is made of.
use Rattle.std.specs.Prelude.{ℕ, List}
use Rattle.rt11_volume.specs.declared.any_entries.RtEntry.{RtEntry}
use Rattle.rt11_volume.specs.declared.any_state.RtState.{RtState}
use Rattle.f11_commands.specs.declared.rt_get.found.FoundRtFile.{FoundRtFile}

-- the device of its volume
abbrev pub found_device : {D : Type 0} → FoundRtFile D → D
found_device file = file.device

-- its entry, and how the volume is
abbrev pub found_entry : {D : Type 0} → FoundRtFile D → RtEntry
found_entry file = file.entry

abbrev pub found_state : {D : Type 0} → FoundRtFile D → RtState
found_state file = file.state

-- the volume's bad blocks
abbrev pub found_bad : {D : Type 0} → FoundRtFile D → List ℕ
found_bad file = file.bad
