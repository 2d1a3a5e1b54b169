use Rattle.std.proofs.Common.{◌≡◌, filter, take}
use Rattle.rt11_volume.specs.AnyDirectory.{is_sound_file_named}
use Rattle.rt11_squeeze.proofs.TellLemmas.{listed}
use Rattle.rt11_squeeze.proofs.telling.only.Given as goal

-- the files of the name so far
abbrev pub invariant-loop-i : goal.invariant-loop-i
invariant-loop-i l = record { so_far : filter (is_sound_file_named l.name) (take l.i l.entries) ≡ listed l.found }
