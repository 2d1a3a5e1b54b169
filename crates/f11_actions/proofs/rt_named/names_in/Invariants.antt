use Rattle.std.proofs.Common.{◌≡◌, take}
use Rattle.std.specs.List.{filter_map}
use Rattle.f11_actions.specs.RtNamed.{file_name}
use Rattle.f11_actions.proofs.rt_named.names_in.Given as goal

-- the names of the entries so far
abbrev pub invariant-loop-entry : goal.invariant-loop-entry
invariant-loop-entry l = l.names.items ≡ filter_map file_name (take l.entry-index l.entries)
