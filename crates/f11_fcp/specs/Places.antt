-- The table of accesses by its places: four for each task.
use Rattle.std.specs.Prelude.{◌+◌, ◌*◌, nat_lt, List, Option, None, option_map, slice_index_or, if◌then◌else◌}
use Rattle.f11_fcp.specs.declared.table.Held.{Held}
use Rattle.f11_fcp.specs.declared.table.Accesses.{Accesses}
use Rattle.f11_fcp.specs.Accesses.{Entry, AccessTable}

-- an access, as contracts see it
abbrev pub entry_of : Held → Entry
entry_of h = record { file = h.file; mode = h.mode; marked = h.marked; window = h.window }

-- and the table of them
abbrev pub access_table_in : List (Option Held) → AccessTable
access_table_in places task lun = if nat_lt lun 4 then option_map entry_of (slice_index_or places (4 * task + lun) None) else None

abbrev pub access_table_of : Accesses → AccessTable
access_table_of a = access_table_in a.places
