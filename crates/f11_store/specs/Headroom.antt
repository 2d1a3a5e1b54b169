-- How many headers are free, or can be had: where fewer are free than are to be taken, the index file gets slots first (profile).
use Rattle.std.specs.Prelude.{ℕ, ◌+◌, ◌-◌, ◌==◌, ◌&&◌, Bool, not, nat_le, if◌then◌else◌}
use Rattle.f11_store.specs.File.{File, need}
use Rattle.f11_store.specs.Store.{Store, index_file, free_headers}
use Rattle.f11_store.specs.Directory.{needs_block}

-- how many of so many headers aren't free
abbrev pub lacking : Store → ℕ → ℕ
lacking s headers = headers - free_headers s

-- the index file may get n slots in its last header: that has a place for each, and there may be so many
abbrev pub may_get_slots : Store → ℕ → Bool
may_get_slots s n = nat_le n (index_file s).room && nat_le (s.slots + n) s.limit

-- so many headers can't be had: some aren't free, and the index file may not get slots for them
unfoldable pub lacks_headers : Store → ℕ → Bool
lacks_headers s headers = not (lacking s headers == 0) && not (may_get_slots s (lacking s headers))

-- the slots that the index file gets before so many headers are taken: one for each that isn't free, where they can be had
unfoldable pub slots_first : Store → ℕ → ℕ
slots_first s headers = if lacks_headers s headers then 0 else lacking s headers

-- the headers that entering a record in a directory may need: those of one more block, where that is added
abbrev pub headers_to_enter : File → ℕ
headers_to_enter d = if needs_block d then need d.room 1 else 0
