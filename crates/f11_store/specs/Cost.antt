-- The most block transfers that a request may take, refused or not (profile).
use Rattle.std.specs.Prelude.{ℕ, ◌+◌, ◌*◌, ◌/◌, ◌==◌, List, [], ◌∷◌, length, max, Option, Some, None, if◌then◌else◌}
use Rattle.std.specs.List.{range_with_len}
use Rattle.f11_store.specs.declared.requests.Request.{Request}
use Rattle.f11_store.specs.declared.requests.Request.TheVariants as request
use Rattle.f11_store.specs.File.{File, end_of, need, run_need}
use Rattle.f11_store.specs.Headroom.{lacking, headers_to_enter}
use Rattle.f11_store.specs.Store.{Store, Access, file_named, file_held, index_file}
use Rattle.f11_store.specs.Changes.{is_due, with_access, after_deaccess}

-- the number of headers of a file, 1 where there is none
abbrev pub header_count : File → ℕ
header_count f = max 1 (length f.held)

-- the number of blocks up to a directory's end
abbrev pub end_blocks : File → ℕ
end_blocks f = (end_of f + 511) / 512

-- n more blocks, with headers that are free
abbrev pub growth_cost : Store → File → ℕ → ℕ
growth_cost s f n = header_count f + s.bitmap_blocks + 5 * n + (s.index_bitmap_blocks + 8) * ((n + 101) / 102 + 1)

-- the slots that the index file gets first, so that so many headers are free: as many as lack, refused or not
abbrev pub slots_cost : Store → ℕ → ℕ
slots_cost s headers = if lacking s headers == 0 then 0 else growth_cost s (index_file s) (lacking s headers)

-- n more blocks, and the slots that come first
abbrev pub lengthen_cost : Store → File → ℕ → ℕ
lengthen_cost s f n = slots_cost s (need f.room n) + growth_cost s f n

-- n blocks in one run, with headers that are free
abbrev pub contiguous_cost : Store → File → ℕ → ℕ
contiguous_cost s f n = header_count f + 3 * s.bitmap_blocks + n + (s.index_bitmap_blocks + 8) * (run_need f.room n + 1)

-- fewer blocks, or none
abbrev pub cut_cost : File → ℕ
cut_cost f = 5 * header_count f + 4 * f.pointers + 1

-- a look through a directory
abbrev pub find_cost : File → ℕ
find_cost f = (end_blocks f + 1) * (header_count f + 1)

-- giving up what is held: nothing, but where a marked file goes
abbrev pub give_up_cost : Store → ℕ → ℕ → Option Access → ℕ
give_up_cost s task lun None = 0
give_up_cost s task lun (Some a) = if is_due (with_access s task lun None) a.file then cut_cost (file_named s a.file) else 0

-- Deaccess
abbrev pub deaccess_cost : Store → ℕ → ℕ → ℕ
deaccess_cost s task lun = give_up_cost s task lun (s.access task lun)

-- Release: the sum over the luns, each after those before it
abbrev pub release_cost : Store → ℕ → List ℕ → ℕ
release_cost s task [] = 0
release_cost s task (lun ∷ luns) = deaccess_cost s task lun + release_cost (after_deaccess s task lun) task luns

-- the bound for each request
abbrev pub cost : Store → ℕ → Request → ℕ
cost s task (request.Create _ _ _) = slots_cost s 1 + (s.index_bitmap_blocks + 3)
cost s task (request.Extend lun n) = lengthen_cost s (file_held s task lun) n
cost s task (request.Contiguous lun n) = contiguous_cost s (file_held s task lun) n
cost s task (request.Truncate lun to) = cut_cost (file_held s task lun)
cost s task (request.Delete id) = cut_cost (file_named s id)
cost s task (request.GrowIndex n) = growth_cost s (index_file s) n
cost s task (request.Access id m lun) = 1
cost s task (request.Deaccess lun) = deaccess_cost s task lun
cost s task request.Release = release_cost s task (range_with_len 0 4)
cost s task (request.ReadBlock lun vbn) = header_count (file_held s task lun) + 1
cost s task (request.WriteBlock lun vbn) = header_count (file_held s task lun) + 1
cost s task (request.Find d name) = find_cost (file_named s d)
cost s task (request.Enter d name id) =
    slots_cost s (headers_to_enter (file_named s d))
    + (find_cost (file_named s d) + growth_cost s (file_named s d) 1 + header_count (file_named s d) + 4)
cost s task (request.Remove d name) = (end_blocks (file_named s d) + 2) * (header_count (file_named s d) + 1)
cost s task (request.ReadAttr id) = 1
cost s task (request.WriteAttr id c) = 3
cost s task request.Space = 0
