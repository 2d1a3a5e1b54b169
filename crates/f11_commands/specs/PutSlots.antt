-- Which slots the index file gets before a file of the host is made on a volume (profile): as many headers as the making may take, and 16
-- at least, so that the slots of files which are put one after another adjoin.
use Rattle.std.specs.Prelude.{◌≡◌, ◌⊎◌, ℕ, zero, suc, ◌+◌, ◌-◌, ◌/◌, nat_le, nat_lt, max, false, if◌then◌else◌}
use Rattle.f11_serving.specs.files.Answers.{is_fatal}
use Rattle.f11_making.specs.Asking.{Denies, FilesService, Grants, asks, plain}
use Rattle.f11_store.specs.Store.{Store, free_headers}
use Rattle.f11_store.specs.declared.refusals.Refusal.{Refusal}
use Rattle.f11_store.specs.declared.requests.Request.TheVariants as request
use Rattle.f11_commands.specs.Copying.{operator}

-- the most headers that are taken where a file of so many blocks is made: one for each 102 of them, one at least, and one of its directory
abbrev pub most_headers : ℕ → ℕ
most_headers blocks = max 1 ((blocks + 101) / 102) + 1

-- so many slots more than headers are free, and 16 at least
abbrev pub more_slots : ℕ → ℕ → ℕ
more_slots blocks headers = max 16 (most_headers blocks - headers)

-- how many are asked for, where so many blocks and headers are free: none where the headers are enough, where it takes more than any file
-- and its directory (256 and 1), or where the file and the slots leave no block free, which the directory may take
abbrev pub slots_for : ℕ → ℕ → ℕ → ℕ
slots_for blocks free headers =
    if nat_le (most_headers blocks) headers then 0
    else if nat_lt 257 (most_headers blocks) then 0
    else if nat_le free (blocks + more_slots blocks headers) then 0
    else more_slots blocks headers

abbrev pub slots_before : ℕ → Store → ℕ
slots_before blocks s = slots_for blocks s.free (free_headers s)

-- So many slots were asked for, where there are any, whatever it is that answers: they were granted, or refused for another cause than a
-- device fault or Damaged.
abbrev pub AsksForSlots : {V : Type 0} → FilesService V → ℕ → V → V → Type 0
AsksForSlots S zero old new = new ≡ old
AsksForSlots S (suc n) old new =
    (Grants S operator (asks (request.GrowIndex (suc n))) old new)
    ⊎ ((e : Refusal) × (is_fatal e ≡ false) × (Denies S operator (asks (request.GrowIndex (suc n))) e old new))

-- of the plain store, before a file of at most so many blocks is made
abbrev pub GetsSlotsFor : ℕ → Store → Store → Type 0
GetsSlotsFor blocks s t = AsksForSlots plain (slots_before blocks s) s t

-- Worked values: a small file, whose headers are free or aren't; files for which many lack; blocks that are too few by one, and just
-- enough; the longest file, and one that is longer.
pub record SlotsAreWorked : Type 0 where
  pub none : slots_for 2 378 2 ≡ 0
  pub some : slots_for 2 378 1 ≡ 16
  pub empty : slots_for 0 378 1 ≡ 16
  pub first : slots_for 102 378 1 ≡ 16
  pub many : slots_for 12000 12960 11 ≡ 108
  pub short : slots_for 22 38 0 ≡ 0
  pub enough : slots_for 22 39 0 ≡ 16
  pub longest : slots_for 26112 29964 11 ≡ 246
  pub longer : slots_for 26113 29964 11 ≡ 0
