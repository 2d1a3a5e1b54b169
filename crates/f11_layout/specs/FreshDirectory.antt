-- The master file directory of a fresh volume (Files-11 On-Disk Structure Level 1, directories; profile: the five records that it has).
use Rattle.std.specs.Prelude.{◌≡◌, ℕ, ◌+◌, ◌≤◌, ◌<◌, List, length}
use Rattle.f11_layout.specs.Files.{own_file}
use Rattle.f11_layout.specs.declared.layout.Layout.{Layout}
use Rattle.f11_map.specs.store.Directory.{record_in, record_bytes, empty_record}

-- Its records 0 to 4 are those of files 1,1 to 5,5 under their names, and the others are empty.
pub record IsFreshDirectory (l : Layout) (b : List ℕ) : Type 0 where
  pub size : length b ≡ 512
  pub files : (i : ℕ) → i < 5 → record_in b i
      ≡ record_bytes (record { number = i + 1; sequence = i + 1; volume = 0 }) (own_file l (i + 1)).name
  pub others : (i : ℕ) → 5 ≤ i → i < 32 → record_in b i ≡ empty_record
