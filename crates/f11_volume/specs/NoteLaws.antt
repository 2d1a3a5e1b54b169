-- Laws of what is noted, which show that the notes say all that they speak of (profile).
use Rattle.std.specs.Prelude.{◌≡◌, ◌⊎◌, ◌↔◌, ℕ, ◌+◌, ◌<◌, ◌≤◌, IsTrue, List, length, slice_index}
use Rattle.f11_dev.specs.Image.{Image}
use Rattle.f11_chain.specs.index.Headers.{IsInFile}
use Rattle.f11_chain.specs.index.Table.{IsLive, IsFile}
use Rattle.f11_chain.specs.store.File.{has_contiguous_mark}
use Rattle.f11_volume.specs.Contents.{blocks_reached, file_of}
use Rattle.f11_volume.specs.Notes.{IsLost, IsEntered, IsVolumeNote}
use Rattle.f11_volume.specs.Volume.{Volume}

-- of two runs of lost blocks that are noted, either is the other, or there is a block between them
abbrev pub LostRunsAreApart : Type 0
LostRunsAreApart =
    (image : Image) (v : Volume) (low high next last : ℕ) → IsVolumeNote image v 1 low high → IsVolumeNote image v 1 next last →
    ((low ≡ next) × (high ≡ last)) ⊎ ((high + 1 < next) ⊎ (last + 1 < low))

-- a block is in no run that is noted
abbrev pub IsInNoRun : Image → Volume → ℕ → Type 0
IsInNoRun image v lbn = (low high : ℕ) → IsVolumeNote image v 1 low high → low ≤ lbn → lbn ≤ high → ⊥

-- those are in no run that aren't lost, and no others
abbrev pub LostRunsHaveTheLost : Type 0
LostRunsHaveTheLost = (image : Image) (v : Volume) (lbn : ℕ) → IsInNoRun image v lbn ↔ ¬ IsLost v lbn

-- a live header is noted as an orphan exactly where it is no file's
abbrev pub OrphansAreNoFiles : Type 0
OrphansAreNoFiles = (image : Image) (v : Volume) (n : ℕ) → IsLive v.table n → IsVolumeNote image v 3 n 0 ↔ ¬ IsInFile v.table n

-- a file is noted as one in no directory exactly where no record names it
abbrev pub OthersAreEntered : Type 0
OthersAreEntered = (image : Image) (v : Volume) (n : ℕ) → IsFile v.table n → IsVolumeNote image v 6 n 0 ↔ ¬ IsEntered image v.table n

-- block i of these, from 0, is block k + i of the volume
abbrev pub StandsFrom : ℕ → List ℕ → Type 0
StandsFrom k lbns = (i : ℕ) → i < length lbns → slice_index lbns i ≡ k + i

-- a file with the contiguous mark is noted exactly where there is no k such that each block i of it is block k + i of the volume
abbrev pub OthersAreContiguous : Type 0
OthersAreContiguous =
    (image : Image) (v : Volume) (n : ℕ) → IsFile v.table n → IsTrue (has_contiguous_mark (file_of image v.table n)) →
    IsVolumeNote image v 10 n 0 ↔ ((k : ℕ) → ¬ StandsFrom k (blocks_reached v.table n))
