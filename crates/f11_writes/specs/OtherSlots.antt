-- Headers and their files where all slots but one are as they were (Files-11 On-Disk Structure Level 1, "Index File" and "File Header").
use Rattle.std.specs.Prelude.{◌≡◌, ◌≢◌, ◌↔◌, ℕ, true, false}
use Rattle.f11_index.specs.ChangeLaws.{IsAsGood, StayUpTo}
use Rattle.f11_volume.specs.map.HeaderBlock.{LinksToNone}
use Rattle.f11_index.specs.Headers.{IsInFile}
use Rattle.f11_index.specs.Table.{Table, IsLive, IsNext, IsHeaderOf, IsWholeFile}
use Rattle.f11_volume.specs.chain.Laws.{StayBefore}
use Rattle.f11_volume.specs.Sound.{IsSoundVolume}
use Rattle.f11_volume.specs.Volume.{Volume}

-- The slots but n are as they were: in use or not, and the headers of those that are.
pub record KeepsOtherSlots (n : ℕ) (old new : Table) : Type 0 where
  pub in_use : (m : ℕ) → m ≢ n → new.in_use m ≡ old.in_use m
  pub header : (m : ℕ) → m ≢ n → old.in_use m ≡ true → new.header m ≡ old.header m

-- then a whole file that header n isn't one of is whole still, and has the headers that it had
abbrev pub OtherFilesStay : Type 0
OtherFilesStay =
    (old new : Table) (n f : ℕ) → KeepsOtherSlots n old new → IsWholeFile old f → ¬ IsHeaderOf old f n →
    IsWholeFile new f × ((m : ℕ) → IsHeaderOf new f m ↔ IsHeaderOf old f m)

-- each header of a file before header n stays
abbrev pub OtherSlotsStayBefore : Type 0
OtherSlotsStayBefore = (old new : Table) (f n : ℕ) → KeepsOtherSlots n old new → StayBefore f n old new

-- and where header n is as good, so are the headers of its file up to it, and those before it link as they did
abbrev pub OtherSlotsStayUpTo : Type 0
OtherSlotsStayUpTo = (old new : Table) (f n : ℕ) → IsHeaderOf old f n → KeepsOtherSlots n old new → IsAsGood old new n →
    StayUpTo f n old new

-- where header n isn't live now, each header of a file was one of that file
abbrev pub OtherHeadersWere : Type 0
OtherHeadersWere = (old new : Table) (n f m : ℕ) → KeepsOtherSlots n old new → ¬ IsLive new n → IsHeaderOf new f m → IsHeaderOf old f m

-- and where slot n has come into use, and its header links to none, no header of a file links to it
abbrev pub EnteredIsUnlinked : Type 0
EnteredIsUnlinked =
    (old new : Volume) (n m : ℕ) → IsSoundVolume old → KeepsOtherSlots n old.table new.table → old.table.in_use n ≡ false →
    LinksToNone (new.table.header n) → IsInFile new.table m → ¬ IsNext new.table m n
