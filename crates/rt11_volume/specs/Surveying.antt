-- What is found of any RT-11 volume, whether it has faults or none (profile).
use Rattle.std.specs.Prelude.{◌≡◌, ◌+◌, ◌==◌, ◌&&◌, Bool, IsTrue, if◌then◌else◌, List, length, find, Option}
use Rattle.std.specs.Prelude.{Some, None}
use Rattle.std.specs.List.{slice_get}
use Rattle.f11_dev.specs.Disk.{Disk}
use Rattle.f11_dev.specs.Looked.{Looked}
use Rattle.f11_findings.specs.Finding.{IsExactly}
use Rattle.f11_findings.specs.declared.finding.Finding.{Finding}
use Rattle.rt11_volume.specs.AnyDirectory.{directory_entries, fits, is_empty_area}
use Rattle.rt11_volume.specs.Calls.{Rejects, most_transfers}
use Rattle.rt11_volume.specs.Directory.{IsSized}
use Rattle.rt11_volume.specs.Verifying.Verdict.{IsRtFault}
use Rattle.rt11_volume.specs.declared.any_entries.RtEntry.{RtEntry}
use Rattle.rt11_volume.specs.declared.any_state.RtState.{RtState}
use Rattle.rt11_volume.specs.declared.any_state.RtState.TheVariants.{Sound, Short, Faulty}
use Rattle.rt11_volume.specs.declared.any_survey.RtSurvey.{RtSurvey}
use Rattle.rt11_volume.specs.declared.any_survey.RtSurvey.TheVariants.{Read, Unreadable}

-- a fault tells of this entry, which it counts from 0
abbrev pub tells_of : Finding → RtEntry → Bool
tells_of fault e = e.segment == fault.a && e.number == fault.b + 1

-- the volume ends within an entry's area, which is all that is wrong with it: nothing is lost where that is an empty one, which ends as
-- far as a directory may give blocks away
abbrev pub cut_in : Option RtEntry → RtState
cut_in None = Faulty
cut_in (Some e) = if is_empty_area e.kind && fits e then Short (e.first + e.blocks) else Faulty

-- the volume has this fault alone
abbrev pub with_one_fault : Option Finding → List RtEntry → RtState
with_one_fault None entries = Faulty
with_one_fault (Some fault) entries = if fault.code == 7 then cut_in (find (tells_of fault) entries) else Faulty

-- what its faults say of a volume with these entries
abbrev pub state_by : List Finding → List RtEntry → RtState
state_by faults entries =
    if length faults == 0 then Sound else if length faults == 1 then with_one_fault (slice_get faults 0) entries else Faulty

-- The directory was read: these are all its entries that can be, and its faults say this of the volume.
pub record ReadsDirectory (state : RtState) (entries : List RtEntry) (old new : Disk) : Type 0 where
  pub sized : IsTrue old.honest → IsSized old.image
  pub entries_are : IsTrue old.honest → entries ≡ directory_entries old.image
  pub faults : List Finding
  pub faults_are : IsTrue old.honest → IsExactly (IsRtFault old.image) faults
  pub state_is : state ≡ state_by faults entries
  pub looked : Looked old new most_transfers 0

-- It can't be read, since it hasn't the size that it should have: that is its fault.
pub record FindsNoDirectory (faults notes : List Finding) (old new : Disk) : Type 0 where
  pub unsized : IsTrue old.honest → ¬ IsSized old.image
  pub rejects : Rejects faults notes old new

-- what was found
abbrev pub Surveys : RtSurvey → Disk → Disk → Type 0
Surveys (Read state entries) old new = ReadsDirectory state entries old new
Surveys (Unreadable faults notes) old new = FindsNoDirectory faults notes old new
