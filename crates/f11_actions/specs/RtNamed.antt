-- Which names files of the host get on an RT-11 volume that is faulty or not (profile).
use Rattle.std.specs.Prelude.{◌≡◌, ℕ, ◌≤◌, Bool, true, nat_lt, if◌then◌else◌, List, [], length, Option, Some, None, IsSome}
use Rattle.std.specs.List.{filter_map}
use Rattle.std.specs.Str.{str_to_ascii_uppercase}
use Rattle.f11_dev.specs.Disk.{Disk}
use Rattle.f11_dev.specs.Looked.{Looked}
use Rattle.f11_patterns.specs.Fitting.{fitted_name, fitted_type}
use Rattle.f11_patterns.specs.Giving.{GetNames, Naming, fitted_among}
use Rattle.f11_patterns.specs.declared.names.HostNames.{HostNames}
use Rattle.f11_commands.specs.declared.outcome.Failure.{Failure}
use Rattle.f11_commands.specs.declared.outcome.Failure.TheVariants.{CannotWrite, DeviceFault, NoMemory}
use Rattle.rt11_volume.specs.AnyDirectory.{is_file_area}
use Rattle.rt11_volume.specs.Calls.{most_transfers}
use Rattle.rt11_volume.specs.Entry.{is_same_name}
use Rattle.rt11_volume.specs.RtName.{RtSpells, rt_words_of}
use Rattle.rt11_volume.specs.Surveying.{Surveys}
use Rattle.rt11_volume.specs.declared.any_entries.RtEntry.{RtEntry}
use Rattle.rt11_volume.specs.declared.any_survey.RtSurvey.{RtSurvey}
use Rattle.rt11_volume.specs.declared.any_survey.RtSurvey.TheVariants.{Read, Unreadable}

-- the name of a file's entry, where its words are one
abbrev pub file_name : RtEntry → Option (List ℕ)
file_name e = if is_file_area e.kind then e.name else None

-- The names of the files that were found, in the order of their entries; none where the directory can't be read.
abbrev pub names_found : RtSurvey → List (List ℕ)
names_found (Read state entries) = filter_map file_name entries
names_found (Unreadable faults notes) = []

-- A volume has these names.
pub record RtThereAre (names : List (List ℕ)) (old new : Disk) : Type 0 where
  pub found : RtSurvey
  pub surveys : Surveys found old new
  pub are : names ≡ names_found found

-- The candidate of a number has six characters at most.
abbrev pub rt_candidate : List ℕ → ℕ → List ℕ
rt_candidate part number = rt_words_of (fitted_name 6 number part) (fitted_type part)

-- something of a part stays for a name
abbrev pub has_rt_some : List ℕ → Bool
has_rt_some part = nat_lt 0 (length (fitted_name 6 0 part))

-- The name that a part is, small letters as capitals, if it is one.
abbrev pub IsRtNamed : Option (List ℕ) → List ℕ → Type 0
IsRtNamed (Some name) part = RtSpells (str_to_ascii_uppercase part) name
IsRtNamed None part = (name : List ℕ) → ¬ RtSpells (str_to_ascii_uppercase part) name

-- The names of RT-11: which one a part is doesn't depend on those that are there.
abbrev pub rt_naming : Naming (List ℕ)
rt_naming = record {
  IsNamed = λ there name part. IsRtNamed name part;
  candidate = rt_candidate;
  has_some = has_rt_some;
  are_alike = is_same_name;
}

-- Beside fewer than 142,858 names there is a fitted one for each part of which something stays for a name.
abbrev pub RtFittedIsThere : Type 0
RtFittedIsThere =
    (there : List (List ℕ)) (part : List ℕ) → has_rt_some part ≡ true → length there ≤ 142857
    → IsSome (fitted_among rt_naming there part)

-- Files of the host with these paths get these names beside those that a volume has.
pub record TellsRtNew (fitting : HostNames) (paths : List (List ℕ)) (names : List (Option (List ℕ))) (old new : Disk) : Type 0 where
  pub there : List (List ℕ)
  pub are : RtThereAre there old new
  pub get : GetNames rt_naming fitting there paths names

-- The look for names broke off: a transfer failed, or there was no memory.
abbrev pub FailsToFindRtNames : Failure → Disk → Disk → Type 0
FailsToFindRtNames DeviceFault old new = Looked old new most_transfers 1
FailsToFindRtNames NoMemory old new = Looked old new most_transfers 0
FailsToFindRtNames CannotWrite old new = ⊥
