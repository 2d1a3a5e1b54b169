-- What is written of actions (profile).
use Rattle.std.specs.Prelude.{ℕ, ◌+◌, List, [], ◌∷◌, ◌++◌, length, map, Result, Ok, Err, codes}
use Rattle.std.specs.Fmt.{decimal}
use Rattle.std.specs.List.{concat}
use Rattle.f11_rad50.specs.Name.{name_text}
use Rattle.rt11_volume.specs.RtName.{rt_name_text}
use Rattle.f11_store.specs.Refusal.{refusal_name}
use Rattle.f11_store.specs.declared.refusals.Refusal.{Refusal}
use Rattle.f11_making.specs.declared.action.Action.{Action}
use Rattle.f11_making.specs.declared.action.Action.TheVariants as action
use Rattle.f11_actions.specs.Plans.{Acted}

-- the name of the file
abbrev pub name_in : Action → List ℕ
name_in (action.Delete directory name) = name
name_in (action.Purge directory name highest) = name
name_in (action.Rename directory name to new) = name
name_in (action.Protect directory name protection) = name
name_in (action.Truncate directory name) = name
name_in (action.MakeDirectory name owner protection) = name

-- what is done to it
abbrev pub done_text : Action → List ℕ
done_text (action.Delete directory name) = codes "deleted"
done_text (action.Purge directory name highest) = codes "purged"
done_text (action.Rename directory name to new) = codes "renamed " ++ name_text new
done_text (action.Protect directory name protection) = codes "protected"
done_text (action.Truncate directory name) = codes "truncated"
done_text (action.MakeDirectory name owner protection) = codes "made"

-- the line of an action that was done, and of one that was refused
abbrev pub action_line : Action → Result (Unit {0}) Refusal → List ℕ
action_line a (Ok x) = concat (name_text (name_in a) ∷ codes " " ∷ done_text a ∷ (10 ∷ []) ∷ [])
action_line a (Err e) = concat (name_text (name_in a) ∷ codes " not " ∷ done_text a ∷ codes " " ∷ refusal_name e ∷ (10 ∷ []) ∷ [])

-- the lines of all
abbrev pub lines_of : List Acted → List ℕ
lines_of [] = []
lines_of (a ∷ more) = action_line a.action a.result ++ lines_of more

-- how many were refused
abbrev pub refused_one : Result (Unit {0}) Refusal → ℕ
refused_one (Ok x) = 0
refused_one (Err e) = 1

abbrev pub refused_in : List Acted → ℕ
refused_in [] = 0
refused_in (a ∷ more) = refused_one a.result + refused_in more

-- the last line: how many were done, and how many weren't
abbrev pub all_line : ℕ → ℕ → List ℕ
all_line done refused = concat (codes "all " ∷ decimal done ∷ codes " done, " ∷ decimal refused ∷ codes " not done" ∷ (10 ∷ []) ∷ [])

-- what would be done to the file: a purge deletes it
abbrev pub would_text : Action → List ℕ
would_text (action.Purge directory name highest) = codes "deleted"
would_text a = done_text a

-- the line of a file to which this would be done
abbrev pub would_be_line : List ℕ → List ℕ → List ℕ
would_be_line name text = concat (name_text name ∷ codes " would be " ∷ text ∷ (10 ∷ []) ∷ [])

-- the last line: to how many this would be done
abbrev pub all_would_line : ℕ → List ℕ → List ℕ
all_would_line count text = concat (codes "all " ∷ decimal count ∷ codes " would be " ∷ text ∷ (10 ∷ []) ∷ [])

-- the lines of actions that would be done, and of files that would be copied
abbrev pub would_line : Action → List ℕ
would_line a = would_be_line (name_in a) (would_text a)

abbrev pub would_lines : List Action → List ℕ
would_lines actions = concat (map would_line actions) ++ all_would_line (length actions) (codes "done")

abbrev pub copy_line : List ℕ → List ℕ
copy_line name = would_be_line name (codes "copied")

-- that of a file of an RT-11 volume
abbrev pub rt_copy_line : List ℕ → List ℕ
rt_copy_line name = concat (rt_name_text name ∷ codes " would be copied" ∷ (10 ∷ []) ∷ [])

abbrev pub copy_lines : List (List ℕ) → List ℕ
copy_lines names = concat (map copy_line names) ++ all_would_line (length names) (codes "copied")
