-- What is told of files of an RT-11 volume that were copied to another (profile).
use Rattle.std.specs.Prelude.{ℕ, ◌==◌, Bool, true, false, if◌then◌else◌, List, [], ◌∷◌, ◌++◌, codes, count_by, flat_map, zip}
use Rattle.std.specs.Prelude.{Option, Some, None}
use Rattle.std.specs.Fmt.{decimal}
use Rattle.rt11_copy.specs.declared.outcome.RtCopied.{RtCopied}
use Rattle.rt11_copy.specs.declared.outcome.RtCopied.TheVariants.{Copied, NotCopied}
use Rattle.rt11_copy.specs.declared.outcome.RtUncopied.{RtUncopied}
use Rattle.rt11_copy.specs.declared.outcome.RtUncopied.TheVariants.{NoFile, StatusWrong, NoName, PastEnd, Unreadable, Refused}
use Rattle.rt11_volume.specs.Refusal.{refusal_name}
use Rattle.rt11_volume.specs.RtName.{rt_name_text}
use Rattle.rt11_volume.specs.declared.any_entries.RtEntry.{RtEntry}
use Rattle.f11_commands.specs.declared.outcome.FileAnswer.{FileAnswer}
use Rattle.f11_commands.specs.declared.outcome.FileAnswer.TheVariants.{Done, Refused as NotAll}

-- as what an entry is called: by its name, or where it has none by its segment and its number in that, both from 1
abbrev pub called_by : ℕ → ℕ → Option (List ℕ) → List ℕ
called_by segment number (Some name) = rt_name_text name
called_by segment number None = decimal segment ++ (codes "," ++ decimal number)

abbrev pub called : RtEntry → List ℕ
called e = called_by e.segment e.number e.name

-- why its file wasn't copied
abbrev pub why_text : RtUncopied → List ℕ
why_text NoFile = codes "no file"
why_text StatusWrong = codes "status wrong"
why_text NoName = codes "no name"
why_text PastEnd = codes "past the end"
why_text Unreadable = codes "cannot be read"
why_text (Refused refusal) = refusal_name refusal

-- the line of an entry: none where it is no file's
abbrev pub left_line : RtEntry → RtUncopied → List ℕ
left_line e NoFile = []
left_line e why = called e ++ (codes " not copied " ++ (why_text why ++ 10 ∷ []))

abbrev pub entry_line : RtEntry → RtCopied → List ℕ
entry_line e Copied = called e ++ (codes " copied " ++ (decimal e.blocks ++ 10 ∷ []))
entry_line e (NotCopied why) = left_line e why

-- those of entries, in their order
abbrev pub entry_lines : List RtEntry → List RtCopied → List ℕ
entry_lines entries outcomes = flat_map (λ (one : RtEntry × RtCopied). entry_line one.0 one.1) (zip entries outcomes)

-- whether a file was copied
abbrev pub is_copied : RtCopied → Bool
is_copied Copied = true
is_copied (NotCopied why) = false

-- whether one wasn't
abbrev pub is_left : RtCopied → Bool
is_left Copied = false
is_left (NotCopied NoFile) = false
is_left (NotCopied why) = true

-- what is said of a boot block, which isn't copied, where there is something in it
abbrev pub boot_line : Bool → List ℕ
boot_line true = codes "boot block not copied" ++ 10 ∷ []
boot_line false = []

-- the last line: how many were copied, and how many weren't
abbrev pub counts_line : List RtCopied → List ℕ
counts_line outcomes =
    codes "all " ++ (decimal (count_by is_copied outcomes) ++ (codes " copied, " ++
    (decimal (count_by is_left outcomes) ++ (codes " not copied" ++ 10 ∷ []))))

-- all of them
abbrev pub copy_lines : List RtEntry → Bool → List RtCopied → List ℕ
copy_lines entries boots outcomes = entry_lines entries outcomes ++ (boot_line boots ++ counts_line outcomes)

-- the answer: that one wasn't copied, or that each was
abbrev pub copy_answer : List RtCopied → FileAnswer
copy_answer outcomes = if count_by is_left outcomes == 0 then Done else NotAll
