-- What is told of several files of a directory that were to be taken out (profile).
use Rattle.std.specs.Prelude.{ℕ, ◌==◌, List, [], ◌∷◌, codes, if◌then◌else◌}
use Rattle.std.specs.Fmt.{decimal}
use Rattle.std.specs.List.{concat}
use Rattle.f11_rad50.specs.Name.{name_text}
use Rattle.f11_commands.specs.AllCommand.{left_out_text}
use Rattle.f11_commands.specs.declared.get.all.left_out.LeftOut.TheVariants.{Host}
use Rattle.f11_commands.specs.declared.outcome.Answer.{Answer}
use Rattle.f11_commands.specs.declared.outcome.Answer.TheVariants.{Done, Fault}

-- the line of a file for which the host has none
abbrev pub no_host_line : List ℕ → List ℕ
no_host_line name = concat (name_text name ∷ codes " " ∷ left_out_text Host ∷ (10 ∷ []) ∷ [])

-- the last line: how many were taken out, and how many weren't
abbrev pub several_line : ℕ → ℕ → List ℕ
several_line copied refused =
    concat (codes "all " ∷ decimal copied ∷ codes " copied, " ∷ decimal refused ∷ codes " not copied" ∷ (10 ∷ []) ∷ [])

-- the answer: that one wasn't, or that each was
abbrev pub several_answer : ℕ → Answer
several_answer refused = if refused == 0 then Done else Fault
