-- The lines of a verifier's report (profile).
use Rattle.std.specs.Prelude.{ℕ, Bool, true, false, List, [], ◌∷◌, ◌++◌, codes}
use Rattle.std.specs.List.{flat_map}
use Rattle.f11_findings.specs.declared.finding.Finding.{Finding}
use Rattle.f11_commands.specs.Report.{fault_text, note_text}
use Rattle.f11_commands.specs.RtReport.{rt_fault_text, rt_note_text}
use Rattle.f11_commands.specs.declared.report.System.{System}
use Rattle.f11_commands.specs.declared.report.System.TheVariants.{Files11, Rt11}

-- what the verifier of a file system says of a fault
abbrev pub fault_said : System → Finding → List ℕ
fault_said Files11 fault = fault_text fault
fault_said Rt11 fault = rt_fault_text fault

-- and of a note
abbrev pub note_said : System → Finding → List ℕ
note_said Files11 note = note_text note
note_said Rt11 note = rt_note_text note

-- the line of a fault, and that of a note
abbrev pub report_fault_line : System → Finding → List ℕ
report_fault_line system fault = codes "fault " ++ (fault_said system fault ++ 10 ∷ [])

abbrev pub report_note_line : System → Finding → List ℕ
report_note_line system note = codes "note " ++ (note_said system note ++ 10 ∷ [])

-- a line each, in order
abbrev pub fault_lines : System → List Finding → List ℕ
fault_lines system faults = flat_map (report_fault_line system) faults

abbrev pub note_lines : System → List Finding → List ℕ
note_lines system notes = flat_map (report_note_line system) notes

-- the verdict's line
abbrev pub verdict_line : Bool → List ℕ
verdict_line true = codes "accepted" ++ 10 ∷ []
verdict_line false = codes "faulty" ++ 10 ∷ []

-- the lines of a report: the faults, the notes, and the verdict
abbrev pub report_lines : System → Bool → List Finding → List Finding → List ℕ
report_lines system accepted faults notes = fault_lines system faults ++ (note_lines system notes ++ verdict_line accepted)
