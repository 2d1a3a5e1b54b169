-- The line of a file that wasn't copied.
use Rattle.std.proofs.Common.{◌≡◌, ◌≢◌, [], ◌∷◌, ◌++◌, refl}
use Rattle.std.specs.Prelude.{codes}
use Rattle.rt11_copy.specs.declared.outcome.RtUncopied.{RtUncopied}
use Rattle.rt11_copy.specs.declared.outcome.RtUncopied.TheVariants.{NoFile, StatusWrong, NoName, PastEnd, Unreadable, Refused}
use Rattle.rt11_volume.specs.declared.any_entries.RtEntry.{RtEntry}
use Rattle.f11_salvage.specs.RtLines.{called, left_line, why_text}

-- of each entry that is a file's
pub left-line-is : (e : RtEntry) (why : RtUncopied) → why ≢ NoFile
    → left_line e why ≡ called e ++ (codes " not copied " ++ (why_text why ++ 10 ∷ []))
left-line-is e NoFile apart = absurd (apart refl)
left-line-is e StatusWrong apart = refl
left-line-is e NoName apart = refl
left-line-is e PastEnd apart = refl
left-line-is e Unreadable apart = refl
left-line-is e (Refused refusal) apart = refl
