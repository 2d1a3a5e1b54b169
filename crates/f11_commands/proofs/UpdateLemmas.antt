-- How `vfy --update` ends.
use Rattle.std.proofs.Common.{◌≡◌, ◌<◌, ◌≤◌, inl, inr, ℕ, zero, suc, leb, true, false, List, [], ◌∷◌, length, get_or, Option, Some, None}
use Rattle.std.proofs.Common.{IsTrue, refl, sym, ap, subst, ◌∙◌, arith}
use Rattle.std.specs.Prelude.{Contains, IfErr, IfOk, OnOk, Result, Ok, Err}
use Rattle.std.specs.List.{slice_get}
use Rattle.std.proofs.KnownBytes.{Keeps-refl}
use Rattle.std.proofs.lemmas.Bool.{leb-false}
use Rattle.std.proofs.lemmas.Option.{same_Some}
use Rattle.f11_dev.specs.Disk.{Disk, with_transfer}
use Rattle.f11_dev.specs.Image.{Image, IsImage}
use Rattle.f11_dev.proofs.LookedLemmas.{looked_none}
use Rattle.f11_findings.specs.Finding.{finding, IsExactly}
use Rattle.f11_findings.specs.declared.finding.Finding.{Finding}
use Rattle.f11_volume.specs.Verdict.{IsNote}
use Rattle.f11_serving.specs.vfy.Verify.{Examines, LooksOver, Verifies}
use Rattle.f11_serving.specs.vfy.Laws.{NoneIsIdle}
use Rattle.f11_serving.specs.vfy.Reclaiming.Whole.{Reclaims}
use Rattle.f11_commands.specs.Lines.{report_lines}
use Rattle.f11_commands.specs.Output.{WriterTakes}
use Rattle.f11_commands.specs.UpdateCommand.{tells_idle, updated_line, UpdatesImage, EndsAgain, EndsReclaiming, EndsReport, EndsUpdate}
use Rattle.f11_commands.specs.UpdateCommand.{FailsToUpdate}
use Rattle.f11_commands.specs.declared.outcome.Answer.{Answer}
use Rattle.f11_commands.specs.declared.outcome.Answer.TheVariants.{Done, Fault}
use Rattle.f11_commands.specs.declared.outcome.Failure.{Failure}
use Rattle.f11_commands.specs.declared.outcome.Failure.TheVariants.{CannotWrite, DeviceFault}
use Rattle.f11_commands.specs.declared.report.System.TheVariants.{Files11}

-- nothing was read
over-none : (disk : Disk) → LooksOver disk disk 0
over-none disk = record {
  reads = 0;
  looked = looked_none disk;
  of_frame = λ honest code a fault. omega arith;
  of_volume = λ honest home framed. omega arith;
}

-- the first note tells whether some are of what lies idle
pub told-first : (notes : List Finding) (first : Finding) → slice_get notes 0 ≡ Some first → leb first.code 3 ≡ tells_idle notes
told-first [] first is = absurd cc
told-first (f ∷ notes) first is = ap (λ (g : Finding). leb g.code 3) (sym (same_Some f first is))

pub told-none : (notes : List Finding) → slice_get notes 0 ≡ None → false ≡ tells_idle notes
told-none [] is = refl
told-none (f ∷ notes) is = absurd cc

-- where it is none of those, none is noted
none-noted : (image : Image) (notes : List Finding) → IsExactly (IsNote image) notes → tells_idle notes ≡ false
    → (code a b : ℕ) → code ≤ 3 → ¬ IsNote image code a b
none-noted image [] is none code a b few note = let below = (is.all code a b note).1 in absurd (omega (arith, below))
none-noted image (f ∷ notes) is none code a b few note = at has.0 has.1 has.2
  where
    has : Contains (f ∷ notes) (finding code a b)
    has = is.all code a b note

    over : 3 < f.code
    over = leb-false f.code 3 none

    at : (k : ℕ) → k < length (f ∷ notes) → get_or (f ∷ notes) k (finding code a b) ≡ finding code a b → ⊥
    at zero within same = let code_is = ap (λ (g : Finding). g.code) same in omega (arith, code_is, over, few)
    at (suc k) within same =
        let before = is.order 0 (suc k) (finding code a b) (omega arith) within in
        let code_is = ap (λ (g : Finding). g.code) same in
        let under = before.code in
        omega (arith, code_is, over, few, under)

-- what was found of an image holds behind the reads that found it
pub verified-behind : (notes : List Finding) (old new : Disk) → Examines [] notes old new → IsTrue new.honest
    → Verifies new.image [] notes
verified-behind notes old new report honest =
    subst (λ (i : Image). Verifies i [] notes) (sym report.looked.looked.image)
    (report.verifies (sym report.looked.looked.honest ∙ honest))

-- the notes of an image that is as it was verified
still-verified : (notes : List Finding) (disk : Disk) → (IsTrue disk.honest → Verifies disk.image [] notes) → Examines [] notes disk disk
still-verified notes disk verified = record { verifies = verified; looked = over-none disk }

-- so it is reclaimed as it is
pub reclaimed-already : (law : NoneIsIdle) (notes : List Finding) (disk : Disk) → IsImage disk.image
    → (IsTrue disk.honest → Verifies disk.image [] notes) → tells_idle notes ≡ false → Reclaims disk disk
reclaimed-already law notes disk is verified none = law disk is (λ honest. none-noted disk.image notes (verified honest).notes_are none)

-- nothing was to be done,
pub updates-nothing : {W : Type 0} (disk : Disk) (contents : W → Option (List ℕ)) (before after : W) (told : Result Answer Failure)
    → Reclaims disk disk → EndsAgain told disk disk contents before after → EndsReclaiming told disk disk contents before after
updates-nothing disk contents before after told reclaimed again = inl (record { between = disk; reclaims = reclaimed; again = again })

-- but the sync failed
pub fails-unchanged : {W : Type 0} (disk new : Disk) (contents : W → Option (List ℕ)) (writer : W) → Reclaims disk disk
    → new ≡ with_transfer false disk → FailsToUpdate (Err DeviceFault) disk new contents writer writer
fails-unchanged disk new contents writer reclaimed failed =
    inr (record { done = disk; does = reclaimed; failed = failed; unwritten = Keeps-refl (contents writer) })

pub tells-again : {W : Type 0} (notes : List Finding) (disk : Disk) (contents : W → Option (List ℕ)) (before line after : W)
    (told : Result Answer Failure) → (IsTrue disk.honest → Verifies disk.image [] notes)
    → WriterTakes contents before line updated_line → OnOk told (WriterTakes contents line after (report_lines Files11 true [] notes))
    → IfOk told (λ answer. answer ≡ Done) → IfErr told (λ failure. failure ≡ CannotWrite)
    → EndsAgain told disk disk contents before after
tells-again notes disk contents before line after (Ok answer) verified takes lines done failed = inl (record {
  line = line;
  takes = takes;
  report =
      subst (λ (a : Answer). EndsReport (Ok a) disk disk contents line after) (sym done)
      (record { faults = []; notes = notes; examines = still-verified notes disk verified; verdict = refl; takes = lines });
})
tells-again notes disk contents before line after (Err failure) verified takes lines done failed = inl (record {
  line = line;
  takes = takes;
  report = subst (λ (f : Failure). EndsReport (Err f) disk disk contents line after) (sym failed) (over-none disk);
})

-- an image that was reclaimed
pub ends-update : {W : Type 0} (told : Result Answer Failure) (old new : Disk) (contents : W → Option (List ℕ)) (before after : W)
    → UpdatesImage told old new contents before after
    → EndsUpdate told old new contents before after
ends-update (Ok Done) old new contents before after updates = updates
ends-update (Ok Fault) old new contents before after updates = inl updates
ends-update (Err failure) old new contents before after updates = inl updates
