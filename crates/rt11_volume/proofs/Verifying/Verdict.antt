-- The verifier's lists are exactly the faults and the notes of an image.
use Rattle.std.proofs.Common.{◌≡◌, ℕ, ◌<◌, ◌↔◌, Bool, true, false, IsTrue, List, [], ◌∷◌, length, refl, sym, ◌∙◌, subst, arith}
use Rattle.f11_dev.specs.Image.{Image}
use Rattle.f11_findings.specs.Finding.{finding, IsExactly, AddsFindings}
use Rattle.f11_findings.specs.Found.{Finds}
use Rattle.f11_findings.specs.declared.finding.Finding.{Finding}
use Rattle.f11_findings.proofs.FoundLemmas.{finds-none, finds-same, finds-if, exactly}
use Rattle.rt11_volume.specs.Directory.{IsSized, HasSize}
use Rattle.rt11_volume.specs.Segment.{segment_words, segment_count}
use Rattle.rt11_volume.specs.Verifying.Faults.{IsDirectoryFault}
use Rattle.rt11_volume.specs.Verifying.Notes.{IsDirectoryNote}
use Rattle.rt11_volume.specs.Verifying.Verdict.{IsRtFault, IsRtNote}
use Rattle.rt11_volume.specs.Verifying.Verdict.IsRtFault.{size_wrong, of_directory}

-- a directory of a wrong size is the only fault
pub faults-size : (image : Image) (found : List Finding) → ¬ IsSized image → AddsFindings [] found (finding 1 0 0 ∷ [])
    → IsExactly (IsRtFault image) found
faults-size image found wrong adds = exactly (IsRtFault image) found
    (finds-if (IsRtFault image) true (finding 1 0 0) [] found adds (λ _. size_wrong wrong) one)
  where
    one : (code a b : ℕ) → IsRtFault image code a b → (true ≡ true) × (finding code a b ≡ finding 1 0 0)
    one _ _ _ (size_wrong w) = (refl, refl)
    one _ _ _ (of_directory code a b sized fault) = absurd (wrong sized)

pub notes-size : (image : Image) (found : List Finding) → ¬ IsSized image → found ≡ [] → IsExactly (IsRtNote image) found
notes-size image found wrong none = subst (IsExactly (IsRtNote image)) (sym none)
    (exactly (IsRtNote image) [] (finds-none (IsRtNote image) [] (λ code a b note. wrong note.sized)))

-- else the faults and notes are those of the directory
pub faults-sized : (image : Image) (found : List Finding) → IsSized image → Finds (IsDirectoryFault image) [] found
    → IsExactly (IsRtFault image) found
faults-sized image found sized finds = exactly (IsRtFault image) found
    (finds-same (IsDirectoryFault image) (IsRtFault image) [] found finds (λ code a b fault. of_directory code a b sized fault) only)
  where
    only : (code a b : ℕ) → IsRtFault image code a b → IsDirectoryFault image code a b
    only _ _ _ (size_wrong w) = absurd (w sized)
    only _ _ _ (of_directory code a b s fault) = fault

pub notes-sized : (image : Image) (found : List Finding) → IsSized image → Finds (IsDirectoryNote image) [] found
    → IsExactly (IsRtNote image) found
notes-sized image found sized finds =
    exactly (IsRtNote image) found (finds-same (IsDirectoryNote image) (IsRtNote image) [] found finds
    (λ code a b note. record { sized = sized; note = note }) (λ code a b note. note.note))

-- a device of fewer than 8 blocks has no room for a directory
pub unsized-few : (image : Image) → length image < 8 → ¬ IsSized image
unsized-few image few sized = omega (arith, few, sized.some, sized.within)

-- what was found of segment 1 in hand
pub unsized-first : (image : Image) (first : List ℕ) (blocks : ℕ) (b : Bool) → first ≡ segment_words image 1 → blocks ≡ length image
    → IsTrue b ↔ HasSize (segment_count first) blocks → b ≡ false
    → ¬ IsSized image
unsized-first image first blocks b is size tells fails sized =
    let yes_it_is : b ≡ true = tells.1 (subst (λ n. HasSize (segment_count first) n) (sym size)
    (subst (λ (s : List ℕ). HasSize (segment_count s) (length image)) (sym is) sized)) in
    let clash : true ≡ false = sym yes_it_is ∙ fails in
    cc

pub sized-first : (image : Image) (first : List ℕ) (blocks : ℕ) (b : Bool) → first ≡ segment_words image 1 → blocks ≡ length image
    → IsTrue b ↔ HasSize (segment_count first) blocks → b ≡ true → IsSized image
sized-first image first blocks b is size tells holds =
    subst (λ (s : List ℕ). HasSize (segment_count s) (length image)) is (subst (λ n. HasSize (segment_count first) n) size (tells.0 holds))
