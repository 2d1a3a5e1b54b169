-- What the verifier finds is exactly an image's faults and notes.
use Rattle.std.proofs.Common.{inl, inr, ℕ, true, refl, sym, subst, arith, List, [], ◌∷◌, get_or}
use Rattle.std.proofs.lemmas.Bool.{cases_lt}
use Rattle.std.proofs.lemmas.List.Elements.{All-contains, Contains-get_or}
use Rattle.f11_dev.specs.Image.{Image}
use Rattle.f11_findings.specs.Finding.{finding, IsExactly, IsInOrder, AddsFindings}
use Rattle.f11_findings.specs.declared.finding.Finding.{Finding}
use Rattle.f11_findings.proofs.FoundLemmas.{exactly, finds-if}
use Rattle.f11_home.specs.Home.{HomeFields}
use Rattle.f11_home.proofs.HomeLemmas.{home-unique}
use Rattle.f11_vfy.specs.Directory.Notes.{IsDirectoryNote}
use Rattle.f11_volume.specs.Faults.{IsFramed, IsFrameFault, IsVolumeFault}
use Rattle.f11_findings.specs.Found.{Finds}
use Rattle.f11_volume.specs.Notes.{IsVolumeNote}
use Rattle.f11_vfy.specs.Scanning.Contiguous.{IsLastNote}
use Rattle.f11_vfy.specs.Scanning.Reading.{IsFirstNote}
use Rattle.f11_volume.specs.Verdict.{IsFault, IsNote, of_frame, of_volume}
use Rattle.f11_volume.specs.Volume.{Volume, volume_of}
use Rattle.f11_volume.proofs.FrameLemmas.{frame-none, frame-only}

-- a list is exactly a relation where it is another that holds of the same
pub exactly-same : (R S : ℕ → ℕ → ℕ → Type 0) (found : List Finding) → ((code a b : ℕ) → R code a b → S code a b)
    → ((code a b : ℕ) → S code a b → R code a b)
    → IsExactly R found → IsExactly S found
exactly-same R S found to from is = record {
  each = λ k d below. to _ _ _ (is.each k d below);
  all = λ code a b holds. is.all code a b (from code a b holds);
  order = is.order;
}

-- a fault of the frame is the only one, and there is no note beside it
pub one-fault : (image : Image) (code a : ℕ) (found : List Finding) → IsFrameFault image code a
    → AddsFindings [] found (finding code a 0 ∷ []) → IsExactly (IsFault image) found
one-fault image code a found fault adds =
    exactly (IsFault image) found (finds-if (IsFault image) true (finding code a 0) [] found adds (λ _. of_frame code a fault) (λ c x y is.
    let same = frame-only image code a c x y fault is in
    (refl, λ i. finding (sym same.0 i) (sym same.1 i) (same.2 i))))

none-in-order : IsInOrder []
none-in-order = λ i j d less below. absurd (omega (arith, below))

pub no-note : (image : Image) (code a : ℕ) → IsFrameFault image code a → IsExactly (IsNote image) []
no-note image code a fault = record {
  each = λ k d below. absurd (omega (arith, below));
  all = λ c n m note. absurd (frame-none image note.home code a note.framed fault);
  order = none-in-order;
}

-- the notes of a volume are those of the first five codes, those of directories, and the last
pub volume-notes : (image : Image) (v : Volume) (old now new : List Finding) → IsExactly (IsFirstNote image v) old
    → Finds (IsDirectoryNote image v) old now → Finds (IsLastNote image v) now new
    → IsExactly (IsVolumeNote image v) new
volume-notes image v old now new is gathered last = record {
  each = λ k d below. elim (last.no_others (get_or new k d) (Contains-get_or new k d below)) [
    | inl before ↦ elim (gathered.no_others (get_or new k d) before) [
      | inl first ↦ (All-contains (λ f. IsFirstNote image v f.code f.a f.b) old (get_or new k d) is.each first).note
      | inr there ↦ there.note
    ]
    | inr there ↦ there.note
  ];
  all = λ code a b note. elim (cases_lt 5 code) [
    | inl past ↦ elim (cases_lt 9 code) [
      | inl end ↦ last.added code a b (record { last = end; note = note })
      | inr early ↦ last.kept (finding code a b) (gathered.added code a b (record { late = past; early = early; note = note }))
    ]
    | inr first ↦ last.kept (finding code a b) (gathered.kept (finding code a b) (is.all code a b (record { first = first; note = note })))
  ];
  order = last.order (gathered.order is.order);
}

module _ (image : Image) (home : HomeFields) (framed : IsFramed image home) where
  -- the faults of an image with a frame are those of its volume
  pub volume-faults : (found : List Finding) → IsExactly (IsVolumeFault (volume_of image home)) found → IsExactly (IsFault image) found
  volume-faults found is = exactly-same _ _ found (λ code a b fault. of_volume home code a b framed fault) from is
    where
      from : (code a b : ℕ) → IsFault image code a b → IsVolumeFault (volume_of image home) code a b
      from code a b (of_frame c d fault) = absurd (frame-none image home c d framed fault)
      from code a b (of_volume other c d e also fault) =
          subst (λ (h : HomeFields). IsVolumeFault (volume_of image h) c d e) (home-unique image other home also.home_is framed.home_is)
          fault

  volume-note : (code a b : ℕ) → IsNote image code a b → IsVolumeNote image (volume_of image home) code a b
  volume-note code a b note =
      subst (λ (h : HomeFields). IsVolumeNote image (volume_of image h) code a b)
      (home-unique image note.home home note.framed.home_is framed.home_is) note.note

  -- and so are its notes
  pub image-notes : (found : List Finding) → IsExactly (IsVolumeNote image (volume_of image home)) found → IsExactly (IsNote image) found
  image-notes found is = exactly-same _ _ found (λ code a b note. record { home = home; framed = framed; note = note }) volume-note is
