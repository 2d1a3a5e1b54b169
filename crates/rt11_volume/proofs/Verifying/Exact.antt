-- What the scans of a directory find are its faults and its notes.
use Rattle.std.proofs.Common.{◌≡◌, inl, inr, ℕ, ◌<◌, List, [], length, Some, refl, sym, subst, true, false}
use Rattle.std.specs.List.{slice_get}
use Rattle.std.proofs.lemmas.Option.{slice_get_within, get_or_from_slice_get, slice_get-get_or}
use Rattle.f11_dev.specs.Image.{Image}
use Rattle.f11_findings.specs.Finding.{finding}
use Rattle.f11_findings.specs.Found.{Where, Either, FoundOfEach}
use Rattle.f11_findings.proofs.FoundLemmas.{one-said}
use Rattle.rt11_volume.specs.Directory.{visited, segment_of, IsJudged}
use Rattle.rt11_volume.specs.Entry.{status, name_words, is_one_kind, is_tentative, is_permanent}
use Rattle.rt11_volume.specs.RtName.{IsRtName}
use Rattle.rt11_volume.specs.Verifying.Faults.{IsEntry, IsDirectoryFault}
use Rattle.rt11_volume.specs.Verifying.Faults.IsDirectoryFault.{links_outside, links_back, extra_wrong, no_end, status_wrong, area_outside}
use Rattle.rt11_volume.specs.Verifying.Faults.IsDirectoryFault.{begins_early, highest_wrong}
use Rattle.rt11_volume.specs.Verifying.Notes.{RepeatsName, IsDirectoryNote}
use Rattle.rt11_volume.specs.Verifying.Notes.IsDirectoryNote.{tentative, no_name, name_repeated, begins_late}
use Rattle.rt11_volume.specs.Verifying.Scans.{number_at, entry_of, EntryFaults, LinkFaults, AreaFaults, SegmentFaults, IsHighestWrong}
use Rattle.rt11_volume.specs.Verifying.Scans.{EntryNotes, SegmentNotes}

module _ (image : Image) where
  abbrev Fault : ℕ → ℕ → ℕ → Type 0
  Fault = IsDirectoryFault image

  abbrev Note : ℕ → ℕ → ℕ → Type 0
  Note = IsDirectoryNote image

  -- entry i of a segment that is judged
  is-entry : (place k i : ℕ) → IsJudged image place k → i < length (segment_of image k).entries
      → IsEntry image place k i (entry_of (segment_of image k) i)
  is-entry place k i judged within = record { judged = judged; entry_is = slice_get-get_or (segment_of image k).entries i [] within }

  same-entry : (place k i : ℕ) (entry : List ℕ) → IsEntry image place k i entry → entry ≡ entry_of (segment_of image k) i
  same-entry place k i entry is = sym (get_or_from_slice_get (segment_of image k).entries i entry [] is.entry_is)

  within-entries : (place k i : ℕ) (entry : List ℕ) → IsEntry image place k i entry → i < length (segment_of image k).entries
  within-entries place k i entry is = slice_get_within (segment_of image k).entries i entry is.entry_is

  -- what is found of the segment at each place is found of one that was visited, and the other way round
  at-a-place : (R : ℕ → ℕ → ℕ → ℕ → ℕ → Type 0) (place k code a b : ℕ) → slice_get (visited image) place ≡ Some k → R place k code a b
      → FoundOfEach (λ j. R j (number_at image j)) (length (visited image)) code a b
  at-a-place R place k code a b at says = record {
    number = place;
    below = slice_get_within (visited image) place k at;
    says = subst (λ n. R place n code a b) (sym (get_or_from_slice_get (visited image) place k 0 at)) says;
  }

  is-visited : (place : ℕ) → place < length (visited image) → slice_get (visited image) place ≡ Some (number_at image place)
  is-visited place within = slice_get-get_or (visited image) place 0 within

  -- the faults of the directory: those of each segment, and that of the highest in use
  abbrev pub DirectoryFaults : ℕ → ℕ → ℕ → Type 0
  DirectoryFaults = Either (FoundOfEach (λ j. SegmentFaults image j (number_at image j)) (length (visited image)))
      (Where (IsHighestWrong image) (finding 9 0 0))

  link-faults : (place k code a b : ℕ) → IsJudged image place k → LinkFaults image place k code a b → Fault code a b
  link-faults place k code a b judged (inl f) = one-said Fault _ _ (λ outside. links_outside place k judged outside) code a b f
  link-faults place k code a b judged (inr f) = one-said Fault _ _ (λ back. links_back place k judged back) code a b f

  entry-faults : (place k i code a b : ℕ) → IsEntry image place k i (entry_of (segment_of image k) i)
      → EntryFaults (length image) (segment_of image k) i code a b → Fault code a b
  entry-faults place k i code a b is (inl f) = one-said Fault _ _ (λ wrong. status_wrong place k i _ is wrong) code a b f
  entry-faults place k i code a b is (inr f) = one-said Fault _ _ (λ outside. area_outside place k i _ is outside) code a b f

  area-faults : (place k code a b : ℕ) → IsJudged image place k → AreaFaults image place k code a b → Fault code a b
  area-faults place k code a b judged (inl f) = one-said Fault _ _ (λ none. no_end place k judged none) code a b f
  area-faults place k code a b judged (inr (inl f)) = one-said Fault _ _ (λ early. begins_early place k judged early) code a b f
  area-faults place k code a b judged (inr (inr f)) = entry-faults place k f.number code a b
      (is-entry place k f.number judged f.below) f.says

  segment-faults : (place k code a b : ℕ) → slice_get (visited image) place ≡ Some k → SegmentFaults image place k code a b → Fault code a b
  segment-faults place k code a b at (inl f) = one-said Fault _ _
      (λ wrong. extra_wrong k (record { place = place; visited_at = at; wrong = wrong })) code a b f
  segment-faults place k code a b at (inr (right, inl f)) = link-faults place k code a b (record { visited_at = at; right = right }) f
  segment-faults place k code a b at (inr (right, inr f)) = area-faults place k code a b (record { visited_at = at; right = right }) f

  pub faults-sound : (code a b : ℕ) → DirectoryFaults code a b → Fault code a b
  faults-sound code a b (inl f) = segment-faults f.number (number_at image f.number) code a b (is-visited f.number f.below) f.says
  faults-sound code a b (inr f) = one-said Fault _ _ (λ (wrong : IsHighestWrong image). highest_wrong wrong.0 wrong.1) code a b f

  of-judged : (place k code a b : ℕ) → IsJudged image place k → Either (LinkFaults image place k) (AreaFaults image place k) code a b
      → DirectoryFaults code a b
  of-judged place k code a b judged f = inl (at-a-place (SegmentFaults image) place k code a b judged.visited_at (inr (judged.right, f)))

  of-entry : (place k i code a b : ℕ) (entry : List ℕ) → IsEntry image place k i entry
      → EntryFaults (length image) (segment_of image k) i code a b → DirectoryFaults code a b
  of-entry place k i code a b entry is f = of-judged place k code a b is.judged
      (inr (inr (inr (record { number = i; below = within-entries place k i entry is; says = f }))))

  pub faults-complete : (code a b : ℕ) → Fault code a b → DirectoryFaults code a b
  faults-complete _ _ _ (links_outside place k judged outside) = of-judged place k _ _ _ judged (inl (inl (outside, refl)))
  faults-complete _ _ _ (links_back place k judged back) = of-judged place k _ _ _ judged (inl (inr (back, refl)))
  faults-complete _ _ _ (extra_wrong k wrong) = inl
      (at-a-place (SegmentFaults image) wrong.place k _ _ _ wrong.visited_at (inl (wrong.wrong, refl)))
  faults-complete _ _ _ (no_end place k judged none) = of-judged place k _ _ _ judged (inr (inl (none, refl)))
  faults-complete _ _ _ (begins_early place k judged early) = of-judged place k _ _ _ judged (inr (inr (inl (early, refl))))
  faults-complete _ _ _ (status_wrong place k i entry is wrong) =
      of-entry place k i _ _ _ entry is (inl (subst (λ e. is_one_kind (status e) ≡ false) (same-entry place k i entry is) wrong, refl))
  faults-complete _ _ _ (area_outside place k i entry is outside) = of-entry place k i _ _ _ entry is (inr (outside, refl))
  faults-complete _ _ _ (highest_wrong none wrong) = inr ((none, wrong), refl)

  -- the notes of the directory
  abbrev pub DirectoryNotes : ℕ → ℕ → ℕ → Type 0
  DirectoryNotes = FoundOfEach (λ j. SegmentNotes image j (number_at image j)) (length (visited image))

  entry-notes : (place k i code a b : ℕ) → IsEntry image place k i (entry_of (segment_of image k) i) → EntryNotes image place k i code a b
      → Note code a b
  entry-notes place k i code a b is (inl f) = one-said Note _ _ (λ holds. tentative place k i _ is holds) code a b f
  entry-notes place k i code a b is (inr (inl f)) = one-said Note _ _
      (λ file. no_name place k i _ (record { is_entry = is; permanent = file.0 }) file.1) code a b f
  entry-notes place k i code a b is (inr (inr f)) = one-said Note _ _
      (λ file. name_repeated place k i _ (record { is_entry = is; permanent = file.0 }) file.1) code a b f

  segment-notes : (place k code a b : ℕ) → slice_get (visited image) place ≡ Some k → SegmentNotes image place k code a b → Note code a b
  segment-notes place k code a b at (right, inl f) = one-said Note _ _
      (λ late. begins_late place k (record { visited_at = at; right = right }) late) code a b f
  segment-notes place k code a b at (right, inr f) = entry-notes place k f.number code a b
      (is-entry place k f.number (record { visited_at = at; right = right }) f.below) f.says

  pub notes-sound : (code a b : ℕ) → DirectoryNotes code a b → Note code a b
  notes-sound code a b f = segment-notes f.number (number_at image f.number) code a b (is-visited f.number f.below) f.says

  of-noted : (place k i code a b : ℕ) (entry : List ℕ) → IsEntry image place k i entry → EntryNotes image place k i code a b
      → DirectoryNotes code a b
  of-noted place k i code a b entry is f =
      at-a-place (SegmentNotes image) place k code a b is.judged.visited_at
      (is.judged.right, inr (record { number = i; below = within-entries place k i entry is; says = f }))

  pub notes-complete : (code a b : ℕ) → Note code a b → DirectoryNotes code a b
  notes-complete _ _ _ (tentative place k i entry is holds) =
      of-noted place k i _ _ _ entry is (inl (subst (λ e. is_tentative e ≡ true) (same-entry place k i entry is) holds, refl))
  notes-complete _ _ _ (no_name place k i entry file none) =
      of-noted place k i _ _ _ entry file.is_entry
      (inr (inl (
        subst (λ e. (is_permanent e ≡ true) × ¬ IsRtName (name_words e)) (same-entry place k i entry file.is_entry)
            (file.permanent, none),
        refl,
      )))
  notes-complete _ _ _ (name_repeated place k i entry file again) =
      of-noted place k i _ _ _ entry file.is_entry
      (inr (inr (
        subst (λ e. (is_permanent e ≡ true) × RepeatsName image place i e) (same-entry place k i entry file.is_entry)
            (file.permanent, again),
        refl,
      )))
  notes-complete _ _ _ (begins_late place k judged late) = at-a-place (SegmentNotes image) place k _ _ _ judged.visited_at
      (judged.right, inl (late, refl))
