-- How far an image is read by the verifier.
use Rattle.f11_findings.specs.declared.finding.Finding.{Finding}
use Rattle.std.proofs.Common.{◌≡◌, ◌≢◌, ◌≤◌, ◌==◌, ◌+◌, ◌↔◌, ℕ, Bool, true, false, not, length, List, [], ◌∷◌, refl, sym, ap, subst, ◌∙◌}
use Rattle.std.proofs.Common.{arith}
use Rattle.std.specs.Prelude.{IsTrue}
use Rattle.std.proofs.lemmas.Bool.{eqb-true, false≢true, ne_eqb}
use Rattle.f11_bits.specs.Bitmap.{Bitmap}
use Rattle.f11_dev.specs.Disk.{Disk}
use Rattle.f11_dev.specs.Image.{Image}
use Rattle.f11_dev.specs.Looked.{Looked}
use Rattle.f11_dev.proofs.LookedLemmas.{looked_more}
use Rattle.f11_findings.specs.Finding.{finding, IsExactly, AddsFindings}
use Rattle.f11_home.specs.Home.{HomeFields}
use Rattle.f11_home.proofs.HomeLemmas.{home-unique}
use Rattle.f11_index.specs.IndexFile.{Index, index_of}
use Rattle.f11_index.specs.Table.{table_in}
use Rattle.f11_vfy.specs.Directory.Notes.{directory_reads, LooksThrough, NotesVolume}
use Rattle.f11_volume.specs.Faults.{IsVolumeFault}
use Rattle.f11_vfy.specs.Frames.Frame.{AreOf, ReadsFrame, FindsFrameFault, frame_reads}
use Rattle.f11_vfy.specs.Scanning.Reading.{most_read, volume_in, ShowsVolume, ReadsVolume}
use Rattle.f11_vfy.specs.Verify.{AreWanted, LooksOverVolume, LooksOver, Judges, JudgesVolume, Examines, Passes, ReadsFrameAndHeaders}
use Rattle.f11_vfy.specs.declared.verifier.NotesOf.{NotesOf}
use Rattle.f11_vfy.specs.declared.verifier.NotesOf.TheVariants.{Any, Faulty as OfFaulty}
use Rattle.f11_volume.specs.Verdict.{IsAccepted, IsFault}
use Rattle.f11_volume.specs.Volume.{Volume, volume_of}
use Rattle.f11_volume.specs.Notes.{IsVolumeNote}
use Rattle.f11_vfy.proofs.Scanning.Verdict.{one-fault, no-note, volume-faults, image-notes}
use Rattle.f11_vfy.specs.declared.findings.reading.Reading.{Reading}
use Rattle.f11_volume.proofs.FrameLemmas.{frame-none}
use Rattle.f11_vfy.proofs.Scanning.Reading.{volume-read}

module _ (index : Index) (bitmap : Bitmap) (r : Reading) (old mid : Disk) (read : ReadsVolume index bitmap r old mid) where
  honest-stays : IsTrue old.honest → IsTrue mid.honest
  honest-stays honest = read.looked.honest ∙ honest

  pub shows-stays : IsTrue old.honest → ShowsVolume (volume_in mid.image index bitmap) r
  shows-stays honest = subst (λ (image : Image). ShowsVolume (volume_in image index bitmap) r) (sym read.looked.image) (read.shows honest)

  -- and then the directories
  pub over-directories : (new : Disk) (faults : ℕ) → LooksThrough index r mid new faults → LooksOverVolume index bitmap old new faults
  over-directories new faults through = record {
    reads = most_read index bitmap + through.reads;
    looked = looked_more read.looked through.looked;
    few = λ honest.
        let few = subst (λ (image : Image). through.reads ≤ directory_reads image (table_in image index)) read.looked.image
        (through.few (honest-stays honest) bitmap (shows-stays honest)) in
        omega (arith, few);
  }

  -- or none of them
  pub over-blocks : LooksOverVolume index bitmap old mid 0
  over-blocks = record { reads = most_read index bitmap; looked = read.looked; few = λ honest. omega arith }

  pub notes-stay : (new : Disk) (notes : List Finding) → NotesVolume index r notes mid new → IsTrue old.honest
      → IsExactly (IsVolumeNote old.image (volume_in old.image index bitmap)) notes
  notes-stay new notes noted honest =
      subst (λ (image : Image). IsExactly (IsVolumeNote image (volume_in image index bitmap)) notes) read.looked.image
      (noted.exact (honest-stays honest) bitmap (shows-stays honest))

-- the frame alone was read
pub over-frame : (old new : Disk) (faults : ℕ) → Looked old new (frame_reads old) faults → LooksOver old new faults
over-frame old new faults looked =
    record {
      reads = frame_reads old;
      looked = looked;
      of_frame = λ honest code a fault. omega arith;
      of_volume = λ honest home framed.
          omega arith;
    }

-- and then the volume
pub over-volume : (index : Index) (bitmap : Bitmap) (old mid new : Disk) (faults : ℕ) → ReadsFrame index bitmap old mid
    → LooksOverVolume index bitmap mid new faults → LooksOver old new faults
over-volume index bitmap old mid new faults frame over = record {
  reads = frame_reads old + over.reads;
  looked = looked_more frame.looked over.looked;
  of_frame = λ honest code a fault. absurd (frame-none old.image frame.home code a (frame.are honest).framed fault);
  of_volume = λ honest home framed.
      let are : AreOf old.image home index bitmap = subst (λ (h : HomeFields). AreOf old.image h index bitmap)
      (home-unique old.image frame.home home (frame.are honest).framed.home_is framed.home_is) (frame.are honest) in
      let few = subst (λ (image : Image). over.reads ≤ most_read index bitmap + directory_reads image (table_in image index))
      frame.looked.image (over.few (frame.looked.honest ∙ honest)) in
      let same = ap (λ (i : Index). most_read i bitmap + directory_reads old.image (table_in old.image i)) are.index_is
      ∙ ap (λ (b : Bitmap). most_read (index_of old.image home) b + directory_reads old.image
      (table_in old.image (index_of old.image home))) are.bitmap_is in
      omega (arith, few, same);
}

-- what was found of the volume is what there is of the image
module _ (index : Index) (bitmap : Bitmap) (old mid new : Disk) (frame : ReadsFrame index bitmap old mid) where
  same-volume : IsTrue old.honest → volume_in mid.image index bitmap ≡ volume_of old.image frame.home
  same-volume honest =
      let are = frame.are honest in
      ap (λ (image : Image). volume_in image index bitmap) frame.looked.image
      ∙ ap (λ (i : Index). volume_in old.image i bitmap) are.index_is
      ∙ ap (volume_in old.image (index_of old.image frame.home)) are.bitmap_is ∙ sym (volume-read old.image frame.home)

  -- of the directories nothing was read
  no-directory : new.transfers ≤ mid.transfers + most_read index bitmap → ReadsFrameAndHeaders old new
  no-directory few honest home framed =
      let are : AreOf old.image home index bitmap = subst (λ (h : HomeFields). AreOf old.image h index bitmap)
      (home-unique old.image frame.home home (frame.are honest).framed.home_is framed.home_is) (frame.are honest) in
      let same = ap (λ (i : Index). most_read i bitmap) are.index_is
      ∙ ap (most_read (index_of old.image home)) are.bitmap_is in
      omega (arith, few, same, frame.looked.transfers)

  pub judges-volume : (of : NotesOf) (faults notes : List Finding) → JudgesVolume of index bitmap faults notes mid new
      → Judges of faults notes old new
  judges-volume of faults notes found = record {
    faults_are = λ honest.
        volume-faults old.image frame.home (frame.are honest).framed faults
        (subst (λ (v : Volume). IsExactly (IsVolumeFault v) faults) (same-volume honest)
        (found.faults_are (frame.looked.honest ∙ honest)));
    notes_are = λ wanted honest.
        image-notes old.image frame.home (frame.are honest).framed notes
        (subst (λ (image : Image). IsExactly (IsVolumeNote image (volume_of old.image frame.home)) notes) frame.looked.image
        (subst (λ (v : Volume). IsExactly (IsVolumeNote mid.image v) notes) (same-volume honest)
        (found.notes_are wanted (frame.looked.honest ∙ honest))));
    looked = over-volume index bitmap old mid new 0 frame found.looked;
    spared = λ unwanted. no-directory (found.spared unwanted);
  }

-- and where its frame has a fault, that is all
pub judges-frame : (of : NotesOf) (code a : ℕ) (old new : Disk) (found : List Finding) → FindsFrameFault code a old new
    → AddsFindings [] found (finding code a 0 ∷ []) → Judges of found [] old new
judges-frame of code a old new found fault adds = record {
  faults_are = λ honest. one-fault old.image code a found (fault.fault honest) adds;
  notes_are = λ wanted honest. no-note old.image code a (fault.fault honest);
  looked = over-frame old new 0 fault.looked;
  spared = λ unwanted honest home framed. absurd (frame-none old.image home code a framed (fault.fault honest));
}

-- where notes were wanted, they are all there
pub judged-whole : (of : NotesOf) (faults notes : List Finding) (old new : Disk) → AreWanted of faults → Judges of faults notes old new
    → Examines faults notes old new
judged-whole of faults notes old new wanted judged = record {
  verifies = λ honest. record { faults_are = judged.faults_are honest; notes_are = judged.notes_are wanted honest };
  looked = judged.looked;
}

-- an image without a fault is accepted,
none-faulty : (image : Image) → IsExactly (IsFault image) [] → IsAccepted image
none-faulty image are code a b fault = let below = (are.all code a b fault).1 in absurd (omega (arith, below))

-- and one with a fault isn't
some-faulty : (image : Image) (f : Finding) (faults : List Finding) → IsExactly (IsFault image) (f ∷ faults) → ¬ IsAccepted image
some-faulty image f faults are accepted = accepted f.code f.a f.b (are.each 0 f (omega arith))

pub told-verdict : (image : Image) (faulty : Bool) (faults : List Finding) → faulty ≡ not (length faults == 0)
    → IsExactly (IsFault image) faults → (faulty ≡ false) ↔ IsAccepted image
told-verdict image faulty [] told are = (λ _. none-faulty image are, λ _. told)
told-verdict image faulty (f ∷ faults) told are = (
  λ sound.
      let some : (length (f ∷ faults) == 0) ≡ false = ne_eqb (length (f ∷ faults)) 0 (λ zero. absurd (omega (arith, zero))) in
      absurd (false≢true (sym sound ∙ told ∙ ap not some)),
  λ accepted. absurd (some-faulty image f faults are accepted),
)

-- and an image without a fault passes
pub passes : (faults notes : List Finding) (old new : Disk) → (length faults == 0) ≡ true → Judges OfFaulty faults notes old new
    → Passes old new
passes [] notes old new none judged = record {
  accepted = λ honest. none-faulty old.image (judged.faults_are honest);
  looked = judged.looked;
  spared = judged.spared (λ some. some refl);
}
passes (f ∷ faults) notes old new none judged =
    let zero = eqb-true (length (f ∷ faults)) 0 none in absurd (omega (arith, zero))

pub some-judged : (of : NotesOf) (faults notes : List Finding) (old new : Disk) → (length faults == 0) ≡ false
    → (faults ≢ [] → AreWanted of faults) → Judges of faults notes old new → Examines faults notes old new × (faults ≢ [])
some-judged of [] notes old new some wanted judged = absurd cc
some-judged of (f ∷ faults) notes old new some wanted judged =
    let there : (f ∷ faults) ≢ [] = λ none. absurd cc in
    (judged-whole of (f ∷ faults) notes old new (wanted there) judged, there)

pub none-judged : (faults notes : List Finding) (old new : Disk) → (length faults == 0) ≡ true → Judges Any faults notes old new
    → Examines [] notes old new
none-judged [] notes old new none judged = judged-whole Any [] notes old new tt judged
none-judged (f ∷ faults) notes old new none judged =
    let zero = eqb-true (length (f ∷ faults)) 0 none in absurd (omega (arith, zero))
