-- What is found of all directories.
use Rattle.std.proofs.Common.{◌≡◌, ◌⊎◌, ◌<◌, ◌≤◌, ◌+◌, ◌-◌, inl, inr, ℕ, false, true, List, [], length, get_or, refl, ap, sym, subst, ◌∙◌}
use Rattle.std.proofs.Common.{arith, eq-eqb}
use Rattle.std.proofs.lemmas.Bool.{both_ways, and_from, cond-true, false_from_ne_true}
use Rattle.f11_bits.specs.Bitmap.{Bitmap}
use Rattle.f11_dev.specs.Disk.{Disk}
use Rattle.f11_dev.specs.Image.{Image}
use Rattle.f11_dev.proofs.LookedLemmas.{looked_none, looked_more}
use Rattle.f11_findings.specs.Finding.{finding}
use Rattle.f11_findings.specs.declared.finding.Finding.{Finding}
use Rattle.f11_index.proofs.NextLemmas.{live-tested}
use Rattle.f11_index.specs.IndexFile.{Index}
use Rattle.f11_index.specs.Table.{Table, table_in}
use Rattle.f11_vfy.specs.Surveying.Bits.{has}
use Rattle.f11_vfy.specs.Chain.{KeepsTable, KnowsNexts}
use Rattle.f11_vfy.specs.Directory.Reading.{LooksFor, TakesDirectory, most_reads}
use Rattle.f11_vfy.specs.Directory.Notes.{IsDirectoryNote, has_directory, reads_at, JudgesSlot, JudgesUpTo, LooksAt, LooksUpTo}
use Rattle.f11_vfy.specs.Directory.Notes.{LooksThrough}
use Rattle.f11_findings.specs.Found.{Finds, FoundAmong}
use Rattle.f11_vfy.specs.Directory.Gathered.{FlawsUpTo, HasGatheredNothing, ShowsGathered}
use Rattle.f11_volume.specs.Notes.{IsDirectory, IsEntered, IsVolumeNote, blocks_lost, header_dead, orphan, marked, not_closed}
use Rattle.f11_volume.specs.Notes.{in_no_directory, names_no_file, name_repeated, no_name, not_contiguous}
use Rattle.f11_vfy.specs.Scanning.Reading.{ShowsVolume, volume_in}
use Rattle.f11_vfy.specs.Scanning.Scans.{IsFileSlot}
use Rattle.f11_vfy.specs.Surveying.Slot.{KeepsSlot, kept_slot}
use Rattle.f11_volume.specs.Volume.{Volume}
use Rattle.f11_vfy.specs.declared.directories.gathered.Gathered.{Gathered}
use Rattle.f11_vfy.specs.declared.findings.reading.Reading.{Reading}
use Rattle.f11_vfy.specs.declared.survey.slot.Slot.{Slot}
use Rattle.f11_vfy.specs.declared.survey.slot.State.TheVariants.{Live}
use Rattle.f11_vfy.proofs.Directory.Gathered.{gathered-new, gathered-still, gathered-next}
use Rattle.f11_vfy.proofs.Scanning.Reading.{directory-said}
use Rattle.f11_vfy.proofs.Surveying.Slots.{live-from, live-to}
use Rattle.f11_vfy.proofs.Surveying.Sums.{sum_to-more, sum_to-le}
use Rattle.f11_findings.proofs.FoundLemmas.{finds-more, finds-same}
use Rattle.f11_vfy.proofs.Directory.Records.{flaw-low, flaw-high}
use Rattle.f11_vfy.specs.declared.directories.flaws.Flaw.{Flaw}
use Rattle.f11_vfy.specs.declared.directories.flaws.Flaw.TheVariants.{NoFile, Repeated, NoName}
use Rattle.std.specs.Prelude.{Contains}

pub knows-nexts : (v : Volume) (r : Reading) → ShowsVolume v r → KnowsNexts v.table r.chains.nexts.items
knows-nexts v r is = record { fit = is.fit; count = r.whole.sized.nexts ∙ is.surveys.slots.count; nexts = is.chains.nexts }

pub keeps-table : (v : Volume) (r : Reading) → ShowsVolume v r → KeepsTable v.table r.survey.slots.items
keeps-table v r is = record { fit = is.fit; keeps = is.surveys.slots }

module _ (image : Image) (t : Table) (d : ℕ) (s : Slot) (keeps : KeepsSlot t d s) where
  pub directory-here : IsFileSlot s → s.directory ≡ true → IsDirectory image t d
  directory-here file is =
      let first = sym (keeps.header file.0).segment ∙ file.1 in
      record {
        file = record { live = live-from t d _ keeps.state file.0; first = first };
        directory = directory-said image t d
            ∙ sym ((keeps.header file.0).directory first) ∙ is;
      }

  pub directory-there : IsDirectory image t d → IsFileSlot s × (s.directory ≡ true)
  directory-there is =
      let alive = live-to t d s.state keeps.state is.file.live in (
        (alive, (keeps.header alive).segment ∙ is.file.first),
        (keeps.header alive).directory is.file.first ∙ sym (directory-said image t d)
            ∙ is.directory,
      )

directory-tested : (image : Image) (t : Table) (d : ℕ) → IsDirectory image t d → has_directory image t d ≡ true
unfolding has_directory
directory-tested image t d is = and_from _ _ ((live-tested t d).1 is.file.live) (and_from _ _ (eq-eqb _ _ is.file.first) is.directory)

module _ (index : Index) (r : Reading) (k : ℕ) (s : Slot) (old new : Disk) (below : k < length r.survey.slots.items)
    (at : s ≡ get_or r.survey.slots.items k s) where
  kept-here : (bitmap : Bitmap) → ShowsVolume (volume_in old.image index bitmap) r → KeepsSlot (table_in old.image index) (k + 1) s
  kept-here bitmap is =
      subst (λ (x : Slot). KeepsSlot (table_in old.image index) (k + 1) x) (sym at)
      (is.surveys.slots.each k s (omega (arith, below, is.surveys.slots.count)))

  pub judges-none : (gathered : Gathered) → ¬ (IsFileSlot s × (s.directory ≡ true)) → JudgesSlot index r k gathered gathered old old
  judges-none gathered none = record {
    shows = λ honest bitmap is shows. gathered-still old.image (volume_in old.image index bitmap) is.fit.low k
        (λ dir. none (directory-there old.image (table_in old.image index) (k + 1) s (kept-here bitmap is) dir)) gathered shows;
    limit = refl;
    looked = record { reads = 0; looked = looked_none old; few = λ honest bitmap is. omega arith };
  }

  module _ (file : IsFileSlot s × (s.directory ≡ true)) where
    directory-at : (bitmap : Bitmap) → ShowsVolume (volume_in old.image index bitmap) r
        → IsDirectory old.image (table_in old.image index) (k + 1)
    directory-at bitmap is = directory-here old.image (table_in old.image index) (k + 1) s (kept-here bitmap is) file.0 file.1

    pub looks-at : (faults : ℕ) → LooksFor index r.chains.nexts.items (k + 1) old new faults → LooksAt index r k old new faults
    looks-at faults looks = record {
      reads = looks.reads;
      looked = looks.looked;
      few = λ honest bitmap is.
          let dir = directory-at bitmap is in
          let few = looks.few honest (knows-nexts (volume_in old.image index bitmap) r is) dir.file.live in
          let all : reads_at old.image (table_in old.image index) k ≡ most_reads old.image (table_in old.image index) (k + 1) =
          cond-true _ _ _ (directory-tested old.image (table_in old.image index) (k + 1) dir) in
          omega (arith, few, all);
    }

    pub judges-directory : (before after : Gathered)
        → TakesDirectory index r.survey.slots.items r.chains.nexts.items (k + 1) before after old new
        → JudgesSlot index r k before after old new
    judges-directory before after takes = record {
      shows = λ honest bitmap is shows.
          let v = volume_in old.image index bitmap in
          let here = directory-at bitmap is in
          gathered-next old.image v is.fit.low k here before after shows
          (takes.takes honest (knows-nexts v r is) (keeps-table v r is) here.file.live shows.blank);
      limit = takes.limit;
      looked = looks-at 0 takes.looked;
    }

-- before the first slot
pub judged-none : (index : Index) (r : Reading) (gathered : Gathered) (disk : Disk) → HasGatheredNothing gathered
    → gathered.entered.limit ≡ length r.survey.slots.items + 1 → JudgesUpTo index r 0 gathered disk disk
judged-none index r gathered disk new limit = record {
  shows = λ honest bitmap is. gathered-new disk.image (volume_in disk.image index bitmap) is.fit.low gathered new;
  limit = limit;
  looked = record { reads = 0; looked = looked_none disk; few = λ honest bitmap is. omega arith };
}

-- one slot after others
pub looked-on : (index : Index) (r : Reading) (k : ℕ) (old now new : Disk) (faults : ℕ) → LooksUpTo index r k old now 0
    → LooksAt index r k now new faults → LooksUpTo index r (k + 1) old new faults
looked-on index r k old now new faults before here = record {
  reads = before.reads + here.reads;
  looked = looked_more before.looked here.looked;
  few = λ honest bitmap is.
      let first = before.few honest bitmap is in
      let at = subst (λ (i : Image). ShowsVolume (volume_in i index bitmap) r → here.reads ≤ reads_at i (table_in i index) k)
      before.looked.image (here.few (before.looked.honest ∙ honest) bitmap) is in
      omega (arith, first, at, sum_to-more (reads_at old.image (table_in old.image index)) k);
}

pub judged-more : (index : Index) (r : Reading) (k : ℕ) (gathered after : Gathered) (old now new : Disk)
    → JudgesUpTo index r k gathered old now
    → JudgesSlot index r k gathered after now new → JudgesUpTo index r (k + 1) after old new
judged-more index r k gathered after old now new before here = record {
  shows = λ honest bitmap is.
      subst (λ (i : Image). ShowsVolume (volume_in i index bitmap) r → ShowsGathered i (volume_in i index bitmap) k gathered
      → ShowsGathered i (volume_in i index bitmap) (k + 1) after) before.looked.looked.image
      (here.shows (before.looked.looked.honest ∙ honest) bitmap) is (before.shows honest bitmap is);
  limit = here.limit ∙ before.limit;
  looked = looked-on index r k old now new 0 before.looked here.looked;
}

-- all slots
pub looked-all : (index : Index) (r : Reading) (n : ℕ) (old new : Disk) (faults : ℕ) → n ≤ length r.survey.slots.items
    → LooksUpTo index r n old new faults → LooksThrough index r old new faults
looked-all index r n old new faults below looks = record {
  reads = looks.reads;
  looked = looks.looked;
  few = λ honest bitmap is.
      let t = table_in old.image index in
      omega (arith, looks.few honest bitmap is, sum_to-le (reads_at old.image t) n t.slots (omega (arith, below, is.surveys.slots.count)));
}

-- the notes of the directories, a list after another
module _ (image : Image) (v : Volume) (r : Reading) (is : ShowsVolume v r) (gathered : Gathered)
    (shows : ShowsGathered image v (length r.survey.slots.items) gathered) where
  abbrev pub Unentered : ℕ → ℕ → ℕ → Type 0
  Unentered =
      FoundAmong (λ k. IsFileSlot (kept_slot r.survey.slots.items k) × (has gathered.entered (k + 1) ≡ false)) (λ k. finding 6 (k + 1) 0)
      (length r.survey.slots.items)

  abbrev pub Of : List Finding → ℕ → ℕ → ℕ → Type 0
  Of list code a b = Contains list (finding code a b)

  abbrev pub Found : ℕ → ℕ → ℕ → Type 0
  Found code a b = ((Unentered code a b ⊎ Of gathered.no_file code a b) ⊎ Of gathered.repeated code a b) ⊎ Of gathered.no_name code a b

  kept : (k : ℕ) → k < length r.survey.slots.items → KeepsSlot v.table (k + 1) (kept_slot r.survey.slots.items k)
  kept k below = is.surveys.slots.each k _ (omega (arith, below, is.surveys.slots.count))

  all-entered : (n : ℕ) → IsEntered image v.table n → has gathered.entered n ≡ true
  all-entered n e =
      (shows.entered n).1 (record {
        entered = e;
        within = let high = is.fit.high e.directory e.entry.directory.file.live.in_use in
            omega (arith, high, is.surveys.slots.count);
      })

  unentered-noted : (f : Finding) (k : ℕ) → k < length r.survey.slots.items → IsFileSlot (kept_slot r.survey.slots.items k)
      → has gathered.entered (k + 1) ≡ false → f ≡ finding 6 (k + 1) 0 → IsDirectoryNote image v f.code f.a f.b
  unentered-noted f k below file none same = subst (λ (g : Finding). IsDirectoryNote image v g.code g.a g.b) (sym same) (record {
    late = omega arith;
    early = omega arith;
    note =
        in_no_directory (k + 1)
        (record {
          live = live-from v.table (k + 1) _ (kept k below).state file.0;
          first = sym ((kept k below).header file.0).segment
              ∙ file.1;
        })
        (λ e. both_ways _ none (all-entered (k + 1) e));
  })

  flaw-found : (flaw : Flaw) (list : List Finding) → Finds (FlawsUpTo image v flaw (length r.survey.slots.items)) [] list → (code a b : ℕ)
      → Of list code a b → IsDirectoryNote image v code a b
  flaw-found flaw list finds code a b c = elim (finds.no_others (finding code a b) c) [
    | inl none ↦ absurd (omega (arith, none.1))
    | inr f ↦ record { late = omega (arith, f.0, flaw-low flaw); early = omega (arith, f.0, flaw-high flaw); note = f.1.1 }
  ]

  found-noted : (code a b : ℕ) → Found code a b → IsDirectoryNote image v code a b
  found-noted code a b (inl (inl (inl f))) = unentered-noted (finding code a b) f.number f.below f.holds.0 f.holds.1 f.is
  found-noted code a b (inl (inl (inr c))) = flaw-found NoFile gathered.no_file shows.no_file code a b c
  found-noted code a b (inl (inr c)) = flaw-found Repeated gathered.repeated shows.repeated code a b c
  found-noted code a b (inr c) = flaw-found NoName gathered.no_name shows.no_name code a b c

  within : (d : ℕ) → IsDirectory image v.table d → d ≤ length r.survey.slots.items
  within d dir = let high = is.fit.high d dir.file.live.in_use in omega (arith, high, is.surveys.slots.count)

  noted-found : (code a b : ℕ) → IsVolumeNote image v code a b → 5 < code → code ≤ 9 → Found code a b
  noted-found code a b (blocks_lost low high run) past early = absurd (omega (arith, past))
  noted-found code a b (header_dead n dead) past early = absurd (omega (arith, past))
  noted-found code a b (orphan n live gathered none) past early = absurd (omega (arith, past))
  noted-found code a b (marked n file mark) past early = absurd (omega (arith, past))
  noted-found code a b (not_closed n file was) past early = absurd (omega (arith, past))
  noted-found code a b (in_no_directory n file none) past early =
      let low = is.fit.low n file.live.in_use in
      let high = is.fit.high n file.live.in_use in
      let below : n - 1 < length r.survey.slots.items = omega (arith, low, high, is.surveys.slots.count) in
      let same : n - 1 + 1 ≡ n = omega (arith, low) in
      let here = subst (λ (m : ℕ). KeepsSlot v.table m (kept_slot r.survey.slots.items (n - 1))) same (kept (n - 1) below) in
      let alive : (kept_slot r.survey.slots.items (n - 1)).state ≡ Live = live-to v.table n _ here.state file.live in
      inl (inl (inl (record {
        number = n - 1;
        below = below;
        holds = (
          (alive, (here.header alive).segment ∙ file.first),
          false_from_ne_true _ (λ e. none ((shows.entered n).0 (ap (has gathered.entered) (sym same) ∙ e)).entered),
        );
        is = ap (λ (m : ℕ). finding 6 m 0) (sym same);
      })))
  noted-found code a b (names_no_file d i bytes e none) past early =
      inl (inl (inr (shows.no_file.added 7 d i (refl, (within d e.directory, names_no_file d i bytes e none)))))
  noted-found code a b (name_repeated d i bytes e again) past early =
      inl (inr (shows.repeated.added 8 d i (refl, (within d e.directory, name_repeated d i bytes e again))))
  noted-found code a b (no_name d i bytes e none) past early =
      inr (shows.no_name.added 9 d i (refl, (within d e.directory, no_name d i bytes e none)))
  noted-found code a b (not_contiguous n file mark apart) past early = absurd (omega (arith, early))

  both : (R S : ℕ → ℕ → ℕ → Type 0) (a b c : List Finding) → Finds R a b → Finds S b c → Finds (λ code x y. R code x y ⊎ S code x y) a c
  both R S a b c one other =
      finds-more R S (λ code x y. R code x y ⊎ S code x y) a b c one other (λ code x y h. inl h) (λ code x y h. inr h) (λ code x y h. h)

  pub gathered-found : (a b c d e : List Finding) → Finds Unentered a b → Finds (Of gathered.no_file) b c → Finds (Of gathered.repeated) c d
      → Finds (Of gathered.no_name) d e → Finds (IsDirectoryNote image v) a e
  gathered-found a b c d e one two three four =
      finds-same Found _ a e (both _ _ a d e (both _ _ a c d (both _ _ a b c one two) three) four) found-noted
      (λ code x y n. noted-found code x y n.note n.late n.early)
