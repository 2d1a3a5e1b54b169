-- What is found of one directory after another.
use Rattle.std.proofs.Common.{◌≡◌, ◌↔◌, ◌⊎◌, ◌≤◌, ◌+◌, inl, inr, ℕ, true, List, [], refl, ap, sym, subst, ◌∙◌, arith}
use Rattle.std.proofs.lemmas.Bool.{cases_lt, both_ways}
use Rattle.f11_dev.specs.Image.{Image}
use Rattle.f11_findings.specs.Finding.{finding}
use Rattle.f11_findings.specs.declared.finding.Finding.{Finding}
use Rattle.f11_store.specs.Directory.{entry_count}
use Rattle.f11_volume.specs.Contents.{file_of}
use Rattle.f11_vfy.specs.Directory.Flaws.{EntersIn, HasFlaw, flaw_code}
use Rattle.f11_findings.specs.Found.{Finds, FoundAmong}
use Rattle.f11_vfy.specs.Directory.Gathered.{FindsFlaws, FlawsUpTo, IsEnteredUpTo, HasGatheredNothing, ShowsGathered, TakesRecords}
use Rattle.f11_volume.specs.Notes.{IsDirectory, IsRecord}
use Rattle.f11_volume.specs.Volume.{Volume}
use Rattle.f11_vfy.specs.declared.directories.flaws.Flaw.{Flaw}
use Rattle.f11_vfy.specs.declared.directories.flaws.Flaw.TheVariants.{NoFile, Repeated, NoName}
use Rattle.f11_vfy.specs.declared.directories.gathered.Gathered.{Gathered}
use Rattle.f11_vfy.proofs.Directory.Blank.{blank-none}
use Rattle.f11_findings.proofs.FoundLemmas.{finds-none, finds-more, finds-same}
use Rattle.f11_vfy.proofs.Directory.Records.{flaw-low, flaw-high, flaw-noted, noted-flaw, noted-directory, enters-noted, enters-found}

module _ (image : Image) (v : Volume) (low : (n : ℕ) → v.table.in_use n ≡ true → 1 ≤ n) where
  none-yet : (flaw : Flaw) (code a b : ℕ) → ¬ FlawsUpTo image v flaw 0 code a b
  none-yet flaw code a b f =
      let of = noted-directory image v code a b f.1.1 (omega (arith, f.0, flaw-low flaw)) (omega (arith, f.0, flaw-high flaw)) in
      let some = low a of.file.live.in_use in
      omega (arith, some, f.1.0)

  finds-none-yet : (flaw : Flaw) (l : List Finding) → l ≡ [] → Finds (FlawsUpTo image v flaw 0) [] l
  finds-none-yet flaw l is = subst (λ (m : List Finding). Finds (FlawsUpTo image v flaw 0) [] m) (sym is) (finds-none _ [] (none-yet flaw))

  pub gathered-new : (l : Gathered) → HasGatheredNothing l → ShowsGathered image v 0 l
  gathered-new l is = record {
    entered = λ n. (
      λ has. absurd (both_ways _ (is.entered n) has),
      λ e.
          absurd (let some = low e.entered.directory e.entered.entry.directory.file.live.in_use in omega (arith, some, e.within)),
    );
    no_file = finds-none-yet NoFile l.no_file is.no_file;
    repeated = finds-none-yet Repeated l.repeated is.repeated;
    no_name = finds-none-yet NoName l.no_name is.no_name;
    blank = blank-none image l.blank is.blank;
  }

  -- slot k + 1 has no directory
  module _ (k : ℕ) (none : ¬ IsDirectory image v.table (k + 1)) where
    still : (flaw : Flaw) (code a b : ℕ) → FlawsUpTo image v flaw (k + 1) code a b → FlawsUpTo image v flaw k code a b
    still flaw code a b f = elim (cases_lt k a) [
      | inl past ↦
          let of = noted-directory image v code a b f.1.1 (omega (arith, f.0, flaw-low flaw)) (omega (arith, f.0, flaw-high flaw)) in
          let same : a ≡ k + 1 = omega (arith, past, f.1.0) in
          absurd (none (subst (λ (d : ℕ). IsDirectory image v.table d) same of))
      | inr within ↦ (f.0, (within, f.1.1))
    ]

    finds-still : (flaw : Flaw) (old new : List Finding) → Finds (FlawsUpTo image v flaw k) old new
        → Finds (FlawsUpTo image v flaw (k + 1)) old new
    finds-still flaw old new finds = finds-same _ _ old new finds (λ code a b f. (f.0, (omega (arith, f.1.0), f.1.1))) (still flaw)

    entered-still : (n : ℕ) → IsEnteredUpTo image v.table (k + 1) n → IsEnteredUpTo image v.table k n
    entered-still n e = elim (cases_lt k e.entered.directory) [
      | inl past ↦
          let same : e.entered.directory ≡ k + 1 = omega (arith, past, e.within) in
          absurd (none (subst (λ (d : ℕ). IsDirectory image v.table d) same e.entered.entry.directory))
      | inr within ↦ record { entered = e.entered; within = within }
    ]

    pub gathered-still : (l : Gathered) → ShowsGathered image v k l → ShowsGathered image v (k + 1) l
    gathered-still l shows = record {
      entered = λ n. (
        λ has. let e = (shows.entered n).0 has in record { entered = e.entered; within = omega (arith, e.within) },
        λ e.
            (shows.entered n).1 (entered-still n e),
      );
      no_file = finds-still NoFile [] l.no_file shows.no_file;
      repeated = finds-still Repeated [] l.repeated shows.repeated;
      no_name = finds-still NoName [] l.no_name shows.no_name;
      blank = shows.blank;
    }

  -- slot k + 1 has a directory, whose records were taken
  module _ (k : ℕ) (directory : IsDirectory image v.table (k + 1)) where
    abbrev pub here : List (List ℕ)
    here = (file_of image v.table (k + 1)).blocks

    abbrev pub count : ℕ
    count = entry_count (file_of image v.table (k + 1))

    split : (flaw : Flaw) (code a b : ℕ) → FlawsUpTo image v flaw (k + 1) code a b
        → FlawsUpTo image v flaw k code a b ⊎ FoundAmong (λ i. HasFlaw flaw v.table here i) (λ i. finding (flaw_code flaw) (k + 1) i) count
        code a b
    split flaw code a b f = elim (cases_lt k a) [
      | inl past ↦
          let same : a ≡ k + 1 = omega (arith, past, f.1.0) in
          let has = noted-flaw image v (k + 1) directory flaw code a b f.1.1 f.0 same in
          inr (record {
            number = b;
            below = has.0;
            holds = has.1;
            is = ap (λ (c : ℕ). finding c a b) f.0
                ∙ ap (λ (d : ℕ). finding (flaw_code flaw) d b) same;
          })
      | inr within ↦ inl (f.0, (within, f.1.1))
    ]

    noted : (flaw : Flaw) (code a b : ℕ)
        → FoundAmong (λ i. HasFlaw flaw v.table here i) (λ i. finding (flaw_code flaw) (k + 1) i) count code a b
        → FlawsUpTo image v flaw (k + 1) code a b
    noted flaw code a b f =
        subst (λ (g : Finding). FlawsUpTo image v flaw (k + 1) g.code g.a g.b) (sym f.is)
        (refl, (omega arith, flaw-noted image v (k + 1) directory flaw f.number f.below f.holds))

    finds-next : (flaw : Flaw) (old new : List Finding) → Finds (FlawsUpTo image v flaw k) [] old
        → FindsFlaws v.table (k + 1) here count flaw old new → Finds (FlawsUpTo image v flaw (k + 1)) [] new
    finds-next flaw old new before found =
        finds-more _ _ _ [] old new before found (λ code a b f. (f.0, (omega (arith, f.1.0), f.1.1))) (noted flaw) (split flaw)

    entered-next : (n : ℕ) → IsEnteredUpTo image v.table (k + 1) n → IsEnteredUpTo image v.table k n ⊎ EntersIn v.table here count n
    entered-next n e = elim (cases_lt k e.entered.directory) [
      | inl past ↦
          let same : e.entered.directory ≡ k + 1 = omega (arith, past, e.within) in
          inr (enters-found image v (k + 1) directory n e.entered.place e.entered.bytes
          (subst (λ (d : ℕ). IsRecord image v.table d e.entered.place e.entered.bytes) same e.entered.entry) e.entered.names)
      | inr within ↦ inl (record { entered = e.entered; within = within })
    ]

    entered-more : (n : ℕ) (A : Type 0) → A ↔ IsEnteredUpTo image v.table k n → A ⊎ EntersIn v.table here count n
        → IsEnteredUpTo image v.table (k + 1) n
    entered-more n A before (inl a) = let e = before.0 a in record { entered = e.entered; within = omega (arith, e.within) }
    entered-more n A before (inr e) = let is = enters-noted image v (k + 1) directory n e in record { entered = is.0; within = is.1 }

    entered-back : (n : ℕ) (A : Type 0) → A ↔ IsEnteredUpTo image v.table k n
        → IsEnteredUpTo image v.table k n ⊎ EntersIn v.table here count n → A ⊎ EntersIn v.table here count n
    entered-back n A before (inl e) = inl (before.1 e)
    entered-back n A before (inr e) = inr e

    pub gathered-next : (old new : Gathered) → ShowsGathered image v k old → TakesRecords image v.table (k + 1) here count old new
        → ShowsGathered image v (k + 1) new
    gathered-next old new shows takes = record {
      entered = λ n. (
        λ has. entered-more n _ (shows.entered n) ((takes.entered n).0 has),
        λ e.
            (takes.entered n).1 (entered-back n _ (shows.entered n) (entered-next n e)),
      );
      no_file = finds-next NoFile old.no_file new.no_file shows.no_file takes.no_file;
      repeated = finds-next Repeated old.repeated new.repeated shows.repeated takes.repeated;
      no_name = finds-next NoName old.no_name new.no_name shows.no_name takes.no_name;
      blank = takes.blank;
    }
