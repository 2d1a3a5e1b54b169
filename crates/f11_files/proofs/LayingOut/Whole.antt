-- A file that is laid out, from the first look at its headers on.
use Rattle.std.proofs.Common.{◌≡◌, ◌≢◌, ◌+◌, ◌-◌, ◌*◌, ◌≤◌, ◌<◌, ◌||◌, ◌&&◌, not, eqb, ltb, ℕ, Bool, true, false, cond, IsTrue, List, []}
use Rattle.std.proofs.Common.{◌∷◌, length, Some, None, Result, Ok, Err, refl, sym, ap, subst, ◌∙◌, arith}
use Rattle.std.proofs.lemmas.Bool.{eqb-true}
use Rattle.std.specs.Prelude.{IsErrAnd}
use Rattle.f11_bits.specs.Run.{NoRunOf}
use Rattle.f11_chain.specs.declared.blocks.FileEnd.{FileEnd}
use Rattle.f11_dev.specs.Disk.{Disk}
use Rattle.f11_dev.specs.Image.{Image}
use Rattle.f11_dev.proofs.WentLemmas.{went_weaker}
use Rattle.f11_home.specs.Home.{HomeFields}
use Rattle.f11_store.specs.Causes as causes
use Rattle.f11_store.specs.Causes.{◌⇐◌, first_of, is_missing}
use Rattle.f11_store.specs.Changes.{LaysOut}
use Rattle.f11_store.specs.Cost.{contiguous_cost, header_count}
use Rattle.f11_store.specs.File.{File, length_of, run_need}
use Rattle.f11_store.specs.Lags.{contiguous_work, work_if}
use Rattle.f11_store.specs.Refusal.{refusal_number}
use Rattle.f11_store.specs.Store.{Store, file_named, free_headers}
use Rattle.f11_store.specs.declared.files.FileId.{FileId}
use Rattle.f11_store.specs.declared.refusals.Refusal.{Refusal}
use Rattle.f11_store.specs.declared.refusals.Refusal.TheVariants.{DeviceFull, NoHeader, NoSuchFile, NotEmpty, TooManySegments, VolumeFailed}
use Rattle.f11_volume.specs.Volume.{volume_of}
use Rattle.f11_image_store.specs.FileLaws.{room_in}
use Rattle.f11_image_store.specs.StoreOf.{store_of}
use Rattle.f11_files.specs.Answers.{faults_of, is_among, is_clean, is_refused, Does, FailsToRead, FailsToWrite, Meanwhile, ReadsAtMost}
use Rattle.f11_files.specs.Answers.{KeepsUnused, WritesAtMost}
use Rattle.f11_files.specs.Extending.Room.{FindsFileEnd}
use Rattle.f11_files.specs.LayingOut.Room.{run_causes}
use Rattle.f11_files.specs.LayingOut.Whole.{FailsToLayOut, FailsToLayOutHeld, GainsRun, HoldsRunRoom, LaysOutFile, LaysOutHeld}
use Rattle.f11_files.specs.Operations.{contiguous_causes, file_causes, IsSpaceOf}
use Rattle.f11_files.specs.Structure.{home_of, store_on, IsStructureFor}
use Rattle.f11_files.specs.declared.structure.Structure.{Structure}
use Rattle.f11_files.proofs.AnswerLemmas.{fails-more, reads-more, reads-within, right-cause}
use Rattle.f11_files.proofs.Behind.{does-read, honest-read, image-read, store-read, writes-read}
use Rattle.f11_files.proofs.Extending.Cleared.{fatal-right}
use Rattle.f11_files.proofs.Extending.Room.{ends-then, headers-named, room-named}
use Rattle.f11_files.proofs.Finding.Locate.{length-named, reads-along}
use Rattle.f11_files.proofs.Finding.Named.{found-named, is-file}
use Rattle.f11_files.proofs.WriteLemmas.{fails-unread, had-failed, unless-refused, writes-within}

-- a refusal that is handed on is a clean one where the answer is
pub clean-handed : {T : Type 0} (r : Result T Refusal) (x : Refusal) → IsErrAnd r (λ y. y ≡ x) → is_refused is_clean r ≡ true
    → is_clean x ≡ true
clean-handed (Ok y) x is clean = absurd is
clean-handed (Err y) x is clean = subst (λ (z : Refusal). is_clean z ≡ true) is clean

-- what is read of the headers is part of the cost
part-of-cost : (s : Store) (g : File) (n : ℕ) → 0 < n → header_count g ≤ contiguous_cost s g n - 1
part-of-cost s g n some = by_parts (header_count g) (3 * s.bitmap_blocks) ((s.index_bitmap_blocks + 8) * (run_need g.room n + 1))
  where
    by_parts : (h b x : ℕ) → h ≤ h + b + n + x - 1
    by_parts h b x = omega (arith, some)

-- a refusal to read, for another cause than that there is no run
unread : (home : HomeFields) (f : FileId) (n : ℕ) (r : Refusal) (old read : Disk) → 0 < n → refusal_number r ≢ 22
    → FailsToRead false (contiguous_causes (store_of old.image home) f n) (header_count (file_named (store_of old.image home) f)) r old read
    → FailsToLayOut false home f n r old read
unread home f n r old read some other reads =
    let s : Store = store_of old.image home in
    let fails : FailsToWrite false (contiguous_causes s f n) (contiguous_cost s (file_named s f) n - 1)
    (contiguous_work f.number (file_named s f).room n) home r old read =
    fails-unread {m = header_count (file_named s f)} (part-of-cost s (file_named s f) n some) reads in
    record {
      right = λ _. fails.right;
      no_run = λ is. absurd (other (ap refusal_number is));
      writes = fails.writes;
      unchanged = fails.unchanged;
    }

-- no file, or one of its headers couldn't be read
pub no-end : (home : HomeFields) (f : FileId) (n : ℕ) (r : Refusal) (old read : Disk) → 0 < n
    → FailsToRead false (file_causes (store_of old.image home) f) (header_count (file_named (store_of old.image home) f)) r old read
    → FailsToLayOut false home f n r old read
no-end home f n r old read some fails =
    unread home f n r old read some other
    (fails-more {causes = file_causes s f} {others = contiguous_causes s f n} (more (eqb 6 (refusal_number r)) _) cause fails)
  where
    s : Store
    s = store_of old.image home

    other : refusal_number r ≢ 22
    other is = no (eqb 6 (refusal_number r)) refl (fails.right.among (ap (λ (k : ℕ). ltb 1 k && not (eqb k 19 || eqb k 20)) is))
      where
        no : (same : Bool) → eqb 6 (refusal_number r) ≡ same → (same || false) ≡ true → ⊥
        no true same is_among = let six = eqb-true 6 (refusal_number r) same in omega (arith, six, is)
        no false same is_among = absurd cc

    more : (a b : Bool) → (a || false) ≡ true → (a || b) ≡ true
    more true b is = refl
    more false b is = absurd cc

    cause : first_of (file_causes s f) ≡ Some r → first_of (contiguous_causes s f n) ≡ Some r
    cause = by_test (is_missing s f)
      where
        by_test : (b : Bool) → first_of ((NoSuchFile ⇐ b) ∷ []) ≡ Some r
            → cond b (Some NoSuchFile) (first_of (causes.contiguous_causes s (file_named s f) n)) ≡ Some r
        by_test true is = is
        by_test false is = absurd cc

-- What a refusal for one of the causes isn't.
record IsJudged (r : Refusal) : Type 0 where
  not_failed : refusal_number r ≢ 1
  not_damaged : refusal_number r ≢ 20
  not_run : refusal_number r ≢ 22
  no_fault : faults_of r ≡ 0
  among : (s : Store) (f : FileId) (n : ℕ) → is_among (contiguous_causes s f n) r ≡ true

judged : (a b c d : Bool) (r : Refusal)
    → first_of ((NotEmpty ⇐ a) ∷ (TooManySegments ⇐ b) ∷ (DeviceFull ⇐ c) ∷ (NoHeader ⇐ d) ∷ []) ≡ Some r → IsJudged r
judged true b c d r is =
    let same : NotEmpty ≡ r = cc in
    subst IsJudged same record {
      not_failed = λ no. omega (arith, no);
      not_damaged = λ no. omega (arith, no);
      not_run = λ no.
          omega (arith, no);
      no_fault = refl;
      among = λ s f n. refl;
    }
judged false true c d r is =
    let same : TooManySegments ≡ r = cc in
    subst IsJudged same record {
      not_failed = λ no. omega (arith, no);
      not_damaged = λ no. omega (arith, no);
      not_run = λ no.
          omega (arith, no);
      no_fault = refl;
      among = λ s f n. refl;
    }
judged false false true d r is =
    let same : DeviceFull ≡ r = cc in
    subst IsJudged same record {
      not_failed = λ no. omega (arith, no);
      not_damaged = λ no. omega (arith, no);
      not_run = λ no.
          omega (arith, no);
      no_fault = refl;
      among = λ s f n. refl;
    }
judged false false false true r is =
    let same : NoHeader ≡ r = cc in
    subst IsJudged same record {
      not_failed = λ no. omega (arith, no);
      not_damaged = λ no. omega (arith, no);
      not_run = λ no.
          omega (arith, no);
      no_fault = refl;
      among = λ s f n. refl;
    }
judged false false false false r is = absurd cc

module _ (s : Structure) (f : FileId) (n : ℕ) (end : FileEnd) (was last : List ℕ) (old read : Disk) (for : IsStructureFor s old)
    (own : 4 ≤ f.number) (some : 0 < n) (finds : FindsFileEnd s f end was last old read)
    (room free count slots headers : ℕ) (room_is : room ≡ room_in last)
    (space : IsTrue old.honest → IsSpaceOf (store_on s old) free count slots)
    (alike : ltb headers (run_need room n) ≡ ltb count (run_need room n)) where
  abbrev home : HomeFields
  home = home_of s

  abbrev st : Store
  st = store_on s old

  abbrev named : File
  named = file_named st f

  file-read : ReadsAtMost (header_count named) old read 0
  file-read = reads-along s f was old read 0 for finds.holds finds.ends.looked

  as-old : IsTrue read.honest → IsTrue old.honest
  as-old honest = sym (honest-read file-read home) ∙ honest

  as-read : IsTrue old.honest → IsTrue read.honest
  as-read honest = honest-read file-read home ∙ honest

  still : store_of read.image home ≡ st
  still = store-read file-read home

  -- the causes against it
  causes-are : IsTrue old.honest → first_of (contiguous_causes st f n) ≡ first_of (run_causes end.blocks end.headers room free headers n)
  causes-are honest =
      ap (λ (b : Bool). cond b (Some NoSuchFile)
      (first_of (run_causes (length_of named) (length named.held) named.room st.free (free_headers st) n)))
      (found-named s f old for honest (is-file s f was old for finds.holds honest)).0
      ∙ ap (λ (k : ℕ). first_of (run_causes k (length named.held) named.room st.free (free_headers st) n))
      (length-named s f was old for finds.holds honest own ∙ sym (finds.ends.blocks_are honest))
      ∙ ap (λ (k : ℕ). first_of (run_causes end.blocks k named.room st.free (free_headers st) n))
      (headers-named s f was old for finds.holds end last read finds.ends honest)
      ∙ ap (λ (k : ℕ). first_of (run_causes end.blocks end.headers k st.free (free_headers st) n))
      (room-named s f was old for finds.holds end last read finds.ends honest ∙ sym room_is)
      ∙ ap (λ (k : ℕ). first_of (run_causes end.blocks end.headers room k (free_headers st) n)) (sym (space honest).blocks_are)
      ∙ ap (λ (k : ℕ). first_of (run_causes end.blocks end.headers room free k n)) (sym (space honest).headers_are)
      ∙ ap (λ (c : Bool). first_of
      ((NotEmpty ⇐ ltb 0 end.blocks) ∷ (TooManySegments ⇐ ltb 256 (end.headers + run_need room n)) ∷ (DeviceFull ⇐ ltb free n) ∷
      (NoHeader ⇐ c) ∷ [])) (sym alike)

  -- one stands against it
  pub no-run-room : (r : Refusal) → first_of (run_causes end.blocks end.headers room free headers n) ≡ Some r
      → FailsToLayOut false home f n r old read
  no-run-room r is =
      let cause = judged _ _ _ _ r is in
      unread home f n r old read some cause.not_run (record {
        right = right-cause _ _ r cause.not_failed cause.not_damaged (cause.among st f n) (λ honest. causes-are honest ∙ is);
        reads = subst (ReadsAtMost (header_count named) old read) (sym cause.no_fault) file-read;
      })

  module _ (none : first_of (run_causes end.blocks end.headers room free headers n) ≡ None) where
    no-cause : IsTrue old.honest → first_of (contiguous_causes st f n) ≡ None
    no-cause honest = causes-are honest ∙ none

    pub has-run-room : HoldsRunRoom s f n end was last read
    has-run-room = record {
      no_cause = λ honest. subst (λ (x : Store). first_of (contiguous_causes x f n) ≡ None) (sym still) (no-cause (as-old honest));
      ends = ends-then s f end was last old read finds;
    }

    within : header_count named + (contiguous_cost st named n - 1 - header_count named) ≤ contiguous_cost st named n - 1
    within = let part = part-of-cost st named n some in omega (arith, part)

    pub fails-whole : (r : Refusal) (new : Disk) → FailsToLayOutHeld s f n r read new → FailsToLayOut false home f n r old new
    fails-whole r new fails =
        let writes = writes-within within (writes-read file-read home
        (subst (λ (x : Store). WritesAtMost (Meanwhile (contiguous_work f.number (file_named x f).room n) home read)
        (contiguous_cost x (file_named x f) n - 1 - header_count (file_named x f)) read new (faults_of r)) still fails.writes)) in
        record {
          right = λ other. fatal-right (contiguous_causes st f n) r old.honest (fails.right other)
              (λ honest. fails.undamaged (as-read honest));
          no_run = λ is. (
            refl,
            λ honest. (
              no-cause honest,
              subst (λ (i : Image). NoRunOf (volume_of i home).free n) (image-read file-read home)
                  (fails.no_run is (as-read honest)),
            ),
          );
          writes = record {
            transfers = writes.transfers;
            went =
                went_weaker (Meanwhile (contiguous_work f.number named.room n) home old)
                (Meanwhile (work_if (first_of (contiguous_causes st f n)) (contiguous_work f.number named.room n)) home old)
                (unless-refused (contiguous_causes st f n) (contiguous_work f.number named.room n) home old no-cause) writes.went;
            few = writes.few;
          };
          unchanged = λ clean. reads-within within (reads-more file-read
              (subst (λ (x : Store). ReadsAtMost (contiguous_cost x (file_named x f) n - 1 - header_count (file_named x f)) read new 0)
              still (fails.unchanged clean)));
        }

    pub lays-whole : (new : Disk) → LaysOutHeld home f n read new → LaysOutFile home f n old new
    lays-whole new lays =
        let does = does-read file-read home
        (subst (λ (x : Store). Does (contiguous_causes x f n) (contiguous_work f.number (file_named x f).room n)
        (contiguous_cost x (file_named x f) n - 1 - header_count (file_named x f)) (LaysOut x f.number n)
        (KeepsUnused (GainsRun f.number n)) home read new) still lays) in
        record { no_cause = does.no_cause; makes = does.makes; allots = does.allots; writes = writes-within within does.writes }

-- the volume had failed, and nothing is done
pub laying-failed : {failed : Bool} {home : HomeFields} {f : FileId} {n : ℕ} (old : Disk) → failed ≡ true
    → FailsToLayOut failed home f n VolumeFailed old old
laying-failed {failed = failed} {home = home} {f = f} {n = n} old is =
    let s : Store = store_of old.image home in
    let fails : FailsToWrite failed (contiguous_causes s f n) (contiguous_cost s (file_named s f) n - 1)
    (contiguous_work f.number (file_named s f).room n) home VolumeFailed old old = had-failed old is in
    record {
      right = λ _. fails.right;
      no_run = λ is. let no : 1 ≡ 22 = ap refusal_number is in absurd (omega (arith, no));
      writes = fails.writes;
      unchanged = fails.unchanged;
    }
