-- How a request was handled, from what the calls on files answered.
use Rattle.std.proofs.Common.{◌≡◌, ◌≢◌, ◌⊎◌, inl, inr, ℕ, ◌+◌, ◌≤◌, ◌==◌, Bool, true, false, IsTrue, List, Option, Some, None, Ok, Err}
use Rattle.std.proofs.Common.{◌++◌, refl, sym, ◌∙◌, ap, subst, arith}
use Rattle.std.proofs.lemmas.Bool.{or_left, or_right}
use Rattle.std.proofs.lemmas.List.Folds.{list_any-append}
use Rattle.f11_dev.specs.Disk.{Disk}
use Rattle.f11_dev.specs.Image.{Image}
use Rattle.f11_dev.specs.Looked.{Looked}
use Rattle.f11_dev.specs.Went.{Went}
use Rattle.f11_dev.proofs.WentLemmas.{went_looked, went_more, went_weaker}
use Rattle.f11_home.specs.Home.{HomeFields}
use Rattle.f11_store.specs.Causes.{Cause, first_of, first_refusal}
use Rattle.f11_store.specs.Changes.{Changes}
use Rattle.f11_store.specs.Cost.{cost}
use Rattle.f11_store.specs.Lags.{Work, LagsBy, work_if, work_of, served_work}
use Rattle.f11_store.specs.Refusal.{refusal_number}
use Rattle.f11_store.specs.Step.{MayRefuse, asks_for_run, may_want_memory, reply_of, block_after}
use Rattle.f11_store.specs.Store.{Store}
use Rattle.f11_store.specs.declared.callers.Uic.{Uic}
use Rattle.f11_store.specs.declared.refusals.Refusal.{Refusal}
use Rattle.f11_store.specs.declared.refusals.Refusal.TheVariants.{VolumeFailed, NoMemory, DeviceFault, Damaged, NoRun}
use Rattle.f11_store.specs.declared.requests.Reply.{Reply}
use Rattle.f11_store.specs.declared.requests.Request.{Request}
use Rattle.f11_files.specs.Answers.{ReadsAtMost, WritesAtMost, FailsOrWants, FailsToWrite, Does, is_among, is_fatal, is_clean, is_cause}
use Rattle.f11_files.specs.Answers.{faults_of, Meanwhile}
use Rattle.f11_files.specs.image_store.StoreOf.{store_of}
use Rattle.f11_files.proofs.AnswerLemmas.{reads-more, reads-looked}
use Rattle.f11_dev.proofs.LookedLemmas.{looked_none}
use Rattle.f11_files.specs.volume.Volume.{Volume}
use Rattle.f11_fcp.specs.Accesses.{AccessTable, held_in, accesses}
use Rattle.f11_fcp.specs.Handles.{State, store_at, WhileServing, is_failed, is_damage, own_causes, Handles, IsUnwritten}
use Rattle.f11_store.proofs.HeldLaws.{lags-held}

-- a refusal that doesn't fail the volume, of one that hasn't failed, is that of a cause
pub clean-cause : (e : Refusal) → is_fatal e ≡ false → e ≢ VolumeFailed
    → (is_cause e ≡ true) × (is_clean e ≡ true) × (is_failed e ≡ false) × (is_damage e ≡ false)
clean-cause VolumeFailed clean other = absurd (other refl)
clean-cause DeviceFault clean other = absurd (cc)
clean-cause Damaged clean other = absurd (cc)
clean-cause _ clean other = (refl, refl, refl, refl)

pub heavy : (e : Refusal) → is_fatal e ≡ true → (is_clean e ≡ false) × (is_failed e ≡ false) × (is_damage e ≡ true → e ≡ Damaged)
heavy DeviceFault h = (refl, refl, λ e. absurd (cc))
heavy Damaged h = (refl, refl, λ e. refl)
heavy _ h = absurd (cc)

-- a refusal for a cause doesn't fail the volume
pub cause-not-fatal : (e : Refusal) → is_cause e ≡ true → is_fatal e ≡ false
cause-not-fatal DeviceFault h = absurd (cc)
cause-not-fatal Damaged h = absurd (cc)
cause-not-fatal _ h = refl

-- what is among some causes is among them where they stand between others
pub among-part : (before causes behind : List Cause) (e : Refusal) → is_among causes e ≡ true
    → is_among (before ++ (causes ++ behind)) e ≡ true
among-part before causes behind e h =
    list_any-append (λ (c : Cause). refusal_number c.refusal == refusal_number e) before (causes ++ behind)
    ∙ or_right (is_among before e) (is_among (causes ++ behind) e)
    (list_any-append (λ (c : Cause). refusal_number c.refusal == refusal_number e) causes behind
    ∙ or_left (is_among causes e) (is_among behind e) h)

-- the first refusal may be the answer
may-first : (o : Option Refusal) (b c : Bool) (e : Refusal) → o ≡ Some e → MayRefuse o b c e
may-first (Some x) b c e is = let same : x ≡ e = cc in sym same
may-first None b c e is = absurd (cc)

-- so may want of memory, where there is no cause and some may be taken
may-want : (o : Option Refusal) (b c : Bool) → o ≡ None → b ≡ true → MayRefuse o b c NoMemory
may-want None true c none takes = refl
may-want None false c none takes = absurd (cc)
may-want (Some x) b c none takes = absurd (cc)

-- and of a run of free blocks, where there is no cause and one is asked for
may-lack-run : (o : Option Refusal) (b c : Bool) → o ≡ None → b ≡ false → c ≡ true → MayRefuse o b c NoRun
may-lack-run None false true none takes asks = refl
may-lack-run None true c none takes asks = absurd (cc)
may-lack-run None false false none takes asks = absurd (cc)
may-lack-run (Some x) b c none takes asks = absurd (cc)

-- memory was wanting, or not
pub run-cases : (e : Refusal) → (e ≡ NoRun) ⊎ (e ≢ NoRun)
run-cases NoRun = inl refl
run-cases _ = inr (λ is. absurd (cc))

pub memory-cases : (e : Refusal) → (e ≡ NoMemory) ⊎ (e ≢ NoMemory)
memory-cases NoMemory = inl refl
memory-cases _ = inr (λ is. absurd (cc))

-- it wasn't
pub without-memory : {takes failed : Bool} {causes : List Cause} {n : ℕ} {work : Work} {home : HomeFields} {e : Refusal} {old new : Disk}
    → e ≢ NoMemory → FailsOrWants takes failed causes n work home e old new
    → FailsToWrite failed causes n work home e old new
without-memory other fails = record { right = fails.right other; writes = fails.writes; unchanged = fails.unchanged }

-- a call on files that hadn't failed
pub wants-still : {takes failed : Bool} {causes : List Cause} {n : ℕ} {work : Work} {home : HomeFields} {e : Refusal} {old new : Disk}
    → failed ≡ false
    → FailsOrWants takes failed causes n work home e old new → FailsOrWants takes false causes n work home e old new
wants-still {takes = takes} {causes = causes} {n = n} {work = work} {home = home} {e = e} {old = old} {new = new} alive fails =
    subst (λ (b : Bool). FailsOrWants takes b causes n work home e old new) alive fails

-- a call against which want of memory is no cause
pub wants-none : {takes : Bool} {causes : List Cause} {n : ℕ} {work : Work} {home : HomeFields} {e : Refusal} {old new : Disk}
    → is_among causes NoMemory ≡ false
    → FailsToWrite false causes n work home e old new → FailsOrWants takes false causes n work home e old new
wants-none {causes = causes} {e = e} other fails = record {
  right = λ _. fails.right;
  wanting = λ is. absurd (let own : is_among causes NoMemory ≡ true = subst (λ (x : Refusal). is_among causes x ≡ true) is
      (fails.right.among (ap is_cause is)) in let no : true ≡ false = sym own ∙ other in cc);
  writes = fails.writes;
  unchanged = fails.unchanged;
}

-- a store is what its image, its home block and its table are
pub same-store : (old new : State) → new.disk.image ≡ old.disk.image → new.home ≡ old.home → new.table ≡ old.table
    → store_at new ≡ store_at old
same-store old new image home table =
    ap (λ (i : Image). held_in new.table (store_of i new.home)) image
    ∙ ap (λ (h : HomeFields). held_in new.table (store_of old.disk.image h)) home
    ∙ ap (λ (t : AccessTable). held_in t (store_of old.disk.image old.home)) table

-- calls that only read wrote no block
pub unwritten-looked : {old new : Disk} {most faults : ℕ} → Looked old new most faults → IsUnwritten old new
unwritten-looked looked = record { image = looked.image; history = looked.history }

-- nor did none
pub unwritten-none : (disk : Disk) → IsUnwritten disk disk
unwritten-none disk = record { image = refl; history = refl }

-- fewer than may be on an honest disk
pub within-when : {old new : Disk} {m n faults : ℕ} → (IsTrue old.honest → m ≤ n) → ReadsAtMost m old new faults
    → ReadsAtMost n old new faults
within-when fewer reads =
    record {
      reads = reads.reads;
      looked = reads.looked;
      few = λ honest. let few = reads.few honest in let most = fewer honest in
          omega (arith, few, most);
    }

module _ (task : ℕ) (caller : Uic) (r : Request) (block : List ℕ) (old : State) where
  abbrev s : Store
  s = store_at old

  abbrev P : Image → Type 0
  P = WhileServing task caller r block old

  -- it is refused as it may be, and nothing was written
  handled-unchanged : (e : Refusal) (new : State) → is_fatal e ≡ false → e ≢ VolumeFailed → is_among (own_causes s task caller r) e ≡ true
      → (IsTrue old.disk.honest → MayRefuse (first_refusal s task caller r) (may_want_memory s task r) (asks_for_run r) e)
      → ReadsAtMost (cost s task r) old.disk new.disk 0 → new.home ≡ old.home → new.table ≡ old.table → new.counts ≡ old.counts
      → Handles task caller r (Err e) old block new block
  handled-unchanged e new clean other own may reads home table counts =
      let tests = clean-cause e clean other in
      record {
        step = λ honest _. record {
          may_refuse = may honest;
          store_stays = same-store old new reads.looked.image home table;
          block_stays = refl;
        };
        undamaged = λ _. tests.3;
        writes = record {
          transfers = reads.reads;
          went = subst (λ (n : ℕ). Went P old.disk new.disk reads.reads n) (sym (no-fault e clean)) (went_looked P reads.looked);
          few = reads.few;
        };
        left = λ _. record { unwritten = unwritten-looked reads.looked; table = table; counts = counts; lent = refl };
        among = λ _. own;
        unfailed = tests.2;
        home = home;
      }
    where
      no-fault : (e : Refusal) → is_fatal e ≡ false → faults_of e ≡ 0
      no-fault DeviceFault h = absurd (cc)
      no-fault _ h = refl

  -- for a cause
  pub handled-clean : (e : Refusal) (new : State) → is_fatal e ≡ false → e ≢ VolumeFailed → is_among (own_causes s task caller r) e ≡ true
      → (IsTrue old.disk.honest → first_refusal s task caller r ≡ Some e)
      → ReadsAtMost (cost s task r) old.disk new.disk 0 → new.home ≡ old.home → new.table ≡ old.table → new.counts ≡ old.counts
      → Handles task caller r (Err e) old block new block
  handled-clean e new clean other own first =
      handled-unchanged e new clean other own
      (λ honest. may-first (first_refusal s task caller r) (may_want_memory s task r) (asks_for_run r) e (first honest))

  -- it failed the volume
  pub handled-fatal : (e : Refusal) (new : State) (block' : List ℕ) → is_fatal e ≡ true → (IsTrue old.disk.honest → e ≢ Damaged)
      → WritesAtMost P (cost s task r) old.disk new.disk (faults_of e)
      → new.home ≡ old.home → Handles task caller r (Err e) old block new block'
  handled-fatal e new block' fatal undamaged writes home =
      let tests = heavy e fatal in
      record {
        step = λ honest clean. absurd (let no : true ≡ false = sym fatal ∙ clean in cc);
        undamaged = λ honest. by_test (is_damage e) refl (λ is. undamaged honest (tests.2 is));
        writes = writes;
        left = λ clean. absurd (let no : false ≡ true = sym tests.0 ∙ clean in cc);
        among = λ cause. absurd (let no : true ≡ false = sym fatal ∙ cause-not-fatal e cause in cc);
        unfailed = tests.1;
        home = home;
      }
    where
      by_test : (b : Bool) → is_damage e ≡ b → (is_damage e ≡ true → ⊥) → b ≡ false
      by_test true is never = absurd (never is)
      by_test false is never = refl

  -- it is served
  pub handled-served : (reply : Reply) (new : State) (block' : List ℕ) → (IsTrue old.disk.honest → first_refusal s task caller r ≡ None)
      → (IsTrue old.disk.honest → reply ≡ reply_of s task r)
      → (IsTrue old.disk.honest → Changes s task caller r block (store_at new))
      → (IsTrue old.disk.honest → block' ≡ block_after s task r block)
      → WritesAtMost P (cost s task r) old.disk new.disk 0 → new.home ≡ old.home → Handles task caller r (Ok reply) old block new block'
  handled-served reply new block' none is changes after writes home = record {
    step = λ honest _. record { no_cause = none honest; reply_is = is honest; changes = changes honest; block_is = after honest };
    undamaged = λ _. refl;
    writes = writes;
    left = λ clean. absurd (cc);
    among = λ cause. absurd (cc);
    unfailed = refl;
    home = home;
  }

  -- an image that stands while a part of the work is done, behind a look: what lags by the part lags by the request
  pub under-way-by : (work : Work) (mid : State) → mid.disk.image ≡ old.disk.image → mid.disk.honest ≡ old.disk.honest → mid.home ≡ old.home
      → (IsTrue old.disk.honest → (t : Store) → LagsBy work t s → LagsBy (work_of s task caller r block) t s) → (image : Image)
      → Meanwhile work mid.home mid.disk image → P image
  under-way-by work mid same honest home more image stands sure =
      let u = stands (honest ∙ sure) in
      let t : Store = store_of image old.home in
      record {
        sound = rw home at u.sound;
        lags = more sure t
            (lags-held (accesses old.table) work t (store_of old.disk.image old.home)
            (subst (λ (i : Image). LagsBy work t (store_of i old.home)) same
            (subst (λ (h : HomeFields). LagsBy work (store_of image h) (store_of mid.disk.image h)) home u.lags)));
      }

  -- an image that stands while a call on files does its work, behind a look
  pub under-way : (work : Work) (mid : State) → mid.disk.image ≡ old.disk.image → mid.disk.honest ≡ old.disk.honest → mid.home ≡ old.home
      → (IsTrue old.disk.honest → work ≡ work_of s task caller r block)
      → (image : Image) → Meanwhile work mid.home mid.disk image → P image
  under-way work mid same honest home is =
      under-way-by work mid same honest home (λ sure t lags. subst (λ (w : Work). LagsBy w t s) (is sure) lags)

  -- what was written behind a look, where each image that stood meanwhile is one of the request's
  pub behind-by : (Q : Image → Type 0) (mid new : State) {m n faults : ℕ} → ReadsAtMost m old.disk mid.disk 0
      → ((image : Image) → Q image → P image) → WritesAtMost Q n mid.disk new.disk faults
      → (IsTrue old.disk.honest → m + n ≤ cost s task r) → WritesAtMost P (cost s task r) old.disk new.disk faults
  behind-by Q mid new reads weaker writes fewer = record {
    transfers = reads.reads + writes.transfers;
    went = went_more P (went_looked P reads.looked) (went_weaker Q P weaker writes.went);
    few = λ honest. let one = reads.few honest in let two = writes.few (reads.looked.honest ∙ honest) in let most = fewer honest in
        omega (arith, one, two, most);
  }

  -- what was written behind a look
  pub behind : (work : Work) (mid new : State) {m n faults : ℕ} → ReadsAtMost m old.disk mid.disk 0 → mid.home ≡ old.home
      → (IsTrue old.disk.honest → work ≡ work_of s task caller r block)
      → WritesAtMost (Meanwhile work mid.home mid.disk) n mid.disk new.disk faults → (IsTrue old.disk.honest → m + n ≤ cost s task r)
      → WritesAtMost P (cost s task r) old.disk new.disk faults
  behind work mid new reads home is writes fewer =
      behind-by (Meanwhile work mid.home mid.disk) mid new reads (under-way work mid reads.looked.image reads.looked.honest home is)
      writes fewer

  -- a call on files behind a look was refused
  pub handled-fails : (e : Refusal) (causes : List Cause) (work : Work) (mid new : State) (block' : List ℕ) {m n : ℕ}
      → ReadsAtMost m old.disk mid.disk 0 → mid.home ≡ old.home → mid.counts ≡ old.counts
      → FailsToWrite false causes n work mid.home e mid.disk new.disk
      → (is_among causes e ≡ true → is_among (own_causes s task caller r) e ≡ true) → (IsTrue old.disk.honest → m + n ≤ cost s task r)
      → (IsTrue old.disk.honest → first_of causes ≡ first_refusal s task caller r)
      → (IsTrue old.disk.honest → work_if (first_of causes) work ≡ work_of s task caller r block)
      → new.home ≡ mid.home → new.table ≡ old.table → (is_clean e ≡ true → new.counts ≡ mid.counts) → (is_fatal e ≡ false → block' ≡ block)
      → Handles task caller r (Err e) old block new block'
  handled-fails e causes work mid new block' reads home counts fails own fewer first works home' table counts' lent =
      by_test (is_fatal e) refl
    where
      by_test : (b : Bool) → is_fatal e ≡ b → Handles task caller r (Err e) old block new block'
      by_test true fatal =
          handled-fatal e new block' fatal (λ honest. fails.right.undamaged (reads.looked.honest ∙ honest))
          (behind (work_if (first_of causes) work) mid new reads home works fails.writes fewer) (home' ∙ home)
      by_test false clean =
          let other : e ≢ VolumeFailed = λ is. absurd (let no : false ≡ true = fails.right.volume is in cc) in
          let tests = clean-cause e clean other in
          subst (λ (b : List ℕ). Handles task caller r (Err e) old block new b) (sym (lent clean))
          (handled-clean e new clean other (own (fails.right.among tests.0))
          (λ honest. sym (first honest) ∙ fails.right.cause (reads.looked.honest ∙ honest) tests.0)
          (within-when fewer (reads-more reads (fails.unchanged clean))) (home' ∙ home) table (counts' tests.1 ∙ counts))

  -- the work of a request that is served
  pub work-then : first_refusal s task caller r ≡ None → served_work s task caller r block ≡ work_of s task caller r block
  work-then none = sym (ap (λ o. work_if o (served_work s task caller r block)) none)

  -- a call on files behind a look was served
  pub handled-does : (reply : Reply) (causes : List Cause) (work : Work) (mid new : State) (block' : List ℕ) {Makes : Store → Type 0}
      {Allots : Volume → Volume → Type 0} {m n : ℕ}
      → ReadsAtMost m old.disk mid.disk 0 → mid.home ≡ old.home → Does causes work n Makes Allots mid.home mid.disk new.disk
      → (IsTrue old.disk.honest → m + n ≤ cost s task r)
      → (IsTrue old.disk.honest → first_of causes ≡ first_refusal s task caller r)
      → (IsTrue old.disk.honest → work ≡ served_work s task caller r block)
      → (IsTrue old.disk.honest → reply ≡ reply_of s task r)
      → (IsTrue old.disk.honest → Makes (store_of new.disk.image mid.home) → Changes s task caller r block (store_at new))
      → (IsTrue old.disk.honest → block' ≡ block_after s task r block) → new.home ≡ mid.home
      → Handles task caller r (Ok reply) old block new block'
  handled-does reply causes work mid new block' reads home does fewer first works is makes after home' =
      let sure : IsTrue old.disk.honest → IsTrue mid.disk.honest = λ honest. reads.looked.honest ∙ honest in
      let none : IsTrue old.disk.honest → first_refusal s task caller r ≡ None = λ honest. sym (first honest)
      ∙ does.no_cause (sure honest) in
      handled-served reply new block' none is (λ honest. makes honest (does.makes (sure honest))) after
      (behind work mid new reads home (λ honest. works honest ∙ work-then (none honest)) does.writes fewer) (home' ∙ home)

  -- and one that was refused
  pub handled-refused : (e : Refusal) (causes : List Cause) (work : Work) (mid new : State) (block' : List ℕ) {m n : ℕ}
      → ReadsAtMost m old.disk mid.disk 0 → mid.home ≡ old.home → mid.counts ≡ old.counts
      → FailsToWrite false causes n work mid.home e mid.disk new.disk
      → (is_among causes e ≡ true → is_among (own_causes s task caller r) e ≡ true) → (IsTrue old.disk.honest → m + n ≤ cost s task r)
      → (IsTrue old.disk.honest → first_of causes ≡ first_refusal s task caller r)
      → (IsTrue old.disk.honest → work ≡ served_work s task caller r block)
      → new.home ≡ mid.home → new.table ≡ old.table → (is_clean e ≡ true → new.counts ≡ mid.counts) → (is_fatal e ≡ false → block' ≡ block)
      → Handles task caller r (Err e) old block new block'
  handled-refused e causes work mid new block' reads home counts fails own fewer first works home' table counts' lent =
      handled-fails e causes work mid new block' reads home counts fails own fewer first
      (λ honest. ap (λ o. work_if o work) (first honest) ∙ ap (work_if (first_refusal s task caller r)) (works honest)) home' table counts'
      lent

  -- and one for which memory was wanting
  pub handled-wanting : (e : Refusal) (causes : List Cause) (work : Work) (takes : Bool) (mid new : State) {m n : ℕ} → e ≡ NoMemory
      → ReadsAtMost m old.disk mid.disk 0 → mid.home ≡ old.home → mid.counts ≡ old.counts
      → FailsOrWants takes false causes n work mid.home e mid.disk new.disk → is_among (own_causes s task caller r) NoMemory ≡ true
      → (IsTrue old.disk.honest → m + n ≤ cost s task r)
      → (IsTrue old.disk.honest → first_of causes ≡ first_refusal s task caller r)
      → (IsTrue old.disk.honest → takes ≡ may_want_memory s task r)
      → new.home ≡ mid.home → new.table ≡ old.table → (is_clean e ≡ true → new.counts ≡ mid.counts)
      → Handles task caller r (Err e) old block new block
  handled-wanting e causes work takes mid new is reads home counts fails own fewer first may home' table counts' =
      let wants = λ (honest : IsTrue old.disk.honest). (fails.wanting is).1 (reads.looked.honest ∙ honest) in
      subst (λ (x : Refusal). Handles task caller r (Err x) old block new block) (sym is)
      (handled-unchanged NoMemory new refl (λ same. absurd (cc)) own
      (λ honest. may-want (first_refusal s task caller r) (may_want_memory s task r) (asks_for_run r)
      (sym (first honest) ∙ (wants honest).0) (sym (may honest) ∙ (wants honest).1))
      (within-when fewer (reads-more reads (fails.unchanged (ap is_fatal is)))) (home' ∙ home) table (counts' (ap is_clean is) ∙ counts))

  -- one or the other
  pub handled-wants : (e : Refusal) (causes : List Cause) (work : Work) (takes : Bool) (mid new : State) {m n : ℕ}
      → ReadsAtMost m old.disk mid.disk 0 → mid.home ≡ old.home → mid.counts ≡ old.counts
      → FailsOrWants takes false causes n work mid.home e mid.disk new.disk
      → (is_among causes e ≡ true → is_among (own_causes s task caller r) e ≡ true)
      → is_among (own_causes s task caller r) NoMemory ≡ true
      → (IsTrue old.disk.honest → m + n ≤ cost s task r) → (IsTrue old.disk.honest → first_of causes ≡ first_refusal s task caller r)
      → (IsTrue old.disk.honest → work ≡ served_work s task caller r block)
      → (IsTrue old.disk.honest → takes ≡ may_want_memory s task r) → new.home ≡ mid.home → new.table ≡ old.table
      → (is_clean e ≡ true → new.counts ≡ mid.counts)
      → Handles task caller r (Err e) old block new block
  handled-wants e causes work takes mid new reads home counts fails own own' fewer first works may home' table counts' =
      by_case (memory-cases e)
    where
      by_case : (e ≡ NoMemory) ⊎ (e ≢ NoMemory) → Handles task caller r (Err e) old block new block
      by_case (inl is) = handled-wanting e causes work takes mid new is reads home counts fails own' fewer first may home' table counts'
      by_case (inr other) =
          handled-refused e causes work mid new block reads home counts (without-memory other fails) own fewer first works home' table
          counts' (λ _. refl)

  -- and one for which nowhere enough free blocks follow one another
  pub handled-lacking : (e : Refusal) (mid new : State) {m n : ℕ} → e ≡ NoRun → ReadsAtMost m old.disk mid.disk 0 → mid.home ≡ old.home
      → mid.counts ≡ old.counts
      → ReadsAtMost n mid.disk new.disk 0 → is_among (own_causes s task caller r) NoRun ≡ true → may_want_memory s task r ≡ false
      → asks_for_run r ≡ true
      → (IsTrue old.disk.honest → m + n ≤ cost s task r) → (IsTrue old.disk.honest → first_refusal s task caller r ≡ None)
      → new.home ≡ mid.home → new.table ≡ old.table → (is_clean e ≡ true → new.counts ≡ mid.counts)
      → Handles task caller r (Err e) old block new block
  handled-lacking e mid new is reads home counts more own takes asks fewer first home' table counts' =
      subst (λ (x : Refusal). Handles task caller r (Err x) old block new block) (sym is)
      (handled-unchanged NoRun new refl (λ same. absurd (cc)) own
      (λ honest. may-lack-run (first_refusal s task caller r) (may_want_memory s task r) (asks_for_run r) (first honest) takes asks)
      (within-when fewer (reads-more reads more)) (home' ∙ home) table (counts' (ap is_clean is) ∙ counts))

-- nothing was read
pub reads-none : (d : Disk) → ReadsAtMost 0 d d 0
reads-none d = reads-looked (looked_none d)

pub writes-none : (P : Image → Type 0) (d : Disk) (n : ℕ) → WritesAtMost P n d d 0
writes-none P d n = record { transfers = 0; went = went_looked P (looked_none d); few = λ _. omega arith }
