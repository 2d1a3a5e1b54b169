-- Lists of requests that are served one after another.
use Rattle.std.proofs.Common.{◌≡◌, ℕ, ◌+◌, ◌<◌, ◌≤◌, suc, zero, ◌&&◌, ◌||◌, not, if◌then◌else◌, Bool, true, false, IsTrue, List, [], ◌∷◌}
use Rattle.std.proofs.Common.{All, Option, Some, None, Result, Ok, Err, option_map, length, slice_index_or, slice_set, refl, sym, ◌∙◌}
use Rattle.std.proofs.Common.{subst, ap, arith}
use Rattle.f11_dev.specs.declared.device.Device.{Ghosts}
use Rattle.f11_runs.specs.Each.{Each, IsSeenAs, Steps, Within}
use Rattle.f11_runs.specs.Standing.{AccessesStand, IsTasks, TidyRun, is_lost}
use Rattle.f11_runs.proofs.EachLaws.{each-costs, each-seen, each-sound, steps-are-run}
use Rattle.f11_runs.proofs.LockedLaws.{tidy-locks-hold}
use Rattle.f11_store.specs.Accesses.{FreeIsEmpty}
use Rattle.f11_store.specs.Cost.{cost}
use Rattle.f11_store.specs.Run.{Answer, Call}
use Rattle.f11_store.specs.Store.{Store}
use Rattle.f11_store.specs.declared.refusals.Refusal.{Refusal}
use Rattle.f11_store.specs.declared.refusals.Refusal.TheVariants.{DeviceFault, Damaged}
use Rattle.f11_store.specs.declared.requests.Reply.{Reply}
use Rattle.f11_files.specs.Answers.{is_fatal, is_refused}
use Rattle.f11_files.specs.Open.{store_in}
use Rattle.f11_files.proofs.image_store.StoreLemmas.{unused-is-empty}
use Rattle.f11_files.proofs.writes.LostLemmas.{lost-none, lost-then}
use Rattle.f11_fcp.specs.Accesses.{Entry, HasAccessed, AccessTable, access_of, held_in, mark_kept, mark_there}
use Rattle.f11_fcp.specs.Handles.{State, faults_in, is_damage}
use Rattle.f11_fcp.specs.Lists.{AreAnswered, IsServed, KeepsCosts, KeepsLocks, ServesCall, ServesRun, answer_and, answers_in, asked_in}
use Rattle.f11_fcp.specs.Lists.{asked_of, cost_of, failures_of, is_sound, store_of_volume, transfers_of}
use Rattle.f11_fcp.specs.Places.{access_table_of}
use Rattle.f11_fcp.specs.Serving.{RequestsSpareLost, is_spent, state_in}
use Rattle.f11_fcp.specs.declared.call.Call.{Call as Listed}
use Rattle.f11_fcp.specs.declared.volume.Volume.{Volume}
use Rattle.f11_fcp.proofs.AccessedLemmas.{there-marked}

module _ {D : Type 0} {met : Ghosts D} where
  -- the first so many calls of a list were served one after another, and the others are as they were
  abbrev pub ServedUpTo : Volume D met → List Listed → List Listed → ℕ → Volume D met → Type 0
  ServedUpTo v old now zero w = (now ≡ old) × (w ≡ v)
  ServedUpTo v (c ∷ old) (d ∷ now) (suc k) w = (between : Volume D met) × IsServed v c d between × ServedUpTo between old now k w
  ServedUpTo v [] now (suc k) w = ⊥
  ServedUpTo v (c ∷ old) [] (suc k) w = ⊥

  -- one call more
  one-more : (v w u : Volume D met) (old now : List Listed) (k : ℕ) (c d e : Listed) → k < length old → ServedUpTo v old now k w
      → c ≡ slice_index_or now k e → IsServed w c d u
      → ServedUpTo v old (slice_set now k d) (suc k) u
  one-more v w u [] now zero c d e below h is one = absurd (omega (arith, below))
  one-more v w u (b ∷ old) [] zero c d e below h is one = absurd (cc h.0)
  one-more v w u (b ∷ old) (a ∷ now) zero c d e below h is one =
      let first : a ≡ b = cc h.0 in
      let rest : now ≡ old = cc h.0 in
      (u, subst (λ x. IsServed v x d u) (is ∙ first) (subst (λ x. IsServed x c d u) h.1 one), (rest, refl))
  one-more v w u (b ∷ old) (a ∷ now) (suc k) c d e below h is one =
      (h.0, h.1, one-more h.0 w u old now k c d e (omega (arith, below)) h.2 is one)
  one-more v w u [] now (suc k) c d e below h is one = absurd h
  one-more v w u (b ∷ old) [] (suc k) c d e below h is one = absurd h

  pub serves-more : (v w u : Volume D met) (old now : List Listed) (k : ℕ) (c d e : Listed) → k < length old → ServedUpTo v old now k w
      → c ≡ slice_index_or now k e → IsServed w c d u
      → ServedUpTo v old (slice_set now k d) (k + 1) u
  serves-more v w u old now k c d e below h is one =
      let next : suc k ≡ k + 1 = omega arith in
      subst (λ n. ServedUpTo v old (slice_set now k d) n u) next (one-more v w u old now k c d e below h is one)

  -- where all were served, each has its answer,
  pub all-answered : (v w : Volume D met) (old now : List Listed) (k : ℕ) → length old ≤ k → ServedUpTo v old now k w → AreAnswered old now
  all-answered v w [] [] zero le h = tt
  all-answered v w [] (a ∷ now) zero le h = absurd (cc h.0)
  all-answered v w (b ∷ old) now zero le h = absurd (omega (arith, le))
  all-answered v w (b ∷ old) (a ∷ now) (suc k) le h = (h.1.has, all-answered h.0 w old now k (omega (arith, le)) h.2)
  all-answered v w [] now (suc k) le h = absurd h
  all-answered v w (b ∷ old) [] (suc k) le h = absurd h

  -- they were served one after another,
  pub all-served : (v w : Volume D met) (old now : List Listed) (k : ℕ) → length old ≤ k → ServedUpTo v old now k w
      → Each ServesCall v (asked_in old) (answers_in now) w
  all-served v w [] [] zero le h = h.1
  all-served v w [] (a ∷ now) zero le h = absurd (cc h.0)
  all-served v w (b ∷ old) now zero le h = absurd (omega (arith, le))
  all-served v w (b ∷ old) (a ∷ now) (suc k) le h =
      subst (λ r. Each ServesCall v (asked_of b ∷ asked_in old) (answer_and a.block r (answers_in now)) w) (sym h.1.answer_is)
      (h.0, h.1.serves, all-served h.0 w old now k (omega (arith, le)) h.2)
  all-served v w [] now (suc k) le h = absurd h
  all-served v w (b ∷ old) [] (suc k) le h = absurd h

  -- and are of tasks and luns that there are
  pub all-tasks : (v w : Volume D met) (old now : List Listed) (k : ℕ) → length old ≤ k → ServedUpTo v old now k w
      → All IsTasks (asked_in old)
  all-tasks v w [] now zero le h = λ k c within. absurd (omega (arith, within))
  all-tasks v w (b ∷ old) now zero le h = absurd (omega (arith, le))
  all-tasks v w (b ∷ old) (a ∷ now) (suc k) le h = by_place (all-tasks h.0 w old now k (omega (arith, le)) h.2)
    where
      by_place : All IsTasks (asked_in old) → All IsTasks (asked_of b ∷ asked_in old)
      by_place rest zero c within = h.1.tasks
      by_place rest (suc j) c within = rest j c (omega (arith, within))
  all-tasks v w [] now (suc k) le h = absurd h
  all-tasks v w (b ∷ old) [] (suc k) le h = absurd h

-- a sound volume's disk is honest, and no request has failed it
sound-parts : (honest spent : Bool) → (honest && not spent) ≡ true → IsTrue honest × (spent ≡ false)
sound-parts true false h = (refl, refl)
sound-parts true true h = absurd (cc)
sound-parts false spent h = absurd (cc)

sound-again : (honest spent spent' fatal : Bool) → IsTrue honest → spent ≡ false → fatal ≡ false → spent' ≡ (spent || fatal)
    → (honest && not spent') ≡ true
sound-again true false false false h alive clean same = refl
sound-again true false true false h alive clean same = absurd (let never : true ≡ false = same in cc)
sound-again true true spent' fatal h alive clean same = absurd (let never : true ≡ false = alive in cc)
sound-again true false spent' true h alive clean same = absurd (let never : true ≡ false = clean in cc)
sound-again false spent spent' fatal h alive clean same = absurd (let never : false ≡ true = h in cc)

-- where no transfer failed, and no damage was met, the volume hasn't failed
not-fatal : (result : Result Reply Refusal) → faults_in result ≡ 0 → is_refused is_damage result ≡ false
    → is_refused is_fatal result ≡ false
not-fatal (Ok reply) none undamaged = refl
not-fatal (Err DeviceFault) none undamaged = absurd (omega (arith, none))
not-fatal (Err Damaged) none undamaged = absurd (cc)
not-fatal (Err _) none undamaged = refl

-- what is held is an access to a file that is there
pub accessed : (t : AccessTable) (s : Store) → HasAccessed t s → AccessesStand (held_in t s)
accessed t s kept task lun low small = by_entry (t task lun) (kept task lun low small)
  where
    by_entry : (o : Option Entry) → mark_there s o ≡ mark_kept o → is_lost (held_in t s) (option_map access_of o) ≡ false
    by_entry None h = refl
    by_entry (Some e) h = there-marked s e.file e.marked h

module _ {D : Type 0} {met : Ghosts D} where
  -- no file is in a slot that isn't in use
  unused : (v : Volume D met) → FreeIsEmpty (store_of_volume v)
  unused v = unused-is-empty (state_in v).disk.image (state_in v).home

  rises : (v w : Volume D met) (c : Call) (a : Answer) → ServesCall v c a w → failures_of v ≤ failures_of w
  rises v w c a served = by_spent (is_spent v) refl
    where
      by_spent : (b : Bool) → is_spent v ≡ b → failures_of v ≤ failures_of w
      by_spent true is = omega (arith, ap (λ (x : State). x.disk.failures) (served.serving.untouched is).0)
      by_spent false is = omega (arith, (served.serving.handled is).writes.went.failures)

  -- a request is a step of the store, between stores where no file is in a slot that isn't in use
  steps : (v w : Volume D met) (c : Call) (a : Answer) → ServesCall v c a w → is_sound v ≡ true → failures_of w ≡ failures_of v
      → Within FreeIsEmpty Steps (store_of_volume v) c a (store_of_volume w) × (is_sound w ≡ true)
  steps v w c a served sound same =
      let parts = sound-parts (state_in v).disk.honest (is_spent v) sound in
      let handled = served.serving.handled parts.1 in
      let none : faults_in a.result ≡ 0 = omega (arith, handled.writes.went.failures, same) in
      let clean = not-fatal a.result none (handled.undamaged parts.0) in (
        (unused v, handled.step parts.0 clean, unused w),
        sound-again (state_in w).disk.honest (is_spent v) (is_spent w) (is_refused is_fatal a.result) (handled.writes.went.honest ∙ parts.0)
            parts.1 clean served.serving.next,
      )

  pub seen-as-steps : IsSeenAs (ServesCall {met = met}) (Within FreeIsEmpty Steps) store_of_volume failures_of is_sound
  seen-as-steps = record { rises = rises; seen = steps }

  -- so a list is a run,
  tidy : (v w : Volume D met) (cs : List Call) (bs : List Answer) → Each ServesCall v cs bs w → is_sound v ≡ true
      → failures_of w ≡ failures_of v
      → TidyRun (store_of_volume v) cs bs (store_of_volume w)
  tidy v w cs bs each sound none =
      each-sound ServesCall (Within FreeIsEmpty Steps) store_of_volume failures_of is_sound seen-as-steps v w cs bs each sound none

  -- their blocks were written in order, and none that was lost
  pub each-beside : (v w : Volume D met) (cs : List Call) (bs : List Answer) → Each ServesCall v cs bs w
      → RequestsSpareLost v w
  each-beside v w [] [] h = subst (λ (x : Volume D met). RequestsSpareLost v x) (sym h) (lost-none (is_spent v) (state_in v).disk)
  each-beside v w (c ∷ cs) (a ∷ bs) h = lost-then _ _ _ _ _ _ h.1.serving.lost (each-beside h.0 w cs bs h.2)
  each-beside v w [] (a ∷ bs) h = absurd h
  each-beside v w (c ∷ cs) [] h = absurd h

  pub serves-run : (v w : Volume D met) (cs : List Call) (bs : List Answer) → Each ServesCall v cs bs w → ServesRun v cs bs w
  serves-run v w cs bs each sound none =
      steps-are-run (store_of_volume v) (store_of_volume w) cs bs
      (each-seen (Within FreeIsEmpty Steps) Steps (λ s. s) (λ s t c a h. h.1) (store_of_volume v) (store_of_volume w) cs bs
      (tidy v w cs bs each sound none))

  -- and its locked reads are as they should be
  pub keeps-locks : (v w : Volume D met) (cs : List Call) (bs : List Answer) → All IsTasks cs → Each ServesCall v cs bs w
      → KeepsLocks v cs bs w
  keeps-locks v w cs bs tasks each sound none =
      let parts = sound-parts (state_in v).disk.honest (is_spent v) sound in
      tidy-locks-hold (store_of_volume v) (store_of_volume w) cs bs tasks
      (accessed (access_table_of v.accesses) (store_in v.files) (v.kept parts.1 parts.0)) (tidy v w cs bs each sound none)

  -- and its transfers are within its costs
  pub grows : (v w : Volume D met) (c : Call) (a : Answer) → IsTrue (state_in v).disk.honest → ServesCall v c a w
      → (transfers_of w ≤ transfers_of v + cost_of v c) × IsTrue (state_in w).disk.honest
  grows v w c a honest served = by_spent (is_spent v) refl
    where
      by_spent : (b : Bool) → is_spent v ≡ b → (transfers_of w ≤ transfers_of v + cost_of v c) × IsTrue (state_in w).disk.honest
      by_spent true is =
          let same = (served.serving.untouched is).0 in
          (omega (arith, ap (λ (x : State). x.disk.transfers) same), ap (λ (x : State). x.disk.honest) same ∙ honest)
      by_spent false is =
          let handled = served.serving.handled is in
          let costs : cost_of v c ≡ cost (store_of_volume v) c.task c.request =
          ap (λ b. if b then 0 else cost (store_of_volume v) c.task c.request) is in
          (omega (arith, handled.writes.went.transfers, handled.writes.few honest, costs), handled.writes.went.honest ∙ honest)

  pub keeps-costs : (v w : Volume D met) (cs : List Call) (bs : List Answer) → Each ServesCall v cs bs w → KeepsCosts v cs bs w
  keeps-costs v w cs bs each =
      let all = each-costs ServesCall cost_of transfers_of (λ x. IsTrue (state_in x).disk.honest) grows v w cs bs each in
      record { most = all.0; costs = all.1; few = all.2 }
