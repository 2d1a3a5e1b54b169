-- Scripts that a volume serves: a run of its store, and its transfers.
use Rattle.std.proofs.Common.{◌≡◌, ℕ, ◌+◌, ◌<◌, ◌≤◌, ◌||◌, Bool, true, false, IsTrue, List, [], ◌∷◌, Option, Result, Ok, Err, refl, sym}
use Rattle.std.proofs.Common.{◌∙◌, ap, arith}
use Rattle.f11_dev.specs.Disk.{Disk}
use Rattle.f11_dev.specs.declared.device.Device.{Ghosts}
use Rattle.f11_store.specs.Run.{Call, Answer}
use Rattle.f11_store.specs.declared.refusals.Refusal.{Refusal}
use Rattle.f11_store.specs.declared.refusals.Refusal.TheVariants.{DeviceFault, Damaged}
use Rattle.f11_store.specs.declared.requests.Reply.{Reply}
use Rattle.f11_fcp.specs.files.Answers.{is_fatal, is_refused}
use Rattle.f11_runs.specs.Each.{AddsCost, IsSeenAs, Steps}
use Rattle.f11_script.specs.declared.errors.ScriptError.{ScriptError}
use Rattle.f11_script.specs.declared.errors.ScriptError.TheVariants.{ReadFault, WriteFault, TooLong}
use Rattle.f11_fcp.specs.Lists.{ServesCall, cost_of, failures_of, is_sound, store_of_volume, transfers_of}
use Rattle.f11_fcp.specs.Handles.{State, faults_in, is_damage}
use Rattle.f11_fcp.specs.Serving.{RequestsSpareLost, is_spent, state_in}
use Rattle.f11_fcp.specs.declared.volume.Volume.{Volume}
use Rattle.f11_fcp.proofs.ListLemmas.{grows, seen-as-steps}
use Rattle.f11_fcp.proofs.writes.LostLemmas.{lost-none, lost-then}
use Rattle.f11_serving.specs.Served.{Service, zeros}
use Rattle.f11_serving.specs.Serving.{AnswersLines, Place, RunsScript, StopsReading}
use Rattle.f11_serving.specs.Scripts.{KeepsScriptCosts, ServesScriptRun}
use Rattle.f11_serving.proofs.RunLemmas.{costs-from, lines-keep, lines-rise, lines-seen, lines-sound}

-- a script that is served by what is seen as another service
module _ {V W : Type 0} (S : Service V) (T : Service W) (view : V → W) (failures : V → ℕ) (is_sound : V → Bool)
    (m : IsSeenAs S T view failures is_sound)
    (bytes written written' : Option (List ℕ)) (old new : V) (sound : is_sound old ≡ true) (none : failures new ≡ failures old)
  where
    answers-seen : (read : List (List ℕ)) (count : ℕ) → AnswersLines S read old new written written' count
        → AnswersLines T read (view old) (view new) written written' count
    answers-seen read count a = record {
      text = a.text;
      block = a.block;
      serves = lines-seen S T view failures is_sound m read old new zeros a.block a.text count a.serves sound none;
      wrote = a.wrote;
    }

    reading-seen : (place : Place) → StopsReading S bytes place old new written written'
        → StopsReading T bytes place (view old) (view new) written written'
    reading-seen place s =
        record { read = s.read; reads = s.reads; few = s.few; count = s.count; answers = answers-seen s.read s.count s.answers }

    pub script-seen : (result : Result ℕ ScriptError) → RunsScript S bytes old new written written' result
        → RunsScript T bytes (view old) (view new) written written' result
    script-seen (Ok count) h =
        (h.0, record { read = h.1.read; all = h.1.all; few = h.1.few; answers = answers-seen h.1.read count h.1.answers })
    script-seen (Err ReadFault) h = (h.0, (reading-seen h.0 h.1.0, h.1.1))
    script-seen (Err TooLong) h = (h.0, (reading-seen h.0 h.1.0, h.1.1, h.1.2, h.1.3))
    script-seen (Err WriteFault) h =
        let s = h.1 in
        let first = lines-rise S T view failures is_sound m s.read old s.between zeros s.block s.text s.count s.serves in
        let then = lines-rise S T view failures is_sound m (s.last ∷ []) s.between new s.block s.last_block s.last_text s.last_count
        s.serves_last in
        let before : failures s.between ≡ failures old = omega (arith, first, then, none) in
        let after : failures new ≡ failures s.between = omega (arith, first, then, none) in (
          h.0,
          record {
            read = s.read;
            last = s.last;
            reads = s.reads;
            few = s.few;
            count = s.count;
            between = view s.between;
            block = s.block;
            text = s.text;
            serves = lines-seen S T view failures is_sound m s.read old s.between zeros s.block s.text s.count s.serves sound before;
            last_count = s.last_count;
            last_block = s.last_block;
            last_text = s.last_text;
            serves_last =
                lines-seen S T view failures is_sound m (s.last ∷ []) s.between new s.block s.last_block s.last_text s.last_count
                s.serves_last
                (lines-sound S T view failures is_sound m s.read old s.between zeros s.block s.text s.count s.serves sound before) after;
            middle = s.middle;
            wrote = s.wrote;
            wrote_last = s.wrote_last;
          },
        )

-- what each request keeps is kept by a script
module _ {V : Type 0} (S : Service V) (R : V → V → Type 0) (self : (v : V) → R v v) (trans : (u v w : V) → R u v → R v w → R u w)
    (each : (v w : V) (c : Call) (a : Answer) → S v c a w → R v w)
  where
    pub script-keeps : (bytes written written' : Option (List ℕ)) (old new : V) (result : Result ℕ ScriptError)
        → RunsScript S bytes old new written written' result → R old new
    script-keeps bytes written written' old new (Ok count) h =
        let a = h.1.answers in
        lines-keep S R self trans each h.1.read old new zeros a.block a.text count a.serves
    script-keeps bytes written written' old new (Err ReadFault) h =
        let a = h.1.0.answers in
        lines-keep S R self trans each h.1.0.read old new zeros a.block a.text h.1.0.count a.serves
    script-keeps bytes written written' old new (Err TooLong) h =
        let a = h.1.0.answers in
        lines-keep S R self trans each h.1.0.read old new zeros a.block a.text h.1.0.count a.serves
    script-keeps bytes written written' old new (Err WriteFault) h =
        let s = h.1 in
        trans old s.between new (lines-keep S R self trans each s.read old s.between zeros s.block s.text s.count s.serves)
        (lines-keep S R self trans each (s.last ∷ []) s.between new s.block s.last_block s.last_text s.last_count s.serves_last)

-- what a script costs
module _ {V : Type 0} (S : Service V) (cost : V → Call → ℕ) (measure : V → ℕ) (P : V → Type 0)
    (rises : (v w : V) (c : Call) (a : Answer) → P v → S v c a w → (measure w ≤ measure v + cost v c) × P w)
    (bytes written written' : Option (List ℕ)) (old new : V)
  where
    abbrev pub Costs : Result ℕ ScriptError → Type 0
    Costs result =
        (most : ℕ) × RunsScript (AddsCost S cost) bytes (record { value = old; sum = 0 }) (record { value = new; sum = most }) written
        written' result × (P old → measure new ≤ measure old + most)

    pub script-costs : (result : Result ℕ ScriptError) → RunsScript S bytes old new written written' result → Costs result
    script-costs (Ok count) h =
        let a = h.1.answers in
        let c = costs-from S cost measure P rises h.1.read old new 0 zeros a.block a.text count a.serves in (
          c.most,
          (
            h.0,
            record {
              read = h.1.read;
              all = h.1.all;
              few = h.1.few;
              answers = record { text = a.text; block = a.block; serves = c.serves; wrote = a.wrote };
            },
          ),
          λ p. omega (arith, (c.bound p).0),
        )
    script-costs (Err ReadFault) h =
        let s = h.1.0 in
        let a = s.answers in
        let c = costs-from S cost measure P rises s.read old new 0 zeros a.block a.text s.count a.serves in (
          c.most,
          (
            h.0,
            (
              record {
                read = s.read;
                reads = s.reads;
                few = s.few;
                count = s.count;
                answers = record { text = a.text; block = a.block; serves = c.serves; wrote = a.wrote };
              },
              h.1.1,
            ),
          ),
          λ p. omega (arith, (c.bound p).0),
        )
    script-costs (Err TooLong) h =
        let s = h.1.0 in
        let a = s.answers in
        let c = costs-from S cost measure P rises s.read old new 0 zeros a.block a.text s.count a.serves in (
          c.most,
          (
            h.0,
            (
              record {
                read = s.read;
                reads = s.reads;
                few = s.few;
                count = s.count;
                answers = record { text = a.text; block = a.block; serves = c.serves; wrote = a.wrote };
              },
              h.1.1,
              h.1.2,
              h.1.3,
            ),
          ),
          λ p. omega (arith, (c.bound p).0),
        )
    script-costs (Err WriteFault) h =
        let s = h.1 in
        let first = costs-from S cost measure P rises s.read old s.between 0 zeros s.block s.text s.count s.serves in
        let then = costs-from S cost measure P rises (s.last ∷ []) s.between new first.most s.block s.last_block s.last_text s.last_count
        s.serves_last in (
          then.most,
          (
            h.0,
            record {
              read = s.read;
              last = s.last;
              reads = s.reads;
              few = s.few;
              count = s.count;
              between = record { value = s.between; sum = first.most };
              block = s.block;
              text = s.text;
              serves = first.serves;
              last_count = s.last_count;
              last_block = s.last_block;
              last_text = s.last_text;
              serves_last = then.serves;
              middle = s.middle;
              wrote = s.wrote;
              wrote_last = s.wrote_last;
            },
          ),
          λ p. let one = first.bound p in omega (arith, one.0, (then.bound one.1).0),
        )

-- what fails the volume is a transfer that failed, on an honest disk
clean-none : (result : Result Reply Refusal) → is_refused is_fatal result ≡ false → faults_in result ≡ 0
clean-none (Ok reply) clean = refl
clean-none (Err DeviceFault) clean = absurd (let never : true ≡ false = clean in cc)
clean-none (Err _) clean = refl

fatal-one : (result : Result Reply Refusal) → is_refused is_fatal result ≡ true → is_refused is_damage result ≡ false → faults_in result ≡ 1
fatal-one (Ok reply) fatal undamaged = absurd (let never : false ≡ true = fatal in cc)
fatal-one (Err DeviceFault) fatal undamaged = refl
fatal-one (Err Damaged) fatal undamaged = absurd (let never : true ≡ false = undamaged in cc)
fatal-one (Err _) fatal undamaged = absurd (let never : false ≡ true = fatal in cc)

-- the home block and whether the disk is honest stay; once a request has failed the volume that stays so, and the disk as it is; while
-- none has no transfer fails, and where one does a transfer failed, on an honest disk; behind a transfer that failed none is made
module _ {D : Type 0} {met : Ghosts D} where
  pub record KeepsVolume (v w : Volume D met) : Type 0 where
    pub home : (state_in w).home ≡ (state_in v).home
    pub honest : (state_in w).disk.honest ≡ (state_in v).disk.honest
    pub spent : is_spent v ≡ true → is_spent w ≡ true
    pub untouched : is_spent v ≡ true → (state_in w).disk ≡ (state_in v).disk
    pub rises : failures_of v ≤ failures_of w
    pub quiet : failures_of v < failures_of w → (state_in w).disk.calm ≡ 0
    pub same : is_spent w ≡ false → failures_of w ≡ failures_of v
    pub more : IsTrue (state_in v).disk.honest → is_spent v ≡ false → is_spent w ≡ true → failures_of v < failures_of w

  call-keeps : (v w : Volume D met) (c : Call) (a : Answer) → ServesCall v c a w → KeepsVolume v w
  call-keeps v w c a served = by_spent (is_spent v) refl
    where
      by_spent : (b : Bool) → is_spent v ≡ b → KeepsVolume v w
      by_spent true is =
          let state = (served.serving.untouched is).0 in
          let failures : failures_of w ≡ failures_of v = ap (λ (x : State). x.disk.failures) state in
          record {
            home = ap (λ (x : State). x.home) state;
            honest = ap (λ (x : State). x.disk.honest) state;
            spent = λ _. served.serving.next ∙ ap (λ b. b || is_refused is_fatal a.result) is;
            untouched = λ _. ap (λ (x : State). x.disk) state;
            rises = omega (arith, failures);
            quiet = λ more. absurd (omega (arith, more, failures));
            same = λ _. failures;
            more = λ _ alive _. absurd (let never : true ≡ false = sym is ∙ alive in cc);
          }
      by_spent false is =
          let handled = served.serving.handled is in
          let next : is_spent w ≡ is_refused is_fatal a.result = served.serving.next ∙ ap (λ b. b || is_refused is_fatal a.result) is in
          record {
            home = handled.home;
            honest = handled.writes.went.honest;
            spent = λ was. absurd (let never : false ≡ true = sym is ∙ was in cc);
            untouched = λ was. absurd (let never : false ≡ true = sym is ∙ was in cc);
            rises = omega (arith, handled.writes.went.failures);
            quiet = λ more. handled.writes.went.quiet (omega (arith, more, handled.writes.went.failures));
            same = λ alive. omega (arith, handled.writes.went.failures, clean-none a.result (sym next ∙ alive));
            more = λ honest _ failed.
                omega (arith, handled.writes.went.failures, fatal-one a.result (sym next ∙ failed) (handled.undamaged honest));
          }

  volume-self : (v : Volume D met) → KeepsVolume v v
  volume-self v = record {
    home = refl;
    honest = refl;
    spent = λ was. was;
    untouched = λ _. refl;
    rises = omega arith;
    quiet = λ more. absurd (omega (arith, more));
    same = λ _. refl;
    more = λ _ alive failed. absurd (let never : false ≡ true = sym alive ∙ failed in cc);
  }

  volume-trans : (u v w : Volume D met) → KeepsVolume u v → KeepsVolume v w → KeepsVolume u w
  volume-trans u v w one then = record {
    home = then.home ∙ one.home;
    honest = then.honest ∙ one.honest;
    spent = λ was. then.spent (one.spent was);
    untouched = λ was. then.untouched (one.spent was) ∙ one.untouched was;
    rises = omega (arith, one.rises, then.rises);
    quiet = λ more. quiet_behind (is_spent v) refl more;
    same = λ alive. then.same alive ∙ one.same (alive-before alive);
    more = λ honest alive failed. by_spent (is_spent v) refl honest alive failed;
  }
    where
      alive-before : is_spent w ≡ false → is_spent v ≡ false
      alive-before alive = before (is_spent v) refl
        where
          before : (b : Bool) → is_spent v ≡ b → is_spent v ≡ false
          before false is = is
          before true is = absurd (let never : true ≡ false = sym (then.spent is) ∙ alive in cc)

      quiet_behind : (b : Bool) → is_spent v ≡ b → failures_of u < failures_of w → (state_in w).disk.calm ≡ 0
      quiet_behind true is more =
          let disk = then.untouched is in
          let failures : failures_of w ≡ failures_of v = ap (λ (d : Disk). d.failures) disk in
          ap (λ (d : Disk). d.calm) disk ∙ one.quiet (omega (arith, more, failures))
      quiet_behind false is more = then.quiet (omega (arith, more, one.same is))

      by_spent : (b : Bool) → is_spent v ≡ b → IsTrue (state_in u).disk.honest → is_spent u ≡ false → is_spent w ≡ true
          → failures_of u < failures_of w
      by_spent true is honest alive failed = let first = one.more honest alive is in omega (arith, first, then.rises)
      by_spent false is honest alive failed = let second = then.more (one.honest ∙ honest) is failed in omega (arith, one.rises, second)

  pub script-keeps-volume : (bytes written written' : Option (List ℕ)) (old new : Volume D met) (result : Result ℕ ScriptError) →
      RunsScript ServesCall bytes old new written written' result → KeepsVolume old new
  script-keeps-volume bytes written written' old new result h =
      script-keeps ServesCall KeepsVolume volume-self volume-trans call-keeps bytes written written' old new result h

  -- blocks are written in order by a script, and none that is lost, since they are by each call
  pub script-beside : (bytes written written' : Option (List ℕ)) (old new : Volume D met) (result : Result ℕ ScriptError) →
      RunsScript ServesCall bytes old new written written' result → RequestsSpareLost old new
  script-beside bytes written written' old new result h =
      script-keeps ServesCall RequestsSpareLost (λ v. lost-none (is_spent v) (state_in v).disk)
      (λ u v w. lost-then (is_spent u) (is_spent v) (is_spent w) (state_in u).disk (state_in v).disk (state_in w).disk)
      (λ v w c a served. served.serving.lost) bytes written written' old new result h

module _ {D : Type 0} {met : Ghosts D} (old new : Volume D met) (bytes written written' : Option (List ℕ)) (result : Result ℕ ScriptError)
    (runs : RunsScript ServesCall bytes old new written written' result)
  where
    pub serves-script-run : ServesScriptRun old new bytes written written' result
    serves-script-run sound none =
        script-seen ServesCall Steps store_of_volume failures_of is_sound
        (record { rises = seen-as-steps.rises; seen = λ v w c a h s n. let one = seen-as-steps.seen v w c a h s n in (one.0.1, one.1) })
        bytes written written' old new sound none result runs

    pub keeps-script-costs : KeepsScriptCosts old new bytes written written' result
    keeps-script-costs =
        let all = script-costs ServesCall cost_of transfers_of (λ v. IsTrue (state_in v).disk.honest) grows bytes written written' old new
        result runs in
        record { most = all.0; costs = all.1; few = all.2 }
