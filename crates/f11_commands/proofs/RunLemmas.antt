-- A script that is served on an image.
use Rattle.std.proofs.Common.{◌≡◌, ◌⊎◌, inl, inr, ℕ, ◌+◌, ◌<◌, ◌++◌, ◌||◌, Bool, true, false, IsTrue, List, Option, Result, Ok, Err, refl}
use Rattle.std.proofs.Common.{sym}
use Rattle.std.proofs.lemmas.Bool.{cases_Bool}
use Rattle.std.proofs.Common.{◌∙◌, ap, subst, arith}
use Rattle.f11_dev.specs.Disk.{Disk, with_transfer}
use Rattle.f11_dev.proofs.LookedLemmas.{looked_failed_read}
use Rattle.f11_dev.specs.Image.{Image, IsImage}
use Rattle.f11_dev.specs.Looked.{Looked}
use Rattle.f11_dev.specs.declared.device.Device.{Ghosts}
use Rattle.f11_home.specs.Home.{IsHomeOf}
use Rattle.f11_serving.specs.fcp.Accesses.{held_in, no_entries}
use Rattle.f11_serving.specs.fcp.Lists.{ServesCall, failures_of, store_of_volume}
use Rattle.f11_serving.specs.fcp.Mounting.{Mounts}
use Rattle.f11_serving.specs.fcp.Serving.{RequestsSpareLost, StaysAccepted, is_spent, state_in}
use Rattle.f11_serving.specs.fcp.declared.volume.Volume.{Volume}
use Rattle.f11_catalog.specs.image_store.StoreOf.{store_of}
use Rattle.f11_runs.specs.Each.{Steps}
use Rattle.f11_script.specs.declared.errors.ScriptError.{ScriptError}
use Rattle.f11_serving.specs.Answering.{Answering, AnswersScript, StepsOrFails, answering}
use Rattle.f11_serving.specs.Scripts.{ServesScriptRun}
use Rattle.f11_serving.specs.Serving.{RunsScript}
use Rattle.f11_serving.proofs.VolumeLemmas.{KeepsVolume, script-keeps-volume}
use Rattle.f11_store.specs.Store.{Store}
use Rattle.f11_volume.specs.Verdict.{IsAccepted}
use Rattle.f11_serving.proofs.writes.MomentLemmas.{stands-before, stands-behind}
use Rattle.f11_commands.proofs.CopyLemmas.{first-is, last-is, sound-first, stands-accepted}
use Rattle.f11_commands.specs.RunCommand.{EndsRun, EndsServing, EndsSyncing, HasFaults, ServesImage, SyncedIf, WritesNothing, outcome_of}
use Rattle.f11_commands.specs.declared.outcome.Answer.{Answer}
use Rattle.f11_commands.specs.declared.outcome.Answer.TheVariants.{Done, Fault}
use Rattle.f11_commands.specs.declared.outcome.Failure.{Failure}
use Rattle.f11_commands.specs.declared.outcome.Failure.TheVariants.{DeviceFault, NoMemory, CannotWrite}
use Rattle.f11_commands.specs.declared.run.RunFailure.{RunFailure}
use Rattle.f11_commands.specs.declared.run.RunFailure.TheVariants.{Command, Script}

-- a volume that was mounted served the script
module _ {D W : Type 0} {met : Ghosts D} (disk : Disk) (first last : Volume D met) (remaining : Option (List ℕ))
    (contents : W → Option (List ℕ)) (before after : W)
    (result : Result ℕ ScriptError) (mounts : Mounts disk first)
    (runs : RunsScript ServesCall remaining first last (contents before) (contents after) result)
    (answers : AnswersScript first last remaining (contents before) (contents after) result)
    (run : ServesScriptRun first last remaining (contents before) (contents after) result) (accepted : StaysAccepted (state_in last))
    (lost : RequestsSpareLost first last) (image : IsImage disk.image)
    (whole : IsTrue disk.honest → IsAccepted disk.image)
  where
    kept : KeepsVolume first last
    kept = script-keeps-volume remaining (contents before) (contents after) first last result runs

    -- what it answered, told of the stores of the two images
    answers-images : RunsScript (StepsOrFails disk.honest) remaining
        (record { store = held_in no_entries (store_of disk.image (state_in first).home); failed = false })
        (record {
          store = held_in (state_in last).table (store_of (state_in last).disk.image (state_in first).home);
          failed = is_spent last;
        })
        (contents before) (contents after) result
    answers-images =
        subst (λ (h : Bool). RunsScript (StepsOrFails h) remaining begun ended (contents before) (contents after) result)
        mounts.looked.honest
        (subst (λ (x : Answering). RunsScript (StepsOrFails (state_in first).disk.honest) remaining x ended (contents before)
        (contents after) result) (λ i. record { store = first-is disk first last mounts kept.home i; failed = mounts.fresh i })
        (subst (λ (x : Answering). RunsScript (StepsOrFails (state_in first).disk.honest) remaining (answering first) x (contents before)
        (contents after) result) (λ i. record { store = last-is disk first last mounts kept.home i; failed = is_spent last }) answers))
      where
        begun : Answering
        begun = record { store = held_in no_entries (store_of disk.image (state_in first).home); failed = false }

        ended : Answering
        ended = record {
          store = held_in (state_in last).table (store_of (state_in last).disk.image (state_in first).home);
          failed = is_spent last;
        }

    more-failures : is_spent last ≡ true → IsTrue disk.honest → disk.failures < (state_in last).disk.failures
    more-failures is honest =
        let more = kept.more (mounts.looked.honest ∙ honest) mounts.fresh is in omega (arith, more, mounts.looked.failures)

    same-failures : is_spent last ≡ false → (state_in last).disk.failures ≡ disk.failures
    same-failures is = omega (arith, kept.same is, mounts.looked.failures)

    still-alive : IsTrue disk.honest → (state_in last).disk.failures ≡ disk.failures → is_spent last ≡ false
    still-alive honest same = elim (cases_Bool (is_spent last)) [
      | inl is ↦ let more = more-failures is honest in absurd (omega (arith, more, same))
      | inr alive ↦ alive
    ]

    pub serves-image : ServesImage result remaining disk (state_in last).disk contents before after
    serves-image = record {
      home = (state_in first).home;
      held = (state_in last).table;
      home_is = mounts.home;
      verified = whole;
      accepted = λ is. accepted (kept.honest ∙ mounts.looked.honest ∙ is);
      meanwhile = stands-accepted disk first last mounts image whole still-alive lost;
      failed = is_spent last;
      failed_is = λ is. (λ dead. more-failures dead is, λ alive. same-failures alive);
      quiet = λ more. kept.quiet (omega (arith, more, mounts.looked.failures));
      answers = answers-images;
      run = λ is none.
          let sound = sound-first disk first last mounts kept.home is in
          let same : failures_of last ≡ failures_of first = omega (arith, mounts.looked.failures, none) in
          subst (λ (s : Store). RunsScript Steps remaining s
          (held_in (state_in last).table (store_of (state_in last).disk.image (state_in first).home)) (contents before) (contents after)
          result) (first-is disk first last mounts kept.home)
          (subst (λ (s : Store). RunsScript Steps remaining (store_of_volume first) s (contents before) (contents after) result)
          (last-is disk first last mounts kept.home) (run sound same));
    }

    -- a sync that failed behind a transfer that did
    serves-failed : (r : Result ℕ ScriptError) → ServesImage r remaining disk (state_in last).disk contents before after
        → is_spent last ≡ true → ServesImage r remaining disk (with_transfer false (state_in last).disk) contents before after
    serves-failed r s is = record {
      home = s.home;
      held = s.held;
      home_is = s.home_is;
      verified = s.verified;
      accepted = s.accepted;
      meanwhile =
          stands-before disk (state_in last).disk (with_transfer false (state_in last).disk) 1 1
          (let rises = kept.rises in let none = mounts.looked.failures in omega (arith, rises, none)) s.meanwhile
          (looked_failed_read (state_in last).disk (with_transfer false (state_in last).disk) refl);
      failed = s.failed;
      failed_is = λ honest.
          let more = more-failures is honest in (
            λ dead. omega (arith, more),
            λ alive. let same = (s.failed_is honest).1 alive in absurd (omega (arith, more, same)),
          );
      quiet = λ _. refl;
      answers = s.answers;
      run = λ honest none.
          let more = more-failures is honest in
          let one : (state_in last).disk.failures + 1 ≡ disk.failures = none in
          absurd (omega (arith, more, one));
    }

    by-outcome : (r : Result ℕ ScriptError) → ServesImage r remaining disk (state_in last).disk contents before after
        → (spent fails : Bool) → is_spent last ≡ spent → (new : Disk) → SyncedIf fails (state_in last).disk new
        → EndsServing (outcome_of (spent || fails) r) remaining disk new contents before after
    by-outcome r s true false is new at =
        subst (λ (x : Disk). EndsServing (Err (Command DeviceFault)) remaining disk x contents before after) (sym at)
        (inl (inr (r, s), more-failures is))
    by-outcome r s true true is new at =
        subst (λ (x : Disk). EndsServing (Err (Command DeviceFault)) remaining disk x contents before after) (sym at)
        (inl (inr (r, serves-failed r s is), λ honest. let more = more-failures is honest in omega (arith, more)))
    by-outcome r s false true is new at = inr (r, record { done = _; serves = s; none = same-failures is; failed = at })
    by-outcome (Ok count) s false false is new at =
        subst (λ (x : Disk). EndsServing (Ok Done) remaining disk x contents before after) (sym at) (count, s, same-failures is)
    by-outcome (Err e) s false false is new at =
        subst (λ (x : Disk). EndsServing (Err (Script e)) remaining disk x contents before after) (sym at) (s, same-failures is)

    pub ends-serving : (new : Disk) (told : Result Answer RunFailure)
        → EndsSyncing (is_spent last) result told (state_in last).disk new → EndsServing told remaining disk new contents before after
    ends-serving new told e =
        subst (λ t. EndsServing t remaining disk new contents before after) (sym e.told_is)
        (by-outcome result serves-image (is_spent last) e.fails refl new e.synced)

-- an image that was looked over first
module _ {W : Type 0} (remaining : Option (List ℕ)) (contents : W → Option (List ℕ)) (before after : W) (old mid : Disk) (n : ℕ)
    (looked : Looked old mid n 0) where
  serves-behind : (new : Disk) (result : Result ℕ ScriptError) → ServesImage result remaining mid new contents before after
      → ServesImage result remaining old new contents before after
  serves-behind new result s = record {
    home = s.home;
    held = s.held;
    home_is = λ is. subst (λ (i : Image). IsHomeOf i s.home) looked.image (s.home_is (looked.honest ∙ is));
    verified = λ is. subst IsAccepted looked.image (s.verified (looked.honest ∙ is));
    accepted = λ is. s.accepted (looked.honest ∙ is);
    meanwhile = stands-behind old mid new n looked s.meanwhile;
    failed = s.failed;
    failed_is = λ is.
        let fared = s.failed_is (looked.honest ∙ is) in (
          λ dead. let more = fared.0 dead in omega (arith, more, looked.failures),
          λ alive. let same = fared.1 alive in omega (arith, same, looked.failures),
        );
    quiet = λ more. s.quiet (omega (arith, more, looked.failures));
    answers =
        subst (λ (h : Bool). RunsScript (StepsOrFails h) remaining
        (record { store = held_in no_entries (store_of old.image s.home); failed = false })
        (record { store = held_in s.held (store_of new.image s.home); failed = s.failed }) (contents before) (contents after) result)
        looked.honest
        (subst (λ (i : Image). RunsScript (StepsOrFails mid.honest) remaining
        (record { store = held_in no_entries (store_of i s.home); failed = false })
        (record { store = held_in s.held (store_of new.image s.home); failed = s.failed }) (contents before) (contents after) result)
        looked.image s.answers);
    run = λ is none.
        let same : new.failures ≡ mid.failures = omega (arith, looked.failures, none) in
        subst (λ (i : Image). RunsScript Steps remaining (held_in no_entries (store_of i s.home))
        (held_in s.held (store_of new.image s.home)) (contents before) (contents after) result)
        looked.image (s.run (looked.honest ∙ is) same);
  }

  nothing-behind : (new : Disk) → WritesNothing mid new contents before after → WritesNothing old new contents before after
  nothing-behind new w = record { image = w.image ∙ looked.image; history = w.history ∙ looked.history; written = w.written }

  pub ends-behind : (new : Disk) (told : Result Answer RunFailure) → EndsServing told remaining mid new contents before after
      → EndsRun told remaining old new contents before after
  ends-behind new (Ok Done) h = (h.0, serves-behind new (Ok h.0) h.1, omega (arith, h.2, looked.failures))
  ends-behind new (Ok Fault) h = absurd h
  ends-behind new (Err (Script e)) h = (serves-behind new (Err e) h.0, omega (arith, h.1, looked.failures))
  ends-behind new (Err (Command DeviceFault)) (inl h) =
      inl (begun h.0, λ honest. let more = h.1 (looked.honest ∙ honest) in omega (arith, more, looked.failures))
    where
      begun : WritesNothing mid new contents before after
          ⊎ ((result : Result ℕ ScriptError) × ServesImage result remaining mid new contents before after)
          → WritesNothing old new contents before after
          ⊎ ((result : Result ℕ ScriptError) × ServesImage result remaining old new contents before after)
      begun (inl w) = inl (nothing-behind new w)
      begun (inr s) = inr (s.0, serves-behind new s.0 s.1)
  ends-behind new (Err (Command DeviceFault)) (inr h) = inr (
    h.0,
    record {
      done = h.1.done;
      serves = serves-behind h.1.done h.0 h.1.serves;
      none = omega (arith, h.1.none, looked.failures);
      failed = h.1.failed;
    },
  )
  ends-behind new (Err (Command NoMemory)) h = (nothing-behind new h.0, omega (arith, h.1, looked.failures))
  ends-behind new (Err (Command CannotWrite)) h = absurd h

-- an image with faults whose report wasn't written to its end
pub ends-unwritten : {W : Type 0} (remaining : Option (List ℕ)) (contents : W → Option (List ℕ)) (before after : W) (old new : Disk)
    (run : RunFailure) (failure : Failure)
    → run ≡ Command failure → failure ≡ CannotWrite → HasFaults old new → EndsRun (Err run) remaining old new contents before after
ends-unwritten remaining contents before after old new run failure is failed h =
    subst (λ (r : RunFailure). EndsRun (Err r) remaining old new contents before after) (sym (is ∙ ap Command failed)) h
