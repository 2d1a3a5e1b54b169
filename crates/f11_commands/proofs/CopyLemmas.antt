-- A copy between the volumes of two images.
use Rattle.std.proofs.Common.{◌≡◌, ◌≢◌, inl, ℕ, ◌+◌, ◌&&◌, ◌||◌, not, Bool, true, false, if◌then◌else◌, IsTrue, List, Option, Result, Ok}
use Rattle.std.proofs.Common.{Err, refl, sym}
use Rattle.std.proofs.Common.{◌∙◌, ap, subst, arith}
use Rattle.f11_dev.specs.Disk.{Disk}
use Rattle.f11_dev.specs.Image.{Image, IsImage}
use Rattle.f11_dev.specs.declared.device.Device.{Ghosts}
use Rattle.f11_home.specs.Home.{HomeFields}
use Rattle.f11_serving.specs.files.Answers.{is_fatal, is_fault}
use Rattle.f11_serving.specs.fcp.Accesses.{AccessTable, held_in, no_entries}
use Rattle.f11_serving.specs.fcp.Lists.{is_sound, store_of_volume}
use Rattle.f11_serving.specs.fcp.Mounting.{Mounts}
use Rattle.f11_serving.specs.fcp.Serving.{RequestsSpareLost, is_spent, state_in}
use Rattle.f11_serving.specs.fcp.declared.volume.Volume.{Volume}
use Rattle.f11_flx.specs.Copying.{FaresFiles, of_files}
use Rattle.f11_flx.specs.declared.refusal.FlxRefusal.{FlxRefusal}
use Rattle.f11_flx.specs.declared.refusal.FlxRefusal.TheVariants.{BadRecord, Files, LineTooLong, Rt, Unread}
use Rattle.f11_store.specs.declared.refusals.Refusal.{Refusal}
use Rattle.f11_store.specs.declared.refusals.Refusal.TheVariants.{Damaged}
use Rattle.f11_catalog.specs.image_store.StoreOf.{store_of}
use Rattle.f11_store.specs.Store.{Store}
use Rattle.f11_volume.specs.Verdict.{IsAccepted}
use Rattle.f11_serving.proofs.writes.LostLemmas.{lost-looked, lost-then}
use Rattle.f11_serving.proofs.writes.MomentLemmas.{order-accepted}
use Rattle.f11_serving.specs.writes.Moments.{StandsAccepted}
use Rattle.rt11_volume.specs.Calls.{has_failed, volume_device}
use Rattle.rt11_volume.specs.Verifying.Verdict.{IsRtAccepted, IsSoundDisk}
use Rattle.rt11_volume.specs.declared.volume.RtAccepted.{RtAccepted}
use Rattle.f11_making.proofs.AskedLemmas.{fault-of}
use Rattle.f11_commands.specs.CopyCommand.{CopiesImages, EndsBetween, TellsKeptCopy}
use Rattle.f11_commands.specs.Copying.{OutcomeIs, StandsAsIs}
use Rattle.f11_commands.specs.Finding.{FaresAsAnswered}
use Rattle.f11_commands.specs.Stopping.{StopsCopy, WhereUnheld}
use Rattle.f11_commands.specs.declared.outcome.FileAnswer.{FileAnswer}
use Rattle.f11_commands.specs.declared.copy.Copying.{Copying}
use Rattle.f11_commands.specs.declared.outcome.Failure.{Failure}

both : (a b : Bool) → a ≡ true → b ≡ false → (a && not b) ≡ true
both true false h k = refl
both true true h k = absurd (let never : true ≡ false = k in cc)
both false b h k = absurd (let never : false ≡ true = h in cc)

-- the stores of a volume that was mounted, and then asked
module _ {D : Type 0} {met : Ghosts D} (old : Disk) (first last : Volume D met) (mounts : Mounts old first)
    (home : (state_in last).home ≡ (state_in first).home) where
  pub first-is : store_of_volume first ≡ held_in no_entries (store_of old.image (state_in first).home)
  first-is =
      ap (λ (t : AccessTable). held_in t (store_of (state_in first).disk.image (state_in first).home)) mounts.none
      ∙ ap (λ (i : Image). held_in no_entries (store_of i (state_in first).home)) mounts.looked.image

  pub last-is : store_of_volume last ≡ held_in (state_in last).table (store_of (state_in last).disk.image (state_in first).home)
  last-is = ap (λ (h : HomeFields). held_in (state_in last).table (store_of (state_in last).disk.image h)) home

  pub sound-first : IsTrue old.honest → is_sound first ≡ true
  sound-first is = both (state_in first).disk.honest (is_spent first) (mounts.looked.honest ∙ is) mounts.fresh

-- what stands on the image of one that was mounted and then written in order
pub stands-accepted : {D : Type 0} {met : Ghosts D} (old : Disk) (first last : Volume D met) → Mounts old first → IsImage old.image
    → (IsTrue old.honest → IsAccepted old.image)
    → (IsTrue old.honest → (state_in last).disk.failures ≡ old.failures → is_spent last ≡ false) → RequestsSpareLost first last
    → StandsAccepted old (state_in last).disk
stands-accepted old first last mounts image accepted alive lost =
    order-accepted (is_spent first) (is_spent last) old (state_in last).disk image accepted alive
    (lost-then (is_spent first) (is_spent first) (is_spent last) old (state_in first).disk (state_in last).disk
    (lost-looked (is_spent first) (is_spent first) old (state_in first).disk _ _ (λ is. is) mounts.looked) lost)

-- where no transfer failed, none of what a copy asked has failed the volume
fatal-fault : (r : Result ℕ FlxRefusal) → r ≢ Err (Files Damaged) → of_files is_fatal r ≡ true → of_files is_fault r ≡ true
fatal-fault (Ok n) undamaged fatal = fatal
fatal-fault (Err (Files e)) undamaged fatal = fault-of e fatal (λ is. undamaged (ap (λ (x : Refusal). Err (Files x)) is))
fatal-fault (Err (Rt e)) undamaged fatal = fatal
fatal-fault (Err BadRecord) undamaged fatal = fatal
fatal-fault (Err LineTooLong) undamaged fatal = fatal
fatal-fault (Err Unread) undamaged fatal = fatal

pub still-alive : {D : Type 0} {met : Ghosts D} (result : Result ℕ FlxRefusal) (old : Disk) (first last : Volume D met) → Mounts old first
    → FaresFiles result first last
    → (is_spent first ≡ false → IsTrue (state_in first).disk.honest → result ≢ Err (Files Damaged))
    → IsTrue old.honest → (state_in last).disk.failures ≡ old.failures → is_spent last ≡ false
still-alive result old first last mounts fares undamaged honest same = by_spent (is_spent last) refl
  where
    by_spent : (b : Bool) → is_spent last ≡ b → is_spent last ≡ false
    by_spent false is = is
    by_spent true is =
        let sure : IsTrue (state_in first).disk.honest = mounts.looked.honest ∙ honest in
        let fatal : of_files is_fatal result ≡ true =
        sym (fares.next sure ∙ ap (λ (b : Bool). b || of_files is_fatal result) mounts.fresh) ∙ is in
        let fault = fatal-fault result (undamaged mounts.fresh sure) fatal in
        let more = fares.failures ∙ ap (λ (b : Bool). (state_in first).disk.failures + (if b then 1 else 0)) fault in
        let none = mounts.looked.failures in absurd (omega (arith, more, none, same))

-- a volume that was mounted, between which and an RT-11 volume a copy was asked for
module _ {D E : Type 0} {met : Ghosts D} {met' : Ghosts E} (rt-disk : E → Disk) (c : Copying) (result : Result ℕ FlxRefusal) (old : Disk)
    (first last : Volume D met) (rt rt' : RtAccepted E met') (mounts : Mounts old first) (image : IsImage old.image)
    (files-accepted : IsTrue old.honest → IsAccepted old.image)
    (accepted : IsTrue (rt-disk (volume_device rt)).honest → IsRtAccepted (rt-disk (volume_device rt)).image)
    (unfailed : has_failed rt ≡ false)
    (answers : FaresAsAnswered rt-disk c.direction c.rt_name result (OutcomeIs c result) (StopsCopy c.direction c.directory c.name) first
    last rt rt')
  where
    abbrev d : Disk
    d = rt-disk (volume_device rt)

    abbrev d' : Disk
    d' = rt-disk (volume_device rt')

    abbrev Stopped : Store → Store → Type 0
    Stopped = StopsCopy c.direction c.directory c.name

    sound-rt : IsTrue d.honest → IsSoundDisk d
    sound-rt honest = record { honest = honest; accepted = accepted honest }

    pub copies-images : CopiesImages c result old (state_in last).disk d d'
    copies-images = record {
      home = (state_in first).home;
      held = (state_in last).table;
      home_is = mounts.home;
      outcome = λ is rt-is whole.
          subst (λ (s : Store). OutcomeIs c result s
          (held_in (state_in last).table (store_of (state_in last).disk.image (state_in first).home)) d d')
          (first-is old first last mounts answers.home)
          (subst (λ (s : Store). OutcomeIs c result (store_of_volume first) s d d') (last-is old first last mounts answers.home)
          (answers.outcome (sound-first old first last mounts answers.home is) (sound-rt rt-is) whole));
      undamaged = λ is. answers.undamaged mounts.fresh (mounts.looked.honest ∙ is);
      fares = record {
        failures = let none = mounts.looked.failures in let some = answers.fares.failures in omega (arith, none, some);
        quiet = answers.fares.quiet;
        rt_failures = answers.fares_rt.failures;
        rt_quiet = answers.fares_rt.quiet;
        alive = answers.alive mounts.fresh;
        rt_alive = answers.rt_alive unfailed;
      };
      source = answers.source;
      broken = λ is fault.
          subst (λ (s : Store). StandsAsIs s (held_in (state_in last).table (store_of (state_in last).disk.image (state_in first).home)))
          (first-is old first last mounts answers.home)
          (subst (λ (s : Store). StandsAsIs (store_of_volume first) s) (last-is old first last mounts answers.home)
          (answers.broken (sound-first old first last mounts answers.home is) fault));
      stopped = λ is fault.
          subst (λ (s : Store). WhereUnheld Stopped s (store_of (state_in last).disk.image (state_in first).home))
          (first-is old first last mounts answers.home)
          (subst (λ (h : HomeFields). WhereUnheld Stopped (store_of_volume first) (store_of (state_in last).disk.image h)) answers.home
          (answers.stopped (sound-first old first last mounts answers.home is) fault)) (λ task lun. refl);
      accepted = λ is. answers.fares.accepted (answers.fares.honest ∙ mounts.looked.honest ∙ is);
      meanwhile = stands-accepted old first last mounts image files-accepted
          (still-alive result old first last mounts answers.fares answers.undamaged) answers.fares.lost;
      rt_broken = λ is. answers.rt_broken (sound-rt is);
      rt_front = λ is. answers.fares_rt.front (sound-rt is);
      rt_accepted = λ is none. (answers.sound_rt (sound-rt is) none).accepted;
    }

    pub ends-between : {W : Type 0} (told : Result FileAnswer Failure) (contents : W → Option (List ℕ)) (before after : W)
        (new rt-new : Disk)
        (files-done rt-done : Disk) → files-done ≡ (state_in last).disk → rt-done ≡ d'
        → TellsKeptCopy c.direction result told files-done new rt-done rt-new contents before after
        → EndsBetween c told old new d rt-new contents before after
    ends-between told contents before after new rt-new files-done rt-done at rt-at tells = inl (record {
      result = result;
      files_done = (state_in last).disk;
      rt_done = d';
      copies = copies-images;
      tells =
          subst (λ (x : Disk). TellsKeptCopy c.direction result told (state_in last).disk new x rt-new contents before after) rt-at
          (subst (λ (x : Disk). TellsKeptCopy c.direction result told x new rt-done rt-new contents before after) at tells);
    })
