-- A copy by names: what its steps tell, one after another.
use Rattle.std.proofs.Common.{◌≡◌, ◌≢◌, inl, inr, ℕ, ◌+◌, ◌||◌, not, Bool, true, false, IsTrue, if◌then◌else◌, List, Result, Ok, Err, IfOk}
use Rattle.std.proofs.Common.{None}
use Rattle.std.proofs.Common.{IfErr, refl, sym, ap, subst, ◌∙◌, arith}
use Rattle.f11_dev.specs.Disk.{Disk}
use Rattle.f11_dev.specs.declared.device.Device.{Ghosts}
use Rattle.f11_serving.specs.fcp.Lists.{failures_of, is_sound, store_of_volume}
use Rattle.f11_serving.specs.fcp.Serving.{is_spent, state_in}
use Rattle.f11_serving.specs.fcp.declared.volume.Volume.{Volume}
use Rattle.f11_serving.specs.files.Answers.{is_fatal, is_fault}
use Rattle.f11_flx.proofs.RtFiles.FrontLemmas.{front-same}
use Rattle.f11_flx.proofs.FromRt.KeptLemmas.{denied-live, rt-apart, same-refusal}
use Rattle.f11_making.specs.Fares.{Fares}
use Rattle.f11_making.proofs.VolumeLemmas.{denied-fared, granted-fared, volume-seen}
use Rattle.f11_flx.proofs.Made.TriedLemmas.{asked-for-one}
use Rattle.f11_making.specs.Asking.{Asking, Denies, Fails, Grants, Tried, Who, asks, plain, told, who_asks}
use Rattle.f11_flx.specs.Copying.{FaresFiles, FaresRt, MayMakeFile, MakesRtFile, ReadsFiles, ReadsRt, WhereSound, is_whole}
use Rattle.f11_making.specs.Volume.{of_volume}
use Rattle.f11_flx.specs.Copying.{of_files, of_rt}
use Rattle.f11_flx.specs.CopyFromRt.{CopiesFromRt, FailsToCopyFromRt}
use Rattle.f11_flx.specs.CopyToRt.{CopiesToRt, FailsToCopyToRt, RefusesCopyToRt}
use Rattle.f11_flx.specs.Ended.{Ends}
use Rattle.f11_flx.specs.EndedToRt.{EndsToRt}
use Rattle.f11_flx.specs.Refusal.{is_lethal}
use Rattle.f11_flx.specs.declared.refusal.FlxRefusal.{FlxRefusal}
use Rattle.f11_flx.specs.declared.refusal.FlxRefusal.TheVariants.{BadRecord, Files, LineTooLong, Rt, Unread}
use Rattle.f11_flx.specs.RtOutcome.{HasSameFiles}
use Rattle.f11_store.specs.Store.{Store}
use Rattle.f11_store.specs.declared.files.FileId.{FileId}
use Rattle.f11_store.specs.declared.refusals.Refusal.{Refusal}
use Rattle.f11_store.specs.declared.refusals.Refusal.TheVariants.{Damaged, VolumeFailed}
use Rattle.f11_store.specs.declared.requests.Reply.{Reply}
use Rattle.f11_store.specs.declared.requests.Reply.TheVariants as reply
use Rattle.f11_store.specs.declared.requests.Request.TheVariants as request
use Rattle.f11_serving.proofs.writes.LostLemmas.{lost-then}
use Rattle.rt11_volume.specs.Calls.{has_failed, volume_device}
use Rattle.rt11_volume.specs.Files.{is_fault as is_rt_fault}
use Rattle.rt11_volume.specs.Named.{files_named}
use Rattle.rt11_volume.specs.Store.{RtStore, rt_store_of}
use Rattle.rt11_volume.specs.Verifying.Verdict.{IsRtAccepted, IsSoundDisk}
use Rattle.rt11_volume.specs.declared.refusal.RtRefusal.TheVariants.{Failed}
use Rattle.rt11_volume.specs.declared.volume.RtAccepted.{RtAccepted}
use Rattle.f11_making.proofs.AskedLemmas.{denied-undamaged, never, tried-breaks, tried-home}
use Rattle.f11_commands.proofs.BrokenLemmas.{begun-left, held-stands, stands-behind, unread-stands}
use Rattle.f11_commands.specs.Copying.{CopiesWithin, KeepsRt, LeavesBegun, OutcomeIs, ReadsSource, StandsAsIs, directory_name, is_undoing}
use Rattle.f11_commands.specs.Copying.{master_directory, operator}
use Rattle.f11_commands.proofs.StoppingLemmas.{find-leaves, find-stopped, reads-by, stops-by, stored}
use Rattle.f11_commands.specs.Finding.{FaresAlone, FaresAsAnswered, WithinDirectory, is_found}
use Rattle.f11_commands.specs.Stopping.{IsStopped, IsUnheld, KeepsFiles, StopsCopy, StopsWithin, WhereUnheld, making, seeking}
use Rattle.f11_commands.specs.declared.copy.Copying.{Copying}
use Rattle.f11_commands.specs.declared.copy.Direction.{Direction}
use Rattle.f11_commands.specs.declared.copy.Direction.TheVariants.{ToRt, FromRt}

-- files that stay behind a look for a name, which changes nothing, stay from before it
behind-find : (s u t : Store) → u ≡ s → WhereUnheld KeepsFiles u t → WhereUnheld KeepsFiles s t
behind-find s u t same keeps = subst (λ (x : Store). WhereUnheld KeepsFiles x t) same keeps

or-false : (b : Bool) → (b || false) ≡ b
or-false true = refl
or-false false = refl

or-true : (b : Bool) → (b || true) ≡ true
or-true true = refl
or-true false = refl

plus-none : (n : ℕ) → n ≡ n + 0
plus-none n = omega arith

-- what a volume's answer to a find is on an honest disk
module _ {D : Type 0} {met : Ghosts D} (dir : FileId) (name : List ℕ) (answer : Reply) (v w : Volume D met)
    (grants : Grants of_volume operator (told (request.Find dir name) answer) v w) (honest : IsTrue (state_in v).disk.honest) where
  pub found-reply : is_found answer ≡ true
  found-reply = by_spent (is_spent v) refl
    where
      by_spent : (b : Bool) → is_spent v ≡ b → is_found answer ≡ true
      by_spent true is = let no = grants.2.serving.refused is in absurd (cc)
      by_spent false is = ap is_found ((grants.2.serving.handled is).step honest refl).reply_is

-- an RT-11 volume of which nothing was asked
untouched : {E : Type 0} {met : Ghosts E} (disk : E → Disk) (e : Refusal) (rt : RtAccepted E met)
    → FaresRt {T = ℕ} disk (Err (Files e)) rt rt
untouched disk e rt = record {
  failures = plus-none (disk (volume_device rt)).failures;
  quiet = λ fault. absurd (cc);
  honest = refl;
  next = sym (or-false (has_failed rt));
  front = λ s. front-same (disk (volume_device rt)) (disk (volume_device rt)) refl refl;
}

-- it has the files that it had
same-files : (name : List ℕ) (t : RtStore) → HasSameFiles name t t
same-files name t = record { named = refl; others = λ other apart. refl }

unread : (direction : Direction) (d : Disk) → ReadsSource direction d d
unread ToRt d = tt
unread FromRt d = record { image = refl; history = refl }

module _ {D : Type 0} {met : Ghosts D} where
  fares-behind : (result : Result ℕ FlxRefusal) (v u w : Volume D met) → Fares false false v u → FaresFiles result u w
      → FaresFiles result v w
  fares-behind result v u w f g =
      let alive : is_spent u ≡ is_spent v = f.next ∙ or-false (is_spent v) in
      let first = f.failures in
      let more = g.failures in
      record {
        failures = omega (arith, first, more);
        quiet = g.quiet;
        honest = g.honest ∙ f.honest;
        next = λ honest. g.next (f.honest ∙ honest) ∙ ap (λ b. b || of_files is_fatal result) alive;
        spent = λ dead. ap (λ b. b || of_files is_fatal result) (sym alive) ∙ g.spent dead;
        accepted = g.accepted;
        lost = lost-then _ _ _ _ _ _ f.lost g.lost;
      }

  -- a volume that a copy was asked of, as it tells itself
  pub undamaged-asked : (who : Who) (result : Result ℕ FlxRefusal) (v w : Volume D met) → FaresFiles result v w
      → (asked : List Asking) → Tried of_volume who asked v w → is_spent v ≡ false → IsTrue (state_in v).disk.honest
      → result ≢ Err (Files Damaged)
  undamaged-asked who result v w fares asked tried alive honest is =
      let dead = fares.next honest ∙ ap (λ r. is_spent v || of_files is_fatal r) is ∙ or-true (is_spent v) in
      let more = tried-breaks who asked v w tried honest alive dead in
      let same = fares.failures ∙ ap (λ r. failures_of v + (if of_files is_fault r then 1 else 0)) is in
      absurd (omega (arith, more, same))

  -- behind something that failed nothing
  pub alone-onward : (result : Result ℕ FlxRefusal) (v u w : Volume D met) → Fares false false v u → FaresAlone result u w
      → FaresAlone result v w
  alone-onward result v u w fared a = record {
    fares = fares-behind result v u w fared a.fares;
    alive = λ alive. a.alive (fared.next ∙ ap (λ b. b || false) alive);
    home = a.home ∙ fared.home;
    undamaged = λ alive honest. a.undamaged (fared.next ∙ ap (λ b. b || false) alive) (fared.honest ∙ honest);
  }

  -- behind something that was granted
  pub alone-behind : (result : Result ℕ FlxRefusal) (x : Asking) (v u w : Volume D met) → Grants of_volume operator x v u
      → FaresAlone result u w → FaresAlone result v w
  alone-behind result x v u w grants a =
      alone-onward result v u w (granted-fared operator x v u grants) a

  -- something that was refused
  pub alone-denied : (x : Asking) (e : Refusal) (v w : Volume D met) → Denies of_volume operator x e v w → FaresAlone (Err (Files e)) v w
  alone-denied x e v w denies =
      let fared = denied-fared operator x e v w denies in
      record {
        fares = record {
          failures = fared.failures;
          quiet = fared.quiet;
          honest = fared.honest;
          next = λ honest. fared.next;
          spent = λ dead. sym fared.next ∙ dead;
          accepted = fared.accepted;
          lost = fared.lost;
        };
        alive = λ alive is. (denied-live operator x e v w alive denies).other (same-refusal (Files e) (Files VolumeFailed) is);
        home = fared.home;
        undamaged = λ alive honest is. denied-undamaged operator x e v w alive honest denies (let same = is in cc);
      }

  -- a find that is refused
  pub alone-not-found : (dir : FileId) (name : List ℕ) (e : Refusal) (v w : Volume D met)
      → Fails of_volume operator is_found (request.Find dir name) e v w → FaresAlone (Err (Files e)) v w
  alone-not-found dir name e v w (inl denies) = alone-denied (asks (request.Find dir name)) e v w denies
  alone-not-found dir name e v w (inr wrong) =
      let fared = granted-fared operator (told (request.Find dir name) wrong.0) v w wrong.3 in
      let dishonest : IsTrue (state_in v).disk.honest → ⊥ = λ honest. never (found-reply dir name wrong.0 v w wrong.3 honest) wrong.1 in
      record {
        fares = subst (λ x. FaresFiles {T = ℕ} (Err (Files x)) v w) (sym wrong.2) (record {
          failures = fared.failures;
          quiet = λ fault. absurd (cc);
          honest = fared.honest;
          next = λ honest. absurd (dishonest honest);
          spent = λ dead. or-true (is_spent v);
          accepted = fared.accepted;
          lost = fared.lost;
        });
        alive = λ alive is. damaged-apart e wrong.2 (same-refusal (Files e) (Files VolumeFailed) is);
        home = fared.home;
        undamaged = λ alive honest is. dishonest honest;
      }
    where
      damaged-apart : (e : Refusal) → e ≡ Damaged → Files e ≡ Files VolumeFailed → ⊥
      damaged-apart e is same = cc

  -- over a sound volume the store refused it
  pub not-found-seen : (dir : FileId) (name : List ℕ) (e : Refusal) (v w : Volume D met) → is_sound v ≡ true
      → is_whole {T = ℕ} (Err (Files e)) ≡ true → Fails of_volume operator is_found (request.Find dir name) e v w
      → Denies plain operator (asks (request.Find dir name)) e (store_of_volume v) (store_of_volume w)
  not-found-seen dir name e v w sound whole (inl denies) =
      (volume-seen.denied operator (asks (request.Find dir name)) e v w denies sound (not-true whole)).0
    where
      not-true : {b : Bool} → not b ≡ true → b ≡ false
      not-true {b = true} h = absurd (cc)
      not-true {b = false} h = refl
  not-found-seen dir name e v w sound whole (inr wrong) =
      absurd (let lethal = subst (λ x. is_whole {T = ℕ} (Err (Files x)) ≡ true) wrong.2 whole in cc)

module _ {D E : Type 0} {met : Ghosts D} {met' : Ghosts E} (disk : E → Disk) where
  -- a copy behind something that was granted
  pub answers-behind : (direction : Direction) (rt-name : List ℕ) (result : Result ℕ FlxRefusal)
      (Holds Holds' : Store → Store → Disk → Disk → Type 0) (Stops Stops' : Store → Store → Type 0) (x : Asking) (v u w : Volume D met)
      (rt rt' : RtAccepted E met')
      → is_undoing x ≡ false → Grants of_volume operator x v u → FaresAsAnswered disk direction rt-name result Holds Stops u w rt rt'
      → (Grants plain operator x (store_of_volume v) (store_of_volume u) → Holds (store_of_volume u) (store_of_volume w)
      (disk (volume_device rt)) (disk (volume_device rt'))
      → Holds' (store_of_volume v) (store_of_volume w) (disk (volume_device rt)) (disk (volume_device rt')))
      → (Grants plain operator x (store_of_volume v) (store_of_volume u) → WhereUnheld Stops (store_of_volume u) (stored w)
      → WhereUnheld Stops' (store_of_volume v) (stored w))
      → FaresAsAnswered disk direction rt-name result Holds' Stops' v w rt rt'
  answers-behind direction rt-name result Holds Holds' Stops Stops' x v u w rt rt' none grants a step stop =
      let alone = alone-behind result x v u w grants
      (record { fares = a.fares; alive = a.alive; home = a.home; undamaged = a.undamaged }) in
      record {
        fares = alone.fares;
        fares_rt = a.fares_rt;
        source = a.source;
        alive = alone.alive;
        rt_alive = a.rt_alive;
        home = alone.home;
        undamaged = alone.undamaged;
        sound_rt = a.sound_rt;
        rt_broken = a.rt_broken;
        outcome = λ sound rt-sound whole.
            let seen = volume-seen.granted operator x v u grants sound in
            step seen.0 (a.outcome seen.1 rt-sound whole);
        broken = λ sound fault.
            let seen = volume-seen.granted operator x v u grants sound in
            stands-behind x (store_of_volume v) (store_of_volume u) (store_of_volume w) none seen.0 (a.broken seen.1 fault);
        stopped = λ sound fault.
            let seen = volume-seen.granted operator x v u grants sound in
            stop seen.0 (a.stopped seen.1 fault);
      }

  -- a find that is refused
  pub answers-not-found : (direction : Direction) (rt-name : List ℕ) (Holds : Store → Store → Disk → Disk → Type 0)
      (Stops : Store → Store → Type 0) (dir : FileId) (name : List ℕ) (e : Refusal) (v w : Volume D met) (rt : RtAccepted E met')
      → Fails of_volume operator is_found (request.Find dir name) e v w
      → (Denies plain operator (asks (request.Find dir name)) e (store_of_volume v) (store_of_volume w)
      → Holds (store_of_volume v) (store_of_volume w) (disk (volume_device rt)) (disk (volume_device rt)))
      → (IsStopped (asks (request.Find dir name)) (store_of_volume v) (stored w) → WhereUnheld Stops (store_of_volume v) (stored w))
      → FaresAsAnswered disk direction rt-name (Err (Files e)) Holds Stops v w rt rt
  answers-not-found direction rt-name Holds Stops dir name e v w rt fails step stop =
      let alone = alone-not-found dir name e v w fails in
      record {
        fares = alone.fares;
        fares_rt = untouched disk e rt;
        source = unread direction (disk (volume_device rt));
        alive = alone.alive;
        rt_alive = λ alive is. rt-apart e Failed (same-refusal (Files e) (Rt Failed) is);
        home = alone.home;
        undamaged = alone.undamaged;
        sound_rt = λ sound none. sound;
        rt_broken = λ sound fatal. inl (same-files rt-name (rt_store_of (disk (volume_device rt)).image));
        outcome = λ sound rt-sound whole. step (not-found-seen dir name e v w sound whole fails);
        broken = λ sound fault. absurd (cc);
        stopped = λ sound fault. stop (find-stopped dir name e v w sound fault fails);
      }

  module _ (c : Copying) (v w : Volume D met) (rt rt' : RtAccepted E met') where
    abbrev d : Disk
    d = disk (volume_device rt)

    abbrev d' : Disk
    d' = disk (volume_device rt')

    abbrev s : Store
    s = store_of_volume v

    abbrev s' : Store
    s' = store_of_volume w

    -- a copy to the RT-11 volume
    abbrev pub OfSource : FileId → Result ℕ FlxRefusal → Store → Store → Disk → Disk → Type 0
    OfSource source (Ok blocks) t t' e e' =
        CopiesToRt c.mode operator 0 source c.rt_name 0 blocks t t' (rt_store_of e.image) (rt_store_of e'.image)
    OfSource source (Err refusal) t t' e e' =
        FailsToCopyToRt refusal c.mode operator 0 source c.rt_name t t' e × (rt_store_of e'.image ≡ rt_store_of e.image)

    pub answers-to-rt : (source : FileId) (result : Result ℕ FlxRefusal) → ReadsFiles result operator v w
        → MakesRtFile disk result c.rt_name rt rt'
        → IfOk result (λ blocks.
        WhereSound disk v rt (CopiesToRt c.mode operator 0 source c.rt_name 0 blocks s s' (rt_store_of d.image) (rt_store_of d'.image)))
        → IfErr result (λ e. is_whole result ≡ true → WhereSound disk v rt (RefusesCopyToRt e c.mode operator 0 source c.rt_name s s' d d'))
        → IfErr result (λ e. is_lethal e ≡ true → EndsToRt c.mode of_volume disk operator 0 source c.rt_name 0 e v w rt rt')
        → FaresAsAnswered disk ToRt c.rt_name result (OfSource source result) KeepsFiles v w rt rt'
    answers-to-rt source result files target copied refused ended = record {
      fares = files.fares;
      fares_rt = target.fares;
      source = tt;
      alive = λ alive is. never (files.keeps.only is) alive;
      rt_alive = λ alive is. never (target.keeps.only is) alive;
      home = tried-home operator files.asked.asked v w files.asked.tried;
      undamaged = undamaged-asked operator result v w files.fares files.asked.asked files.asked.tried;
      sound_rt = λ rt-sound none. sounds rt-sound result target ended none;
      rt_broken = λ rt-sound. begun rt-sound result ended;
      outcome = by_result result target copied refused;
      broken = λ sound. held sound result ended;
      stopped = λ sound fault. reads-by result v w files sound fault;
    }
      where
        sounds : IsSoundDisk d → (r : Result ℕ FlxRefusal) → MakesRtFile disk r c.rt_name rt rt'
            → IfErr r (λ e. is_lethal e ≡ true → EndsToRt c.mode of_volume disk operator 0 source c.rt_name 0 e v w rt rt')
            → of_rt is_rt_fault r ≡ false → IsSoundDisk d'
        sounds rt-sound (Ok blocks) made h none = made.sound rt-sound refl
        sounds rt-sound (Err (Files e)) made h none = by (is_lethal (Files e)) refl
          where
            by : (b : Bool) → is_lethal (Files e) ≡ b → IsSoundDisk d'
            by true lethal = (begun-left of_volume disk operator 0 source c.rt_name 0 c.mode e v w rt rt' (h lethal) rt-sound).0
            by false clean = made.sound rt-sound (ap not clean)
        sounds rt-sound (Err (Rt e)) made h none = made.sound rt-sound (ap not none)
        sounds rt-sound (Err BadRecord) made h none = made.sound rt-sound refl
        sounds rt-sound (Err LineTooLong) made h none = made.sound rt-sound refl
        sounds rt-sound (Err Unread) made h none = made.sound rt-sound refl

        begun : IsSoundDisk d → (r : Result ℕ FlxRefusal)
            → IfErr r (λ e. is_lethal e ≡ true → EndsToRt c.mode of_volume disk operator 0 source c.rt_name 0 e v w rt rt')
            → of_files is_fatal r ≡ true → LeavesBegun c.rt_name (rt_store_of d.image) (rt_store_of d'.image)
        begun rt-sound (Err (Files e)) h fatal =
            (begun-left of_volume disk operator 0 source c.rt_name 0 c.mode e v w rt rt' (h fatal) rt-sound).1
        begun rt-sound (Err (Rt e)) h fatal = absurd (cc)
        begun rt-sound (Err BadRecord) h fatal = absurd (cc)
        begun rt-sound (Err LineTooLong) h fatal = absurd (cc)
        begun rt-sound (Err Unread) h fatal = absurd (cc)
        begun rt-sound (Ok blocks) h fatal = absurd (cc)

        held : is_sound v ≡ true → (r : Result ℕ FlxRefusal)
            → IfErr r (λ e. is_lethal e ≡ true → EndsToRt c.mode of_volume disk operator 0 source c.rt_name 0 e v w rt rt')
            → of_rt is_rt_fault r ≡ true → StandsAsIs s s'
        held sound (Err (Rt e)) h fault = held-stands v w sound (h fault)
        held sound (Err (Files e)) h fault = absurd (cc)
        held sound (Err BadRecord) h fault = absurd (cc)
        held sound (Err LineTooLong) h fault = absurd (cc)
        held sound (Err Unread) h fault = absurd (cc)
        held sound (Ok blocks) h fault = absurd (cc)

        by_result : (r : Result ℕ FlxRefusal) → MakesRtFile disk r c.rt_name rt rt'
            → IfOk r (λ blocks. WhereSound disk v rt
            (CopiesToRt c.mode operator 0 source c.rt_name 0 blocks s s' (rt_store_of d.image) (rt_store_of d'.image)))
            → IfErr r (λ e. is_whole r ≡ true → WhereSound disk v rt (RefusesCopyToRt e c.mode operator 0 source c.rt_name s s' d d'))
            → is_sound v ≡ true → IsSoundDisk d → is_whole r ≡ true → OfSource source r s s' d d'
        by_result (Ok blocks) made copies not-copied sound rt-sound whole = copies sound rt-sound
        by_result (Err e) made copies not-copied sound rt-sound whole =
            let is = not-copied whole sound rt-sound in (is.why, ap (λ i. rt_store_of i) is.unwritten)

    -- a copy from it
    pub answers-from-rt : (dir : FileId) (result : Result ℕ FlxRefusal) → ReadsRt disk result rt rt'
        → MayMakeFile result operator 0 dir c.name 0 v w
        → IfOk result (λ blocks.
        WhereSound disk v rt (CopiesFromRt c.mode c.rt_name operator 0 dir c.name 0 blocks (rt_store_of d.image) s s'))
        → IfErr result (λ e. is_whole result ≡ true
        → WhereSound disk v rt (FailsToCopyFromRt e c.mode c.rt_name operator 0 dir c.name 0 d s s'))
        → IfErr result (λ e. is_lethal e ≡ true → Ends of_volume operator e v w)
        → FaresAsAnswered disk FromRt c.rt_name result (WithinDirectory FromRt c dir result) (StopsWithin FromRt dir c.name) v w rt rt'
    answers-from-rt dir result source files copied refused ended = record {
      fares = files.fares;
      fares_rt = source.fares;
      source = record { image = source.image; history = source.history };
      alive = λ alive is. never (files.keeps.only is) alive;
      rt_alive = λ alive is. never (source.keeps.only is) alive;
      home = tried-home operator asked.0 v w asked.1;
      undamaged = undamaged-asked operator result v w files.fares asked.0 asked.1;
      rt_broken = λ sound fatal.
          inl (record {
            named = ap (λ i. files_named c.rt_name (rt_store_of i)) source.image;
            others = λ other apart.
                ap (λ i. files_named other (rt_store_of i)) source.image;
          });
      sound_rt = λ sound none.
          record { honest = source.fares.honest ∙ sound.honest; accepted = subst (λ i. IsRtAccepted i) (sym source.image) sound.accepted };
      outcome = λ sound rt-sound whole. (by_result result files copied refused sound rt-sound whole, same result);
      broken = λ sound. unread sound result ended;
      stopped = λ sound fault. stops-by dir c.name None result v w files.fares files.asked sound fault;
    }
      where
        asked : (xs : List Asking) × Tried of_volume operator xs v w
        asked = asked-for-one of_volume operator 0 dir c.name 0 None v w files.asked

        unread : is_sound v ≡ true → (r : Result ℕ FlxRefusal) → IfErr r (λ e. is_lethal e ≡ true → Ends of_volume operator e v w)
            → of_rt is_rt_fault r ≡ true → StandsAsIs s s'
        unread sound (Err (Rt e)) h fault = unread-stands v w sound (h fault)
        unread sound (Err (Files e)) h fault = absurd (cc)
        unread sound (Err BadRecord) h fault = absurd (cc)
        unread sound (Err LineTooLong) h fault = absurd (cc)
        unread sound (Err Unread) h fault = absurd (cc)
        unread sound (Ok blocks) h fault = absurd (cc)

        same : (r : Result ℕ FlxRefusal) → KeepsRt FromRt r (rt_store_of d.image) (rt_store_of d'.image)
        same r = ap (λ i. rt_store_of i) source.image

        by_result : (r : Result ℕ FlxRefusal) → MayMakeFile r operator 0 dir c.name 0 v w
            → IfOk r (λ blocks. WhereSound disk v rt
            (CopiesFromRt c.mode c.rt_name operator 0 dir c.name 0 blocks (rt_store_of d.image) s s'))
            → IfErr r (λ e. is_whole r ≡ true → WhereSound disk v rt (FailsToCopyFromRt e c.mode c.rt_name operator 0 dir c.name 0 d s s'))
            → is_sound v ≡ true → IsSoundDisk d → is_whole r ≡ true → CopiesWithin FromRt c dir r s s' d d'
        by_result (Ok blocks) made copies not-copied sound rt-sound whole = copies sound rt-sound
        by_result (Err e) made copies not-copied sound rt-sound whole =
            record { refused = not-copied whole sound rt-sound; undone = made.undone e refl sound whole }

keeps-rt : (direction : Direction) (e : FlxRefusal) (t : RtStore) → KeepsRt direction (Err e) t t
keeps-rt ToRt e t = refl
keeps-rt FromRt e t = refl

module _ {D E : Type 0} {met : Ghosts D} {met' : Ghosts E} (disk : E → Disk) (c : Copying) where
  -- a copy to the RT-11 volume, asked for by a task and a lun of these numbers
  pub copied-to-rt : (task lun : ℕ) → task ≡ 0 → lun ≡ 0
      → (source : FileId) (result : Result ℕ FlxRefusal) (v w : Volume D met) (rt rt' : RtAccepted E met')
      → ReadsFiles result (who_asks task operator.caller) v w → MakesRtFile disk result c.rt_name rt rt'
      → IfOk result (λ blocks.
      WhereSound disk v rt
      (CopiesToRt c.mode (who_asks task operator.caller) lun source c.rt_name 0 blocks (store_of_volume v) (store_of_volume w)
      (rt_store_of (disk (volume_device rt)).image) (rt_store_of (disk (volume_device rt')).image)))
      → IfErr result (λ e. is_whole result ≡ true → WhereSound disk v rt
      (RefusesCopyToRt e c.mode (who_asks task operator.caller) lun source c.rt_name (store_of_volume v) (store_of_volume w)
      (disk (volume_device rt)) (disk (volume_device rt'))))
      → IfErr result (λ e. is_lethal e ≡ true → EndsToRt c.mode of_volume disk (who_asks task operator.caller) lun source c.rt_name 0 e v w
      rt rt')
      → FaresAsAnswered disk ToRt c.rt_name result (OfSource disk c v w rt rt' source result) KeepsFiles v w rt rt'
  copied-to-rt task lun task-is lun-is source result v w rt rt' =
      subst (λ t. By t lun) (sym task-is) (subst (λ l. By 0 l) (sym lun-is) (answers-to-rt disk c v w rt rt' source result))
    where
      By : ℕ → ℕ → Type 0
      By t l =
          ReadsFiles result (who_asks t operator.caller) v w → MakesRtFile disk result c.rt_name rt rt'
          → IfOk result (λ blocks.
          WhereSound disk v rt
          (CopiesToRt c.mode (who_asks t operator.caller) l source c.rt_name 0 blocks (store_of_volume v) (store_of_volume w)
          (rt_store_of (disk (volume_device rt)).image) (rt_store_of (disk (volume_device rt')).image)))
          → IfErr result (λ e. is_whole result ≡ true → WhereSound disk v rt
          (RefusesCopyToRt e c.mode (who_asks t operator.caller) l source c.rt_name (store_of_volume v) (store_of_volume w)
          (disk (volume_device rt)) (disk (volume_device rt'))))
          → IfErr result (λ e. is_lethal e ≡ true → EndsToRt c.mode of_volume disk (who_asks t operator.caller) l source c.rt_name 0 e v w
          rt rt')
          → FaresAsAnswered disk ToRt c.rt_name result (OfSource disk c v w rt rt' source result) KeepsFiles v w rt rt'

  -- and one from it
  pub copied-from-rt : (task lun : ℕ) → task ≡ 0 → lun ≡ 0
      → (dir : FileId) (result : Result ℕ FlxRefusal) (v w : Volume D met) (rt rt' : RtAccepted E met')
      → ReadsRt disk result rt rt' → MayMakeFile result (who_asks task operator.caller) lun dir c.name 0 v w
      → IfOk result (λ blocks. WhereSound disk v rt (CopiesFromRt c.mode c.rt_name (who_asks task operator.caller) lun dir c.name 0 blocks
      (rt_store_of (disk (volume_device rt)).image) (store_of_volume v) (store_of_volume w)))
      → IfErr result (λ e. is_whole result ≡ true → WhereSound disk v rt
      (FailsToCopyFromRt e c.mode c.rt_name (who_asks task operator.caller) lun dir c.name 0 (disk (volume_device rt)) (store_of_volume v)
      (store_of_volume w)))
      → IfErr result (λ e. is_lethal e ≡ true → Ends of_volume (who_asks task operator.caller) e v w)
      → FaresAsAnswered disk FromRt c.rt_name result (WithinDirectory FromRt c dir result) (StopsWithin FromRt dir c.name) v w rt rt'
  copied-from-rt task lun task-is lun-is dir result v w rt rt' =
      subst (λ t. By t lun) (sym task-is) (subst (λ l. By 0 l) (sym lun-is) (answers-from-rt disk c v w rt rt' dir result))
    where
      By : ℕ → ℕ → Type 0
      By t l =
          ReadsRt disk result rt rt' → MayMakeFile result (who_asks t operator.caller) l dir c.name 0 v w
          → IfOk result (λ blocks. WhereSound disk v rt (CopiesFromRt c.mode c.rt_name (who_asks t operator.caller) l dir c.name 0 blocks
          (rt_store_of (disk (volume_device rt)).image) (store_of_volume v) (store_of_volume w)))
          → IfErr result (λ e. is_whole result ≡ true → WhereSound disk v rt
          (FailsToCopyFromRt e c.mode c.rt_name (who_asks t operator.caller) l dir c.name 0 (disk (volume_device rt)) (store_of_volume v)
          (store_of_volume w)))
          → IfErr result (λ e. is_lethal e ≡ true → Ends of_volume (who_asks t operator.caller) e v w)
          → FaresAsAnswered disk FromRt c.rt_name result (WithinDirectory FromRt c dir result) (StopsWithin FromRt dir c.name) v w rt rt'

  -- the file is found, and then it is copied
  pub found-source : (dir source : FileId) (result : Result ℕ FlxRefusal) (v u w : Volume D met) (rt rt' : RtAccepted E met')
      → Grants of_volume operator (told (request.Find dir c.name) (reply.Found source)) v u
      → FaresAsAnswered disk ToRt c.rt_name result (OfSource disk c u w rt rt' source result) KeepsFiles u w rt rt'
      → FaresAsAnswered disk ToRt c.rt_name result (WithinDirectory ToRt c dir result) (StopsWithin ToRt dir c.name) v w rt rt'
  found-source dir source result v u w rt rt' grants answers =
      answers-behind disk ToRt c.rt_name result (OfSource disk c u w rt rt' source result) (WithinDirectory ToRt c dir result)
      KeepsFiles (StopsWithin ToRt dir c.name) (told (request.Find dir c.name) (reply.Found source))
      v u w rt rt' refl grants answers (by_result result)
      (λ granted stops unheld. behind-find (store_of_volume v) (store_of_volume u) (stored w) granted.2.changes stops unheld)
    where
      by_result : (r : Result ℕ FlxRefusal)
          → Grants plain operator (told (request.Find dir c.name) (reply.Found source)) (store_of_volume v) (store_of_volume u)
          → OfSource disk c u w rt rt' source r (store_of_volume u) (store_of_volume w) (disk (volume_device rt)) (disk (volume_device rt'))
          → WithinDirectory ToRt c dir r (store_of_volume v) (store_of_volume w) (disk (volume_device rt)) (disk (volume_device rt'))
      by_result (Ok blocks) granted holds =
          (record { source = source; found = store_of_volume u; finds = (store_of_volume u, granted, refl); copies = holds }, tt)
      by_result (Err e) granted holds = (
        inr (record { source = source; found = store_of_volume u; finds = (store_of_volume u, granted, refl); refused = holds.0 }),
        holds.1,
      )

  pub lacks-source : (dir : FileId) (e : Refusal) (v w : Volume D met) (rt : RtAccepted E met')
      → Fails of_volume operator is_found (request.Find dir c.name) e v w
      → FaresAsAnswered disk ToRt c.rt_name (Err (Files e)) (WithinDirectory ToRt c dir (Err (Files e))) (StopsWithin ToRt dir c.name) v w
      rt rt
  lacks-source dir e v w rt fails =
      answers-not-found disk ToRt c.rt_name (WithinDirectory ToRt c dir (Err (Files e))) (StopsWithin ToRt dir c.name) dir c.name e v w rt
      fails (λ denies. (inl (record { refusal = e; is = refl; not_found = denies }), refl))
      (λ at unheld. find-leaves dir c.name (store_of_volume v) (stored w) at)

  -- the user's directory is found, and then a file is copied from it, or to it
  pub found-directory : (direction : Direction) → c.direction ≡ direction → (name : List ℕ) → name ≡ directory_name c.directory
      → (dir : FileId) (result : Result ℕ FlxRefusal)
      (v u w : Volume D met) (rt rt' : RtAccepted E met')
      → Grants of_volume operator (told (request.Find master_directory name) (reply.Found dir)) v u
      → FaresAsAnswered disk direction c.rt_name result (WithinDirectory direction c dir result) (StopsWithin direction dir c.name) u w rt
      rt'
      → FaresAsAnswered disk c.direction c.rt_name result (OutcomeIs c result) (StopsCopy c.direction c.directory c.name) v w rt rt'
  found-directory direction is name name-is dir result v u w rt rt' grants answers =
      subst (λ x. FaresAsAnswered disk x c.rt_name result (OutcomeIs c result) (StopsCopy x c.directory c.name) v w rt rt') (sym is)
      (answers-behind disk direction c.rt_name result (WithinDirectory direction c dir result) (OutcomeIs c result)
      (StopsWithin direction dir c.name) (StopsCopy direction c.directory c.name)
      (told (request.Find master_directory (directory_name c.directory)) (reply.Found dir))
      v u w rt rt' refl (subst (λ n. Grants of_volume operator (told (request.Find master_directory n) (reply.Found dir)) v u) name-is
      grants) answers
      (λ granted holds. record {
        files = inl (record {
          dir = dir;
          found = store_of_volume u;
          finds = (store_of_volume u, granted, refl);
          within = subst (λ x. CopiesWithin x c dir result (store_of_volume u) (store_of_volume w) (disk (volume_device rt))
              (disk (volume_device rt'))) (sym is) holds.0;
        });
        rt = subst (λ x. KeepsRt x result (rt_store_of (disk (volume_device rt)).image) (rt_store_of (disk (volume_device rt')).image))
            (sym is) holds.1;
      }) (stop direction))
    where
      stop : (x : Direction)
          → Grants plain operator (told (request.Find master_directory (directory_name c.directory)) (reply.Found dir)) (store_of_volume v)
          (store_of_volume u)
          → WhereUnheld (StopsWithin x dir c.name) (store_of_volume u) (stored w)
          → WhereUnheld (StopsCopy x c.directory c.name) (store_of_volume v) (stored w)
      stop ToRt granted stops unheld = behind-find (store_of_volume v) (store_of_volume u) (stored w) granted.2.changes stops unheld
      stop FromRt granted stops unheld =
          making dir (store_of_volume u) (store_of_volume u, granted, refl) (stops (subst IsUnheld (sym granted.2.changes) unheld))

  pub lacks-directory : (name : List ℕ) → name ≡ directory_name c.directory → (e : Refusal) (v w : Volume D met) (rt : RtAccepted E met')
      → Fails of_volume operator is_found (request.Find master_directory name) e v w
      → FaresAsAnswered disk c.direction c.rt_name (Err (Files e)) (OutcomeIs c (Err (Files e))) (StopsCopy c.direction c.directory c.name)
      v w rt rt
  lacks-directory name name-is e v w rt fails =
      answers-not-found disk c.direction c.rt_name (OutcomeIs c (Err (Files e))) (StopsCopy c.direction c.directory c.name)
      master_directory (directory_name c.directory) e v w rt
      (subst (λ n. Fails of_volume operator is_found (request.Find master_directory n) e v w) name-is fails)
      (λ denies. record {
        files = inr (record { refusal = e; is = refl; not_found = denies });
        rt = keeps-rt c.direction (Files e) (rt_store_of (disk (volume_device rt)).image);
      }) (stop c.direction)
    where
      stop : (x : Direction)
          → IsStopped (asks (request.Find master_directory (directory_name c.directory))) (store_of_volume v) (stored w)
          → WhereUnheld (StopsCopy x c.directory c.name) (store_of_volume v) (stored w)
      stop ToRt at unheld = find-leaves master_directory (directory_name c.directory) (store_of_volume v) (stored w) at
      stop FromRt at unheld =
          seeking at (find-leaves master_directory (directory_name c.directory) (store_of_volume v) (stored w) at)
