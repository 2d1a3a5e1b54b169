-- What asking a volume leaves of it, on any device.
use Rattle.std.proofs.Common.{◌≡◌, ◌⊎◌, inl, inr, ℕ, ◌+◌, ◌<◌, ◌||◌, Bool, true, false, IsTrue, if◌then◌else◌, List, [], ◌∷◌, ◌++◌, length}
use Rattle.std.proofs.Common.{suc, All, Result, Ok, Err, IfErr, IfOk, refl, sym, ap, ◌∙◌, subst, arith}
use Rattle.std.proofs.lemmas.Bool.{or_right}
use Rattle.std.proofs.lemmas.List.Elements.{All-append, All-cons, All-nil}
use Rattle.f11_dev.specs.Disk.{Disk}
use Rattle.f11_dev.specs.Looked.{Looked}
use Rattle.f11_dev.specs.declared.device.Device.{Ghosts}
use Rattle.f11_store.specs.Run.{Answer, Call}
use Rattle.f11_store.specs.declared.files.FileId.{FileId}
use Rattle.f11_store.specs.declared.files.Mode.TheVariants as mode
use Rattle.f11_store.specs.declared.refusals.Refusal.{Refusal}
use Rattle.f11_store.specs.declared.refusals.Refusal.TheVariants.{VolumeFailed, Damaged, DeviceFault}
use Rattle.f11_store.specs.declared.requests.Reply.{Reply}
use Rattle.f11_store.specs.declared.requests.Reply.TheVariants as reply
use Rattle.f11_store.specs.declared.requests.Request.TheVariants as request
use Rattle.f11_runs.specs.Each.{answer_with, call_with}
use Rattle.f11_fcp.specs.files.Answers.{is_fatal, is_fault, is_refused}
use Rattle.f11_fcp.specs.Handles.{State, faults_in}
use Rattle.f11_fcp.specs.Lengths.{Measures}
use Rattle.f11_fcp.specs.Lists.{ServesCall, failures_of, is_sound, store_of_volume}
use Rattle.f11_fcp.specs.Serving.{RequestsSpareLost, StaysAccepted, is_spent, state_in}
use Rattle.f11_fcp.specs.declared.volume.Volume.{Volume}
use Rattle.f11_making.specs.Asking.{Asking, BreaksOffAsking, Denies, Granted, Grants, Tried, Who, asks, counts, reads, reads_of, told}
use Rattle.f11_making.specs.Asking.{writes}
use Rattle.f11_making.specs.AsksFor.{is_reading}
use Rattle.f11_making.specs.Volume.{IsAskedLength, of_volume}
use Rattle.f11_flx.specs.Copying.{ReadsFiles, of_files}
use Rattle.rt11_volume.specs.declared.refusal.RtRefusal.{RtRefusal}
use Rattle.f11_flx.specs.Copies.{FailsToCopyText}
use Rattle.f11_flx.specs.Filling.{Refusing, TakingBlocks}
use Rattle.f11_flx.specs.Source.{CopiesAs, FailsAs, TellsNothing, TellsSource, is_attr, up_to_end}
use Rattle.f11_flx.specs.declared.mode.CopyMode.{CopyMode}
use Rattle.f11_flx.specs.declared.mode.CopyMode.TheVariants.{Image, Text}
use Rattle.f11_flx.specs.declared.to_text.ToText.{ToText}
use Rattle.f11_flx.specs.declared.refusal.FlxRefusal.{FlxRefusal}
use Rattle.f11_flx.specs.declared.refusal.FlxRefusal.TheVariants.{BadRecord, Files, LineTooLong, Rt, Unread}
use Rattle.f11_flx.specs.Refusal.{is_lethal}
use Rattle.f11_flx.specs.ToRt.{CopiesFileToRt, CopiesLocked, CountsAs, FailsLocked, FailsToCopyFileToRt, FailsToFillToRt, GaveUp}
use Rattle.f11_flx.specs.ToRt.{UndoesToRt, nowhere_refuses, nowhere_takes, rt_refuses, rt_takes}
use Rattle.f11_fcp.proofs.writes.LostLemmas.{lost-looked, lost-none, lost-then}
use Rattle.rt11_volume.specs.Files.{is_fault as rt_fault}
use Rattle.rt11_volume.specs.declared.volume.RtAccepted.{RtAccepted}
use Rattle.f11_flx.proofs.FromRt.KeptLemmas.{refused}
use Rattle.f11_flx.proofs.ToRt.KeptToRtLemmas.{copied-keeps, uncopied-keeps}
use Rattle.f11_flx.proofs.ToRt.RefusedLemmas.{copied-stays, refused-stays}
use Rattle.f11_flx.proofs.SmallLemmas.{not-true, or-false}
use Rattle.f11_flx.proofs.FromRt.SpentLemmas.{spent-refused, spent-uncopied}
use Rattle.f11_making.proofs.VolumeLemmas.{idle-beside, parts-sound, volume-seen}

-- Things were asked of a volume, and whether the last of them met a device fault, and failed the volume.
pub record Ran {D : Type 0} {met : Ghosts D} (who : Who) (fault fatal : Bool) (old new : Volume D met) : Type 0 where
  pub asked : List Asking
  pub tried : Tried of_volume who asked old new
  pub only : All (λ x. is_reading x ≡ true) asked
  pub failures : failures_of new ≡ failures_of old + (if fault then 1 else 0)
  pub quiet : fault ≡ true → (state_in new).disk.calm ≡ 0
  pub honest : (state_in new).disk.honest ≡ (state_in old).disk.honest
  pub next : IsTrue (state_in old).disk.honest → is_spent new ≡ (is_spent old || fatal)
  pub spent : is_spent new ≡ true → (is_spent old || fatal) ≡ true
  pub accepted : StaysAccepted (state_in old) → StaysAccepted (state_in new)
  pub lost : RequestsSpareLost old new

abbrev as-count : Bool → ℕ
as-count b = if b then 1 else 0

module _ {D : Type 0} {met : Ghosts D} (who : Who) where
  pub ran-none : (v w : Volume D met) → w ≡ v → Ran who false false v w
  ran-none v w same = subst (λ x. Ran who false false v x) (sym same) (record {
    asked = [];
    tried = refl;
    only = All-nil (λ x. is_reading x ≡ true);
    failures = omega arith;
    quiet = λ h. absurd (cc);
    honest = refl;
    next = λ h. sym (or-false (is_spent v));
    spent = λ h. or-false (is_spent v) ∙ h;
    accepted = λ h. h;
    lost = lost-none (is_spent v) (state_in v).disk;
  })

  tried-append : (xs ys : List Asking) (u v w : Volume D met) → Tried of_volume who xs u v → Tried of_volume who ys v w
      → Tried of_volume who (xs ++ ys) u w
  tried-append [] ys u v w h k = subst (λ x. Tried of_volume who ys x w) h k
  tried-append (x ∷ xs) ys u v w h k = (h.0, h.1, tried-append xs ys h.0 v w h.2 k)

  pub ran-then : (b c : Bool) (u v w : Volume D met) → Ran who false false u v → Ran who b c v w → Ran who b c u w
  ran-then b c u v w h k = record {
    asked = h.asked ++ k.asked;
    tried = tried-append h.asked k.asked u v w h.tried k.tried;
    only = All-append (λ x. is_reading x ≡ true) h.asked k.asked h.only k.only;
    failures = k.failures ∙ ap (λ n. n + (if b then 1 else 0)) (omega (arith, h.failures));
    quiet = k.quiet;
    honest = k.honest ∙ h.honest;
    next = λ t. k.next (h.honest ∙ t) ∙ ap (λ (x : Bool). x || c) (h.next t ∙ or-false (is_spent u));
    spent = λ t. by (is_spent v) refl (k.spent t);
    accepted = λ a. k.accepted (h.accepted a);
    lost = lost-then _ _ _ _ _ _ h.lost k.lost;
  }
    where
      by : (s : Bool) → is_spent v ≡ s → (is_spent v || c) ≡ true → (is_spent u || c) ≡ true
      by true is t = ap (λ (x : Bool). x || c) (sym (or-false (is_spent u)) ∙ h.spent is)
      by false is t = one (is_spent u) (ap (λ (x : Bool). x || c) (sym is) ∙ t)
        where
          one : (s : Bool) → c ≡ true → (s || c) ≡ true
          one true q = refl
          one false q = q

  -- a request that was answered
  served : (x : Asking) (v w : Volume D met) (c : Call) (a : Answer) → is_reading x ≡ true
      → (Grants of_volume who x v w) ⊎ ((e : Refusal) × Denies of_volume who x e v w) → ServesCall v c a w →
      Ran who (is_refused is_fault a.result) (is_refused is_fatal a.result) v w
  served x v w c a one h s = record {
    asked = x ∷ [];
    tried = (w, h, refl);
    only = All-cons (λ y. is_reading y ≡ true) x [] one (All-nil (λ y. is_reading y ≡ true));
    failures = failures (is_spent v) refl;
    quiet = quiet (is_spent v) refl;
    honest = honest (is_spent v) refl;
    next = λ t. s.serving.next;
    spent = λ t. sym s.serving.next ∙ t;
    accepted = λ t. s.accepted;
    lost = s.serving.lost;
  }
    where
      no-fault : is_spent v ≡ true → is_refused is_fault a.result ≡ false
      no-fault is = ap (is_refused is_fault) (s.serving.refused is)

      count : (r : Result Reply Refusal) → faults_in r ≡ (if is_refused is_fault r then 1 else 0)
      count (Ok y) = refl
      count (Err e) = refl

      failures : (b : Bool) → is_spent v ≡ b → failures_of w ≡ failures_of v + (if is_refused is_fault a.result then 1 else 0)
      failures true is =
          let same = ap (λ (y : State). y.disk.failures) (s.serving.untouched is).0 in
          let none : as-count (is_refused is_fault a.result) ≡ 0 = ap as-count (no-fault is) in
          omega (arith, same, none)
      failures false is = (s.serving.handled is).writes.went.failures ∙ ap (λ n. failures_of v + n) (count a.result)

      quiet : (b : Bool) → is_spent v ≡ b → is_refused is_fault a.result ≡ true → (state_in w).disk.calm ≡ 0
      quiet true is t = absurd (let never = no-fault is in cc)
      quiet false is t =
          (s.serving.handled is).writes.went.quiet
          (subst (λ n. 0 < n) (sym (count a.result ∙ ap (λ (q : Bool). if q then 1 else 0) t)) (omega arith))

      honest : (b : Bool) → is_spent v ≡ b → (state_in w).disk.honest ≡ (state_in v).disk.honest
      honest true is = ap (λ (y : State). y.disk.honest) (s.serving.untouched is).0
      honest false is = (s.serving.handled is).writes.went.honest

  -- how many blocks a file has
  measured : (lun n : ℕ) (r : Result ℕ Refusal) (v w : Volume D met)
      → (Grants of_volume who (counts lun n) v w) ⊎ ((e : Refusal) × Denies of_volume who (counts lun n) e v w) →
      IsAskedLength who.task lun r v w → Ran who (is_refused is_fault r) (is_refused is_fatal r) v w
  measured lun n r v w h s = record {
    asked = counts lun n ∷ [];
    tried = (w, h, refl);
    only = All-cons (λ y. is_reading y ≡ true) (counts lun n) [] refl (All-nil (λ y. is_reading y ≡ true));
    failures = failures (is_spent v) refl;
    quiet = quiet (is_spent v) refl;
    honest = honest (is_spent v) refl;
    next = λ t. s.0.next;
    spent = λ t. sym s.0.next ∙ t;
    accepted = λ t. s.1;
    lost = lost (is_spent v) refl;
  }
    where
      no-fault : is_spent v ≡ true → is_refused is_fault r ≡ false
      no-fault is = ap (is_refused is_fault) (s.0.refused is)

      looked : (q : Result ℕ Refusal) → Measures who.task lun q (state_in v) (state_in w)
          → (n : ℕ) × Looked (state_in v).disk (state_in w).disk n (if is_refused is_fault q then 1 else 0)
      looked (Ok y) m = (m.outcome.reads.reads, m.outcome.reads.looked)
      looked (Err e) m = (m.outcome.reads.reads, m.outcome.reads.looked)

      failures : (b : Bool) → is_spent v ≡ b → failures_of w ≡ failures_of v + (if is_refused is_fault r then 1 else 0)
      failures true is =
          let same = ap (λ (y : State). y.disk.failures) (s.0.untouched is) in
          let none : as-count (is_refused is_fault r) ≡ 0 = ap as-count (no-fault is) in
          omega (arith, same, none)
      failures false is = (looked r (s.0.measures is)).1.failures

      quiet : (b : Bool) → is_spent v ≡ b → is_refused is_fault r ≡ true → (state_in w).disk.calm ≡ 0
      quiet true is t = absurd (let never = no-fault is in cc)
      quiet false is t =
          (looked r (s.0.measures is)).1.quiet (subst (λ n. 0 < n) (sym (ap (λ (q : Bool). if q then 1 else 0) t)) (omega arith))

      honest : (b : Bool) → is_spent v ≡ b → (state_in w).disk.honest ≡ (state_in v).disk.honest
      honest true is = ap (λ (y : State). y.disk.honest) (s.0.untouched is)
      honest false is = (looked r (s.0.measures is)).1.honest

      lasts : is_spent v ≡ true → is_spent w ≡ true
      lasts is = s.0.next ∙ ap (λ (b : Bool). b || is_refused is_fatal r) is

      lost : (b : Bool) → is_spent v ≡ b → RequestsSpareLost v w
      lost true is = idle-beside v w lasts (s.0.untouched is)
      lost false is = let l = looked r (s.0.measures is) in lost-looked _ _ (state_in v).disk (state_in w).disk l.0 _ lasts l.1

  -- one thing, granted or denied
  pub ran-granted : (x : Asking) (v w : Volume D met) → is_reading x ≡ true → Grants of_volume who x v w → Ran who false false v w
  ran-granted (asks r) v w one g = served (asks r) v w (call_with who.task who.caller r g.0) (answer_with (Ok g.1) g.2) one (inl g) g.3
  ran-granted (told r reply) v w one g =
      served (told r reply) v w (call_with who.task who.caller r g.0) (answer_with (Ok reply) g.1) one (inl g) g.2
  ran-granted (reads lun vbn block) v w one g =
      served (reads lun vbn block) v w (call_with who.task who.caller (request.ReadBlock lun vbn) g.0) (answer_with (Ok g.1) block) one
      (inl g) g.2
  ran-granted (writes lun vbn block) v w one g = absurd (cc)
  ran-granted (counts lun n) v w one g = measured lun n (Ok n) v w (inl g) g

  pub ran-denied : (x : Asking) (e : Refusal) (v w : Volume D met) → is_reading x ≡ true → Denies of_volume who x e v w
      → Ran who (is_fault e) (is_fatal e) v w
  ran-denied (asks r) e v w one g = served (asks r) v w (call_with who.task who.caller r g.0) (answer_with (Err e) g.1) one (inr (e, g)) g.2
  ran-denied (told r reply) e v w one g =
      served (told r reply) v w (call_with who.task who.caller r g.0) (answer_with (Err e) g.1) one (inr (e, g)) g.2
  ran-denied (reads lun vbn block) e v w one g =
      served (reads lun vbn block) v w (call_with who.task who.caller (request.ReadBlock lun vbn) g.0) (answer_with (Err e) g.1) one
      (inr (e, g)) g.2
  ran-denied (writes lun vbn block) e v w one g = absurd (cc)
  ran-denied (counts lun n) e v w one g = measured lun n (Err e) v w (inr (e, g)) g

  -- blocks that are read
  pub ran-reads : (lun k : ℕ) (xs : List (List ℕ)) (v w : Volume D met) → Granted of_volume who (reads_of lun k xs) v w
      → Ran who false false v w
  ran-reads lun k [] v w g = ran-none v w g
  ran-reads lun k (x ∷ xs) v w g =
      ran-then false false v g.0 w (ran-granted (reads lun (suc k) x) v g.0 refl g.1) (ran-reads lun (suc k) xs g.0 w g.2)

  pub ran-broken : (lun k : ℕ) (xs : List (List ℕ)) (e : Refusal) (v w : Volume D met)
      → BreaksOffAsking of_volume who (reads_of lun k xs) e v w → Ran who (is_fault e) (is_fatal e) v w
  ran-broken lun k [] e v w g = absurd g
  ran-broken lun k (x ∷ xs) e v w (inl g) = ran-denied (reads lun (suc k) x) e v w refl g
  ran-broken lun k (x ∷ xs) e v w (inr g) =
      ran-then (is_fault e) (is_fatal e) v g.0 w (ran-granted (reads lun (suc k) x) v g.0 refl g.1) (ran-broken lun (suc k) xs e g.0 w g.2)

-- whether a refusal is a device fault of the Files-11 volume, and whether it fails the volume
abbrev pub fault-in : FlxRefusal → Bool
fault-in e = of_files {T = ℕ} is_fault (Err e)

abbrev pub fatal-in : FlxRefusal → Bool
fatal-in e = of_files {T = ℕ} is_fatal (Err e)

module _ {D : Type 0} {met : Ghosts D} (who : Who) (lun : ℕ) (name : List ℕ) where
  -- what a copy's refusal tells of the volume
  abbrev RanBy : FlxRefusal → Volume D met → Volume D met → Type 0
  RanBy e v w = Ran who (fault-in e) (fatal-in e) v w

  by-files : (e : FlxRefusal) (r : Refusal) (v w : Volume D met) → e ≡ Files r → Ran who (is_fault r) (is_fatal r) v w → RanBy e v w
  by-files e r v w is h = subst (λ x. RanBy x v w) (sym is) h

  by-bad : (e : FlxRefusal) (v w : Volume D met) → e ≡ BadRecord → Ran who false false v w → RanBy e v w
  by-bad e v w is h = subst (λ x. RanBy x v w) (sym is) h

  by-rt : (e : FlxRefusal) (r : RtRefusal) (v w : Volume D met) → e ≡ Rt r → Ran who false false v w → RanBy e v w
  by-rt e r v w is h = subst (λ x. RanBy x v w) (sym is) h

  behind : (e : FlxRefusal) (u v w : Volume D met) → Ran who false false u v → RanBy e v w → RanBy e u w
  behind e u v w h k = ran-then who (fault-in e) (fatal-in e) u v w h k

  module _ {W : Type 0} (K : TakingBlocks W) (R : Refusing W)
      (rt : (e : FlxRefusal) (place : ℕ) (last : List ℕ) (a b : W) → R name place last e a b → (fault-in e ≡ false) × (fatal-in e ≡ false))
    where
      clean-ran : (e : FlxRefusal) (v w : Volume D met) → (fault-in e ≡ false) × (fatal-in e ≡ false) → Ran who false false v w
          → RanBy e v w
      clean-ran e v w is h = subst (λ b. Ran who b (fatal-in e) v w) (sym is.0) (subst (λ b. Ran who false b v w) (sym is.1) h)

      ran-text : (text : ToText) (count : ℕ) (e : FlxRefusal) (v w : Volume D met) (t t' : W)
          → FailsToCopyText of_volume K R who lun name text count e v w t t' → RanBy e v w
      ran-text text count e v w t t' (inl d) = by-files e d.refusal v w d.is (ran-broken who lun 0 d.given d.refusal v w d.breaks)
      ran-text text count e v w t t' (inr (inl d)) = by-bad e v w d.is (ran-reads who lun 0 d.given v w d.asked)
      ran-text text count e v w t t' (inr (inr d)) =
          clean-ran e v w (rt e (length d.pieces) d.last d.between t' d.refused) (ran-reads who lun 0 d.given v w d.asked)

      pub ran-fails : (m : CopyMode) (attr : List ℕ) (n : ℕ) (e : FlxRefusal) (v w : Volume D met) (t t' : W)
          → FailsAs m of_volume K R who lun name attr n e v w t t' → RanBy e v w
      ran-fails Image attr n e v w t t' (inl d) = by-files e d.refusal v w d.is (ran-broken who lun 0 d.given d.refusal v w d.breaks)
      ran-fails Image attr n e v w t t' (inr d) =
          clean-ran e v w (rt e (length d.pieces) d.last d.between t' d.refused) (ran-reads who lun 0 d.given v w d.asked)
      ran-fails Text attr n e v w t t' (inl k) = by-bad e v w k.is (ran-none who v w k.stays)
      ran-fails Text attr n e v w t t' (inr k) = ran-text k.0 (up_to_end attr n) e v w t t' k.2

      pub ran-copies : (m : CopyMode) (attr : List ℕ) (n count : ℕ) (v w : Volume D met) (t t' : W)
          → CopiesAs m of_volume K who lun name attr n count v w t t' → Ran who false false v w
      ran-copies Image attr n count v w t t' h = ran-reads who lun 0 h.1.given v w h.1.asked
      ran-copies Text attr n count v w t t' h = ran-reads who lun 0 h.2.given v w h.2.asked

-- what is clean is neither
clean-files : (r : Refusal) → is_lethal (Files r) ≡ false → is_fault r ≡ false
clean-files DeviceFault h = absurd (cc)
clean-files Damaged h = absurd (cc)
clean-files _ h = refl

clean-both : (e : FlxRefusal) → is_lethal e ≡ false → (fault-in e ≡ false) × (fatal-in e ≡ false)
clean-both (Files r) h = (clean-files r h, h)
clean-both (Rt r) h = (refl, refl)
clean-both BadRecord h = (refl, refl)
clean-both LineTooLong h = (refl, refl)
clean-both Unread h = (refl, refl)

abbrev ok-reply : Reply → Result Reply Refusal
ok-reply r = Ok r

rt-clean : {E : Type 0} {met' : Ghosts E} (disk : E → Disk) (name : List ℕ) (e : FlxRefusal) (place : ℕ) (last : List ℕ)
    (a b : RtAccepted E met') → rt_refuses disk name place last e a b → (fault-in e ≡ false) × (fatal-in e ≡ false)
rt-clean disk name e place last a b r = (ap fault-in r.is, ap fatal-in r.is)

module _ {D : Type 0} {met : Ghosts D} (who : Who) (lun : ℕ) (name : List ℕ) (file : FileId) where
  -- no honest device gives a reply of another kind
  wrong : (reply : Reply) (v w : Volume D met) → is_attr reply ≡ false → Grants of_volume who (told (request.ReadAttr file) reply) v w
      → IsTrue (state_in v).disk.honest → ⊥
  wrong reply v w none g honest = by (is_spent v) refl
    where
      by : (b : Bool) → is_spent v ≡ b → ⊥
      by true is = let same : ok-reply reply ≡ Err VolumeFailed = g.2.serving.refused is in absurd (cc)
      by false is =
          let one = volume-seen.granted who (told (request.ReadAttr file) reply) v w g
          (parts-sound (state_in v).disk.honest (is_spent v) honest is) in
          let attr : is_attr reply ≡ true = ap is_attr one.0.2.reply_is in absurd (cc)

  told-nothing : (e : FlxRefusal) (r : Refusal) (v w : Volume D met) → e ≡ Files r → TellsNothing of_volume who lun file r v w
      → Ran who (fault-in e) (fatal-in e) v w
  told-nothing e r v w is (inl (inl d)) = by-files who lun name e r v w is (ran-denied who (asks (request.ReadAttr file)) r v w refl d)
  told-nothing e r v w is (inl (inr d)) =
      let h = ran-granted who (told (request.ReadAttr file) d.0) v w refl d.3 in
      let ran : Ran who false true v w = record {
        asked = h.asked;
        tried = h.tried;
        only = h.only;
        failures = h.failures;
        quiet = h.quiet;
        honest = h.honest;
        next = λ t. absurd (wrong d.0 v w d.1 d.3 t);
        spent = λ t. or_right (is_spent v) true refl;
        accepted = h.accepted;
        lost = h.lost;
      } in
      by-files who lun name e r v w is (subst (λ x. Ran who (is_fault x) (is_fatal x) v w) (sym d.2) ran)
  told-nothing e r v w is (inr d) =
      by-files who lun name e r v w is
      (ran-then who (is_fault r) (is_fatal r) v d.between w
      (ran-granted who (told (request.ReadAttr file) (reply.Attr d.of)) v d.between refl d.asked)
      (ran-denied who (counts lun 0) r d.between w refl d.denied))

  pub told-ran : (attr : List ℕ) (n : ℕ) (v w : Volume D met) → TellsSource of_volume who lun file attr n v w → Ran who false false v w
  told-ran attr n v w t =
      let g = t.asked in
      ran-then who false false v g.0 w (ran-granted who (told (request.ReadAttr file) (reply.Attr t.of)) v g.0 refl g.1)
      (ran-then who false false g.0 g.2.0 w (ran-granted who (counts lun n) g.0 g.2.0 refl g.2.1) (ran-none who g.2.0 w g.2.2))

  pub count-ran : (m : CopyMode) (attr : List ℕ) (n count : ℕ) (v w : Volume D met) → CountsAs m of_volume who lun name attr n count v w
      → Ran who false false v w
  count-ran Image attr n count v w h = ran-none who v w h.1
  count-ran Text attr n count v w h =
      ran-copies who lun name nowhere_takes nowhere_refuses (λ e place last a b r. absurd r) Text attr n count v w h.0 h.1 h.2

  module _ {E : Type 0} {met' : Ghosts E} (disk : E → Disk) (day : ℕ) where
    undo-ran : (e x : FlxRefusal) (v w : Volume D met) (a b : RtAccepted E met') → UndoesToRt disk name x e a b
        → Ran who (fault-in x) (fatal-in x) v w → Ran who (fault-in e) (fatal-in e) v w
    undo-ran e x v w a b (inl h) r = subst (λ y. Ran who (fault-in y) (fatal-in y) v w) (sym h.same) r
    undo-ran e x v w a b (inr (inl h)) r = subst (λ y. Ran who (fault-in y) (fatal-in y) v w) (sym h.same) r
    undo-ran e x v w a b (inr (inr h)) r = by h.answer_is
      where
        clean : Ran who false false v w
        clean = let c = clean-both x h.clean in subst (λ q. Ran who q false v w) c.0 (subst (λ q. Ran who (fault-in x) q v w) c.1 r)

        by : (((rt_fault h.refusal ≡ true) × (e ≡ Rt h.refusal)) ⊎ ((rt_fault h.refusal ≡ false) × (e ≡ x)))
            → Ran who (fault-in e) (fatal-in e) v w
        by (inl y) = by-rt who lun name e h.refusal v w y.1 clean
        by (inr y) = subst (λ z. Ran who (fault-in z) (fatal-in z) v w) (sym y.1) r

    locked-ran : (m : CopyMode) (e : FlxRefusal) (v w : Volume D met) (rt rt' : RtAccepted E met')
        → FailsLocked m of_volume disk who lun file name day e v w rt rt' → Ran who (fault-in e) (fatal-in e) v w
    locked-ran m e v w rt rt' (inl k) = told-nothing e k.refusal v w k.is k.tells
    locked-ran Image e v w rt rt' (inr (inl k)) = absurd k.fails
    locked-ran Text e v w rt rt' (inr (inl k)) =
        behind who lun name e v k.seen w (told-ran k.attr k.blocks v k.seen k.told)
        (ran-fails who lun name nowhere_takes nowhere_refuses (λ x place last a b r. absurd r) Text k.attr k.blocks e k.seen w k.fails.0
        k.fails.1 k.fails.2)
    locked-ran m e v w rt rt' (inr (inr k)) =
        behind who lun name e v k.seen w (told-ran k.attr k.blocks v k.seen k.told)
        (behind who lun name e k.seen k.walked w (count-ran m k.attr k.blocks k.count k.seen k.walked k.counted) (by k.fails))
      where
        by : FailsToFillToRt m of_volume disk who lun name k.attr k.blocks k.count day e k.walked w rt rt'
            → Ran who (fault-in e) (fatal-in e) k.walked w
        by (inl h) = by-rt who lun name e h.refusal k.walked w h.is (ran-none who k.walked w h.stays)
        by (inr h) =
            undo-ran e h.refusal k.walked w h.stopped rt' h.undoes
            (ran-fails who lun name (rt_takes disk) (rt_refuses disk) (rt-clean disk name) m k.attr k.blocks h.refusal k.walked w h.made
            h.stopped h.fails)

    pub copies-ran : (m : CopyMode) (count : ℕ) (v w : Volume D met) (rt rt' : RtAccepted E met')
        → CopiesLocked m of_volume disk who lun file name count day v w rt rt' → Ran who false false v w
    copies-ran m count v w rt rt' l =
        ran-then who false false v l.seen w (told-ran l.attr l.blocks v l.seen l.told)
        (ran-then who false false l.seen l.walked w (count-ran m l.attr l.blocks count l.seen l.walked l.counted)
        (ran-copies who lun name (rt_takes disk) (rt_refuses disk) (rt-clean disk name) m l.attr l.blocks l.fills.taken l.walked w
        l.fills.made rt' l.fills.copies))

    -- what a copy leaves of the volume
    pub copied-ran : (m : CopyMode) (count : ℕ) (old new : Volume D met) (rt rt' : RtAccepted E met')
        → CopiesFileToRt m of_volume disk who lun file name count day old new rt rt' →
        Ran who false false old new × StaysAccepted (state_in new)
    copied-ran m count old new rt rt' k =
        let open-it = ran-granted who (asks (request.Access file mode.Locked lun)) old k.opened refl k.opens in
        let rest = ran-then who false false k.opened k.left new (copies-ran m count k.opened k.left rt rt' k.copies)
        (ran-granted who (asks (request.Deaccess lun)) k.left new refl k.closes) in
        (ran-then who false false old k.opened new open-it rest, rest.accepted k.opens.3.accepted)

    pub refused-ran : (m : CopyMode) (e : FlxRefusal) (old new : Volume D met) (rt rt' : RtAccepted E met')
        → FailsToCopyFileToRt m of_volume disk who lun file name day e old new rt rt' →
        Ran who (fault-in e) (fatal-in e) old new × StaysAccepted (state_in new)
    refused-ran m e old new rt rt' (inl k) = (
      by-files who lun name e k.refusal old new k.is
          (ran-denied who (asks (request.Access file mode.Locked lun)) k.refusal old new refl k.denied),
      k.denied.2.accepted,
    )
    refused-ran m e old new rt rt' (inr (inl k)) =
        let open-it = ran-granted who (asks (request.Access file mode.Locked lun)) old k.opened refl k.opens in
        let rest = by k.gives in
        (behind who lun name e old k.opened new open-it rest, rest.accepted k.opens.3.accepted)
      where
        inner : Ran who (fault-in k.refusal) (fatal-in k.refusal) k.opened k.stopped
        inner = locked-ran m k.refusal k.opened k.stopped rt rt' k.fails

        clean : is_lethal k.refusal ≡ false → Ran who false false k.opened k.stopped
        clean h =
            let c = clean-both k.refusal h in
            subst (λ q. Ran who q false k.opened k.stopped) c.0 (subst (λ q. Ran who (fault-in k.refusal) q k.opened k.stopped) c.1 inner)

        by : GaveUp of_volume who lun k.refusal e k.stopped new → Ran who (fault-in e) (fatal-in e) k.opened new
        by (inl h) =
            subst (λ y. Ran who (fault-in y) (fatal-in y) k.opened new) (sym h.same)
            (subst (λ v. Ran who (fault-in k.refusal) (fatal-in k.refusal) k.opened v) (sym h.stays) inner)
        by (inr (inl h)) =
            let c = clean-both k.refusal h.clean in
            let r = ran-then who false false k.opened k.stopped new (clean h.clean)
            (ran-granted who (asks (request.Deaccess lun)) k.stopped new refl h.asked) in
            subst (λ y. Ran who (fault-in y) (fatal-in y) k.opened new) (sym h.same)
            (subst (λ q. Ran who q (fatal-in k.refusal) k.opened new) (sym c.0) (subst (λ q. Ran who false q k.opened new) (sym c.1) r))
        by (inr (inr h)) = ends h.answer_is
          where
            r : Ran who (is_fault h.refusal) (is_fatal h.refusal) k.opened new
            r =
                ran-then who (is_fault h.refusal) (is_fatal h.refusal) k.opened k.stopped new (clean h.clean)
                (ran-denied who (asks (request.Deaccess lun)) h.refusal k.stopped new refl h.denied)

            ends : (((is_lethal (Files h.refusal) ≡ true) × (e ≡ Files h.refusal))
                ⊎ ((is_lethal (Files h.refusal) ≡ false) × (e ≡ k.refusal))) → Ran who (fault-in e) (fatal-in e) k.opened new
            ends (inl x) = by-files who lun name e h.refusal k.opened new x.1 r
            ends (inr x) =
                let c = clean-both k.refusal h.clean in
                let d = clean-both (Files h.refusal) x.0 in
                let q : Ran who false false k.opened new = subst (λ z. Ran who z false k.opened new) d.0
                (subst (λ z. Ran who (is_fault h.refusal) z k.opened new) d.1 r) in
                subst (λ y. Ran who (fault-in y) (fatal-in y) k.opened new) (sym x.1)
                (subst (λ z. Ran who z (fatal-in k.refusal) k.opened new) (sym c.0)
                (subst (λ z. Ran who false z k.opened new) (sym c.1) q))
    refused-ran m e old new rt rt' (inr (inr k)) =
        let open-it = ran-granted who (asks (request.Access file mode.Locked lun)) old k.opened refl k.opens in
        let last = undo-ran e (Files k.refusal) k.left new k.filled rt' k.undoes
        (ran-denied who (asks (request.Deaccess lun)) k.refusal k.left new refl k.denied) in
        let rest = behind who lun name e k.opened k.left new (copies-ran m k.count k.opened k.left rt k.filled k.copies) last in
        (behind who lun name e old k.opened new open-it rest, rest.accepted k.opens.3.accepted)

    -- so it fares, and is as before unless a device fault or Damaged was met
    pub files-told : (m : CopyMode) (r : Result ℕ FlxRefusal) (old new : Volume D met) (rt rt' : RtAccepted E met')
        → IfOk r (λ count. CopiesFileToRt m of_volume disk who lun file name count day old new rt rt') →
        IfErr r (λ e. FailsToCopyFileToRt m of_volume disk who lun file name day e old new rt rt') → ReadsFiles r who old new
    files-told m (Ok count) old new rt rt' made failed =
        let p = copied-ran m count old new rt rt' made in
        let h = p.0 in
        record {
          fares = record {
            failures = h.failures;
            quiet = h.quiet;
            honest = h.honest;
            next = h.next;
            spent = h.spent;
            accepted = p.1;
            lost = h.lost;
          };
          keeps = copied-keeps who disk lun file name day m old new rt rt' count made;
          spent = λ dead. absurd (spent-uncopied disk who lun name file day m old new rt rt' dead count made);
          asked = record { asked = h.asked; tried = h.tried; only = h.only };
          stays = λ sound whole. copied-stays of_volume store_of_volume is_sound volume-seen who lun file name (store_of_volume old) disk
              day m count old new rt rt' refl sound made;
        }
    files-told m (Err e) old new rt rt' made failed =
        let p = refused-ran m e old new rt rt' failed in
        let h = p.0 in
        record {
          fares = record {
            failures = h.failures;
            quiet = h.quiet;
            honest = h.honest;
            next = h.next;
            spent = h.spent;
            accepted = p.1;
            lost = h.lost;
          };
          keeps = uncopied-keeps who disk lun file name day m old new rt rt' e failed;
          spent = λ dead. ap refused (spent-refused disk who lun name file day m old new rt rt' dead e failed);
          asked = record { asked = h.asked; tried = h.tried; only = h.only };
          stays = λ sound whole. refused-stays of_volume store_of_volume is_sound volume-seen who lun file name (store_of_volume old) disk
              day m e old new rt rt' refl sound (not-true (is_lethal e) whole) failed;
        }
