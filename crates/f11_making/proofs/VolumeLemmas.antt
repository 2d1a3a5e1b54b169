-- A volume that is asked, seen as the plain store, and what its answers tell of its device.
use Rattle.std.proofs.Common.{◌≡◌, ℕ, ◌+◌, ◌<◌, ◌&&◌, ◌||◌, not, Bool, true, false, IsTrue, if◌then◌else◌, [], ◌∷◌, Some}
use Rattle.std.proofs.Common.{Result, Ok, Err, refl, sym, ap, ◌∙◌, subst, arith}
use Rattle.f11_dev.specs.declared.device.Device.{Ghosts}
use Rattle.f11_dev.proofs.LookedLemmas.{looked_none}
use Rattle.f11_store.specs.Accesses.{FreeIsEmpty}
use Rattle.f11_store.specs.Causes.{◌⇐◌, first_of, holds_none}
use Rattle.f11_store.specs.Run.{Answer, Call}
use Rattle.f11_store.specs.declared.refusals.Refusal.{Refusal}
use Rattle.f11_store.specs.declared.refusals.Refusal.TheVariants.{Damaged, DeviceFault, NoSuchAccess, VolumeFailed}
use Rattle.f11_store.specs.declared.requests.Reply.{Reply}
use Rattle.f11_runs.specs.Each.{Steps}
use Rattle.f11_runs.specs.Standing.{AccessesStand}
use Rattle.f11_runs.proofs.AccessLemmas.{true-false}
use Rattle.f11_fcp.specs.files.Answers.{is_cause, is_fatal, is_fault, is_refused}
use Rattle.f11_fcp.specs.files.Open.{store_in}
use Rattle.f11_fcp.proofs.image_store.StoreLemmas.{unused-is-empty}
use Rattle.f11_fcp.proofs.ListLemmas.{accessed}
use Rattle.f11_fcp.specs.image_store.StoreOf.{store_of}
use Rattle.f11_fcp.specs.Accesses.{held_in}
use Rattle.f11_fcp.specs.Handles.{State, faults_in}
use Rattle.f11_fcp.specs.Lengths.{AnswersLength, Measures}
use Rattle.f11_fcp.specs.Lists.{ServesCall, failures_of, is_sound, store_of_volume}
use Rattle.f11_fcp.specs.Places.{access_table_of}
use Rattle.f11_fcp.specs.Serving.{RequestsSpareLost, StaysAccepted, is_spent, state_in}
use Rattle.f11_fcp.specs.declared.volume.Volume.{Volume}
use Rattle.f11_fcp.specs.writes.Lost.{SparesLost}
use Rattle.f11_fcp.proofs.writes.LostLemmas.{lost-looked}
use Rattle.f11_making.specs.Asking.{Asking, Denies, Grants, IsMeasured, Who, asks, counts, plain, reads, told, writes}
use Rattle.f11_making.specs.Fares.{Fares}
use Rattle.f11_making.specs.Volume.{of_volume}
use Rattle.f11_making.specs.Seen.{IsSeenPlain}

-- a sound volume's disk is honest, and no request has failed it
sound-parts : (honest spent : Bool) → (honest && not spent) ≡ true → IsTrue honest × (spent ≡ false)
sound-parts true false h = (refl, refl)
sound-parts true true h = absurd (cc)
sound-parts false spent h = absurd (cc)

pub parts-sound : (honest spent : Bool) → honest ≡ true → spent ≡ false → (honest && not spent) ≡ true
parts-sound true false h k = refl
parts-sound true true h k = absurd (true-false k)
parts-sound false spent h k = absurd (true-false (sym h))

plus-none : (n : ℕ) → n ≡ n + 0
plus-none n = omega arith

faults-are : (result : Result Reply Refusal) → faults_in result ≡ (if is_refused is_fault result then 1 else 0)
faults-are (Ok a) = refl
faults-are (Err e) = refl

some-fault : (b : Bool) (n : ℕ) → b ≡ true → n ≡ (if b then 1 else 0) → 0 < n
some-fault true n h k = omega (arith, k)
some-fault false n h k = absurd (true-false (sym h))

-- a refusal that is no device fault, no Damaged and not VolumeFailed is that of a cause
is-cause : (e : Refusal) → is_fatal e ≡ false → (e ≡ VolumeFailed → ⊥) → is_cause e ≡ true
is-cause VolumeFailed h k = absurd (k refl)
is-cause DeviceFault h k = absurd (true-false h)
is-cause Damaged h k = absurd (true-false h)
is-cause _ h k = refl

one-cause : (b : Bool) (e : Refusal) → first_of ((NoSuchAccess ⇐ b) ∷ []) ≡ Some e → (b ≡ true) × (e ≡ NoSuchAccess)
one-cause true e h = (refl, cc)
one-cause false e h = absurd (cc)

module _ {D : Type 0} {met : Ghosts D} where
  pub unused : (v : Volume D met) → FreeIsEmpty (store_of_volume v)
  unused v = unused-is-empty (state_in v).disk.image (state_in v).home

  pub standing : (v : Volume D met) → is_sound v ≡ true → AccessesStand (store_of_volume v)
  standing v sound =
      let parts = sound-parts (state_in v).disk.honest (is_spent v) sound in
      accessed (access_table_of v.accesses) (store_in v.files) (v.kept parts.1 parts.0)

  -- of a volume nothing was asked
  pub idle-beside : (v w : Volume D met) → (is_spent v ≡ true → is_spent w ≡ true) → state_in w ≡ state_in v → RequestsSpareLost v w
  idle-beside v w lasts same =
      subst (λ (x : State). SparesLost (is_spent v) (is_spent w) (state_in v).disk x.disk) (sym same)
      (lost-looked (is_spent v) (is_spent w) (state_in v).disk (state_in v).disk 0 0 lasts (looked_none (state_in v).disk))

  -- a request of it, whatever it answers
  serves-fared : (v w : Volume D met) (c : Call) (a : Answer) → ServesCall v c a w
      → Fares (is_refused is_fault a.result) (is_refused is_fatal a.result) v w
  serves-fared v w c a h = by_spent (is_spent v) refl
    where
      by_spent : (b : Bool) → is_spent v ≡ b → Fares (is_refused is_fault a.result) (is_refused is_fatal a.result) v w
      by_spent true is =
          let r = h.serving.refused is in
          let same = (h.serving.untouched is).0 in
          subst (λ x. Fares (is_refused is_fault x) (is_refused is_fatal x) v w) (sym r) (record {
            failures = ap (λ (x : State). x.disk.failures) same ∙ plus-none (failures_of v);
            quiet = λ fault. absurd (cc);
            honest = ap (λ (x : State). x.disk.honest) same;
            home = ap (λ (x : State). x.home) same;
            next = h.serving.next ∙ ap (λ x. is_spent v || is_refused is_fatal x) r;
            accepted = h.accepted;
            lost = h.serving.lost;
          })
      by_spent false is =
          let k = h.serving.handled is in
          record {
            failures = k.writes.went.failures ∙ ap (λ n. failures_of v + n) (faults-are a.result);
            quiet = λ fault. k.writes.went.quiet
                (some-fault (is_refused is_fault a.result) (faults_in a.result) fault (faults-are a.result));
            honest = k.writes.went.honest;
            home = k.home;
            next = h.serving.next;
            accepted = h.accepted;
            lost = h.serving.lost;
          }

  measures-fared : (v w : Volume D met) (task lun : ℕ) (result : Result ℕ Refusal) → AnswersLength task lun result v w
      → StaysAccepted (state_in w) → Fares (is_refused is_fault result) (is_refused is_fatal result) v w
  measures-fared v w task lun result h accepted = by_spent (is_spent v) refl
    where
      lasts : (b : Bool) → is_spent w ≡ (is_spent v || b) → is_spent v ≡ true → is_spent w ≡ true
      lasts b next is = next ∙ ap (λ (x : Bool). x || b) is

      by_result : (r : Result ℕ Refusal) → Measures task lun r (state_in v) (state_in w)
          → is_spent w ≡ (is_spent v || is_refused is_fatal r) → Fares (is_refused is_fault r) (is_refused is_fatal r) v w
      by_result (Ok blocks) k next = record {
        failures = k.outcome.reads.looked.failures;
        quiet = λ fault. absurd (cc);
        honest = k.outcome.reads.looked.honest;
        home = k.home;
        next = next;
        accepted = accepted;
        lost = lost-looked _ _ _ _ _ _ (lasts _ next) k.outcome.reads.looked;
      }
      by_result (Err e) k next = record {
        failures = k.outcome.reads.looked.failures;
        quiet = λ fault. k.outcome.reads.looked.quiet (some-fault (is_fault e) (if is_fault e then 1 else 0) fault refl);
        honest = k.outcome.reads.looked.honest;
        home = k.home;
        next = next;
        accepted = accepted;
        lost = lost-looked _ _ _ _ _ _ (lasts _ next) k.outcome.reads.looked;
      }

      by_spent : (b : Bool) → is_spent v ≡ b → Fares (is_refused is_fault result) (is_refused is_fatal result) v w
      by_spent true is =
          let r = h.refused is in
          let same = h.untouched is in
          subst (λ x. Fares (is_refused is_fault x) (is_refused is_fatal x) v w) (sym r) (record {
            failures = ap (λ (x : State). x.disk.failures) same ∙ plus-none (failures_of v);
            quiet = λ fault. absurd (cc);
            honest = ap (λ (x : State). x.disk.honest) same;
            home = ap (λ (x : State). x.home) same;
            next = h.next ∙ ap (λ x. is_spent v || is_refused is_fatal x) r;
            accepted = accepted;
            lost = idle-beside v w (lasts _ h.next) same;
          })
      by_spent false is = by_result result (h.measures is) h.next

  -- what is granted, and what is denied
  pub granted-fared : (who : Who) (x : Asking) (v w : Volume D met) → Grants of_volume who x v w → Fares false false v w
  granted-fared who (asks r) v w h = serves-fared v w _ _ h.3
  granted-fared who (told r a) v w h = serves-fared v w _ _ h.2
  granted-fared who (reads lun vbn block) v w h = serves-fared v w _ _ h.2
  granted-fared who (writes lun vbn block) v w h = serves-fared v w _ _ h.2
  granted-fared who (counts lun blocks) v w h = measures-fared v w who.task lun (Ok blocks) h.0 h.1

  pub denied-fared : (who : Who) (x : Asking) (e : Refusal) (v w : Volume D met) → Denies of_volume who x e v w
      → Fares (is_fault e) (is_fatal e) v w
  denied-fared who (asks r) e v w h = serves-fared v w _ _ h.2
  denied-fared who (told r a) e v w h = serves-fared v w _ _ h.2
  denied-fared who (reads lun vbn block) e v w h = serves-fared v w _ _ h.2
  denied-fared who (writes lun vbn block) e v w h = serves-fared v w _ _ h.1
  denied-fared who (counts lun blocks) e v w h = measures-fared v w who.task lun (Err e) h.0 h.1

  -- it stays sound but for what fails it
  stays : (fault : Bool) (v w : Volume D met) → Fares fault false v w → is_sound v ≡ true → is_sound w ≡ true
  stays fault v w h sound =
      let parts = sound-parts (state_in v).disk.honest (is_spent v) sound in
      parts-sound (state_in w).disk.honest (is_spent w) (h.honest ∙ parts.0) (h.next ∙ ap (λ b. b || false) parts.1)

  step : (v w : Volume D met) (c : Call) (a : Answer) → is_sound v ≡ true → is_refused is_fatal a.result ≡ false → ServesCall v c a w
      → Steps (store_of_volume v) c a (store_of_volume w)
  step v w c a sound clean h =
      let parts = sound-parts (state_in v).disk.honest (is_spent v) sound in
      (h.serving.handled parts.1).step parts.0 clean

  -- what is asked of its length alone
  same-store : (v w : Volume D met) → (state_in w).table ≡ (state_in v).table → (state_in w).disk.image ≡ (state_in v).disk.image
      → (state_in w).home ≡ (state_in v).home → store_of_volume w ≡ store_of_volume v
  same-store v w a b c = λ i. held_in (a i) (store_of (b i) (c i))

  measured : (v w : Volume D met) (task lun : ℕ) (result : Result ℕ Refusal) → is_sound v ≡ true → is_refused is_fatal result ≡ false
      → AnswersLength task lun result v w → IsMeasured task lun result (store_of_volume v) (store_of_volume w)
  measured v w task lun (Ok blocks) sound clean h =
      let parts = sound-parts (state_in v).disk.honest (is_spent v) sound in
      let k = h.measures parts.1 in
      (k.outcome.accessed, k.outcome.length_is parts.0, same-store v w k.table k.outcome.reads.looked.image k.home)
  measured v w task lun (Err e) sound clean h =
      let parts = sound-parts (state_in v).disk.honest (is_spent v) sound in
      let k = h.measures parts.1 in
      let is = k.outcome.right.cause parts.0 (is-cause e clean (λ same. absurd (true-false (sym (k.outcome.right.volume same))))) in
      let why = one-cause (holds_none (store_of_volume v) task lun) e is in
      (why.0, why.1, same-store v w k.table k.outcome.reads.looked.image k.home)

  pub volume-seen : IsSeenPlain (of_volume {met = met}) store_of_volume is_sound
  volume-seen = record { granted = granted; denied = denied }
    where
      granted : (who : Who) (x : Asking) (v w : Volume D met) → Grants of_volume who x v w → is_sound v ≡ true
          → Grants plain who x (store_of_volume v) (store_of_volume w) × (is_sound w ≡ true)
      granted who (asks r) v w h sound =
          ((h.0, h.1, h.2, step v w _ _ sound refl h.3), stays false v w (granted-fared who (asks r) v w h) sound)
      granted who (told r a) v w h sound =
          ((h.0, h.1, step v w _ _ sound refl h.2), stays false v w (granted-fared who (told r a) v w h) sound)
      granted who (reads lun vbn block) v w h sound =
          ((h.0, h.1, step v w _ _ sound refl h.2), stays false v w (granted-fared who (reads lun vbn block) v w h) sound)
      granted who (writes lun vbn block) v w h sound =
          ((h.0, h.1, step v w _ _ sound refl h.2), stays false v w (granted-fared who (writes lun vbn block) v w h) sound)
      granted who (counts lun blocks) v w h sound =
          (measured v w who.task lun (Ok blocks) sound refl h.0, stays false v w (granted-fared who (counts lun blocks) v w h) sound)

      clean-stays : (who : Who) (x : Asking) (e : Refusal) (v w : Volume D met) → Denies of_volume who x e v w → is_fatal e ≡ false
          → is_sound v ≡ true → is_sound w ≡ true
      clean-stays who x e v w h clean sound =
          stays (is_fault e) v w (subst (λ b. Fares (is_fault e) b v w) clean (denied-fared who x e v w h)) sound

      denied : (who : Who) (x : Asking) (e : Refusal) (v w : Volume D met) → Denies of_volume who x e v w → is_sound v ≡ true
          → is_fatal e ≡ false → Denies plain who x e (store_of_volume v) (store_of_volume w) × (is_sound w ≡ true)
      denied who (asks r) e v w h sound clean = ((h.0, h.1, step v w _ _ sound clean h.2), clean-stays who (asks r) e v w h clean sound)
      denied who (told r a) e v w h sound clean = ((h.0, h.1, step v w _ _ sound clean h.2), clean-stays who (told r a) e v w h clean sound)
      denied who (reads lun vbn block) e v w h sound clean =
          ((h.0, h.1, step v w _ _ sound clean h.2), clean-stays who (reads lun vbn block) e v w h clean sound)
      denied who (writes lun vbn block) e v w h sound clean =
          ((h.0, step v w _ _ sound clean h.1), clean-stays who (writes lun vbn block) e v w h clean sound)
      denied who (counts lun blocks) e v w h sound clean =
          (measured v w who.task lun (Err e) sound clean h.0, clean-stays who (counts lun blocks) e v w h clean sound)
