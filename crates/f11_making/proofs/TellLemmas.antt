-- What a volume tells of each answer, told of a plan's.
use Rattle.std.proofs.Common.{◌≡◌, ◌≢◌, inl, inr, ℕ, ◌+◌, ◌||◌, not, Bool, true, false, IsTrue, if◌then◌else◌, List, [], ◌∷◌, ◌++◌}
use Rattle.std.proofs.Common.{Result, Ok, Err, refl, sym, ap, ◌∙◌, subst, arith}
use Rattle.std.proofs.lemmas.Bool.{or_right}
use Rattle.f11_dev.specs.declared.device.Device.{Ghosts}
use Rattle.f11_store.specs.Step.{reply_of}
use Rattle.f11_store.specs.Store.{Store}
use Rattle.f11_store.specs.declared.files.FileId.{FileId}
use Rattle.f11_store.specs.declared.refusals.Refusal.{Refusal}
use Rattle.f11_store.specs.declared.refusals.Refusal.TheVariants.{Damaged}
use Rattle.f11_store.specs.declared.requests.Reply.{Reply}
use Rattle.f11_store.specs.declared.requests.Request.{Request}
use Rattle.f11_store.specs.declared.requests.Request.TheVariants as request
use Rattle.f11_runs.proofs.AccessLemmas.{true-false}
use Rattle.f11_fcp.specs.files.Answers.{is_fatal, is_fault, is_refused}
use Rattle.f11_fcp.specs.Lists.{failures_of, is_sound, store_of_volume}
use Rattle.f11_fcp.specs.Serving.{is_spent, state_in}
use Rattle.f11_fcp.specs.declared.volume.Volume.{Volume}
use Rattle.f11_fcp.proofs.writes.LostLemmas.{lost-none, lost-then}
use Rattle.f11_making.specs.Asking.{Asking, Denies, Fails, FilesService, Grants, Who, asks, told}
use Rattle.f11_making.specs.Asking.{counts as counts_blocks, reads as reads_block, writes as writes_block}
use Rattle.f11_making.specs.Carrying.{Carries, EndsAt, IsFitting, names_one}
use Rattle.f11_making.specs.Cleanly.{AskedCleanly}
use Rattle.f11_making.specs.Fares.{Fares, FaresAs}
use Rattle.f11_making.specs.FilesPlan.{AnswerOf, Asks, AsksFile, Carried, FilesPlan, Question, counts, describes, done, for_user, names}
use Rattle.f11_making.specs.FilesPlan.{names_file, names_for, reads, tells_attributes, writes}
use Rattle.f11_making.specs.Telling.{AddsUp, IsTidy, bare}
use Rattle.f11_making.specs.Volume.{of_volume}
use Rattle.f11_making.proofs.AskedLemmas.{denied-undamaged}
use Rattle.f11_making.proofs.PlanLemmas.{goes-adds, goes-seen}
use Rattle.f11_making.proofs.VolumeLemmas.{denied-fared, granted-fared, parts-sound, volume-seen}

or-first : (b c : Bool) → (b || c) ≡ false → b ≡ false
or-first true c h = absurd (true-false h)
or-first false c h = refl

right-reply : (r : Request) (s : Store) (task : ℕ) → names_one r ≡ true → names_file r (reply_of s task r) ≡ true
right-reply (request.Create p i a) s task h = refl
right-reply (request.Find d n) s task h = refl
right-reply _ s task h = absurd (true-false (sym h))

or-none : (b : Bool) → b ≡ (b || false)
or-none true = refl
or-none false = refl

plus-none : (n : ℕ) → n + 0 ≡ n
plus-none n = omega arith

module _ {D : Type 0} {met : Ghosts D} where
  -- a volume is what it was
  fares-none : (v : Volume D met) → FaresAs false false v v
  fares-none v = record {
    failures = sym (plus-none (failures_of v));
    quiet = λ fault. absurd (cc);
    honest = refl;
    home = refl;
    next = λ honest. or-none (is_spent v);
    spent = λ is. sym (or-none (is_spent v)) ∙ is;
    accepted = v.files.accepted;
    lost = lost-none (is_spent v) (state_in v).disk;
  }

  -- and then
  fares-then : (fault fatal : Bool) (u v w : Volume D met) → FaresAs false false u v → FaresAs fault fatal v w → FaresAs fault fatal u w
  fares-then fault fatal u v w h k = record {
    failures = k.failures ∙ ap (λ n. n + (if fault then 1 else 0)) (h.failures ∙ plus-none (failures_of u));
    quiet = k.quiet;
    honest = k.honest ∙ h.honest;
    home = k.home ∙ h.home;
    next = λ honest. k.next (subst IsTrue (sym h.honest) honest) ∙ ap (λ x. x || fatal) (h.next honest ∙ sym (or-none (is_spent u)));
    spent = λ is. still (is_spent v) fatal refl (k.spent is);
    accepted = k.accepted;
    lost = lost-then _ _ _ _ _ _ h.lost k.lost;
  }
    where
      still : (b c : Bool) → is_spent v ≡ b → (b || c) ≡ true → (is_spent u || c) ≡ true
      still true c is h' = ap (λ x. x || c) (or-none (is_spent u) ∙ h.spent is)
      still false true is h' = or_right (is_spent u) true refl
      still false false is h' = absurd (true-false (sym h'))

  -- what is told alone
  fares-as : (fault fatal : Bool) (v w : Volume D met) → Fares fault fatal v w → FaresAs fault fatal v w
  fares-as fault fatal v w h = record {
    failures = h.failures;
    quiet = h.quiet;
    honest = h.honest;
    home = h.home;
    next = λ honest. h.next;
    spent = λ is. sym h.next ∙ is;
    accepted = h.accepted;
    lost = h.lost;
  }

-- what is told of an answer: how it fares, and that no honest disk that stands is Damaged
abbrev pub Tells : {D : Type 0} {met : Ghosts D} → Result (Unit {0}) Refusal → Volume D met → Volume D met → Type 0
Tells r v w =
    (FaresAs (is_refused is_fault r) (is_refused is_fatal r) v w)
    × (IsTrue (state_in v).disk.honest → is_spent v ≡ false → r ≢ Err Damaged)

module _ {D : Type 0} {met : Ghosts D} where
  granted-tells : (who : Who) (x : Asking) (v w : Volume D met) → Grants of_volume who x v w → Tells (Ok tt) v w
  granted-tells who x v w g = (fares-as false false v w (granted-fared who x v w g), λ honest alive is. absurd (cc))

  denied-tells : (who : Who) (x : Asking) (e : Refusal) (v w : Volume D met) → Denies of_volume who x e v w → Tells (Err e) v w
  denied-tells who x e v w d = (
    fares-as (is_fault e) (is_fatal e) v w (denied-fared who x e v w d),
    λ honest alive is. denied-undamaged who x e v w alive honest d (let same = is in cc),
  )

  -- a reply of another kind
  module _ (who : Who) (r : Request) (is_right : Reply → Bool) (right : (s : Store) → is_right (reply_of s who.task r) ≡ true) where
    wrong-tells : (a : Reply) (v w : Volume D met) → is_right a ≡ false → Grants of_volume who (told r a) v w → Tells (Err Damaged) v w
    wrong-tells a v w wrong g = (
      record {
        failures = h.failures;
        quiet = λ fault. absurd (cc);
        honest = h.honest;
        home = h.home;
        next = λ honest. next honest (is_spent v) refl;
        spent = λ is. or_right (is_spent v) true refl;
        accepted = h.accepted;
        lost = h.lost;
      },
      λ honest alive is. dishonest honest alive,
    )
      where
        h : Fares false false v w
        h = granted-fared who (told r a) v w g

        dishonest : IsTrue (state_in v).disk.honest → is_spent v ≡ false → ⊥
        dishonest honest alive =
            let sound : is_sound v ≡ true = parts-sound (state_in v).disk.honest (is_spent v) honest alive in
            let step = (volume-seen.granted who (told r a) v w g sound).0.2 in
            true-false (sym (ap is_right step.reply_is ∙ right (store_of_volume v)) ∙ wrong)

        next : IsTrue (state_in v).disk.honest → (b : Bool) → is_spent v ≡ b → is_spent w ≡ (is_spent v || true)
        next honest true is = h.next ∙ ap (λ x. x || false) is ∙ sym (ap (λ x. x || true) is)
        next honest false is = absurd (dishonest honest is)

    fails-tells : (e : Refusal) (v w : Volume D met) → Fails of_volume who is_right r e v w → Tells (Err e) v w
    fails-tells e v w (inl d) = denied-tells who (asks r) e v w d
    fails-tells e v w (inr h) = subst (λ x. Tells (Err x) v w) (sym h.2) (wrong-tells h.0 v w h.1 h.3)

  file-tells : (who : Who) (r : Request) (a : Result FileId Refusal) (v w : Volume D met) → names_one r ≡ true
      → AsksFile of_volume who r a v w → Tells (bare a) v w
  file-tells who r (Ok id) v w is h = granted-tells who (told r h.0) v w h.2
  file-tells who r (Err e) v w is h = fails-tells who r (names_file r) (λ s. right-reply r s who.task is) e v w h

  single-tells : (who : Who) (q : Question) (a : Result (AnswerOf q) Refusal) (v w : Volume D met) → IsFitting q
      → Asks of_volume who q a v w → Tells (bare a) v w
  single-tells who (done r) (Ok x) v w is h = granted-tells who (asks r) v w h
  single-tells who (done r) (Err e) v w is h = denied-tells who (asks r) e v w h
  single-tells who (names r) a v w is h = file-tells who r a v w is h
  single-tells who (names_for user r) a v w is h = file-tells (for_user user who) r a v w is h
  single-tells who (describes id) (Ok x) v w is h = granted-tells who (told (request.ReadAttr id) h.0) v w h.2
  single-tells who (describes id) (Err e) v w is h = fails-tells who (request.ReadAttr id) tells_attributes (λ s. refl) e v w h
  single-tells who (counts lun) (Ok blocks) v w is h = granted-tells who (counts_blocks lun blocks) v w h
  single-tells who (counts lun) (Err e) v w is h = denied-tells who (counts_blocks lun 0) e v w h
  single-tells who (reads lun vbn) (Ok block) v w is h = granted-tells who (reads_block lun vbn block) v w h
  single-tells who (reads lun vbn) (Err e) v w is h = denied-tells who (reads_block lun vbn h.0) e v w h.1
  single-tells who (writes lun vbn block) (Ok x) v w is h = granted-tells who (writes_block lun vbn block) v w h
  single-tells who (writes lun vbn block) (Err e) v w is h = denied-tells who (writes_block lun vbn block) e v w h

  as-calm : (e : Refusal) (v w : Volume D met) → is_fatal e ≡ false → Tells (Err e) v w → Tells (Ok tt) v w
  as-calm e v w calm h = (
    subst (λ b. FaresAs false b v w) calm (subst (λ b. FaresAs b (is_fatal e) v w) (or-first _ _ calm) h.0),
    λ honest alive is. absurd (cc),
  )

  of-calm : (e : Refusal) (v w : Volume D met) → is_fatal e ≡ false → Tells (Ok tt) v w → Tells (Err e) v w
  of-calm e v w calm h = (
    subst (λ b. FaresAs (is_fault e) b v w) (sym calm) (subst (λ b. FaresAs b false v w) (sym (or-first _ _ calm)) h.0),
    λ honest alive is. true-false (sym (ap (λ (r : Result (Unit {0}) Refusal). is_refused is_fatal r) is) ∙ calm),
  )

  tells-then : (r : Result (Unit {0}) Refusal) (u v w : Volume D met) → Tells (Ok tt) u v → Tells r v w → Tells r u w
  tells-then r u v w h k = (
    fares-then (is_refused is_fault r) (is_refused is_fatal r) u v w h.0 k.0,
    λ honest alive. k.1 (subst IsTrue (sym h.0.honest) honest) (h.0.next honest ∙ ap (λ x. x || false) alive),
  )

  pub adds-tells : (who : Who) → AddsUp (of_volume {met = met}) who IsFitting Tells
  adds-tells who = record {
    none = λ v. (fares-none v, λ honest alive is. absurd (cc));
    then-so = tells-then;
    whole = as-calm;
    refused = of-calm;
    single = single-tells who;
  }

-- what was asked, and what ended it
module _ {V : Type 0} (S : FilesService V) (who : Who) where
  abbrev Asked : V → V → Type 0
  Asked v w = (qs : List Question) × AskedCleanly S who qs v w

  abbrev pub Ends : Result (Unit {0}) Refusal → V → V → Type 0
  Ends (Ok x) v w = Asked v w
  Ends (Err e) v w = (is_fatal e ≡ true → EndsAt S who e v w) × (is_fatal e ≡ false → Asked v w)

  cleanly-behind : (xs ys : List Question) (u v w : V) → AskedCleanly S who xs u v → AskedCleanly S who ys v w
      → AskedCleanly S who (xs ++ ys) u w
  cleanly-behind [] ys u v w h k = subst (λ x. AskedCleanly S who ys x w) h k
  cleanly-behind (x ∷ xs) ys u v w h k = (h.0, h.1, h.2, h.3, cleanly-behind xs ys h.0 v w h.4 k)

  ends-then : (r : Result (Unit {0}) Refusal) (u v w : V) → Ends (Ok tt) u v → Ends r v w → Ends r u w
  ends-then (Ok x) u v w h k = (h.0 ++ k.0, cleanly-behind h.0 k.0 u v w h.1 k.1)
  ends-then (Err e) u v w h k = (
    (λ fatal. let last = k.0 fatal in record {
      asked = h.0 ++ last.asked;
      at = last.at;
      before = cleanly-behind h.0 last.asked u v last.at h.1 last.before;
      last = last.last;
      fits = last.fits;
      refused = last.refused;
    }),
    (λ calm. let rest = k.1 calm in (h.0 ++ rest.0, cleanly-behind h.0 rest.0 u v w h.1 rest.1)),
  )

  single-ends : (q : Question) (a : Result (AnswerOf q) Refusal) (v w : V) → IsFitting q → Asks S who q a v w → Ends (bare a) v w
  single-ends q (Ok x) v w is h = (q ∷ [], (w, Ok x, refl, h, refl))
  single-ends q (Err e) v w is h = (
    (λ fatal. record { asked = []; at = v; before = refl; last = q; fits = is; refused = h }),
    (λ calm. (q ∷ [], (w, Err e, ap not calm, h, refl))),
  )

  pub adds-ends : AddsUp S who IsFitting Ends
  adds-ends = record {
    none = λ v. ([], refl);
    then-so = ends-then;
    whole = λ e v w calm h. h.1 calm;
    refused = λ e v w calm h. ((λ fatal. absurd (true-false (sym fatal ∙ calm))), (λ is. h));
    single = single-ends;
  }

-- the one theorem: whatever plan went on a volume, all of this is told
pub carried : {D T : Type 0} {met : Ghosts D} (who : Who) (p : FilesPlan (Result T Refusal)) (result : Result T Refusal)
    (v w : Volume D met) → IsTidy IsFitting p → Carried (of_volume {met = met}) who p result v w → Carries who p result v w
carried {D} {T} {met} who p result v w clean h = record {
  carried = h;
  fares = by_answer result told.0;
  ended = λ e is. by e (goes-adds of_volume who IsFitting (Ends of_volume who) (adds-ends of_volume who) p result v w clean h) is;
  undamaged = λ honest alive is. told.1 honest alive (ap bare is);
  goes = λ sound calm. (goes-seen of_volume store_of_volume is_sound volume-seen who IsFitting p result v w clean h sound calm).0;
  stays = λ sound calm. (goes-seen of_volume store_of_volume is_sound volume-seen who IsFitting p result v w clean h sound calm).1;
}
  where
    told : Tells (bare result) v w
    told = goes-adds of_volume who IsFitting Tells (adds-tells who) p result v w clean h

    by : (e : Refusal) → Ends of_volume who (bare result) v w → result ≡ Err e → is_fatal e ≡ true → EndsAt of_volume who e v w
    by e k is = (subst (λ (r : Result T Refusal). Ends of_volume who (bare r) v w) is k).0

    by_answer : (r : Result T Refusal) → FaresAs (is_refused is_fault (bare r)) (is_refused is_fatal (bare r)) v w
        → FaresAs (is_refused is_fault r) (is_refused is_fatal r) v w
    by_answer (Ok x) k = k
    by_answer (Err e) k = k
