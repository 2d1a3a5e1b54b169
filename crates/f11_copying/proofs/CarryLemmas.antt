-- What a volume tells of each answer, told of a course's.
use Rattle.std.proofs.Common.{◌≡◌, not, Bool, true, false, Result, Ok, Err, refl, sym, ap, ◌∙◌, subst}
use Rattle.f11_dev.specs.declared.device.Device.{Ghosts}
use Rattle.f11_store.specs.Store.{Store}
use Rattle.f11_store.specs.declared.refusals.Refusal.{Refusal}
use Rattle.f11_runs.proofs.AccessLemmas.{true-false}
use Rattle.f11_making.specs.files.Answers.{is_fatal}
use Rattle.f11_making.specs.fcp.Lists.{is_sound, store_of_volume}
use Rattle.f11_making.specs.fcp.declared.volume.Volume.{Volume}
use Rattle.f11_making.specs.Asking.{FilesService, Who, plain}
use Rattle.f11_making.specs.Carrying.{IsFitting}
use Rattle.f11_making.specs.FilesPlan.{AnswerOf, Question}
use Rattle.f11_making.specs.Plan.{asking, gives}
use Rattle.f11_making.specs.Seen.{IsSeenPlain}
use Rattle.f11_making.specs.Telling.{AddsUp}
use Rattle.f11_making.specs.Telling.{bare as bare_answer, is_whole as is_whole_answer}
use Rattle.f11_making.specs.Volume.{of_volume}
use Rattle.f11_making.proofs.PlanLemmas.{asks-seen, not-not}
use Rattle.f11_making.proofs.TellLemmas.{Ends, Tells, adds-ends, adds-tells}
use Rattle.f11_making.proofs.VolumeLemmas.{volume-seen}
use Rattle.f11_copying.specs.Carrying.{CarriesCourse}
use Rattle.f11_copying.specs.Courses.{Both, Course, Giving, Runs, both, next_block, of_files}
use Rattle.f11_copying.specs.Telling.{IsTidy, bare, is_whole}
use Rattle.f11_copying.specs.declared.fault.CopyFault.{CopyFault}
use Rattle.f11_copying.specs.declared.fault.CopyFault.TheVariants.{Files, Unread}

module _ {V H : Type 0} (S : FilesService V) (K : Giving H) (who : Who) (P : Question → Type 0)
    (R : Result (Unit {0}) Refusal → V → V → Type 0) (adds : AddsUp S who P R)
  where
    of-whole : {T : Type 0} (a : Result T CopyFault) (v w : V) → is_whole a ≡ true → R (Ok tt) v w → R (bare a) v w
    of-whole (Ok x) v w calm h = h
    of-whole (Err (Files e)) v w calm h = adds.refused e v w (not-not (is_fatal e) calm) h
    of-whole (Err Unread) v w calm h = h

    step : {T : Type 0} (q : Question) (on : Result (AnswerOf q) Refusal → Course (Result T CopyFault)) (a : Result (AnswerOf q) Refusal)
        (r : Result T CopyFault) (u : V) (m n : Both V H) → ((e : Refusal) → is_fatal e ≡ true → on (Err e) ≡ gives (Err (Files e)))
        → R (bare_answer a) u m.volume → Runs S K who (on a) r m n → (is_whole_answer a ≡ true → R (bare r) m.volume n.volume)
        → R (bare r) u n.volume
    step q on (Ok x) r u m n ends h g rest = adds.then-so (bare r) u m.volume n.volume h (rest refl)
    step {T} q on (Err e) r u m n ends h g rest = by (is_fatal e) refl
      where
        by : (b : Bool) → is_fatal e ≡ b → R (bare r) u n.volume
        by false is = adds.then-so (bare r) u m.volume n.volume (adds.whole e u m.volume is h) (rest (ap not is))
        by true is =
            let k = subst (λ p. Runs S K who p r m n) (ends e is) g in
            subst (λ (x : Result T CopyFault). R (bare x) u n.volume) (sym k.0)
            (subst (λ (x : Both V H). R (Err e) u x.volume) (sym k.1) h)

    -- what is told of each answer of the volume is told of the course's
    pub runs-add : {T : Type 0} (p : Course (Result T CopyFault)) (r : Result T CopyFault) (m n : Both V H) → IsTidy P p
        → Runs S K who p r m n → R (bare r) m.volume n.volume
    runs-add {T} (gives x) r m n tidy h =
        subst (λ (y : Result T CopyFault). R (bare y) m.volume n.volume) (sym h.0)
        (subst (λ (u : Both V H). R (bare x) m.volume u.volume) (sym h.1) (of-whole x m.volume m.volume tidy (adds.none m.volume)))
    runs-add (asking (of_files q) on) r m n tidy h =
        step q on h.0 r m.volume h.1 n tidy.1 (adds.single q h.0 m.volume h.1.volume tidy.0 h.2.0) h.3
        (λ calm. runs-add (on h.0) r h.1 n (tidy.2 h.0 calm) h.3)
    runs-add (asking next_block on) r m n tidy h =
        subst (λ v. R (bare r) v n.volume) h.2.1 (runs-add (on h.0) r h.1 n (tidy h.0) h.3)

module _ {V H : Type 0} (S : FilesService V) (K : Giving H) (view : V → Store) (is_fine : V → Bool) (seen : IsSeenPlain S view is_fine)
    (who : Who)
  where
    calm-answer : {T : Type 0} (q : Question) (on : Result (AnswerOf q) Refusal → Course (Result T CopyFault))
        (a : Result (AnswerOf q) Refusal) (r : Result T CopyFault) (m n : Both V H)
        → ((e : Refusal) → is_fatal e ≡ true → on (Err e) ≡ gives (Err (Files e))) → Runs S K who (on a) r m n → is_whole r ≡ true
        → is_whole_answer a ≡ true
    calm-answer q on (Ok x) r m n ends h calm = refl
    calm-answer {T} q on (Err e) r m n ends h calm = by (is_fatal e) refl
      where
        by : (b : Bool) → is_fatal e ≡ b → not b ≡ true
        by false is = refl
        by true is =
            let k = subst (λ p. Runs S K who p r m n) (ends e is) h in
            absurd (true-false (sym calm ∙ ap (λ (x : Result T CopyFault). is_whole x) k.0 ∙ ap not is))

    abbrev seen-both : Both V H → Both Store H
    seen-both m = both (view m.volume) m.source

    -- what runs over a sound volume runs over the plain store, with the same source, and it stays sound, unless a device fault or Damaged
    -- is the answer
    pub runs-seen : {T : Type 0} (P : Question → Type 0) (p : Course (Result T CopyFault)) (r : Result T CopyFault) (m n : Both V H)
        → IsTidy P p → Runs S K who p r m n → is_fine m.volume ≡ true → is_whole r ≡ true
        → Runs plain K who p r (seen-both m) (seen-both n) × (is_fine n.volume ≡ true)
    runs-seen P (gives x) r m n tidy h fine whole =
        ((h.0, ap seen-both h.1), subst (λ (u : Both V H). is_fine u.volume ≡ true) (sym h.1) fine)
    runs-seen P (asking (of_files q) on) r m n tidy h fine whole =
        let calm = calm-answer q on h.0 r h.1 n tidy.1 h.3 whole in
        let here = asks-seen S view is_fine seen who q h.0 m.volume h.1.volume h.2.0 fine calm in
        let rest = runs-seen P (on h.0) r h.1 n (tidy.2 h.0 calm) h.3 here.1 whole in
        ((h.0, seen-both h.1, (here.0, h.2.1), rest.0), rest.1)
    runs-seen P (asking next_block on) r m n tidy h fine whole =
        let rest = runs-seen P (on h.0) r h.1 n (tidy h.0) h.3 (subst (λ v. is_fine v ≡ true) (sym h.2.1) fine) whole in
        ((h.0, seen-both h.1, (h.2.0, ap view h.2.1), rest.0), rest.1)

-- the one theorem: whatever course ran on a volume, all of this is told
pub carried-course : {D H T : Type 0} {met : Ghosts D} (K : Giving H) (who : Who) (p : Course (Result T CopyFault))
    (result : Result T CopyFault) (v w : Volume D met) (h k : H) → IsTidy IsFitting p
    → Runs (of_volume {met = met}) K who p result (both v h) (both w k) → CarriesCourse K who p result v w h k
carried-course {D} {H} {T} {met} K who p result v w h k tidy g = record {
  ran = g;
  fares = told.0;
  ended = λ e is fatal. (subst (λ (r : Result T CopyFault). Ends of_volume who (bare r) v w) is
      (runs-add of_volume K who IsFitting (Ends of_volume who) (adds-ends of_volume who) p result (both v h) (both w k) tidy g)).0 fatal;
  undamaged = λ honest alive is. told.1 honest alive (ap bare is);
  goes = λ sound whole.
      (runs-seen of_volume K store_of_volume is_sound volume-seen who IsFitting p result (both v h) (both w k) tidy g sound whole).0;
  stays = λ sound whole.
      (runs-seen of_volume K store_of_volume is_sound volume-seen who IsFitting p result (both v h) (both w k) tidy g sound whole).1;
}
  where
    told : Tells (bare result) v w
    told = runs-add of_volume K who IsFitting Tells (adds-tells who) p result (both v h) (both w k) tidy g
