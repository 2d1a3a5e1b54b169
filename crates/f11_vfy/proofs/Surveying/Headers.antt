-- A survey, and one slot more.
use Rattle.std.proofs.Common.{◌≡◌, ◌≢◌, ◌≤◌, ◌<◌, ◌+◌, ◌⊎◌, inl, inr, ℕ, refl, ap, sym, ◌∙◌, subst, arith, List, [], ◌∷◌, ◌++◌, length}
use Rattle.std.proofs.Common.{get_or}
use Rattle.std.proofs.lemmas.Bool.{cases_lt, cond-true, cond-false, false_from_ne_true}
use Rattle.std.proofs.lemmas.List.{get_or_append_left, length-append}
use Rattle.std.proofs.Math.Seq.{get_or-append_seam}
use Rattle.f11_map.specs.HeaderBlock.{blocks_named}
use Rattle.f11_index.specs.Table.{Table, IsLive}
use Rattle.f11_index.specs.Headers.{is_live}
use Rattle.f11_vfy.specs.Surveying.Count.{Shows, times_among, times_by, times_named}
use Rattle.f11_findings.specs.Found.{Finds}
use Rattle.f11_vfy.specs.Surveying.Slot.{HasState, KeepsValidHeader, KeepsSlot, KeepsSlots}
use Rattle.f11_vfy.specs.Surveying.Headers.{IsOutside, OutsideOf, OutsideUpTo, SurveysSlot, IsSurvey, Surveys, IsNewSurvey}
use Rattle.f11_volume.specs.Volume.{HasPointer}
use Rattle.f11_vfy.specs.declared.survey.slot.Slot.{Slot}
use Rattle.f11_vfy.specs.declared.survey.slot.State.{State}
use Rattle.f11_vfy.specs.declared.survey.slot.State.TheVariants.{Unused, Dead, Bad, Live}
use Rattle.f11_vfy.specs.declared.survey.headers.Survey.{Survey}
use Rattle.f11_findings.proofs.FoundLemmas.{finds-none, finds-more, finds-same}
use Rattle.f11_index.proofs.NextLemmas.{live-tested}
use Rattle.f11_vfy.proofs.Surveying.Slots.{live-from, live-to}
use Rattle.f11_vfy.proofs.Surveying.Sums.{sum_to-none, sum_to-more}
use Rattle.f11_vfy.proofs.Surveying.Tally.{shows_same}

-- how often a header names a block, where it is live and where it isn't
pub times-live : (t : Table) (n l : ℕ) → IsLive t n → times_by t n l ≡ times_among (blocks_named (t.header n)) l
unfolding times_by
times-live t n l live = cond-true (is_live t n) _ _ ((live-tested t n).1 live)

pub times-other : (t : Table) (n l : ℕ) → ¬ IsLive t n → times_by t n l ≡ 0
unfolding times_by
times-other t n l other = cond-false (is_live t n) _ _ (false_from_ne_true _ (λ is. other ((live-tested t n).0 is)))

times-next : (t : Table) (k l : ℕ) → times_named t (k + 1) l ≡ times_named t k l + times_by t (k + 1) l
unfolding times_named
times-next t k l = sum_to-more (λ i. times_by t (i + 1) l) k

times-first : (t : Table) (l : ℕ) → times_named t 0 l ≡ 0
unfolding times_named
times-first t l = sum_to-none (λ i. times_by t (i + 1) l)

-- no header yet
pub survey-new : (size : ℕ) (s : Survey) → IsNewSurvey size s → IsSurvey size 0 s
survey-new size s new = record { room = omega (arith, new.room); count = ap length new.no_slots }

pub surveys-new : (t : Table) (size : ℕ) (s : Survey) → ((n : ℕ) → IsLive t n → 1 ≤ n) → IsNewSurvey size s → Surveys t size 0 s
surveys-new t size s low new = record {
  shows = shows_same s.tally (λ l. 0) (times_named t 0) (λ l. sym (times-first t l)) new.shows;
  outside = subst (Finds (OutsideUpTo t size 0) []) (sym new.none_outside)
      (finds-none _ [] (λ code a i r. omega (arith, r.within, low a r.pointer.live)));
  slots = record { count = ap length new.no_slots; each = λ k d below. absurd (omega arith) };
}

live-or-not : (s : State) → (s ≡ Live) ⊎ (s ≢ Live)
live-or-not Live = inl refl
live-or-not Unused = inr (λ e. cc)
live-or-not Dead = inr (λ e. cc)
live-or-not Bad = inr (λ e. cc)

-- one more
module _ (k : ℕ) (state : State) (block : List ℕ) (size : ℕ) (old new : Survey) (takes : SurveysSlot (k + 1) state block size old new) where
  pub survey-more : IsSurvey size k old → IsSurvey size (k + 1) new
  survey-more is = record {
    room = omega (arith, takes.room, is.room);
    count = ap length takes.slots ∙ length-append old.slots.items (takes.slot ∷ []) ∙ ap (λ n. n + 1) is.count;
  }

  module _ (t : Table) (has : HasState t (k + 1) state) (block_is : state ≡ Live → block ≡ t.header (k + 1)) (so_far : Surveys t size k old)
    where
      kept : KeepsSlot t (k + 1) takes.slot
      kept = record {
        state = subst (HasState t (k + 1)) (sym takes.state_is) has;
        header = λ is. let alive : state ≡ Live = sym takes.state_is ∙ is in
            subst (λ (b : List ℕ). KeepsValidHeader b takes.slot) (block_is alive) (takes.keeps alive);
      }

      slots-more : KeepsSlots t (k + 1) new.slots.items
      slots-more = record {
        count = ap length takes.slots ∙ length-append old.slots.items (takes.slot ∷ []) ∙ ap (λ n. n + 1) so_far.slots.count;
        each = λ i d below. subst (λ (z : List Slot). KeepsSlot t (i + 1) (get_or z i d)) (sym takes.slots) (at i d below (cases_lt i k));
      }
        where
          at : (i : ℕ) (d : Slot) → i < k + 1 → (i < k) ⊎ (k ≤ i) → KeepsSlot t (i + 1) (get_or (old.slots.items ++ takes.slot ∷ []) i d)
          at i d below (inl h) =
              subst (KeepsSlot t (i + 1))
              (sym (get_or_append_left old.slots.items (takes.slot ∷ []) d i (omega (arith, h, so_far.slots.count))))
              (so_far.slots.each i d h)
          at i d below (inr h) =
              let here : i ≡ length old.slots.items = omega (arith, below, h, so_far.slots.count) in
              let last : get_or (old.slots.items ++ takes.slot ∷ []) i d ≡ takes.slot =
              ap (λ z. get_or (old.slots.items ++ takes.slot ∷ []) z d) here ∙ get_or-append_seam old.slots.items takes.slot [] d in
              subst (KeepsSlot t (i + 1)) (sym last) (subst (λ z. KeepsSlot t z takes.slot) (omega (arith, below, h)) kept)

      shows-more : (state ≡ Live) ⊎ (state ≢ Live) → Shows new.tally (times_named t (k + 1))
      shows-more (inl alive) =
          let live : IsLive t (k + 1) = live-from t (k + 1) state has alive in
          shows_same new.tally _ (times_named t (k + 1))
          (λ l. omega (
            arith,
            times-next t k l,
            times-live t (k + 1) l live,
            ap (λ (b : List ℕ). times_among (blocks_named b) l)
                (block_is alive),
          )) (takes.named alive (times_named t k) so_far.shows)
      shows-more (inr other) =
          shows_same new.tally (times_named t k) (times_named t (k + 1))
          (λ l. omega (arith, times-next t k l, times-other t (k + 1) l (λ live. other (live-to t (k + 1) state has live))))
          (subst (λ z. Shows z (times_named t k)) (sym (takes.tally_stays other)) so_far.shows)

      earlier : (code a i : ℕ) → OutsideUpTo t size k code a i → OutsideUpTo t size (k + 1) code a i
      earlier code a i r =
          record { code_is = r.code_is; within = omega (arith, r.within); run = r.run; pointer = r.pointer; outside = r.outside }

      before : (code a i : ℕ) (r : OutsideUpTo t size (k + 1) code a i) → a ≤ k → OutsideUpTo t size k code a i
      before code a i r h = record { code_is = r.code_is; within = h; run = r.run; pointer = r.pointer; outside = r.outside }

      outside-next : (state ≡ Live) ⊎ (state ≢ Live) → Finds (OutsideUpTo t size (k + 1)) [] new.outside
      outside-next (inl alive) =
          finds-more (OutsideUpTo t size k) (OutsideOf block (k + 1) size) (OutsideUpTo t size (k + 1)) [] old.outside new.outside
          so_far.outside (takes.outside alive) earlier here
          (λ code a i r. split code a i r (cases_lt k a))
        where
          live : IsLive t (k + 1)
          live = live-from t (k + 1) state has alive

          pointer_at : (a i : ℕ) → a ≡ k + 1 → (o : IsOutside block size i) → HasPointer t a i o.run
          pointer_at a i e o =
              subst (λ z. HasPointer t z i o.run) (sym e) (record { live = live; pointer = rw (← block_is alive) o.pointer })

          here : (code a i : ℕ) → OutsideOf block (k + 1) size code a i → OutsideUpTo t size (k + 1) code a i
          here code a i r =
              record {
                code_is = r.0;
                within = omega (arith, r.1.0);
                run = r.1.1.run;
                pointer = pointer_at a i r.1.0 r.1.1;
                outside = r.1.1.outside;
              }

          split : (code a i : ℕ) → OutsideUpTo t size (k + 1) code a i → (k < a) ⊎ (a ≤ k)
              → OutsideUpTo t size k code a i ⊎ OutsideOf block (k + 1) size code a i
          split code a i r (inr h) = inl (before code a i r h)
          split code a i r (inl h) =
              let e : a ≡ k + 1 = omega (arith, h, r.within) in
              let p : HasPointer t (k + 1) i r.run = subst (λ z. HasPointer t z i r.run) e r.pointer in
              inr (r.code_is, (e, record { run = r.run; pointer = rw (block_is alive) p.pointer; outside = r.outside }))
      outside-next (inr other) = subst (Finds (OutsideUpTo t size (k + 1)) []) (sym (takes.outside_stays other))
          (finds-same (OutsideUpTo t size k) (OutsideUpTo t size (k + 1)) [] old.outside so_far.outside earlier
          (λ code a i r. back code a i r (cases_lt k a)))
        where
          back : (code a i : ℕ) → OutsideUpTo t size (k + 1) code a i → (k < a) ⊎ (a ≤ k) → OutsideUpTo t size k code a i
          back code a i r (inr h) = before code a i r h
          back code a i r (inl h) =
              let e : a ≡ k + 1 = omega (arith, h, r.within) in
              absurd (other (live-to t (k + 1) state has (subst (IsLive t) e r.pointer.live)))

      pub surveys-more : Surveys t size (k + 1) new
      surveys-more = record { shows = shows-more (live-or-not state); outside = outside-next (live-or-not state); slots = slots-more }
