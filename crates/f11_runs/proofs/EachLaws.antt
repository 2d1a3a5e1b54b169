-- Calls that were answered one after another, in parts and all the way.
use Rattle.std.proofs.Common.{◌≡◌, ℕ, ◌+◌, ◌≤◌, suc, Bool, true, List, [], ◌∷◌, ◌++◌, length, refl, sym, ◌∙◌, ap, subst, arith, All}
use Rattle.std.proofs.Common.{length-append}
use Rattle.f11_store.specs.Run.{Call, Answer}
use Rattle.f11_runs.specs.Each.{Each, AddsCost, EachCosts, IsSeenAs, Steps, Within}
use Rattle.f11_runs.specs.Laws.{EmptyChangesNothing, EachIsAnswered, TwoAreOne, OneIsTwo, OneMoreRuns, LastIsStep, RunIsSteps, StepsAreRun}
use Rattle.f11_runs.specs.Laws.{KeptAlong}

module _ {V : Type 0} (R : V → Call → Answer → V → Type 0) where
  pub each-length : (v w : V) (cs : List Call) (bs : List Answer) → Each R v cs bs w → length bs ≡ length cs
  each-length v w [] [] h = refl
  each-length v w (c ∷ cs) (a ∷ bs) h = let rest = each-length h.0 w cs bs h.2 in omega (arith, rest)
  each-length v w [] (a ∷ bs) h = absurd h
  each-length v w (c ∷ cs) [] h = absurd h

  -- two lists one after the other
  pub each-two : (v u w : V) (cs more : List Call) (bs others : List Answer) → Each R v cs bs u → Each R u more others w
      → Each R v (cs ++ more) (bs ++ others) w
  each-two v u w [] more [] others h k = subst (λ x. Each R x more others w) h k
  each-two v u w (c ∷ cs) more (a ∷ bs) others h k = (h.0, h.1, each-two h.0 u w cs more bs others h.2 k)
  each-two v u w [] more (a ∷ bs) others h k = absurd h
  each-two v u w (c ∷ cs) more [] others h k = absurd h

  -- and a list in two parts
  pub each-parts : (v w : V) (cs more : List Call) (bs others : List Answer) → length bs ≡ length cs
      → Each R v (cs ++ more) (bs ++ others) w →
      (u : V) × (Each R v cs bs u) × (Each R u more others w)
  each-parts v w [] more [] others n h = (v, refl, h)
  each-parts v w (c ∷ cs) more (a ∷ bs) others n h =
      let rest = each-parts h.0 w cs more bs others (omega (arith, n)) h.2 in
      (rest.0, (h.0, h.1, rest.1), rest.2)
  each-parts v w [] more (a ∷ bs) others n h = absurd (omega (arith, n))
  each-parts v w (c ∷ cs) more [] others n h = absurd (omega (arith, n))

  -- one call more
  pub each-more : (v u w : V) (cs : List Call) (c : Call) (bs : List Answer) (a : Answer) → Each R v cs bs u → R u c a w
      → Each R v (cs ++ c ∷ []) (bs ++ a ∷ []) w
  each-more v u w cs c bs a h one = each-two v u w cs (c ∷ []) bs (a ∷ []) h (w, one, refl)

  pub each-last : (v w : V) (cs : List Call) (c : Call) (bs : List Answer) (a : Answer) → Each R v (cs ++ c ∷ []) (bs ++ a ∷ []) w
      → (u : V) × (Each R v cs bs u) × (R u c a w)
  each-last v w cs c bs a h =
      let as-many : length bs ≡ length cs =
      omega (arith, each-length v w (cs ++ c ∷ []) (bs ++ a ∷ []) h, length-append cs (c ∷ []), length-append bs (a ∷ [])) in
      let both = each-parts v w cs (c ∷ []) bs (a ∷ []) as-many h in
      (both.0, both.1, subst (λ x. R both.0 c a x) (sym both.2.2) both.2.1)

  -- what each call keeps
  pub each-within : (P : V → Type 0) (Q : Call → Type 0) → ((v w : V) (c : Call) (a : Answer) → Q c → P v → R v c a w → P w) →
      (v w : V) (cs : List Call) (bs : List Answer) → All Q cs → P v → Each R v cs bs w → Each (Within P R) v cs bs w × P w
  each-within P Q keeps v w [] [] of p h = (h, subst P (sym h) p)
  each-within P Q keeps v w (c ∷ cs) (a ∷ bs) of p h =
      let next = keeps v h.0 c a (of 0 c (omega arith)) p h.1 in
      let rest = each-within P Q keeps h.0 w cs bs (λ k d within. of (suc k) d (omega (arith, within))) next h.2 in
      ((h.0, (p, h.1, next), rest.0), rest.1)
  each-within P Q keeps v w [] (a ∷ bs) of p h = absurd h
  each-within P Q keeps v w (c ∷ cs) [] of p h = absurd h

-- what one relation says of things, another says of what is seen of them
pub each-seen : {V W : Type 0} (R : V → Call → Answer → V → Type 0) (T : W → Call → Answer → W → Type 0) (view : V → W) →
    ((v w : V) (c : Call) (a : Answer) → R v c a w → T (view v) c a (view w)) →
    (v w : V) (cs : List Call) (bs : List Answer) → Each R v cs bs w → Each T (view v) cs bs (view w)
each-seen R T view so v w [] [] h = ap view h
each-seen R T view so v w (c ∷ cs) (a ∷ bs) h = (view h.0, so v h.0 c a h.1, each-seen R T view so h.0 w cs bs h.2)
each-seen R T view so v w [] (a ∷ bs) h = absurd h
each-seen R T view so v w (c ∷ cs) [] h = absurd h

-- what is seen as another thing where it is sound and nothing fails, is seen so all the way where nothing failed from the first call to the
-- last
module _ {V W : Type 0} (R : V → Call → Answer → V → Type 0) (T : W → Call → Answer → W → Type 0) (view : V → W) (failures : V → ℕ)
    (is_sound : V → Bool)
    (m : IsSeenAs R T view failures is_sound)
  where
    each-rises : (v w : V) (cs : List Call) (bs : List Answer) → Each R v cs bs w → failures v ≤ failures w
    each-rises v w [] [] h = omega (arith, ap failures h)
    each-rises v w (c ∷ cs) (a ∷ bs) h = omega (arith, m.rises v h.0 c a h.1, each-rises h.0 w cs bs h.2)
    each-rises v w [] (a ∷ bs) h = absurd h
    each-rises v w (c ∷ cs) [] h = absurd h

    pub each-sound : (v w : V) (cs : List Call) (bs : List Answer) → Each R v cs bs w → is_sound v ≡ true → failures w ≡ failures v
        → Each T (view v) cs bs (view w)
    each-sound v w [] [] h sound none = ap view h
    each-sound v w (c ∷ cs) (a ∷ bs) h sound none =
        let same : failures h.0 ≡ failures v = omega (arith, m.rises v h.0 c a h.1, each-rises h.0 w cs bs h.2, none) in
        let one = m.seen v h.0 c a h.1 sound same in
        (view h.0, one.0, each-sound h.0 w cs bs h.2 one.1 (none ∙ sym same))
    each-sound v w [] (a ∷ bs) h sound none = absurd h
    each-sound v w (c ∷ cs) [] h sound none = absurd h

-- what each call makes grow by no more than it may cost, where P is and stays, grows by no more than all may
module _ {V : Type 0} (R : V → Call → Answer → V → Type 0) (cost : V → Call → ℕ) (measure : V → ℕ) (P : V → Type 0)
    (grows : (v w : V) (c : Call) (a : Answer) → P v → R v c a w → (measure w ≤ measure v + cost v c) × P w)
  where
    costs-from : (v w : V) (n : ℕ) (cs : List Call) (bs : List Answer) → Each R v cs bs w →
        (most : ℕ) × Each (AddsCost R cost) (record { value = v; sum = n }) cs bs (record { value = w; sum = most })
        × (P v → measure w + n ≤ measure v + most)
    costs-from v w n [] [] h = (n, (λ i. record { value = h i; sum = n }), λ p. omega (arith, ap measure h))
    costs-from v w n (c ∷ cs) (a ∷ bs) h =
        let rest = costs-from h.0 w (n + cost v c) cs bs h.2 in
        let bound : P v → measure w + n ≤ measure v + rest.0 = λ p. let one = grows v h.0 c a p h.1 in omega (arith, one.0, rest.2 one.1) in
        (rest.0, (record { value = h.0; sum = n + cost v c }, (h.1, refl), rest.1), bound)
    costs-from v w n [] (a ∷ bs) h = absurd h
    costs-from v w n (c ∷ cs) [] h = absurd h

    pub each-costs : (v w : V) (cs : List Call) (bs : List Answer) → Each R v cs bs w
        → (most : ℕ) × EachCosts R cost v cs bs w most × (P v → measure w ≤ measure v + most)
    each-costs v w cs bs h =
        let all = costs-from v w 0 cs bs h in
        (all.0, all.1, λ p. omega (arith, all.2 p))

-- a run is the case of steps
pub run-is-steps : RunIsSteps
run-is-steps s s' [] [] h = h
run-is-steps s s' (c ∷ cs) (a ∷ bs) h = (h.0, h.1, run-is-steps h.0 s' cs bs h.2)
run-is-steps s s' [] (a ∷ bs) h = absurd h
run-is-steps s s' (c ∷ cs) [] h = absurd h

pub steps-are-run : StepsAreRun
steps-are-run s s' [] [] h = h
steps-are-run s s' (c ∷ cs) (a ∷ bs) h = (h.0, h.1, steps-are-run h.0 s' cs bs h.2)
steps-are-run s s' [] (a ∷ bs) h = absurd h
steps-are-run s s' (c ∷ cs) [] h = absurd h

pub empty-changes-nothing : EmptyChangesNothing
empty-changes-nothing s s' h = h

pub each-is-answered : EachIsAnswered
each-is-answered s s' cs bs h = each-length Steps s s' cs bs (run-is-steps s s' cs bs h)

pub two-are-one : TwoAreOne
two-are-one s t s' cs more bs others h k =
    steps-are-run s s' (cs ++ more) (bs ++ others)
    (each-two Steps s t s' cs more bs others (run-is-steps s t cs bs h) (run-is-steps t s' more others k))

pub one-is-two : OneIsTwo
one-is-two s s' cs more bs others n h =
    let both = each-parts Steps s s' cs more bs others n (run-is-steps s s' (cs ++ more) (bs ++ others) h) in
    (both.0, steps-are-run s both.0 cs bs both.1, steps-are-run both.0 s' more others both.2)

pub one-more-runs : OneMoreRuns
one-more-runs s t s' cs c bs a h one =
    steps-are-run s s' (cs ++ c ∷ []) (bs ++ a ∷ []) (each-more Steps s t s' cs c bs a (run-is-steps s t cs bs h) one)

pub last-is-step : LastIsStep
last-is-step s s' cs c bs a h =
    let both = each-last Steps s s' cs c bs a (run-is-steps s s' (cs ++ c ∷ []) (bs ++ a ∷ []) h) in
    (both.0, steps-are-run s both.0 cs bs both.1, both.2)

pub kept-along : KeptAlong
kept-along holds s s' cs bs keeps first h =
    each-within Steps (λ t. holds t ≡ true) (λ c. Unit {0}) (λ t u c a _ k one. keeps t u c a k one) s s' cs bs (λ k d within. tt) first
    (run-is-steps s s' cs bs h)
