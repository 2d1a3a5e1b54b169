-- Calls that were answered one after another, whatever it is that answers them (profile).
use Rattle.std.specs.Prelude.{◌≡◌, ℕ, ◌+◌, ◌≤◌, Bool, true, List, [], ◌∷◌, Result}
use Rattle.f11_store.specs.Run.{Call, Answer}
use Rattle.f11_store.specs.declared.callers.Uic.{Uic}
use Rattle.f11_store.specs.declared.refusals.Refusal.{Refusal}
use Rattle.f11_store.specs.declared.requests.Reply.{Reply}
use Rattle.f11_store.specs.declared.requests.Request.{Request}
use Rattle.f11_store.specs.Step.{Step}
use Rattle.f11_store.specs.Store.{Store}

-- a request with who asks it and the caller's block, and an answer with the block then
abbrev pub call_with : ℕ → Uic → Request → List ℕ → Call
call_with task caller r block = record { task = task; caller = caller; request = r; block = block }

abbrev pub answer_with : Result Reply Refusal → List ℕ → Answer
answer_with result block = record { result = result; block = block }

-- each call took what there was to what there is next, as R says, and was so answered
abbrev pub Each : {V : Type 0} → (V → Call → Answer → V → Type 0) → V → List Call → List Answer → V → Type 0
Each R v [] [] v' = v' ≡ v
Each {V} R v (c ∷ cs) (a ∷ rest) v' = (between : V) × (R v c a between) × (Each R between cs rest v')
Each R v [] (a ∷ rest) v' = ⊥
Each R v (c ∷ cs) [] v' = ⊥

-- the call was answered by a step of the plain store
abbrev pub Steps : Store → Call → Answer → Store → Type 0
Steps s c a s' = Step s c.task c.caller c.request c.block a.result s' a.block

-- the call took one v to another as R says, and both are P
abbrev pub Within : {V : Type 0} → (V → Type 0) → (V → Call → Answer → V → Type 0) → V → Call → Answer → V → Type 0
Within P R v c a v' = (P v) × (R v c a v') × (P v')

-- What R does is, seen so, what T does, where it is sound and nothing fails: failures are counted and never fall, and it stays sound.
pub record IsSeenAs {V W : Type 0} (R : V → Call → Answer → V → Type 0) (T : W → Call → Answer → W → Type 0) (view : V → W)
    (failures : V → ℕ) (is_sound : V → Bool) :
    Type 0
  where
    pub rises : (v w : V) (c : Call) (a : Answer) → R v c a w → failures v ≤ failures w
    pub seen : (v w : V) (c : Call) (a : Answer) → R v c a w → is_sound v ≡ true → failures w ≡ failures v →
        T (view v) c a (view w) × (is_sound w ≡ true)

-- what there is, and a sum
pub record Summed (V : Type 0) : Type 0 where
  pub value : V
  pub sum : ℕ

-- R answered the call, and what the call may cost was added
abbrev pub AddsCost : {V : Type 0} → (V → Call → Answer → V → Type 0) → (V → Call → ℕ) → Summed V → Call → Answer → Summed V → Type 0
AddsCost R cost v c a w = R v.value c a w.value × (w.sum ≡ v.sum + cost v.value c)

-- the calls were answered one after another, and may cost so much in all, each from what there was before it
abbrev pub EachCosts : {V : Type 0} → (V → Call → Answer → V → Type 0) → (V → Call → ℕ) → V → List Call → List Answer → V → ℕ → Type 0
EachCosts R cost v calls answers w most = Each (AddsCost R cost) (record { value = v; sum = 0 }) calls answers
    (record { value = w; sum = most })
