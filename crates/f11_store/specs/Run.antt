-- A list of requests, served one after another in any interleaving of the tasks (profile).
use Rattle.std.specs.Prelude.{◌≡◌, ℕ, List, [], ◌∷◌, Result}
use Rattle.f11_store.specs.declared.callers.Uic.{Uic}
use Rattle.f11_store.specs.declared.refusals.Refusal.{Refusal}
use Rattle.f11_store.specs.declared.requests.Request.{Request}
use Rattle.f11_store.specs.declared.requests.Reply.{Reply}
use Rattle.f11_store.specs.Store.{Store}
use Rattle.f11_store.specs.Step.{Step}

-- a request with who asks it, and the caller's block
pub record Call : Type 0 where
  pub task : ℕ
  pub caller : Uic
  pub request : Request
  pub block : List ℕ

-- what a call is answered, and the caller's block then
pub record Answer : Type 0 where
  pub result : Result Reply Refusal
  pub block : List ℕ

-- the answers and the last store are those of a step for each call, in order
abbrev pub Run : Store → List Call → List Answer → Store → Type 0
Run s [] [] s' = s' ≡ s
Run s (c ∷ cs) (a ∷ rest) s' =
    (between : Store) × (Step s c.task c.caller c.request c.block a.result between a.block) × (Run between cs rest s')
Run s [] (a ∷ rest) s' = ⊥
Run s (c ∷ cs) [] s' = ⊥
